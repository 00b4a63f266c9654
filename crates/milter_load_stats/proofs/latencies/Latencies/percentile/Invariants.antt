use Rattle.std.proofs.Common.{◌≡◌, ◌<◌, ℕ, List}
use Rattle.milter_load_stats.specs.Tallies.{Tallied, below}
use Rattle.milter_load_stats.proofs.latencies.Latencies.percentile.Given as goal

abbrev pub invariant-loop-bucket : goal.invariant-loop-bucket
invariant-loop-bucket l = record {
  counted : (values : List ℕ) → Tallied l.self values → l.within ≡ below l.bucket values;
  fewer : l.within < l.rank;
}
