use Rattle.milter_load_stats.proofs.Tallying.{tallied-none}
use Rattle.milter_load_stats.proofs.latencies.Latencies.new.Goals as goal

pub returns : goal.returns
returns c = tallied-none c.in_ok-counts.counts.items 1728 (c.in_ok-counts.ensures.items_if_clones_equal (λ y e. e))
