use Rattle.std.proofs.Common.{arith, subst, sym, ◌∷◌, length, ◌≡◌, ◌+◌, ◌<◌, get_or}
use Rattle.std.proofs.lemmas.List.{get_or_read}
use Rattle.milter_load_stats.specs.Tallies.{Tally, Tallied, within}
use Rattle.milter_load_stats.proofs.Tallying.{tallied-more, within-few}
use Rattle.milter_load_stats.proofs.latencies.Latencies.record.Goals as goal

pub returns : goal.returns
returns c values tallied few =
    let counts = c.self.inside.counts.items in
    let bucket = c.bucket_of-bucket.result in
    let before : Tallied _ values = subst (λ (t : Tally). Tallied t values) (sym c.self.view_is) tallied in
    let here : bucket < length counts = omega (arith, c.bucket_of-bucket.ensures.within, c.self.invariant) in
    let had : c.index.result.now ≡ get_or counts bucket 0 = get_or_read counts _ _ here c.index.ensures 0 in
    let same : get_or counts bucket 0 ≡ within bucket values = before.each bucket here in
    let next : c.saturating_add.result ≡ get_or counts bucket 0 + 1 =
    omega (arith, c.saturating_add.ensures, had, same, within-few bucket values, few) in
    let more : Tallied _ (c.args.micros ∷ values) =
    tallied-more counts c.self.inside.total c.self.inside.greatest c.args.micros bucket c.saturating_add.result values
    c.in-Some.total c.max-self-inside.result before c.bucket_of-bucket.ensures.bucket here next c.ranges.micros.fits
    (omega (arith, c.in-Some.ensures)) (omega (arith, c.max-self-inside.ensures)) in
    more
