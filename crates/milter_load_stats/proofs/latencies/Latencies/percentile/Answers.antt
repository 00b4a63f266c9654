use Rattle.std.proofs.Common.{arith, ap, sym, subst, ◌∙◌, ◌≡◌, length, get_or}
use Rattle.std.proofs.lemmas.List.{get_or_read}
use Rattle.milter_load_stats.specs.Tallies.{Tally, Tallied, below, within, rank_of}
use Rattle.milter_load_stats.proofs.Tallying.{below-next, below-zero, below-last, rank-some, rank-few}
use Rattle.milter_load_stats.proofs.latencies.Latencies.percentile.Goals as goal

pub loop-bucket-init : goal.loop-bucket-init
loop-bucket-init c = record {
  counted = λ values tallied. sym (below-zero values);
  fewer = omega (
    arith,
    c.rank_of-rank.ensures,
    rank-some c.args.per_mille c.self.inside.total c.requires.some (omega (arith, c.if-self-eq0.false)),
  );
}

pub returns-then-within-rank-clause-exact : goal.returns-then-within-rank-clause-exact
returns-then-within-rank-clause-exact c =
    λ values tallied.
    let b = c.loop-bucket.bucket in
    let counts = c.self.inside.counts.items in
    let read : c.index.result.now ≡ get_or counts b 0 = get_or_read counts _ _ (omega (arith, c.self.invariant, c.loop-bucket-test.true)) c.index.ensures 0 in
    let same : get_or counts b 0 ≡ within b values = (subst (λ (t : Tally). Tallied t values) (sym c.self.view_is) tallied).each b (omega (arith, c.self.invariant, c.loop-bucket-test.true)) in
    let rank : c.rank_of-rank.result ≡ rank_of c.args.per_mille (length values) =
    c.rank_of-rank.ensures ∙ ap (λ n. rank_of c.args.per_mille n) (subst (λ (t : Tally). Tallied t values) (sym c.self.view_is) tallied).all in
    record {
      bucket = b;
      highest = c.highest_in.ensures;
      fewer = omega (arith, rank, c.loop-bucket.invariant.counted values tallied, c.loop-bucket.invariant.fewer);
      enough = omega (
        arith,
        rank,
        c.loop-bucket.invariant.counted values tallied,
        c.if-within-rank.true,
        c.saturating_add-within.ensures,
        below-next b values,
        read,
        same,
      );
    }

pub loop-bucket-preserved : goal.loop-bucket-preserved
loop-bucket-preserved c =
    let b = c.loop-bucket.bucket in
    let counts = c.self.inside.counts.items in
    let read : c.index.result.now ≡ get_or counts b 0 = get_or_read counts _ _ (omega (arith, c.self.invariant, c.loop-bucket-test.true)) c.index.ensures 0 in
    record {
      counted =
          λ values tallied.
          let same : get_or counts b 0 ≡ within b values = (subst (λ (t : Tally). Tallied t values) (sym c.self.view_is) tallied).each b (omega (arith, c.self.invariant, c.loop-bucket-test.true)) in
          omega (
            arith,
            c.loop-bucket.invariant.counted values tallied,
            c.saturating_add-within.ensures,
            c.if-within-rank.false,
            c.rank_of-rank.type_inv,
            below-next b values,
            read,
            same,
          );
      fewer = c.if-within-rank.false;
    }

pub returns-clause-none : goal.returns-clause-none
returns-clause-none c =
    λ values tallied none.
    let inside : Tallied _ values = subst (λ (t : Tally). Tallied t values) (sym c.self.view_is) tallied in
    let last : c.loop-bucket.bucket ≡ 1728 = omega (arith, c.loop-bucket.auto.bucket-end, c.loop-bucket-test.false) in
    let all : below c.loop-bucket.bucket values ≡ length values =
    ap (λ b. below b values) last ∙ below-last values tallied.small in
    let rank : c.rank_of-rank.result ≡ rank_of c.args.per_mille (length values) =
    c.rank_of-rank.ensures ∙ ap (λ n. rank_of c.args.per_mille n) inside.all in
    absurd (omega (
      arith,
      all,
      rank,
      rank-few c.args.per_mille (length values) c.requires.whole,
      c.loop-bucket.invariant.counted values tallied,
      c.loop-bucket.invariant.fewer,
    ))
