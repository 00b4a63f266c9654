use Rattle.std.proofs.Common.{rules}
use Rattle.std.proofs.lemmas.Fn.{always_returns_same}
use Rattle.milter_lists.specs.declared.number_range.NumberRange.{NumberRange}
use Rattle.milter_lists.proofs.RaisedRanges.{firsts_rise}
use Rattle.milter_lists.proofs.number_range.sort_ranges.Goals as goal

pub returns-clause-sorted : goal.returns-clause-sorted
returns-clause-sorted c =
    firsts_rise c.sort_unstable_by_key.new.self.items
    (c.sort_unstable_by_key.ensures.sorted (λ (range : NumberRange). range.first)
    (always_returns_same _ _ _ (λ a r f k. search rules)))
