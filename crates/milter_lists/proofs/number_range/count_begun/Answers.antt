use Rattle.std.proofs.Common.{rules}
use Rattle.std.specs.Prelude.{nat_le}
use Rattle.std.proofs.lemmas.Fn.{always_returns_same}
use Rattle.milter_lists.specs.declared.number_range.NumberRange.{NumberRange}
use Rattle.milter_lists.proofs.RangeLookups.{begun_first}
use Rattle.milter_lists.proofs.number_range.count_begun.Goals as goal

pub returns-clause-begun : goal.returns-clause-begun
returns-clause-begun c =
    c.partition_point.ensures.partitioned (λ (range : NumberRange). nat_le range.first c.args.number)
    (always_returns_same _ _ _ (λ a r f k. search rules)) (begun_first c.args.number c.args.ranges.now c.requires)
