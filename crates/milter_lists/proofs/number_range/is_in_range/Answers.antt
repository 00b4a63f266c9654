use Rattle.std.proofs.Common.{◌≡◌, ◌+◌, ◌<◌, ap, arith, length, subst}
use Rattle.std.proofs.lemmas.List.{get_or_default}
use Rattle.milter_lists.specs.declared.number_range.NumberRange.{NumberRange}
use Rattle.milter_lists.specs.Ranges.{IsBegunCount}
use Rattle.milter_lists.proofs.RangeLookups.{last_begun, none_begun}
use Rattle.milter_lists.proofs.number_range.is_in_range.Goals as goal

pub returns-in-Some : goal.returns-in-Some
returns-in-Some c =
    let more : c.count_begun.result ≡ c.in-Some.at + 1 = grind (arith, c.in-Some.ensures) in
    let bound = c.count_begun.ensures.bound in
    let below : c.in-Some.at < length c.args.ranges.now = omega (arith, more, bound) in
    last_begun c.args.number c.args.ranges.now c.in-Some.at _ c.requires below
    (subst (IsBegunCount c.args.number c.args.ranges.now) more c.count_begun.ensures.begun)
    (λ d. ap (λ (range : NumberRange). range.last) (get_or_default c.args.ranges.now c.in-Some.at d _ below))

pub returns-in-None : goal.returns-in-None
returns-in-None c =
    let none : c.count_begun.result ≡ 0 = grind (arith, c.in-None.ensures) in
    none_begun c.args.number c.args.ranges.now
    (subst (IsBegunCount c.args.number c.args.ranges.now) none c.count_begun.ensures.begun)
