-- Ranges are equal where both numbers are.
use Rattle.std.proofs.Common.{◌≡◌, ◌∙◌, ◌==◌, ◌&&◌, ap}
use Rattle.std.specs.Bool.{Decides}
use Rattle.std.specs.Cmp.{unsigned_Decides}
use Rattle.std.proofs.lemmas.Bool.Decides.{Decides-and}
use Rattle.milter_lists.specs.declared.number_range.NumberRange.{NumberRange}

pub equal_ranges : (a b : NumberRange) → Decides (a.first == b.first && a.last == b.last) (a ≡ b)
equal_ranges a b =
    let both = Decides-and (a.first == b.first) (a.last == b.last) (unsigned_Decides a.first b.first) (unsigned_Decides a.last b.last) in (
      λ same. ap (λ first. record { first = first; last = a.last }) (both.0 same).0
          ∙ ap (λ last. record { first = b.first; last = last }) (both.0 same).1,
      λ e. both.1 (ap (λ range. range.first) e, ap (λ range. range.last) e),
    )
