use Rattle.std.proofs.Common.{arith, refl}
use Rattle.std.proofs.lemmas.Bool.{false≢true}
use Rattle.std.proofs.lemmas.Bool.Decides.{nat_tests}
use Rattle.milter_message.proofs.LeadingSpaces.{fits_by_len, len_by_fits, strings_by_fits}
use Rattle.milter_message.proofs.leading_space.field_fits.Goals as goal
use Rattle.milter_message.proofs.leading_space.field_fits.Goals.{then-not-has_no_nul-via-then-not-has_no_nul, then-not-has_no_nul-via-else-not-has_no_nul+then-not-has_no_nul-2}

pub returns-then-not-has_no_nul : goal.returns-then-not-has_no_nul
returns-then-not-has_no_nul c = elim c.then-not-has_no_nul.branch [
  | then-not-has_no_nul-via-then-not-has_no_nul w ↦ (
    λ t. absurd (false≢true t),
    λ h. w.if-not-has_no_nul.ensures.1 (strings_by_fits c.args.header.now h).0,
  )
  | then-not-has_no_nul-via-else-not-has_no_nul+then-not-has_no_nul-2 w ↦ (
    λ t. absurd (false≢true t),
    λ h. w.if-not-has_no_nul-2.ensures.1 (strings_by_fits c.args.header.now h).1,
  )
]

pub returns : goal.returns
returns c =
    let header = c.args.header.now in (
      λ t. fits_by_len header c.sent_len.result (c.if-not-has_no_nul.ensures.0 refl) (c.if-not-has_no_nul-2.ensures.0 refl) c.sent_len.ensures (grind (arith, nat_tests)),
      λ h. let l = len_by_fits header c.sent_len.result c.sent_len.ensures h in grind (arith, nat_tests),
    )
