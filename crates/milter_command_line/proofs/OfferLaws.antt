-- What is offered is within the greatest offer.
use Rattle.std.proofs.Common.{◌≡◌, ◌==◌, ℕ, ◌^◌, Option, None, Some, true, ap, refl, subst, ◌∙◌}
use Rattle.std.specs.Prelude.{nat_lt}
use Rattle.std.specs.Int.RustNames.{bit_and}
use Rattle.std.proofs.lemmas.Bool.{and_parts}
use Rattle.std.proofs.lemmas.Nat.{and_comm}
use Rattle.std.proofs.lemmas.Option.{same_Some}
use Rattle.clap.specs.Words.{Text}
use Rattle.milter_protocol.specs.declared.permitted.TheConstants.{ACTIONS_MAX, PROTOCOL_MAX}
use Rattle.milter_wire.specs.Bits.{is_within}
use Rattle.milter_wire.proofs.NamedSets.{actions_named, protocol_named}
use Rattle.milter_mta_outcome.specs.ReceivedReplies.{is_offered}
use Rattle.milter_command_line.specs.Target.{actions_given, protocol_given}

offered_by : (all set : ℕ) → is_within all set ≡ true → is_offered all set ≡ true
offered_by all set e = ap (λ (n : ℕ). n == set) (and_comm all set) ∙ (and_parts (bit_and set all == set) (nat_lt set (2 ^ 32)) e).0

pub actions_offered : (text : Option Text) (set : ℕ) → actions_given text ≡ Some set → is_offered ACTIONS_MAX set ≡ true
actions_offered None set e = subst (λ s. is_offered ACTIONS_MAX s ≡ true) (same_Some ACTIONS_MAX set e) refl
actions_offered (Some text) set e = offered_by ACTIONS_MAX set (actions_named text set e).within

pub protocol_offered : (text : Option Text) (set : ℕ) → protocol_given text ≡ Some set → is_offered PROTOCOL_MAX set ≡ true
protocol_offered None set e = subst (λ s. is_offered PROTOCOL_MAX s ≡ true) (same_Some PROTOCOL_MAX set e) refl
protocol_offered (Some text) set e = offered_by PROTOCOL_MAX set (protocol_named text set e).within
