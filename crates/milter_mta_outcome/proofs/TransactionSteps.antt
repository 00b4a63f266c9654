-- What is left of a transaction after its next command.
use Rattle.std.proofs.Common.{◌≡◌, ◌≢◌, ◌≤◌, ◌+◌, suc, Bool, true, false, List, [], ◌∷◌, All, Option, None, Some, drop, length, slice_get, refl, sym, arith, subst, if◌then◌else◌}
use Rattle.std.specs.List.{filter}
use Rattle.std.specs.Prelude.{IsSome}
use Rattle.std.proofs.lemmas.List.Elements.{All-drop, All-filter}
use Rattle.milter_wire.specs.declared.command.Command.{Command}
use Rattle.milter_wire.specs.declared.stage.Stage.{Stage}
use Rattle.milter_wire.specs.Command.{Fits}
use Rattle.milter_message.specs.declared.message.TheConstants.{WEIGHT_MAX}
use Rattle.milter_mta_outcome.specs.declared.plan_cursor.ClientInfo.{ClientInfo}
use Rattle.milter_mta_outcome.specs.declared.transaction.Transaction.{Transaction}
use Rattle.milter_mta_outcome.specs.PlanCursor.{without_body}
use Rattle.milter_mta_outcome.specs.Transactions.{Sends, first_of, left_of, stage_first}

pub one_less : (left : List Command) (command : Command) → slice_get left 0 ≡ Some command → suc (length (drop 1 left)) ≡ length left
one_less [] command e = absurd cc
one_less (x ∷ left) command e = refl

pub less_by_one : (left : List Command) → left ≢ [] → suc (length (drop 1 left)) ≡ length left
less_by_one [] some = absurd (some refl)
less_by_one (x ∷ left) some = refl

pub found_some : (left : List Command) (found : Option Command) → left ≢ [] → found ≡ first_of left → IsSome found
found_some [] found some e = absurd (some refl)
found_some (x ∷ left) (Some command) some e = cc
found_some (x ∷ left) None some e = absurd cc

pub first_is : (left : List Command) → first_of left ≡ slice_get left 0
first_is [] = refl
first_is (x ∷ left) = refl

pub stage_some : (left : List Command) (stage : Stage) → stage_first left ≡ Some stage → left ≢ []
stage_some [] stage e none = absurd cc
stage_some (x ∷ left) stage e none = absurd cc

pub no_more : (left : List Command) → length (drop 1 left) ≤ length left
no_more [] = omega arith
no_more (x ∷ left) = omega arith

pub fits_after : (left : List Command) → All Fits left → All Fits (drop 1 left)
fits_after left h = All-drop Fits 1 left h

kept_if : (b : Bool) (x : Command) (xs rest : List Command) → length xs ≤ length rest
    → length (if b then x ∷ xs else xs) ≤ length (x ∷ rest)
kept_if true x xs rest less = omega (arith, less)
kept_if false x xs rest less = omega (arith, less)

kept_length : (kept : Command → Bool) (xs : List Command) → length (filter kept xs) ≤ length xs
kept_length kept [] = omega arith
kept_length kept (x ∷ xs) = kept_if (kept x) x (filter kept xs) xs (kept_length kept xs)

pub body_fits : (xs : List Command) → All Fits xs → All Fits (without_body xs)
body_fits xs h = All-filter _ Fits xs h

pub body_length : (xs : List Command) → length (without_body xs) ≤ length xs
body_length xs = kept_length _ xs

pub sends_by : (client_info : ClientInfo) (transaction : Transaction) (left : List Command) → left_of client_info transaction ≡ left → All Fits left
    → transaction.cursor.step + length left ≤ WEIGHT_MAX → Sends client_info transaction
sends_by client_info transaction left e fits room = record {
  fits = subst (All Fits) (sym e) fits;
  room = subst (λ (l : List Command). transaction.cursor.step + length l ≤ WEIGHT_MAX) (sym e) room;
}
