-- What is left to send of a plan after a dialogue.
use Rattle.std.proofs.Common.{◌≡◌, ◌≤◌, Bool, true, false, cond, not, ◌||◌, List, [], ◌∷◌, length, refl, sym, ap, ◌∙◌, arith}
use Rattle.std.specs.List.{list_any}
use Rattle.std.proofs.lemmas.Bool.{true≢false}
use Rattle.milter_wire.specs.declared.negotiation.Negotiated.{Negotiated}
use Rattle.milter_wire.specs.declared.command.Command.{Command}
use Rattle.milter_wire.specs.declared.command.Command.TheVariants as commands
use Rattle.milter_wire.specs.Negotiation.{is_asked}
use Rattle.milter_protocol.specs.Exchanges.{Exchange, onto}
use Rattle.milter_protocol.specs.Dialogue.{has_end, is_end_command, is_left_out, is_skipping, sendable}
use Rattle.milter_mta.specs.Order.{AreInOrder}
use Rattle.milter_protocol.proofs.PermittedEdits.{filter-again}
use Rattle.milter_protocol.proofs.Lists.{same-tail}
use Rattle.milter_protocol.proofs.Sendable.{end_left, no_end}
use Rattle.milter_mta.proofs.Ordered.{order-without}

shorter : (dialogue : List Exchange) (left : List Command) → length (sendable dialogue left) ≤ length left
shorter dialogue [] = omega arith
shorter dialogue (command ∷ left) = by_out (is_left_out dialogue command) (shorter dialogue left)
  where
    by_out : (out : Bool) → length (sendable dialogue left) ≤ length left → length (cond (not out) (command ∷ sendable dialogue left) (sendable dialogue left)) ≤ length (command ∷ left)
    by_out true less = omega (arith, less)
    by_out false less = omega (arith, less)

pub next-sendable : (dialogue : List Exchange) (command : Command) (left : List Command) → sendable dialogue (command ∷ left) ≡ command ∷ left
    → (is_left_out dialogue command ≡ false) × (sendable dialogue left ≡ left)
next-sendable dialogue command left e = by_out (is_left_out dialogue command) refl
  where
    by_out : (out : Bool) → is_left_out dialogue command ≡ out → (is_left_out dialogue command ≡ false) × (sendable dialogue left ≡ left)
    by_out true o =
        let all : sendable dialogue left ≡ command ∷ left = sym (ap (λ (b : Bool). cond (not b) (command ∷ sendable dialogue left) (sendable dialogue left)) o) ∙ e in
        let longer = ap (λ (l : List Command). length l) all in
        let less = shorter dialogue left in
        absurd (omega (arith, longer, less))
    by_out false o =
        let all : command ∷ sendable dialogue left ≡ command ∷ left = sym (ap (λ (b : Bool). cond (not b) (command ∷ sendable dialogue left) (sendable dialogue left)) o) ∙ e in
        (o, same-tail command command (sendable dialogue left) left all)

pub sendable-twice : (dialogue : List Exchange) (left : List Command) → sendable dialogue (sendable dialogue left) ≡ sendable dialogue left
sendable-twice dialogue left = filter-again (λ (command : Command). not (is_left_out dialogue command)) left

-- a part of what is left is in order, and still has its end
pub kept-order : (dialogue : List Exchange) (left before : List Command) → AreInOrder (onto left before) → AreInOrder (onto (sendable dialogue left) before)
kept-order dialogue [] before order = order
kept-order dialogue (command ∷ left) before order = by_out (is_left_out dialogue command) (kept-order dialogue left before) (kept-order dialogue left (command ∷ before))
  where
    by_out : (out : Bool) → (AreInOrder (onto left before) → AreInOrder (onto (sendable dialogue left) before))
        → (AreInOrder (onto left (command ∷ before)) → AreInOrder (onto (sendable dialogue left) (command ∷ before)))
        → AreInOrder (onto (cond (not out) (command ∷ sendable dialogue left) (sendable dialogue left)) before)
    by_out true without with = without (order-without left command before order)
    by_out false without with = with order

pub kept-end : (dialogue : List Exchange) (left : List Command) → has_end left ≡ true → has_end (sendable dialogue left) ≡ true
kept-end dialogue [] end = end
kept-end dialogue (command ∷ left) end = by_out (is_left_out dialogue command) refl (kept-end dialogue left)
  where
    or_more : (a b c : Bool) → (a || b) ≡ true → (b ≡ true → c ≡ true) → (a || c) ≡ true
    or_more true b c e more = refl
    or_more false b c e more = more e

    by_out : (out : Bool) → is_left_out dialogue command ≡ out → (has_end left ≡ true → has_end (sendable dialogue left) ≡ true)
        → has_end (cond (not out) (command ∷ sendable dialogue left) (sendable dialogue left)) ≡ true
    by_out true o more = more (end_left command left (no_end command (list_any is_skipping dialogue) o) end)
    by_out false o more = or_more (is_end_command command) (has_end left) (has_end (sendable dialogue left)) end more

-- the end of a message is asked about
pub no_end_unasked : (negotiated : Negotiated) (command : Command) → is_asked negotiated command ≡ false → is_end_command command ≡ false
no_end_unasked negotiated (commands.Eob bytes) e = absurd (true≢false e)
no_end_unasked negotiated other e = refl
