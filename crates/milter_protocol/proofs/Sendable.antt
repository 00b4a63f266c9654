-- What is left to send after exchanges, without chunks of the body after a Skip.
use Rattle.std.proofs.Common.{◌≡◌, Bool, true, false, cond, not, ◌&&◌, ◌||◌, List, [], ◌∷◌, refl, sym, ap, ◌∙◌}
use Rattle.std.specs.List.{list_any}
use Rattle.std.proofs.lemmas.Bool.{true≢false}
use Rattle.milter_wire.specs.declared.command.Command.{Command}
use Rattle.milter_wire.specs.declared.command.Command.TheVariants as commands
use Rattle.milter_protocol.specs.Exchanges.{Exchange}
use Rattle.milter_protocol.specs.Dialogue.{is_body, is_closed, is_end_command, is_final, is_kept_rcpt, is_left_out, is_rcpt, is_skipping, has_end, sendable, IsOpen}

-- the next command, where it is not left out
pub sendable-next : (dialogue : List Exchange) (command : Command) (left : List Command) → is_left_out dialogue command ≡ false
    → sendable dialogue (command ∷ left) ≡ command ∷ sendable dialogue left
sendable-next dialogue command left e = ap (λ (b : Bool). cond (not b) (command ∷ sendable dialogue left) (sendable dialogue left)) e

pub sendable-out : (dialogue : List Exchange) (command : Command) (left : List Command) → is_left_out dialogue command ≡ true
    → sendable dialogue (command ∷ left) ≡ sendable dialogue left
sendable-out dialogue command left e = ap (λ (b : Bool). cond (not b) (command ∷ sendable dialogue left) (sendable dialogue left)) e

-- chunks of the body are no recipients
pub same_rcpts : (dialogue : List Exchange) (left : List Command) → list_any is_rcpt (sendable dialogue left) ≡ list_any is_rcpt left
same_rcpts dialogue [] = refl
same_rcpts dialogue (command ∷ left) = by_out (is_left_out dialogue command) refl (same_rcpts dialogue left)
  where
    no_rcpt : (command : Command) (skips : Bool) → (is_body command && skips) ≡ true → is_rcpt command ≡ false
    no_rcpt (commands.Rcpt recipient) skips e = absurd (true≢false (sym e))
    no_rcpt (commands.Body bytes) skips e = refl
    no_rcpt other skips e = absurd (true≢false (sym e))

    by_out : (out : Bool) → is_left_out dialogue command ≡ out → list_any is_rcpt (sendable dialogue left) ≡ list_any is_rcpt left
        → list_any is_rcpt (sendable dialogue (command ∷ left)) ≡ list_any is_rcpt (command ∷ left)
    by_out true e rest =
        ap (λ (b : Bool). list_any is_rcpt (cond (not b) (command ∷ sendable dialogue left) (sendable dialogue left))) e
        ∙ rest
        ∙ ap (λ (b : Bool). b || list_any is_rcpt left) (sym (no_rcpt command (list_any is_skipping dialogue) e))
    by_out false e rest =
        ap (λ (b : Bool). list_any is_rcpt (cond (not b) (command ∷ sendable dialogue left) (sendable dialogue left))) e
        ∙ ap (λ (b : Bool). is_rcpt command || b) rest

-- what closes a dialogue depends on the recipients that are left alone
pub same-closed : (dialogue : List Exchange) (left other : List Command) → list_any is_rcpt left ≡ list_any is_rcpt other → is_closed dialogue left ≡ is_closed dialogue other
same-closed [] left other e = refl
same-closed (last ∷ before) left other e =
    ap (λ (b : Bool). is_final last || (is_rcpt last.command && not b && not (list_any is_kept_rcpt (last ∷ before)))) e

pub same-open : (dialogue : List Exchange) (left other : List Command) → list_any is_rcpt left ≡ list_any is_rcpt other → IsOpen dialogue left → IsOpen dialogue other
same-open [] left other e is = tt
same-open (last ∷ before) left other e is = (
  sym (same-closed (last ∷ before) left other e) ∙ is.0,
  same-open before (last.command ∷ left) (last.command ∷ other) (ap (λ (b : Bool). is_rcpt last.command || b) e) is.1,
)

pub sendable-closed : (rest dialogue : List Exchange) (left : List Command) → is_closed dialogue (sendable rest left) ≡ is_closed dialogue left
sendable-closed rest dialogue left = same-closed dialogue (sendable rest left) left (same_rcpts rest left)

-- what is left out stays left out
pub left_out-more : (last : Exchange) (dialogue : List Exchange) (command : Command) → is_left_out dialogue command ≡ true → is_left_out (last ∷ dialogue) command ≡ true
left_out-more last dialogue command e = by_parts (is_body command) (is_skipping last) (list_any is_skipping dialogue) e
  where
    by_parts : (body skips before : Bool) → (body && before) ≡ true → (body && (skips || before)) ≡ true
    by_parts true true before e = refl
    by_parts true false before e = e
    by_parts false skips before e = e

pub sendable-further : (last : Exchange) (dialogue : List Exchange) (left : List Command) → sendable (last ∷ dialogue) (sendable dialogue left) ≡ sendable (last ∷ dialogue) left
sendable-further last dialogue [] = refl
sendable-further last dialogue (command ∷ left) = by_out (is_left_out dialogue command) refl (is_left_out (last ∷ dialogue) command) refl (sendable-further last dialogue left)
  where
    by_out : (out : Bool) → is_left_out dialogue command ≡ out → (later : Bool) → is_left_out (last ∷ dialogue) command ≡ later
        → sendable (last ∷ dialogue) (sendable dialogue left) ≡ sendable (last ∷ dialogue) left
        → sendable (last ∷ dialogue) (sendable dialogue (command ∷ left)) ≡ sendable (last ∷ dialogue) (command ∷ left)
    by_out true e later f rest =
        ap (sendable (last ∷ dialogue)) (sendable-out dialogue command left e)
        ∙ rest
        ∙ sym (sendable-out (last ∷ dialogue) command left (left_out-more last dialogue command e))
    by_out false e true f rest =
        ap (sendable (last ∷ dialogue)) (sendable-next dialogue command left e)
        ∙ sendable-out (last ∷ dialogue) command (sendable dialogue left) f
        ∙ rest
        ∙ sym (sendable-out (last ∷ dialogue) command left f)
    by_out false e false f rest =
        ap (sendable (last ∷ dialogue)) (sendable-next dialogue command left e)
        ∙ sendable-next (last ∷ dialogue) command (sendable dialogue left) f
        ∙ ap (λ (l : List Command). command ∷ l) rest
        ∙ sym (sendable-next (last ∷ dialogue) command left f)

-- ---- the end of a message

-- a chunk of the body is not the end
pub no_end : (command : Command) (skips : Bool) → (is_body command && skips) ≡ true → is_end_command command ≡ false
no_end (commands.Eob bytes) skips e = absurd (true≢false (sym e))
no_end other skips e = refl

pub end_left : (command : Command) (left : List Command) → is_end_command command ≡ false → has_end (command ∷ left) ≡ true → has_end left ≡ true
end_left command left none end = ap (λ (e : Bool). e || has_end left) (sym none) ∙ end
