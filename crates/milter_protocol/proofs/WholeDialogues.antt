-- A dialogue whose commands go on to the end of the message is closed by its last exchange alone; and it is the only
-- one.
use Rattle.std.proofs.Common.{◌≡◌, ◌≢◌, Bool, true, false, List, [], ◌∷◌, refl, sym, ap, ◌∙◌, subst, if◌then◌else◌}
use Rattle.std.specs.List.{list_any}
use Rattle.std.proofs.lemmas.Bool.{true≢false}
use Rattle.milter_wire.specs.declared.negotiation.Negotiated.{Negotiated}
use Rattle.milter_wire.specs.declared.command.Command.{Command}
use Rattle.milter_wire.specs.declared.command.Command.TheVariants as commands
use Rattle.milter_protocol.specs.Behavior.{Behavior, exchange_of}
use Rattle.milter_protocol.specs.Exchanges.{Exchange, commands_of}
use Rattle.milter_protocol.specs.Dialogue.{IsNext, IsDialogueWith, has_end, is_closed, is_end_command, is_left_out, is_skipping, sendable, dialogue_with}
use Rattle.milter_protocol.proofs.Lists.{same-head, same-tail}
use Rattle.milter_protocol.proofs.Sendable.{end_left, no_end, sendable-closed, sendable-further, sendable-next, sendable-out}

module _ (b : Behavior) (negotiated : Negotiated) where
  abbrev next : List Exchange → Command → Exchange
  next before command = exchange_of b negotiated (commands_of before) command

  -- the rest of a dialogue after an exchange that closes it or not
  abbrev rest_of : Bool → List Exchange → List Exchange
  rest_of closed more = if closed then [] else more

  -- what is left out changes nothing
  same-dialogue_with : (before : List Exchange) (commands others : List Command) (exchanges : List Exchange) → sendable before commands ≡ sendable before others
      → IsDialogueWith b negotiated before commands exchanges → IsDialogueWith b negotiated before others exchanges
  same-dialogue_with before commands others [] e is = is
  same-dialogue_with before commands others (exchange ∷ []) e is =
      (is.0, record { sent = sym e ∙ is.1.sent; answered = is.1.answered }, is.2)
  same-dialogue_with before commands others (exchange ∷ following ∷ more) e is =
      (is.0, record { sent = sym e ∙ is.1.sent; answered = is.1.answered }, is.2, is.3)

  -- ---- it is whole

  -- the end of a message lets nothing follow
  pub goes_no_further : (before : List Exchange) (command : Command) (left : List Command) → is_closed (next before command ∷ before) left ≡ false → is_end_command command ≡ false
  goes_no_further before (commands.Eob bytes) left e = absurd (true≢false e)
  goes_no_further before other left e = refl

  -- an exchange, and then the dialogue from there
  on_and_on : (before : List Exchange) (command : Command) (left : List Command) (more : List Exchange) → is_left_out before command ≡ false
      → is_closed (next before command ∷ before) left ≡ false → IsDialogueWith b negotiated (next before command ∷ before) left more
      → IsDialogueWith b negotiated before (command ∷ left) (next before command ∷ more)
  on_and_on before command left [] stays goes_on is = absurd is
  on_and_on before command left (following ∷ more) stays goes_on is = (
    sendable before left,
    record { sent = sendable-next before command left stays; answered = refl },
    sendable-closed before (next before command ∷ before) left ∙ goes_on,
    same-dialogue_with (next before command ∷ before) left (sendable before left) (following ∷ more) (sym (sendable-further (next before command) before left)) is,
  )

  pub dialogue_with-whole : (commands : List Command) (before : List Exchange) → has_end commands ≡ true → IsDialogueWith b negotiated before commands (dialogue_with b negotiated before commands)
  unfolding dialogue_with
  dialogue_with-whole [] before end = absurd (true≢false (sym end))
  dialogue_with-whole (command ∷ left) before end =
      by_out (is_left_out before command) refl (λ out. dialogue_with-whole left before (end_left command left (no_end command (list_any is_skipping before) out) end))
      (λ goes_on. dialogue_with-whole left (next before command ∷ before) (end_left command left (goes_no_further before command left goes_on) end))
    where
      by_closed : (closed : Bool) → is_closed (next before command ∷ before) left ≡ closed → is_left_out before command ≡ false
          → (is_closed (next before command ∷ before) left ≡ false → IsDialogueWith b negotiated (next before command ∷ before) left (dialogue_with b negotiated (next before command ∷ before) left))
          → IsDialogueWith b negotiated before (command ∷ left) (next before command ∷ rest_of closed (dialogue_with b negotiated (next before command ∷ before) left))
      by_closed true e stays rest = (
        sendable before left,
        record { sent = sendable-next before command left stays; answered = refl },
        sendable-closed before (next before command ∷ before) left ∙ e,
      )
      by_closed false e stays rest = on_and_on before command left (dialogue_with b negotiated (next before command ∷ before) left) stays e (rest e)

      by_out : (out : Bool) → is_left_out before command ≡ out
          → (is_left_out before command ≡ true → IsDialogueWith b negotiated before left (dialogue_with b negotiated before left))
          → (is_closed (next before command ∷ before) left ≡ false → IsDialogueWith b negotiated (next before command ∷ before) left (dialogue_with b negotiated (next before command ∷ before) left))
          → IsDialogueWith b negotiated before (command ∷ left)
          (if out then dialogue_with b negotiated before left
          else next before command ∷ (if is_closed (next before command ∷ before) left then [] else dialogue_with b negotiated (next before command ∷ before) left))
      by_out true e skipped goes =
          same-dialogue_with before left (command ∷ left) (dialogue_with b negotiated before left) (sym (sendable-out before command left e)) (skipped e)
      by_out false e skipped goes = by_closed (is_closed (next before command ∷ before) left) refl e goes

  no-dialogue_with : (before exchanges : List Exchange) (commands : List Command) → IsDialogueWith b negotiated before commands exchanges → exchanges ≢ []
  no-dialogue_with before [] commands is none = absurd is
  no-dialogue_with before (exchange ∷ more) commands is none = absurd cc

  pub dialogue_with-some : (before : List Exchange) (commands : List Command) → has_end commands ≡ true → dialogue_with b negotiated before commands ≢ []
  dialogue_with-some before commands end = no-dialogue_with before (dialogue_with b negotiated before commands) commands (dialogue_with-whole commands before end)

  -- ---- it is the only one

  -- the next exchange is this one
  record IsThis (before : List Exchange) (command : Command) (left : List Command) (exchange : Exchange) (after : List Command) : Type 0 where
    exchange_is : exchange ≡ next before command
    after_is : after ≡ sendable before left

  is-this : (before : List Exchange) (command : Command) (left : List Command) (exchange : Exchange) (after : List Command) → is_left_out before command ≡ false
      → IsNext b negotiated before (command ∷ left) exchange after → IsThis before command left exchange after
  is-this before command left exchange after stays is =
      let both : command ∷ sendable before left ≡ exchange.command ∷ after = sym (sendable-next before command left stays) ∙ is.sent in
      let same : command ≡ exchange.command = same-head command exchange.command (sendable before left) after both in
      record {
        exchange_is = is.answered ∙ ap (next before) (sym same);
        after_is = sym (same-tail command exchange.command (sendable before left) after both);
      }

  -- and it closes the dialogue as this one does
  closes-as : (before : List Exchange) (command : Command) (left : List Command) (exchange : Exchange) (after : List Command) → IsThis before command left exchange after
      → is_closed (next before command ∷ before) left ≡ is_closed (exchange ∷ before) after
  closes-as before command left exchange after is =
      sym (sendable-closed before (next before command ∷ before) left)
      ∙ ap (λ (l : List Command). is_closed (next before command ∷ before) l) (sym is.after_is)
      ∙ ap (λ (e : Exchange). is_closed (e ∷ before) after) (sym is.exchange_is)

  pub dialogue_with-only : (commands : List Command) (before exchanges : List Exchange) → IsDialogueWith b negotiated before commands exchanges → exchanges ≡ dialogue_with b negotiated before commands
  unfolding dialogue_with
  dialogue_with-only commands before [] is = absurd is
  dialogue_with-only [] before (exchange ∷ []) is = let no : [] ≡ exchange.command ∷ is.0 = is.1.sent in absurd cc
  dialogue_with-only [] before (exchange ∷ following ∷ more) is = let no : [] ≡ exchange.command ∷ is.0 = is.1.sent in absurd cc
  dialogue_with-only (command ∷ left) before (exchange ∷ more) is =
      by_out (is_left_out before command) refl (λ same. dialogue_with-only left before (exchange ∷ more) same)
      (λ others same. dialogue_with-only left (next before command ∷ before) others same)
    where
      by_more : (more : List Exchange) → is_left_out before command ≡ false → IsDialogueWith b negotiated before (command ∷ left) (exchange ∷ more)
          → ((more : List Exchange) → IsDialogueWith b negotiated (next before command ∷ before) left more → more ≡ dialogue_with b negotiated (next before command ∷ before) left)
          → exchange ∷ more ≡ next before command ∷ (if is_closed (next before command ∷ before) left then [] else dialogue_with b negotiated (next before command ∷ before) left)
      by_more [] stays is rest =
          let this = is-this before command left exchange is.0 stays is.1 in
          let closed : is_closed (next before command ∷ before) left ≡ true = closes-as before command left exchange is.0 this ∙ is.2 in
          ap (λ (e : Exchange). e ∷ []) this.exchange_is ∙ ap (λ (k : Bool). next before command ∷ (if k then [] else dialogue_with b negotiated (next before command ∷ before) left)) (sym closed)
      by_more (following ∷ others) stays is rest =
          let this = is-this before command left exchange is.0 stays is.1 in
          let goes_on : is_closed (next before command ∷ before) left ≡ false = closes-as before command left exchange is.0 this ∙ is.2 in
          let here : IsDialogueWith b negotiated (next before command ∷ before) is.0 (following ∷ others) =
          subst (λ (e : Exchange). IsDialogueWith b negotiated (e ∷ before) is.0 (following ∷ others)) this.exchange_is is.3 in
          let there : IsDialogueWith b negotiated (next before command ∷ before) left (following ∷ others) =
          same-dialogue_with (next before command ∷ before) is.0 left (following ∷ others)
          (ap (sendable (next before command ∷ before)) this.after_is ∙ sendable-further (next before command) before left) here in
          ap (λ (e : Exchange). e ∷ following ∷ others) this.exchange_is
          ∙ ap (λ (t : List Exchange). next before command ∷ t) (rest (following ∷ others) there)
          ∙ ap (λ (k : Bool). next before command ∷ (if k then [] else dialogue_with b negotiated (next before command ∷ before) left)) (sym goes_on)

      by_out : (out : Bool) → is_left_out before command ≡ out
          → (IsDialogueWith b negotiated before left (exchange ∷ more) → exchange ∷ more ≡ dialogue_with b negotiated before left)
          → ((others : List Exchange) → IsDialogueWith b negotiated (next before command ∷ before) left others → others ≡ dialogue_with b negotiated (next before command ∷ before) left)
          → exchange ∷ more
          ≡ (if out then dialogue_with b negotiated before left
          else next before command ∷ (if is_closed (next before command ∷ before) left then [] else dialogue_with b negotiated (next before command ∷ before) left))
      by_out true e skipped rest = skipped (same-dialogue_with before (command ∷ left) left (exchange ∷ more) (sendable-out before command left e) is)
      by_out false e skipped rest = by_more more e is rest
