-- A message's whole dialogue is that of its client, and then that of the message; the first part is the same for each.
use Rattle.std.specs.Prelude.{if◌then◌else◌}
use Rattle.std.proofs.Common.{◌≡◌, ◌≢◌, Bool, true, false, cond, not, ◌&&◌, ◌||◌, List, [], ◌∷◌, ◌++◌, refl, sym, ap, ◌∙◌}
use Rattle.std.specs.List.{flat_map, list_any}
use Rattle.std.proofs.lemmas.Bool.{true≢false}
use Rattle.std.proofs.Math.Bool.{or-false}
use Rattle.milter_fields.specs.declared.pair.Pair.{Pair}
use Rattle.milter_wire.specs.declared.negotiation.Negotiated.{Negotiated}
use Rattle.milter_wire.specs.declared.command.Command.{Command}
use Rattle.milter_wire.specs.declared.command.Command.TheVariants as commands
use Rattle.milter_wire.specs.declared.stage.Stage.{Stage}
use Rattle.milter_wire.specs.declared.stage.Stage.TheVariants.{Connect, Helo, Mail, Rcpt, DataCmd, Header, Eoh, Body, Eob}
use Rattle.milter_wire.specs.Negotiation.{has_leading_space, is_sent}
use Rattle.milter_wire.specs.Stages.{macro_command_of}
use Rattle.milter_message.specs.LeadingSpace.{sent_header}
use Rattle.milter_message.specs.MailObject.{MailObject}
use Rattle.milter_message.specs.Chunks.{chunks_of}
use Rattle.milter_mail.specs.Macros.{Macros}
use Rattle.milter_mail.specs.MailSession.{MailSession}
use Rattle.milter_mail.specs.Plan.{macros_of, opening}
use Rattle.milter_mail.specs.Steps.{macro_step, macros_at, message_steps, step}
use Rattle.milter_protocol.specs.Behavior.{Behavior, exchange_of}
use Rattle.milter_protocol.specs.Commands.{is_of_connection}
use Rattle.milter_mta_outcome.specs.TransactionVerdicts as stages
use Rattle.milter_protocol.specs.Exchanges.{Exchange, commands_of, onto}
use Rattle.milter_protocol.specs.Dialogue.{are_all_refused, has_end, is_closed, is_final, is_kept_rcpt, is_left_out, is_rcpt, is_skipping, dialogue_with}
use Rattle.milter_protocol.proofs.Sendable.{end_left, no_end}
use Rattle.milter_mta.specs.Sessions.{dialogue_of}
use Rattle.milter_mta.specs.Settled.{ends_with_client}
use Rattle.milter_mta.specs.Dialogues.{opening_of}
use Rattle.milter_mta.proofs.Closed.{no_rcpt}
use Rattle.milter_mta.proofs.Openings.{no_body}
use Rattle.milter_mta.proofs.Ordered.{message-ends}

-- ---- commands that are about the client, or all not

abbrev pub AreOf : Bool → List Command → Type 0
AreOf client [] = Unit {0}
AreOf client (command ∷ left) = (is_of_connection command ≡ client) × AreOf client left

pub of-append : (client : Bool) (xs ys : List Command) → AreOf client xs → AreOf client ys → AreOf client (xs ++ ys)
of-append client [] ys all more = more
of-append client (x ∷ xs) ys all more = (all.0, of-append client xs ys all.1 more)

-- macros are about what their stage is about
macros_of_stage : (stage : Stage) (pairs : List Pair) → AreOf (stages.is_of_connection stage) (macro_step (macro_command_of stage) pairs)
macros_of_stage Connect [] = tt
macros_of_stage Connect (pair ∷ pairs) = (refl, tt)
macros_of_stage Helo [] = tt
macros_of_stage Helo (pair ∷ pairs) = (refl, tt)
macros_of_stage Mail [] = tt
macros_of_stage Mail (pair ∷ pairs) = (refl, tt)
macros_of_stage Rcpt [] = tt
macros_of_stage Rcpt (pair ∷ pairs) = (refl, tt)
macros_of_stage DataCmd [] = tt
macros_of_stage DataCmd (pair ∷ pairs) = (refl, tt)
macros_of_stage Header pairs = tt
macros_of_stage Eoh [] = tt
macros_of_stage Eoh (pair ∷ pairs) = (refl, tt)
macros_of_stage Body pairs = tt
macros_of_stage Eob [] = tt
macros_of_stage Eob (pair ∷ pairs) = (refl, tt)

module _ (negotiated : Negotiated) (macros : Macros) where
  step_of : (stage : Stage) (command : Command) → is_of_connection command ≡ stages.is_of_connection stage
      → AreOf (stages.is_of_connection stage) (step negotiated macros stage command)
  step_of stage command is = by_sent (is_sent negotiated stage)
    where
      by_sent : (sent : Bool) → AreOf (stages.is_of_connection stage) (if sent then macro_step (macro_command_of stage) (macros_at macros stage) ++ command ∷ [] else [])
      by_sent true = of-append (stages.is_of_connection stage) (macro_step (macro_command_of stage) (macros_at macros stage)) (command ∷ []) (macros_of_stage stage (macros_at macros stage)) (is, tt)
      by_sent false = tt

  each_of : {A : Type 0} (f : A → List Command) → ((x : A) → AreOf false (f x)) → (xs : List A) → AreOf false (flat_map f xs)
  each_of f all [] = tt
  each_of f all (x ∷ xs) = of-append false (f x) (flat_map f xs) (all x) (each_of f all xs)

  pub message_of : (message : MailObject) → AreOf false (message_steps negotiated macros message)
  message_of message =
      of-append false _ (step negotiated macros Eob (commands.Eob []))
      (of-append false _ (flat_map (λ chunk. step negotiated macros Body (commands.Body chunk)) (chunks_of message.body))
      (of-append false _ (step negotiated macros Eoh commands.Eoh)
      (of-append false _ (flat_map (λ header. step negotiated macros Header (commands.Header (sent_header (has_leading_space negotiated) header))) message.headers)
      (of-append false _ (step negotiated macros DataCmd commands.DataCmd)
      (of-append false (step negotiated macros Mail (commands.Mail message.sender)) (flat_map (λ recipient. step negotiated macros Rcpt (commands.Rcpt recipient)) message.recipients)
      (step_of Mail (commands.Mail message.sender) refl)
      (each_of (λ recipient. step negotiated macros Rcpt (commands.Rcpt recipient)) (λ recipient. step_of Rcpt (commands.Rcpt recipient) refl) message.recipients))
      (step_of DataCmd commands.DataCmd refl))
      (each_of (λ header. step negotiated macros Header (commands.Header (sent_header (has_leading_space negotiated) header))) (λ header. step_of Header (commands.Header (sent_header (has_leading_space negotiated) header)) refl) message.headers))
      (step_of Eoh commands.Eoh refl))
      (each_of (λ chunk. step negotiated macros Body (commands.Body chunk)) (λ chunk. step_of Body (commands.Body chunk) refl) (chunks_of message.body)))
      (step_of Eob (commands.Eob []) refl)

pub opening_is_of : (negotiated : Negotiated) (session : MailSession) → AreOf true (opening negotiated session)
opening_is_of negotiated session =
    of-append true (step negotiated (macros_of negotiated session) Connect (commands.Connect session.client)) (step negotiated (macros_of negotiated session) Helo (commands.Helo session.helo))
    (step_of negotiated (macros_of negotiated session) Connect (commands.Connect session.client) refl)
    (step_of negotiated (macros_of negotiated session) Helo (commands.Helo session.helo) refl)

-- ---- the dialogue about the client, and then about others

onto-append : (xs ys before : List Exchange) → onto (xs ++ ys) before ≡ onto ys (onto xs before)
onto-append [] ys before = refl
onto-append (x ∷ xs) ys before = onto-append xs ys (x ∷ before)

module _ (b : Behavior) (negotiated : Negotiated) where
  abbrev next : List Exchange → Command → Exchange
  next dialogue command = exchange_of b negotiated (commands_of dialogue) command

  -- a verdict on the client lets nothing follow
  abbrev closes : List Exchange → List Command → Bool
  closes before [] = false
  closes before (command ∷ left) = is_final (next before command) || closes (next before command ∷ before) left

  -- of a command about the client, only the verdict itself ends the dialogue
  dialogue_with-next : (before : List Exchange) (command : Command) (left : List Command) → is_of_connection command ≡ true
      → dialogue_with b negotiated before (command ∷ left) ≡ next before command ∷ (if is_final (next before command) then [] else dialogue_with b negotiated (next before command ∷ before) left)
  unfolding dialogue_with
  dialogue_with-next before command left is =
      let e = next before command in
      let stays : is_left_out before command ≡ false = ap (λ (k : Bool). k && list_any is_skipping before) (no_body command is) in
      let others : are_all_refused (e ∷ before) left ≡ false = ap (λ (k : Bool). k && not (list_any is_rcpt left) && not (list_any is_kept_rcpt (e ∷ before))) (no_rcpt command is) in
      let closed : is_closed (e ∷ before) left ≡ is_final e = ap (λ (k : Bool). is_final e || k) others ∙ or-false (is_final e) in
      ap (λ (k : Bool). if k then dialogue_with b negotiated before left else e ∷ (if is_closed (e ∷ before) left then [] else dialogue_with b negotiated (e ∷ before) left)) stays
      ∙ ap (λ (k : Bool). e ∷ (if k then [] else dialogue_with b negotiated (e ∷ before) left)) closed

  dialogue_with-opening : (first : List Command) (before : List Exchange) (more : List Command) → AreOf true first
      → dialogue_with b negotiated before (first ++ more) ≡ dialogue_with b negotiated before first ++ (if closes before first then [] else dialogue_with b negotiated (onto (dialogue_with b negotiated before first) before) more)
  unfolding dialogue_with
  dialogue_with-opening [] before more all = refl
  dialogue_with-opening (command ∷ first) before more all =
      dialogue_with-next before command (first ++ more) all.0
      ∙ by_final (is_final (next before command)) (dialogue_with-opening first (next before command ∷ before) more all.1)
      ∙ ap (λ (t : List Exchange). t ++ (if closes before (command ∷ first) then [] else dialogue_with b negotiated (onto t before) more)) (sym (dialogue_with-next before command first all.0))
    where
      by_final : (final : Bool)
          → dialogue_with b negotiated (next before command ∷ before) (first ++ more)
          ≡ dialogue_with b negotiated (next before command ∷ before) first
          ++ (if closes (next before command ∷ before) first then [] else dialogue_with b negotiated (onto (dialogue_with b negotiated (next before command ∷ before) first) (next before command ∷ before)) more)
          → next before command ∷ (if final then [] else dialogue_with b negotiated (next before command ∷ before) (first ++ more))
          ≡ (next before command ∷ (if final then [] else dialogue_with b negotiated (next before command ∷ before) first))
          ++ (if (final || closes (next before command ∷ before) first) then []
          else dialogue_with b negotiated (onto (next before command ∷ (if final then [] else dialogue_with b negotiated (next before command ∷ before) first)) before) more)
      by_final true rest = refl
      by_final false rest = ap (λ (t : List Exchange). next before command ∷ t) rest

  -- where it closes, it ends with the client
  closed-client : (first : List Command) (before : List Exchange) → AreOf true first → closes before first ≡ true → ends_with_client (onto (dialogue_with b negotiated before first) before) ≡ true
  closed-client [] before all e = absurd (true≢false (sym e))
  closed-client (command ∷ first) before all e =
      ap (λ (t : List Exchange). ends_with_client (onto t before)) (dialogue_with-next before command first all.0)
      ∙ by_final (is_final (next before command)) refl (closed-client first (next before command ∷ before) all.1)
    where
      by_final : (final : Bool) → is_final (next before command) ≡ final
          → (closes (next before command ∷ before) first ≡ true → ends_with_client (onto (dialogue_with b negotiated (next before command ∷ before) first) (next before command ∷ before)) ≡ true)
          → ends_with_client (onto (next before command ∷ (if final then [] else dialogue_with b negotiated (next before command ∷ before) first)) before) ≡ true
      by_final true f rest = all.0
      by_final false f rest = rest (ap (λ (k : Bool). k || closes (next before command ∷ before) first) (sym f) ∙ e)

  -- ---- the exchanges of a dialogue are about what its commands are about

  dialogue_with-of : (client : Bool) (left : List Command) (before : List Exchange) → AreOf client left → AreOf client (commands_of (dialogue_with b negotiated before left))
  unfolding dialogue_with
  dialogue_with-of client [] before all = tt
  dialogue_with-of client (command ∷ left) before all =
      by_out (is_left_out before command) (is_closed (next before command ∷ before) left) (dialogue_with-of client left before all.1) (dialogue_with-of client left (next before command ∷ before) all.1)
    where
      by_out : (out closed : Bool) → AreOf client (commands_of (dialogue_with b negotiated before left)) → AreOf client (commands_of (dialogue_with b negotiated (next before command ∷ before) left))
          → AreOf client (commands_of (if out then dialogue_with b negotiated before left else next before command ∷ (if closed then [] else dialogue_with b negotiated (next before command ∷ before) left)))
      by_out true closed same rest = same
      by_out false true same rest = (all.0, tt)
      by_out false false same rest = (all.0, rest)

of-onto : (client : Bool) (more before : List Exchange) → AreOf client (commands_of more) → AreOf client (commands_of before) → AreOf client (commands_of (onto more before))
of-onto client [] before all others = others
of-onto client (e ∷ more) before all others = of-onto client more (e ∷ before) all.1 (all.0, others)

opening-same : (dialogue : List Exchange) → AreOf true (commands_of dialogue) → opening_of dialogue ≡ dialogue
opening-same [] all = refl
opening-same (e ∷ before) all =
    ap (λ (k : Bool). cond k (e ∷ opening_of before) (opening_of before)) all.0 ∙ ap (λ (l : List Exchange). e ∷ l) (opening-same before all.1)

opening-onto : (more before : List Exchange) → AreOf false (commands_of more) → opening_of (onto more before) ≡ opening_of before
opening-onto [] before all = refl
opening-onto (e ∷ more) before all =
    opening-onto more (e ∷ before) all.1 ∙ ap (λ (k : Bool). cond k (e ∷ opening_of before) (opening_of before)) all.0

not_client-onto : (more before : List Exchange) (e : Exchange) → AreOf false (commands_of (e ∷ more)) → ends_with_client (onto (e ∷ more) before) ≡ false
not_client-onto [] before e all = all.0
not_client-onto (f ∷ more) before e all = not_client-onto more (e ∷ before) f all.1

-- ---- the whole dialogue

-- a plan with an end has a dialogue
some_dialogue_with : (b : Behavior) (negotiated : Negotiated) (left : List Command) (before : List Exchange) → has_end left ≡ true → dialogue_with b negotiated before left ≢ []
unfolding dialogue_with
some_dialogue_with b negotiated [] before end none = true≢false (sym end)
some_dialogue_with b negotiated (command ∷ left) before end none = by_out (is_left_out before command) refl none (λ end. some_dialogue_with b negotiated left before end)
  where
    by_out : (out : Bool) → is_left_out before command ≡ out
        → (if out then dialogue_with b negotiated before left
        else exchange_of b negotiated (commands_of before) command ∷ (if is_closed (exchange_of b negotiated (commands_of before) command ∷ before) left then [] else dialogue_with b negotiated (exchange_of b negotiated (commands_of before) command ∷ before) left)) ≡ []
        → (has_end left ≡ true → dialogue_with b negotiated before left ≡ [] → ⊥) → ⊥
    by_out true e none rest = rest (end_left command left (no_end command (list_any is_skipping before) e) end) none
    by_out false e none rest = absurd cc

module _ (b : Behavior) (negotiated : Negotiated) (session : MailSession) where
  abbrev first : List Command
  first = opening negotiated session

  abbrev steps : MailObject → List Command
  steps message = message_steps negotiated (macros_of negotiated session) message

  -- what every message's dialogue begins with
  abbrev opened : List Exchange
  opened = onto (dialogue_with b negotiated [] first) []

  dialogue-is : (message : MailObject) → dialogue_of b negotiated session message
      ≡ onto (dialogue_with b negotiated [] first ++ (if closes b negotiated [] first then [] else dialogue_with b negotiated opened (steps message))) []
  dialogue-is message = ap (λ (t : List Exchange). onto t []) (dialogue_with-opening b negotiated first [] (steps message) (opening_is_of negotiated session))

  dialogue-closed : (message : MailObject) → closes b negotiated [] first ≡ true → dialogue_of b negotiated session message ≡ opened
  dialogue-closed message e =
      dialogue-is message
      ∙ ap (λ (k : Bool). onto (dialogue_with b negotiated [] first ++ (if k then [] else dialogue_with b negotiated opened (steps message))) []) e
      ∙ onto-append (dialogue_with b negotiated [] first) [] []

  dialogue-open : (message : MailObject) → closes b negotiated [] first ≡ false → dialogue_of b negotiated session message ≡ onto (dialogue_with b negotiated opened (steps message)) opened
  dialogue-open message e =
      dialogue-is message
      ∙ ap (λ (k : Bool). onto (dialogue_with b negotiated [] first ++ (if k then [] else dialogue_with b negotiated opened (steps message))) []) e
      ∙ onto-append (dialogue_with b negotiated [] first) (dialogue_with b negotiated opened (steps message)) []

  opened-of : AreOf true (commands_of opened)
  opened-of = of-onto true (dialogue_with b negotiated [] first) [] (dialogue_with-of b negotiated true first [] (opening_is_of negotiated session)) tt

  opening_of-dialogue : (message : MailObject) → closes b negotiated [] first ≡ false → opening_of (dialogue_of b negotiated session message) ≡ opened
  opening_of-dialogue message e =
      ap opening_of (dialogue-open message e)
      ∙ opening-onto (dialogue_with b negotiated opened (steps message)) opened (dialogue_with-of b negotiated false (steps message) opened (message_of negotiated (macros_of negotiated session) message))
      ∙ opening-same opened opened-of

  -- a dialogue that doesn't end with the client is followed by the next message's
  pub dialogue-next : (message other : MailObject) → ends_with_client (dialogue_of b negotiated session message) ≡ false
      → onto (dialogue_with b negotiated (opening_of (dialogue_of b negotiated session message)) (steps other)) (opening_of (dialogue_of b negotiated session message)) ≡ dialogue_of b negotiated session other
  dialogue-next message other e = by_closes (closes b negotiated [] first) refl
    where
      by_closes : (closed : Bool) → closes b negotiated [] first ≡ closed
          → onto (dialogue_with b negotiated (opening_of (dialogue_of b negotiated session message)) (steps other)) (opening_of (dialogue_of b negotiated session message)) ≡ dialogue_of b negotiated session other
      by_closes true c =
          absurd (true≢false (sym (ap ends_with_client (dialogue-closed message c) ∙ closed-client b negotiated first [] (opening_is_of negotiated session) c) ∙ e))
      by_closes false c =
          ap (λ (o : List Exchange). onto (dialogue_with b negotiated o (steps other)) o) (opening_of-dialogue message c) ∙ sym (dialogue-open other c)

  -- one that ends with the client is the dialogue of each message
  pub dialogue-same : (message other : MailObject) → ends_with_client (dialogue_of b negotiated session message) ≡ true → dialogue_of b negotiated session other ≡ dialogue_of b negotiated session message
  dialogue-same message other e = by_closes (closes b negotiated [] first) refl
    where
      by_dialogue_with : (t : List Exchange) → t ≢ [] → AreOf false (commands_of t) → ends_with_client (onto t opened) ≡ false
      by_dialogue_with [] some all = absurd (some refl)
      by_dialogue_with (e ∷ t) some all = not_client-onto t opened e all

      by_closes : (closed : Bool) → closes b negotiated [] first ≡ closed → dialogue_of b negotiated session other ≡ dialogue_of b negotiated session message
      by_closes true c = dialogue-closed other c ∙ sym (dialogue-closed message c)
      by_closes false c =
          absurd (true≢false (sym e ∙ ap ends_with_client (dialogue-open message c)
          ∙ by_dialogue_with (dialogue_with b negotiated opened (steps message)) (some_dialogue_with b negotiated (steps message) opened (message-ends negotiated (macros_of negotiated session) message)) (dialogue_with-of b negotiated false (steps message) opened (message_of negotiated (macros_of negotiated session) message))))
