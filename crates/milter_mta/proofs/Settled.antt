-- What the last answer of a dialogue settles.
use Rattle.std.specs.Prelude.{if◌then◌else◌, option_map}
use Rattle.std.proofs.Common.{◌≡◌, ◌≤◌, arith, Bool, true, false, not, List, [], ◌∷◌, ◌++◌, map, Option, None, Some, refl, sym, ap, ◌∙◌, subst}
use Rattle.std.proofs.lemmas.Bool.{true≢false}
use Rattle.std.proofs.lemmas.List.Elements.{filter_map-append}
use Rattle.std.proofs.lemmas.Option.{same_Some}
use Rattle.milter_fields.specs.declared.path.Path.{Path}
use Rattle.milter_wire.specs.declared.negotiation.Negotiated.{Negotiated}
use Rattle.milter_wire.specs.declared.command.Command.{Command}
use Rattle.milter_wire.specs.declared.stage.Stage.{Stage}
use Rattle.milter_wire.specs.declared.stage.Stage.TheVariants.{Connect, Helo, Mail, Rcpt, DataCmd, Header, Eoh, Body, Eob}
use Rattle.milter_wire.specs.declared.verdict.Verdict.{Verdict}
use Rattle.milter_wire.specs.Negotiation.{has_leading_space}
use Rattle.milter_wire.specs.Stages.{stage_of}
use Rattle.milter_message.specs.MailObject.{MailObject}
use Rattle.milter_mail.specs.MailSession.{MailSession}
use Rattle.milter_mail.specs.Plan.{macros_of}
use Rattle.milter_mail.specs.Steps.{message_steps}
use Rattle.milter_protocol.specs.declared.answer.Answer.{Answer}
use Rattle.milter_protocol.specs.Commands.{is_of_connection}
use Rattle.milter_protocol.specs.Exchanges.{Exchange, commands_of}
use Rattle.milter_protocol.specs.Transcripts.{rank_at}
use Rattle.milter_protocol.specs.Dialogue.{is_end_command}
use Rattle.milter_mta_outcome.specs.declared.acted_verdicts.Acted.{Acted}
use Rattle.milter_mta_outcome.specs.declared.loss.By.TheVariants.{Connection, Filter}
use Rattle.milter_mta_outcome.specs.declared.outcome.Outcome.{Outcome}
use Rattle.milter_mta_outcome.specs.declared.outcome.Report.{Report}
use Rattle.milter_mta_outcome.specs.ActedVerdicts.{kept, kept_recipients, rcpt_verdict, rcpt_verdicts}
use Rattle.milter_mta_outcome.specs.ReceivedReplies.{is_end}
use Rattle.milter_mta_outcome.specs.Outcomes.{at_connection, outcome}
use Rattle.milter_mta_outcome.specs.Dialogues.{acted, acted_at, count_at, ruled, ruled_by}
use Rattle.milter_mta_outcome.specs.TransactionVerdicts as plan
use Rattle.milter_mta_outcome.specs.TransactionVerdicts.{last_verdict, on_connection}
use Rattle.milter_mta.specs.Mta.{FilterConnection, Mta, Position, connection_at}
use Rattle.milter_mta.specs.Mta.Position.{Sending}
use Rattle.milter_mta.specs.Dispositions.{next_message, report, settled_all, settled_first, settled_in}
use Rattle.milter_mta.specs.Order.{AreProper, IsDialogueSoFar, ReachAtMost}
use Rattle.milter_mta.specs.Settled.{AreAllSettled, ends_with_client, next_connection, next_position, dialogue_verdict}
use Rattle.milter_mta.specs.Dialogues.{opening_of, settled_at, settled_by}
use Rattle.milter_mta.proofs.Answers.{end_at, end_by_stage}
use Rattle.milter_mta.proofs.Closed.{client-low}
use Rattle.milter_mta.proofs.Numbers.{last_added}
use Rattle.milter_mta.proofs.Openings.{client_by_stage, opening-acted, opening-sendable}

-- ---- the next message

module _ (negotiated : Negotiated) (dialogue : List Exchange) (all : AreProper negotiated dialogue) (session : MailSession) where
  next-is : (messages : List MailObject) → next_message negotiated (on_connection (acted dialogue)) session messages ≡ next_position negotiated (opening_of dialogue) session messages
  next-is [] = refl
  next-is (message ∷ messages) =
      let steps = message_steps negotiated (macros_of negotiated session) message in
      ap (λ (a : List Acted). Sending negotiated a [] steps) (opening-acted dialogue)
      ∙ ap (λ (l : List Command). Sending negotiated (acted (opening_of dialogue)) [] l) (sym (opening-sendable negotiated dialogue steps all))

-- ---- one message

-- the message is settled by this report
abbrev pub reported : Report → FilterConnection → List MailObject → Mta → Mta
reported r filter_connection messages m =
    record m {
      session = record m.session { messages = messages };
      reports = m.reports ++ r ∷ [];
      filter_connection = Some filter_connection;
    }

module _ (negotiated : Negotiated) (last : Exchange) (before : List Exchange) (m : Mta) (all : AreProper negotiated (last ∷ before)) where
  abbrev dialogue : List Exchange
  dialogue = last ∷ before

  first-settled : (message : MailObject) (messages : List MailObject) (stage : Stage) (answer : Answer) → stage_of last.command ≡ Some stage
      → plan.is_of_connection stage ≡ false → m.session.messages ≡ message ∷ messages
      → settled_at negotiated (Some stage) (Some answer) (acted dialogue) m
      ≡ reported (report (acted dialogue) (outcome (has_leading_space negotiated) stage answer (kept message (acted dialogue))) Filter) (next_connection negotiated dialogue m.session messages) messages m
  first-settled message messages stage answer at client e =
      let session : MailSession = record m.session { messages = messages } in
      let r = report (acted dialogue) (outcome (has_leading_space negotiated) stage answer (kept message (acted dialogue))) Filter in
      let over : is_end stage ≡ is_end_command last.command = sym (end_by_stage last.command ∙ ap end_at at) in
      ap (λ (b : Bool). if b then settled_all answer.verdict (acted dialogue) m else settled_first negotiated stage answer.edits answer.verdict (acted dialogue) m) client
      ∙ ap (λ (ms : List MailObject). settled_in negotiated stage answer.edits answer.verdict (acted dialogue) ms (record m { session = record m.session { messages = ms } })) e
      ∙ ap (λ (p : Position). reported r (connection_at (not (is_end stage)) p) messages m) (next-is negotiated dialogue all session messages)
      ∙ ap (λ (b : Bool). reported r (connection_at (not b) (next_position negotiated (opening_of dialogue) m.session messages)) messages m) over

  -- by the last answer
  by_last : (message : MailObject) (messages : List MailObject) (o : Outcome) (at : Option Stage) (answer : Option Answer) → stage_of last.command ≡ at
      → is_of_connection last.command ≡ false → m.session.messages ≡ message ∷ messages
      → ruled_by (has_leading_space negotiated) (kept message (acted dialogue)) at answer ≡ Some o
      → settled_at negotiated at answer (acted dialogue) m ≡ reported (report (acted dialogue) o Filter) (next_connection negotiated dialogue m.session messages) messages m
  by_last message messages o None answer at client e is = absurd cc
  by_last message messages o (Some stage) None at client e is = absurd cc
  by_last message messages o (Some stage) (Some answer) at client e is =
      first-settled message messages stage answer at (sym (client_by_stage last.command stage at) ∙ client) e
      ∙ ap (λ (found : Outcome). reported (report (acted dialogue) found Filter) (next_connection negotiated dialogue m.session messages) messages m) (same_Some _ o is)

  pub one-settled : (message : MailObject) (messages : List MailObject) (o : Outcome) → ends_with_client dialogue ≡ false → m.session.messages ≡ message ∷ messages
      → ruled (has_leading_space negotiated) message dialogue ≡ Some o
      → settled_by negotiated dialogue m ≡ reported (report (acted dialogue) o Filter) (next_connection negotiated dialogue m.session messages) messages m
  one-settled message messages o client e is = by_last message messages o (stage_of last.command) last.answer refl client e is

-- ---- every message

-- before there is a message no recipient is answered
rcpts-by_stage : (at : Option Stage) (answer : Option Answer) (dialogue : List Exchange) → rank_at at ≤ 2 → rcpt_verdicts (acted_at at answer dialogue) ≡ []
rcpts-by_stage None answer dialogue low = refl
rcpts-by_stage (Some stage) None dialogue low = refl
rcpts-by_stage (Some Connect) (Some answer) dialogue low = refl
rcpts-by_stage (Some Helo) (Some answer) dialogue low = refl
rcpts-by_stage (Some Mail) (Some answer) dialogue low = refl
rcpts-by_stage (Some Rcpt) (Some answer) dialogue low = absurd (omega (arith, low))
rcpts-by_stage (Some DataCmd) (Some answer) dialogue low = refl
rcpts-by_stage (Some Header) (Some answer) dialogue low = refl
rcpts-by_stage (Some Eoh) (Some answer) dialogue low = refl
rcpts-by_stage (Some Body) (Some answer) dialogue low = refl
rcpts-by_stage (Some Eob) (Some answer) dialogue low = refl

no_rcpts : (dialogue : List Exchange) → ReachAtMost 2 (commands_of dialogue) → rcpt_verdicts (acted dialogue) ≡ []
no_rcpts [] below = refl
no_rcpts (last ∷ before) below =
    filter_map-append rcpt_verdict (acted before) (acted_at (stage_of last.command) last.answer (last ∷ before))
    ∙ ap (λ (l : List Verdict). l ++ rcpt_verdicts (acted_at (stage_of last.command) last.answer (last ∷ before))) (no_rcpts before below.1)
    ∙ rcpts-by_stage (stage_of last.command) last.answer (last ∷ before) below.0

all_recipients : (recipients : List Path) → kept_recipients recipients [] ≡ recipients
all_recipients [] = refl
all_recipients (recipient ∷ recipients) = refl

kept-all : (message : MailObject) (dialogue : List Exchange) → ReachAtMost 2 (commands_of dialogue) → kept message (acted dialogue) ≡ message
kept-all message dialogue below =
    ap (λ (l : List Verdict). record message { recipients = kept_recipients message.recipients l }) (no_rcpts dialogue below)
    ∙ ap (λ (l : List Path). record message { recipients = l }) (all_recipients message.recipients)

module _ (negotiated : Negotiated) (last : Exchange) (before : List Exchange) (m : Mta) (all : IsDialogueSoFar negotiated (last ∷ before)) (outcome_of : MailObject → Outcome)
    (client : is_of_connection last.command ≡ true) where
  -- what each message comes to
  same-outcome : (stage : Stage) (answer : Answer) → stage_of last.command ≡ Some stage → (message : MailObject)
      → ruled_by (has_leading_space negotiated) (kept message (acted (last ∷ before))) (Some stage) (Some answer) ≡ Some (outcome_of message)
      → at_connection answer.verdict message ≡ outcome_of message
  same-outcome stage answer at message is =
      by_stage stage (sym (client_by_stage last.command stage at) ∙ client) (same_Some _ _ is)
    where
      whole : kept message (acted (last ∷ before)) ≡ message
      whole = kept-all message (last ∷ before) (client-low last before stage at client all.in_order)

      by_stage : (s : Stage) → plan.is_of_connection s ≡ true → outcome (has_leading_space negotiated) s answer (kept message (acted (last ∷ before))) ≡ outcome_of message
          → at_connection answer.verdict message ≡ outcome_of message
      by_stage Connect c e = ap (at_connection answer.verdict) (sym whole) ∙ e
      by_stage Helo c e = ap (at_connection answer.verdict) (sym whole) ∙ e
      by_stage Mail c e = absurd (true≢false (sym c))
      by_stage Rcpt c e = absurd (true≢false (sym c))
      by_stage DataCmd c e = absurd (true≢false (sym c))
      by_stage Header c e = absurd (true≢false (sym c))
      by_stage Eoh c e = absurd (true≢false (sym c))
      by_stage Body c e = absurd (true≢false (sym c))
      by_stage Eob c e = absurd (true≢false (sym c))

  client-settled : (stage : Stage) (answer : Answer) → stage_of last.command ≡ Some stage
      → settled_at negotiated (Some stage) (Some answer) (acted (last ∷ before)) m ≡ settled_all answer.verdict (acted (last ∷ before)) m
  client-settled stage answer at =
      ap (λ (b : Bool). if b then settled_all answer.verdict (acted (last ∷ before)) m else settled_first negotiated stage answer.edits answer.verdict (acted (last ∷ before)) m)
      (sym (client_by_stage last.command stage at) ∙ client)

  -- the verdict on the connection
  last-is : (stage : Stage) (answer : Answer) → stage_of last.command ≡ Some stage → last.answer ≡ Some answer → dialogue_verdict (last ∷ before) ≡ Some answer.verdict
  last-is stage answer at answered =
      let a : Acted = record { stage = stage; nth = count_at stage (last ∷ before); verdict = answer.verdict } in
      ap (λ (s : Option Stage). option_map (λ (a : Acted). a.verdict) (last_verdict (acted before ++ acted_at s last.answer (last ∷ before)))) at
      ∙ ap (λ (found : Option Answer). option_map (λ (a : Acted). a.verdict) (last_verdict (acted before ++ acted_at (Some stage) found (last ∷ before)))) answered
      ∙ ap (option_map (λ (a : Acted). a.verdict)) (last_added (acted before) a)

  by_client : (message : MailObject) (at : Option Stage) (answer : Option Answer) → stage_of last.command ≡ at → last.answer ≡ answer
      → ((each : MailObject) → ruled_by (has_leading_space negotiated) (kept each (acted (last ∷ before))) at answer ≡ Some (outcome_of each))
      → AreAllSettled (last ∷ before) outcome_of m (settled_at negotiated at answer (acted (last ∷ before)) m)
  by_client message None answer at answered is = let no = is message in absurd cc
  by_client message (Some stage) None at answered is = let no = is message in absurd cc
  by_client message (Some stage) (Some answer) at answered is =
      let same : (λ (each : MailObject). report (acted (last ∷ before)) (at_connection answer.verdict each) Connection) ≡ (λ (each : MailObject). report (acted (last ∷ before)) (outcome_of each) Connection) =
      λ i each. report (acted (last ∷ before)) (same-outcome stage answer at each (is each) i) Connection in
      subst (λ (n : Mta). AreAllSettled (last ∷ before) outcome_of m n) (sym (client-settled stage answer at))
      (record {
        none_left = refl;
        reported = ap (λ (f : MailObject → Report). m.reports ++ map f m.session.messages) same;
        connection = sym (last-is stage answer at answered);
        quits = refl;
      })

  pub all-settled : (message : MailObject) → ((each : MailObject) → ruled (has_leading_space negotiated) each (last ∷ before) ≡ Some (outcome_of each))
      → AreAllSettled (last ∷ before) outcome_of m (settled_by negotiated (last ∷ before) m)
  all-settled message is = by_client message (stage_of last.command) last.answer refl refl is

-- ---- any dialogue

pub one-settled-dialogue : (negotiated : Negotiated) (dialogue : List Exchange) (m : Mta) (message : MailObject) (messages : List MailObject) (o : Outcome) → AreProper negotiated dialogue
    → ends_with_client dialogue ≡ false → m.session.messages ≡ message ∷ messages → ruled (has_leading_space negotiated) message dialogue ≡ Some o
    → settled_by negotiated dialogue m ≡ reported (report (acted dialogue) o Filter) (next_connection negotiated dialogue m.session messages) messages m
one-settled-dialogue negotiated [] m message messages o all client e is = absurd cc
one-settled-dialogue negotiated (last ∷ before) m message messages o all client e is = one-settled negotiated last before m all message messages o client e is

pub all-settled-dialogue : (negotiated : Negotiated) (dialogue : List Exchange) (m : Mta) (message : MailObject) (outcome_of : MailObject → Outcome) → IsDialogueSoFar negotiated dialogue
    → ends_with_client dialogue ≡ true → ((each : MailObject) → ruled (has_leading_space negotiated) each dialogue ≡ Some (outcome_of each))
    → AreAllSettled dialogue outcome_of m (settled_by negotiated dialogue m)
all-settled-dialogue negotiated [] m message outcome_of all client is = absurd (true≢false (sym client))
all-settled-dialogue negotiated (last ∷ before) m message outcome_of all client is = all-settled negotiated last before m all outcome_of client message is
