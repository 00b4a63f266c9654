-- What is reported of a message, by its own dialogue with the filter, asked directly.
use Rattle.std.specs.Prelude.{◌≡◌, ◌≢◌, ◌⊎◌, ℕ, suc, Bool, true, false, ◌||◌, if◌then◌else◌, All, IfSome, List, [], ◌∷◌, ◌++◌, Some}
use Rattle.std.specs.List.{AllZip}
use Rattle.milter_wire.specs.declared.negotiation.Negotiated.{Negotiated}
use Rattle.milter_wire.specs.declared.command.Command.{Command}
use Rattle.milter_wire.specs.declared.stage.Stage.{Stage}
use Rattle.milter_wire.specs.Negotiation.{negotiate, has_leading_space, is_asked}
use Rattle.milter_wire.specs.Stages.{stage_of}
use Rattle.milter_message.specs.MailObject.{MailObject}
use Rattle.milter_protocol.specs.declared.answer.Answer.{Answer}
use Rattle.milter_protocol.specs.Behavior.{exchange_of}
use Rattle.milter_protocol.specs.Exchanges.{Exchange, commands_of, onto}
use Rattle.milter_protocol.specs.Permitted.{is_permitted, permitted}
use Rattle.milter_protocol.specs.Seen.{seen}
use Rattle.milter_mta_outcome.specs.declared.acted_verdicts.Acted.{Acted}
use Rattle.milter_mta_outcome.specs.declared.loss.By.{By}
use Rattle.milter_mta_outcome.specs.declared.loss.By.TheVariants.{Connection, Default, Filter}
use Rattle.milter_mta_outcome.specs.declared.loss.Loss.TheVariants as losses
use Rattle.milter_mta_outcome.specs.declared.loss.Loss.TheVariants.{Reset}
use Rattle.milter_world.specs.declared.event_line.Event.{Event}
use Rattle.milter_world.specs.declared.event_line.Event.TheVariants.{Lose, Timeout}
use Rattle.milter_mta_outcome.specs.declared.loss.Loss.{Loss}
use Rattle.milter_mta_outcome.specs.declared.outcome.Report.{Report}
use Rattle.milter_mta_outcome.specs.Dialogues.{acted, count_at, given_up}
use Rattle.milter_mta.specs.Dispositions.{report}
use Rattle.milter_mta.specs.Sessions.{report_by, dialogue_of}
use Rattle.milter_world.specs.declared.state.State.TheVariants.{Done}
use Rattle.milter_world.specs.Schedule.{Scenario, after_all, first, stays}

abbrev pub negotiated_of : Scenario → Negotiated
negotiated_of p = negotiate p.config.offer p.filter.wants p.filter.lists

-- all exchanges about the message, the latest first
abbrev pub dialogue_about : Scenario → MailObject → List Exchange
dialogue_about p message = dialogue_of p.filter (negotiated_of p) p.session message

-- as its dialogue rules
abbrev pub IsRuledBy : Scenario → MailObject → Report → Type 0
IsRuledBy p message r = report_by (negotiated_of p) (dialogue_about p message) message ≡ Some r

-- these exchanges are a beginning of the dialogue about the message
pub record Begins (p : Scenario) (message : MailObject) (dialogue : List Exchange) : Type 0 where
  pub more : List Exchange
  pub whole : onto more dialogue ≡ dialogue_about p message

-- or by default, after a beginning of its dialogue that more follows
pub record IsDefaultAfter (p : Scenario) (message : MailObject) (r : Report) : Type 0 where
  pub dialogue : List Exchange
  pub begins : Begins p message dialogue
  pub unfinished : begins.more ≢ []
  pub loss : Loss
  pub report_is : r ≡ report (acted dialogue) (given_up p.config.on_loss message dialogue) (Default loss)

abbrev pub IsReportOf : Scenario → MailObject → Report → Type 0
IsReportOf p message r = IsRuledBy p message r ⊎ IsDefaultAfter p message r

-- the first of the messages are reported, each so
pub record AreReported (p : Scenario) (messages : List MailObject) (reports : List Report) : Type 0 where
  pub done : List MailObject
  pub rest : List MailObject
  pub messages_are : messages ≡ done ++ rest
  pub each : AllZip (IsReportOf p) done reports

-- ---- what the filter gave

-- the next exchange of a dialogue, about this command
abbrev pub asked_after : Scenario → List Exchange → Command → Exchange
asked_after p before command = exchange_of p.filter (negotiated_of p) (commands_of before) command

-- what the filter may give at this stage, shown what was sent up to this command
abbrev pub given_at : Scenario → Stage → List Exchange → Command → Answer
given_at p stage before command =
    permitted (negotiated_of p)
    (p.filter.decide stage (seen (has_leading_space (negotiated_of p)) (command ∷ commands_of before)))

-- the dialogue about the message has this command, about which the filter is asked; it is the nth of its stage, and the
-- verdict is what the filter gives there
pub record WasGiven (p : Scenario) (message : MailObject) (a : Acted) : Type 0 where
  pub before : List Exchange
  pub command : Command
  pub begins : Begins p message (asked_after p before command ∷ before)
  pub stage_is : stage_of command ≡ Some a.stage
  pub asked : is_asked (negotiated_of p) command ≡ true
  pub nth_is : a.nth ≡ count_at a.stage (asked_after p before command ∷ before)
  pub verdict_is : a.verdict ≡ (given_at p a.stage before command).verdict

-- each edit of the answer, if there is one, was negotiated
abbrev pub AreNegotiated : Negotiated → Exchange → Type 0
AreNegotiated negotiated exchange =
    IfSome exchange.answer (λ answer. All (λ edit. is_permitted negotiated edit ≡ true) answer.edits)

-- ---- how many are by default

abbrev pub is_lose : Event → Bool
is_lose Lose = true
is_lose other = false

abbrev pub is_timeout : Event → Bool
is_timeout Timeout = true
is_timeout other = false

abbrev pub by_reset : By → Bool
by_reset (Default Reset) = true
by_reset other = false

abbrev pub by_timeout : By → Bool
by_timeout (Default losses.Timeout) = true
by_timeout other = false

-- by no other cause
abbrev pub is_known : By → Bool
is_known Filter = true
is_known Connection = true
is_known by = by_reset by || by_timeout by

-- by the filter's verdicts, on the message or on its client
abbrev pub is_by_verdict : By → Bool
is_by_verdict Filter = true
is_by_verdict Connection = true
is_by_verdict other = false

-- with all verdicts of the dialogue about it
abbrev pub HasAllVerdicts : Scenario → MailObject → Report → Type 0
HasAllVerdicts p message r = r.acted ≡ acted (dialogue_about p message)

abbrev pub count_reports : (By → Bool) → List Report → ℕ
count_reports is_by [] = 0
count_reports is_by (r ∷ reports) =
    if is_by r.settled_by then suc (count_reports is_by reports) else count_reports is_by reports

abbrev pub count_events : (Event → Bool) → List Event → ℕ
count_events is_event [] = 0
count_events is_event (event ∷ events) =
    if is_event event then suc (count_events is_event events) else count_events is_event events

-- no loss and no timeout comes, and the session is over at the end
pub record IsUndisturbed (p : Scenario) (events : List Event) : Type 0 where
  pub no_loss : count_events is_lose events ≡ 0
  pub no_timeout : count_events is_timeout events ≡ 0
  pub over : (after_all p (stays (first p)) events).state ≡ Done

-- the first of these verdicts
pub record StartsWith (first all : List Acted) : Type 0 where
  pub others : List Acted
  pub whole : first ++ others ≡ all
