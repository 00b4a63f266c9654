-- A mail server's end against any filter, whatever it sends: the verdicts that it acts on are always those of a
-- dialogue.
use Rattle.std.specs.Prelude.{◌≡◌, ◌≢◌, ◌⊎◌, Bool, true, false, List, [], ◌∷◌, ◌++◌, Option, None, Some, option_map}
use Rattle.std.specs.List.{AllZip, filter}
use Rattle.milter_wire.specs.declared.options.Options.{Options}
use Rattle.milter_wire.specs.declared.negotiation.Negotiated.{Negotiated}
use Rattle.milter_wire.specs.declared.command.Command.{Command}
use Rattle.milter_wire.specs.declared.verdict.Verdict.{Verdict}
use Rattle.milter_wire.specs.Negotiation.{has_leading_space}
use Rattle.milter_message.specs.MailObject.{MailObject}
use Rattle.milter_mail.specs.MailSession.{MailSession}
use Rattle.milter_mail.specs.Plan.{plan}
use Rattle.milter_protocol.specs.Exchanges.{Exchange}
use Rattle.milter_protocol.specs.Dialogue.{IsEnded, IsOpen, is_end_command, sendable}
use Rattle.milter_mta_outcome.specs.declared.acted_verdicts.Acted.{Acted}
use Rattle.milter_mta_outcome.specs.declared.loss.By.TheVariants.{Default}
use Rattle.milter_mta_outcome.specs.declared.loss.Loss.{Loss}
use Rattle.milter_mta_outcome.specs.declared.outcome.Outcome.{Outcome}
use Rattle.milter_mta_outcome.specs.declared.outcome.Report.{Report}
use Rattle.milter_mta_outcome.specs.ReceivedReplies.{IsWithinOffer}
use Rattle.milter_mta_outcome.specs.Dialogues.{acted, given_up, ruled}
use Rattle.milter_mta_outcome.specs.Losses.{is_by_client}
use Rattle.milter_mta_outcome.specs.TransactionVerdicts.{last_verdict}
use Rattle.milter_mta.specs.Mta.{Configuration, FilterConnection, Mta, Position}
use Rattle.milter_mta.specs.Mta.Position.{Offering, Sending, Quitting, Ended}
use Rattle.milter_mta.specs.Output.{asks_at}
use Rattle.milter_mta.specs.Dispositions.{report}
use Rattle.milter_mta.specs.Beginnings.{IsSentOf}
use Rattle.milter_mta.specs.Order.{IsDialogue, IsDialogueSoFar, MayEdit}
use Rattle.milter_mta.specs.Sessions.{settled_through}

-- ---- what always holds of it

-- the client, its greeting and the macros of a session
abbrev pub without_messages : MailSession → MailSession
without_messages session = record session { messages = [] }

-- these verdicts are those of an open dialogue through the plan of the first of these messages, of which these commands
-- are left
pub record IsAfterDialogue (offer : Options) (s : MailSession) (messages : List MailObject) (negotiated : Negotiated)
    (verdicts : List Acted) (left : List Command) : Type 0 where
  pub within : IsWithinOffer offer negotiated
  pub dialogue : List Exchange
  pub is_dialogue : IsDialogue negotiated dialogue left
  pub is_open : IsOpen dialogue left
  pub is_sendable : sendable dialogue left ≡ left
  pub verdicts_are : verdicts ≡ acted dialogue
  pub of_plan : (message : MailObject) (others : List MailObject) → messages ≡ message ∷ others →
      IsSentOf (plan negotiated s message) dialogue left

abbrev pub is_end_next : List Command → Bool
is_end_next [] = false
is_end_next (command ∷ left) = is_end_command command

-- a message isn't settled while its commands are sent, and the edits that came may come; each message is settled at the
-- end of the connection
abbrev pub IsPositionOnDialogue : Options → MailSession → List MailObject → Position → Type 0
IsPositionOnDialogue offer s messages Offering = Unit {0}
IsPositionOnDialogue offer s messages (Sending negotiated verdicts edits left) =
    IsAfterDialogue offer s messages negotiated verdicts left × (messages ≢ [])
    × MayEdit negotiated (is_end_next left) edits
IsPositionOnDialogue offer s messages Quitting = messages ≡ []
IsPositionOnDialogue offer s messages Ended = messages ≡ []

-- a reply is owed to what is asked about alone
pub record IsConnectionOnDialogue (offer : Options) (s : MailSession) (messages : List MailObject)
    (filter_connection : FilterConnection) : Type 0 where
  pub position : IsPositionOnDialogue offer s messages filter_connection.position
  pub asked : filter_connection.owed ≡ true → asks_at filter_connection.position ≡ true

abbrev pub IsOptionOnDialogue : Options → MailSession → List MailObject → Option FilterConnection → Type 0
IsOptionOnDialogue offer s messages None = Unit {0}
IsOptionOnDialogue offer s messages (Some filter_connection) = IsConnectionOnDialogue offer s messages filter_connection

abbrev pub IsOnDialogue : Mta → Type 0
IsOnDialogue m = IsOptionOnDialogue m.config.offer (without_messages m.session) m.session.messages m.filter_connection

-- ---- what is reported

-- the message was settled by the last answer of a dialogue through its plan, which that answer ended
pub record IsRuledReport (offer : Options) (s : MailSession) (message : MailObject) (r : Report) : Type 0 where
  pub negotiated : Negotiated
  pub within : IsWithinOffer offer negotiated
  pub dialogue : List Exchange
  pub left : List Command
  pub dialogue_so_far : IsDialogueSoFar negotiated dialogue
  pub ended : IsEnded dialogue left
  pub of_plan : IsSentOf (plan negotiated s message) dialogue left
  pub outcome : Outcome
  pub ruled_is : ruled (has_leading_space negotiated) message dialogue ≡ Some outcome
  pub report_is : r ≡ report (acted dialogue) outcome (settled_through dialogue)

-- or by default after a dialogue through its plan that was open; before its first exchange nothing may be negotiated
pub record IsGivenUpReport (config : Configuration) (s : MailSession) (message : MailObject) (r : Report) : Type 0 where
  pub negotiated : Negotiated
  pub dialogue : List Exchange
  pub within : dialogue ≢ [] → IsWithinOffer config.offer negotiated
  pub left : List Command
  pub dialogue_so_far : IsDialogueSoFar negotiated dialogue
  pub is_open : IsOpen dialogue left
  pub of_plan : IsSentOf (plan negotiated s message) dialogue left
  pub loss : Loss
  pub report_is : r ≡ report (acted dialogue) (given_up config.on_loss message dialogue) (Default loss)

abbrev pub IsReportByDialogue : Configuration → MailSession → MailObject → Report → Type 0
IsReportByDialogue config s message r = IsRuledReport config.offer s message r ⊎ IsGivenUpReport config s message r

-- from one time to a later one the first messages that were left are settled, each as its report has it by a dialogue
pub record SettlesByDialogues (old new : Mta) : Type 0 where
  pub settled : List MailObject
  pub added : List Report
  pub messages_are : old.session.messages ≡ settled ++ new.session.messages
  pub reports_are : new.reports ≡ old.reports ++ added
  pub by_dialogues : AllZip (IsReportByDialogue old.config (without_messages old.session)) settled added
  pub same_config : new.config ≡ old.config
  pub same_session : without_messages new.session ≡ without_messages old.session

-- it goes on so
pub record GoesOnDialogues (old new : Mta) : Type 0 where
  pub on_dialogue : IsOnDialogue new
  pub settles : SettlesByDialogues old new

-- ---- the verdict on the connection

-- the reports of the messages that a verdict on the client settled
abbrev pub client_reports : List Report → List Report
client_reports reports = filter (λ r. is_by_client r.settled_by) reports

-- the last verdict of each is this one
abbrev pub HaveLastVerdict : Verdict → List Report → Type 0
HaveLastVerdict verdict [] = Unit {0}
HaveLastVerdict verdict (r ∷ reports) =
    (option_map (λ a. a.verdict) (last_verdict r.acted) ≡ Some verdict) × HaveLastVerdict verdict reports

-- there is a verdict on the connection exactly where it settled messages, whose last verdict it is; and none is left
-- then
pub record ConnectionIsReported (m : Mta) : Type 0 where
  pub none : m.connection ≡ None → client_reports m.reports ≡ []
  pub some : (verdict : Verdict) → m.connection ≡ Some verdict →
      (m.session.messages ≡ [])
      × (client_reports m.reports ≢ [])
      × HaveLastVerdict verdict (client_reports m.reports)
