-- A whole session against one filter that is never lost: its lines, and what becomes of its messages.
use Rattle.std.specs.Prelude.{◌≡◌, List, [], ◌∷◌, ◌++◌, map, Option, Some, option_map, if◌then◌else◌}
use Rattle.milter_wire.specs.declared.negotiation.Negotiated.{Negotiated}
use Rattle.milter_wire.specs.declared.command.Command.{Command}
use Rattle.milter_wire.specs.declared.verdict.Verdict.{Verdict}
use Rattle.milter_wire.specs.declared.options.Options.{Options}
use Rattle.milter_wire.specs.Negotiation.{negotiate, has_leading_space}
use Rattle.milter_message.specs.MailObject.{MailObject}
use Rattle.milter_mail.specs.MailSession.{MailSession}
use Rattle.milter_mail.specs.Plan.{macros_of, plan}
use Rattle.milter_mail.specs.Steps.{message_steps}
use Rattle.milter_protocol.specs.Behavior.{Behavior}
use Rattle.milter_protocol.specs.Exchanges.{Exchange, onto}
use Rattle.milter_protocol.specs.Dialogue.{dialogue_with}
use Rattle.milter_mta_outcome.specs.declared.loss.By.{By}
use Rattle.milter_mta_outcome.specs.declared.loss.By.TheVariants.{Connection, Filter}
use Rattle.milter_mta_outcome.specs.declared.outcome.Report.{Report}
use Rattle.milter_mta_outcome.specs.Dialogues.{acted, ruled}
use Rattle.milter_mta.specs.declared.mta_core.Want.TheVariants as wants
use Rattle.milter_mta.specs.Mta.{Mta}
use Rattle.milter_mta.specs.Output.{want}
use Rattle.milter_mta.specs.Dispositions.{report}
use Rattle.milter_mta.specs.Lines.{Line, Plays, abort_line, line_of, offer_line, quit_line}
use Rattle.milter_mta.specs.Settled.{ends_with_client, ends_with_message, dialogue_verdict}
use Rattle.milter_mta.specs.Dialogues.{opening_of}

-- ---- one message, asked of the filter directly

-- all exchanges about a message of the session, the latest first
abbrev pub dialogue_of : Behavior → Negotiated → MailSession → MailObject → List Exchange
dialogue_of b negotiated session message = onto (dialogue_with b negotiated [] (plan negotiated session message)) []

abbrev pub settled_through : List Exchange → By
settled_through dialogue = if ends_with_client dialogue then Connection else Filter

-- what is reported of a message that a dialogue settles
abbrev pub report_by : Negotiated → List Exchange → MailObject → Option Report
report_by negotiated dialogue message =
    option_map (λ outcome. report (acted dialogue) outcome (settled_through dialogue))
    (ruled (has_leading_space negotiated) message dialogue)

-- ---- the lines of a session

-- what follows a message that this dialogue settled: the end of the connection where it is about the client, and else
-- the next lines, after an abort where the message was not sent to its end
abbrev pub lines_after : List Exchange → List Line → List Line
lines_after dialogue next =
    if ends_with_client dialogue then quit_line ∷ []
    else if ends_with_message dialogue then next
    else abort_line ∷ next

-- from a message of which these commands are left after this dialogue, before these messages
abbrev pub lines_from : Behavior → Negotiated → MailSession → List MailObject → List Exchange → List Command → List Line
lines_from b negotiated session [] dialogue left =
    map line_of (dialogue_with b negotiated dialogue left) ++ lines_after
    (onto (dialogue_with b negotiated dialogue left) dialogue) (quit_line ∷ [])
lines_from b negotiated session (message ∷ messages) dialogue left =
    map line_of (dialogue_with b negotiated dialogue left)
    ++ lines_after (onto (dialogue_with b negotiated dialogue left) dialogue)
    (lines_from b negotiated session messages (opening_of (onto (dialogue_with b negotiated dialogue left) dialogue))
    (message_steps negotiated (macros_of negotiated session) message))

-- of a session's messages, the offer first; none where there is no message
abbrev pub session_lines : Behavior → Options → MailSession → List MailObject → List Line
session_lines b offer session [] = []
session_lines b offer session (message ∷ messages) =
    let negotiated = negotiate offer b.wants b.lists in
    offer_line offer negotiated ∷ lines_from b negotiated session messages [] (plan negotiated session message)

-- ---- what becomes of it

-- of each of these messages, by its own dialogue
abbrev pub reports_by : Behavior → Negotiated → MailSession → List MailObject → List (Option Report)
reports_by b negotiated session messages =
    map (λ message. report_by negotiated (dialogue_of b negotiated session message) message) messages

-- the verdict on the connection after these messages: where the first one's dialogue ends with the client, its last one
abbrev pub connection_after : Behavior → Negotiated → MailSession → List MailObject → Option Verdict → Option Verdict
connection_after b negotiated session [] before = before
connection_after b negotiated session (message ∷ messages) before =
    let dialogue = dialogue_of b negotiated session message in
    if ends_with_client dialogue then dialogue_verdict dialogue else before

-- by these lines it comes to an end, and each message that was left is settled by its own dialogue
pub record SettlesEach (b : Behavior) (negotiated : Negotiated) (old : Mta) (lines : List Line) : Type 0 where
  pub new : Mta
  pub plays : Plays old lines new
  pub ended : want new ≡ wants.Done
  pub reports : map Some new.reports
      ≡ map Some old.reports ++ reports_by b negotiated old.session old.session.messages
  pub connection : new.connection
      ≡ connection_after b negotiated old.session old.session.messages old.connection
