-- How messages are settled: by a verdict that ends them, or by the loss of the filter.
use Rattle.std.specs.Prelude.{not, List, [], ◌∷◌, ◌++◌, drop, map, Option, None, Some, if◌then◌else◌}
use Rattle.milter_wire.specs.declared.negotiation.Negotiated.{Negotiated}
use Rattle.milter_wire.specs.declared.stage.Stage.{Stage}
use Rattle.milter_wire.specs.declared.verdict.Verdict.{Verdict}
use Rattle.milter_wire.specs.Negotiation.{has_leading_space}
use Rattle.milter_message.specs.declared.edit.Edit.{Edit}
use Rattle.milter_message.specs.MailObject.{MailObject}
use Rattle.milter_protocol.specs.declared.answer.Answer.{Answer}
use Rattle.milter_mail.specs.MailSession.{MailSession}
use Rattle.milter_mail.specs.Plan.{macros_of}
use Rattle.milter_mail.specs.Steps.{message_steps}
use Rattle.milter_mta_outcome.specs.declared.acted_verdicts.Acted.{Acted}
use Rattle.milter_mta_outcome.specs.declared.fallback.OnLoss.{OnLoss}
use Rattle.milter_mta_outcome.specs.declared.loss.By.{By}
use Rattle.milter_mta_outcome.specs.declared.loss.By.TheVariants.{Filter, Connection, Default}
use Rattle.milter_mta_outcome.specs.declared.loss.Loss.{Loss}
use Rattle.milter_mta_outcome.specs.declared.outcome.Outcome.{Outcome}
use Rattle.milter_mta_outcome.specs.declared.outcome.Report.{Report}
use Rattle.milter_mta_outcome.specs.ActedVerdicts.{kept}
use Rattle.milter_mta_outcome.specs.ReceivedReplies.{is_end}
use Rattle.milter_mta_outcome.specs.Outcomes.{at_connection, fallback, outcome}
use Rattle.milter_mta_outcome.specs.TransactionVerdicts.{is_of_connection, on_connection}
use Rattle.milter_mta.specs.Mta.{FilterConnection, Mta, Position, at_packet, connection_at}
use Rattle.milter_mta.specs.Mta.Position.{Sending, Quitting}

-- ---- reports

abbrev pub report : List Acted → Outcome → By → Report
report acted outcome by = record { acted = acted; outcome = outcome; settled_by = by }

-- the first message that isn't settled
abbrev pub with_report : Report → Mta → Mta
with_report r m =
    record m { session = record m.session { messages = drop 1 m.session.messages }; reports = m.reports ++ r ∷ [] }

-- ---- by a loss

-- the verdicts on the first message that isn't settled
abbrev pub acted_at : Position → List Acted
acted_at (Sending negotiated acted edits left) = acted
acted_at other = []

abbrev pub acted_in : Option FilterConnection → List Acted
acted_in None = []
acted_in (Some filter_connection) = acted_at filter_connection.position

-- after these verdicts
abbrev pub default_report : OnLoss → Loss → MailObject → List Acted → Report
default_report on_loss loss message acted = report acted (fallback on_loss (kept message acted)) (Default loss)

abbrev pub defaulted : Loss → List Acted → List MailObject → Mta → Mta
defaulted loss acted [] m = m
defaulted loss acted (message ∷ messages) m =
    with_report (default_report m.config.on_loss loss message acted) m

-- the filter is lost: the first message that isn't settled is settled by default
abbrev pub lost : Loss → Mta → Mta
lost loss m = record (defaulted loss (acted_in m.filter_connection) m.session.messages m) { filter_connection = None }

-- ---- by a verdict

-- the next message, or the end of the connection
abbrev pub next_message : Negotiated → List Acted → MailSession → List MailObject → Position
next_message negotiated opened session [] = Quitting
next_message negotiated opened session (message ∷ messages) =
    Sending negotiated opened [] (message_steps negotiated (macros_of negotiated session) message)

-- after a message whose last verdict was at this stage
abbrev pub after_message : Negotiated → List Acted → MailSession → Stage → FilterConnection
after_message negotiated opened session stage =
    connection_at (not (is_end stage)) (next_message negotiated opened session session.messages)

-- every message that is left is settled by a verdict on the connection
abbrev pub settled_all : Verdict → List Acted → Mta → Mta
settled_all verdict acted m =
    record m {
      session = record m.session { messages = [] };
      reports = m.reports
          ++ map (λ message. report acted (at_connection verdict message) Connection) m.session.messages;
      connection = Some verdict;
      filter_connection = Some (at_packet Quitting);
    }

abbrev pub settled_in : Negotiated → Stage → List Edit → Verdict → List Acted → List MailObject → Mta → Mta
settled_in negotiated stage edits verdict acted [] m = m
settled_in negotiated stage edits verdict acted (message ∷ messages) m =
    let answer : Answer = record { edits = edits; verdict = verdict } in
    let r = report acted (outcome (has_leading_space negotiated) stage answer (kept message acted)) Filter in
    let after = with_report r m in
    record after { filter_connection = Some (after_message negotiated (on_connection acted) after.session stage) }

-- the first message is settled by the last of these verdicts
abbrev pub settled_first : Negotiated → Stage → List Edit → Verdict → List Acted → Mta → Mta
settled_first negotiated stage edits verdict acted m =
    settled_in negotiated stage edits verdict acted m.session.messages m

abbrev pub settled : Negotiated → Stage → List Edit → Verdict → List Acted → Mta → Mta
settled negotiated stage edits verdict acted m =
    if is_of_connection stage then settled_all verdict acted m
    else settled_first negotiated stage edits verdict acted m
