-- The entries of a session over a connection that is never lost: what passes over it, packet by packet, and which
-- reports each answer adds.
use Rattle.std.specs.Prelude.{ℕ, ◌-◌, nat_le, List, [], ◌∷◌, ◌++◌, length, map, if◌then◌else◌}
use Rattle.std.specs.List.{filter_map}
use Rattle.milter_wire.specs.declared.negotiation.Negotiated.{Negotiated}
use Rattle.milter_wire.specs.declared.command.Command.{Command}
use Rattle.milter_wire.specs.declared.options.Options.{Options}
use Rattle.milter_wire.specs.Negotiation.{negotiate}
use Rattle.milter_message.specs.MailObject.{MailObject}
use Rattle.milter_mail.specs.MailSession.{MailSession}
use Rattle.milter_mail.specs.Plan.{macros_of, plan}
use Rattle.milter_mail.specs.Steps.{message_steps}
use Rattle.milter_protocol.specs.Behavior.{Behavior}
use Rattle.milter_protocol.specs.Exchanges.{Exchange, onto}
use Rattle.milter_protocol.specs.Dialogue.{dialogue_with}
use Rattle.milter_mta_outcome.specs.declared.fallback.OnLoss.{OnLoss}
use Rattle.milter_mta_outcome.specs.declared.loss.By.TheVariants.{Default}
use Rattle.milter_mta_outcome.specs.declared.loss.Loss.{Loss}
use Rattle.milter_mta_outcome.specs.declared.outcome.Report.{Report}
use Rattle.milter_mta_outcome.specs.Dialogues.{acted, given_up}
use Rattle.milter_mta.specs.Dispositions.{report}
use Rattle.milter_mta.specs.Lines.{Line, abort_line, line_of, offer_line, quit_line}
use Rattle.milter_mta.specs.Sessions.{report_by}
use Rattle.milter_mta.specs.Settled.{ends_with_client, ends_with_message}
use Rattle.milter_mta.specs.Dialogues.{opening_of}

-- A packet and the bytes of its answer. Before it these messages are not settled, and these exchanges were about the
-- first of them; with its answer these reports are added.
pub record Entry : Type 0 where
  pub line : Line
  pub left : List MailObject
  pub dialogue : List Exchange
  pub reports : List Report

abbrev pub lines_of : List Entry → List Line
lines_of entries = map (λ entry. entry.line) entries

-- ---- the entries of a connection

-- a packet without an answer
abbrev pub entry_of : Line → List MailObject → List Exchange → Entry
entry_of line left dialogue = record { line = line; left = left; dialogue = dialogue; reports = [] }

-- what a dialogue settles of the messages that are left: the first, or all where it ends with the client
abbrev pub reports_of : Negotiated → List Exchange → MailObject → List MailObject → List Report
reports_of negotiated dialogue message messages =
    filter_map (report_by negotiated dialogue) (if ends_with_client dialogue then message ∷ messages else message ∷ [])

-- these exchanges, after a dialogue; the last one settles
abbrev pub exchange_entries : List Report → List MailObject → List Exchange → List Exchange → List Entry
exchange_entries reports left dialogue [] = []
exchange_entries reports left dialogue (exchange ∷ []) =
    record { line = line_of exchange; left = left; dialogue = dialogue; reports = reports } ∷ []
exchange_entries reports left dialogue (exchange ∷ next ∷ more) =
    entry_of (line_of exchange) left dialogue ∷ exchange_entries reports left (exchange ∷ dialogue) (next ∷ more)

-- after a message that this dialogue settled
abbrev pub entries_after : List Exchange → List MailObject → List Entry → List Entry
entries_after dialogue left next =
    if ends_with_client dialogue then entry_of quit_line [] [] ∷ []
    else if ends_with_message dialogue then next
    else entry_of abort_line left (opening_of dialogue) ∷ next

-- from a message of which these commands are left after this dialogue, before these messages
abbrev pub entries_from : Behavior → Negotiated → MailSession → MailObject → List MailObject → List Exchange
    → List Command → List Entry
entries_from b negotiated session message [] dialogue left =
    let all = onto (dialogue_with b negotiated dialogue left) dialogue in
    exchange_entries (reports_of negotiated all message []) (message ∷ []) dialogue
    (dialogue_with b negotiated dialogue left)
    ++ entries_after all [] (entry_of quit_line [] [] ∷ [])
entries_from b negotiated session message (next ∷ messages) dialogue left =
    let all = onto (dialogue_with b negotiated dialogue left) dialogue in
    exchange_entries (reports_of negotiated all message (next ∷ messages)) (message ∷ next ∷ messages) dialogue
    (dialogue_with b negotiated dialogue left)
    ++ entries_after all (next ∷ messages)
    (entries_from b negotiated session next messages (opening_of all)
    (message_steps negotiated (macros_of negotiated session) next))

-- of a connection that is opened where these messages are left
abbrev pub connection_entries : Behavior → Options → MailSession → List MailObject → List Entry
connection_entries b offer session [] = []
connection_entries b offer session (message ∷ messages) =
    let negotiated = negotiate offer b.wants b.lists in
    entry_of (offer_line offer negotiated) (message ∷ messages) []
    ∷ entries_from b negotiated session message messages [] (plan negotiated session message)

-- ---- what is reported

-- by the answers that end within so many bytes
abbrev pub reports_within : List Entry → ℕ → List Report
reports_within [] received = []
reports_within (entry ∷ entries) received =
    if nat_le (length entry.line.back) received
    then entry.reports ++ reports_within entries (received - length entry.line.back) else []

-- the first of these messages, by default after these exchanges
abbrev pub default_reports : OnLoss → Loss → List MailObject → List Exchange → List Report
default_reports on_loss loss [] dialogue = []
default_reports on_loss loss (message ∷ messages) dialogue =
    report (acted dialogue) (given_up on_loss message dialogue) (Default loss) ∷ []

-- the first message that isn't settled within so many bytes, after the exchanges that end within them
abbrev pub default_within : OnLoss → Loss → List Entry → ℕ → List Report
default_within on_loss loss [] received = []
default_within on_loss loss (entry ∷ entries) received =
    if nat_le (length entry.line.back) received
    then default_within on_loss loss entries (received - length entry.line.back)
    else default_reports on_loss loss entry.left entry.dialogue
