-- A mail server's end of a connection to a filter: what is known of it at any time.
use Rattle.std.specs.Prelude.{ℕ, Bool, false, List, [], Option, None}
use Rattle.milter_wire.specs.declared.options.Options.{Options}
use Rattle.milter_wire.specs.declared.negotiation.Negotiated.{Negotiated}
use Rattle.milter_wire.specs.declared.command.Command.{Command}
use Rattle.milter_wire.specs.declared.verdict.Verdict.{Verdict}
use Rattle.milter_message.specs.declared.edit.Edit.{Edit}
use Rattle.milter_mail.specs.MailSession.{MailSession}
use Rattle.milter_mta_outcome.specs.declared.acted_verdicts.Acted.{Acted}
use Rattle.milter_mta_outcome.specs.declared.fallback.OnLoss.{OnLoss}
use Rattle.milter_mta_outcome.specs.declared.outcome.Report.{Report}

-- what is offered to each filter, and what a lost one leaves
pub record Configuration : Type 0 where
  pub offer : Options
  pub on_loss : OnLoss

-- which packet is the next one, or is being sent
pub data Position : Type 0 where
  -- the options that are offered
  Offering : Position
  -- the first of these commands of a message; the verdicts that were acted on, and the edits that came since the last
  Sending : Negotiated → List Acted → List Edit → List Command → Position
  -- the end of the connection
  Quitting : Position
  -- none: it was sent
  Ended : Position

-- a connection to a filter
pub record FilterConnection : Type 0 where
  -- whether an abort must still be sent
  pub aborts : Bool
  -- the next packet after that
  pub position : Position
  -- what is left to send of the packet
  pub pending : List ℕ
  -- whether it was sent, and its reply has not come
  pub owed : Bool
  -- the bytes of a reply that has not come whole
  pub unread : List ℕ

pub record Mta : Type 0 where
  pub config : Configuration
  -- with the messages that are not settled
  pub session : MailSession
  -- of those that are, in order
  pub reports : List Report
  -- the verdict that ended the client's connection
  pub connection : Option Verdict
  pub filter_connection : Option FilterConnection

-- a connection at the start of this packet, perhaps after the end of a message
abbrev pub connection_at : Bool → Position → FilterConnection
connection_at aborts position = record { aborts = aborts; position = position; pending = []; owed = false; unread = [] }

abbrev pub at_packet : Position → FilterConnection
at_packet position = connection_at false position

abbrev pub fresh : Configuration → MailSession → Mta
fresh config session =
    record { config = config; session = session; reports = []; connection = None; filter_connection = None }
