-- The commands that are sent of a message, stage by stage, from any one of them on.
use Rattle.std.specs.Prelude.{ℕ, ◌==◌, List, [], ◌∷◌, ◌++◌, drop, map, not, Option, None, Some, if◌then◌else◌}
use Rattle.std.specs.List.{filter, flat_map}
use Rattle.milter_fields.specs.declared.client.Client.{Client}
use Rattle.milter_wire.specs.declared.negotiation.Negotiated.{Negotiated}
use Rattle.milter_wire.specs.declared.command.Command.{Command}
use Rattle.milter_wire.specs.declared.command.Command.TheVariants as commands
use Rattle.milter_wire.specs.declared.stage.Stage.{Stage}
use Rattle.milter_wire.specs.declared.stage.Stage.TheVariants.{Connect, Helo, Mail, Rcpt, DataCmd, Header, Eoh, Body, Eob}
use Rattle.milter_wire.specs.Negotiation.{has_leading_space}
use Rattle.milter_message.specs.LeadingSpace.{sent_header}
use Rattle.milter_message.specs.MailObject.{MailObject}
use Rattle.milter_message.specs.Chunks.{chunks_of}
use Rattle.milter_protocol.specs.Dialogue.{is_body}
use Rattle.milter_mail.specs.Macros.{Macros}
use Rattle.milter_mail.specs.MailSession.{MailSession}
use Rattle.milter_mail.specs.Plan.{macros_of}
use Rattle.milter_mail.specs.Steps.{step}

-- what is sent of a message and its client, by what was negotiated; the macros are those that the filter asked for
pub record Outgoing : Type 0 where
  pub negotiated : Negotiated
  pub macros : Macros
  pub client : Client
  pub helo : List ℕ
  pub message : MailObject

-- of a message of the session
abbrev pub outgoing_of : Negotiated → MailSession → MailObject → Outgoing
outgoing_of negotiated session message =
    record {
      negotiated = negotiated;
      macros = macros_of negotiated session;
      client = session.client;
      helo = session.helo;
      message = message;
    }

-- the commands of a stage, without macros
abbrev pub commands_of : Outgoing → Stage → List Command
commands_of o Connect = commands.Connect o.client ∷ []
commands_of o Helo = commands.Helo o.helo ∷ []
commands_of o Mail = commands.Mail o.message.sender ∷ []
commands_of o Rcpt = map (λ recipient. commands.Rcpt recipient) o.message.recipients
commands_of o DataCmd = commands.DataCmd ∷ []
commands_of o Header =
    map (λ header. commands.Header (sent_header (has_leading_space o.negotiated) header)) o.message.headers
commands_of o Eoh = commands.Eoh ∷ []
commands_of o Body = map (λ chunk. commands.Body chunk) (chunks_of o.message.body)
commands_of o Eob = commands.Eob [] ∷ []

-- each after its macros; none where the stage isn't sent
abbrev pub steps_at : Outgoing → Stage → List Command
steps_at o stage = flat_map (step o.negotiated o.macros stage) (commands_of o stage)

-- where macros come before a command: of the two the first, or the command
abbrev pub one_of_two : Command → Option Command → ℕ → Option Command
one_of_two packet None n = None
one_of_two packet (Some command) n = if n == 0 then Some packet else Some command

abbrev pub stages_after : Stage → List Stage
stages_after Connect = Helo ∷ Mail ∷ Rcpt ∷ DataCmd ∷ Header ∷ Eoh ∷ Body ∷ Eob ∷ []
stages_after Helo = Mail ∷ Rcpt ∷ DataCmd ∷ Header ∷ Eoh ∷ Body ∷ Eob ∷ []
stages_after Mail = Rcpt ∷ DataCmd ∷ Header ∷ Eoh ∷ Body ∷ Eob ∷ []
stages_after Rcpt = DataCmd ∷ Header ∷ Eoh ∷ Body ∷ Eob ∷ []
stages_after DataCmd = Header ∷ Eoh ∷ Body ∷ Eob ∷ []
stages_after Header = Eoh ∷ Body ∷ Eob ∷ []
stages_after Eoh = Body ∷ Eob ∷ []
stages_after Body = Eob ∷ []
stages_after Eob = []

-- those of the stage but for the first `count`, and those of all stages after it
abbrev pub steps_from : Outgoing → Stage → ℕ → List Command
steps_from o stage count = drop count (steps_at o stage) ++ flat_map (steps_at o) (stages_after stage)

-- the commands that are no chunks of the body
abbrev pub without_body : List Command → List Command
without_body commands = filter (λ command. not (is_body command)) commands
