-- A session of a mail server with one client, and what is asked of one.
use Rattle.std.specs.Prelude.{◌≢◌, ◌≤◌, ℕ, List, [], All}
use Rattle.milter_message.specs.declared.message.TheConstants.{WEIGHT_MAX}
use Rattle.milter_wire.specs.declared.codes.TheConstants.{SMFIC_BODYEOB, SMFIC_CONNECT, SMFIC_DATA, SMFIC_EOH, SMFIC_HELO, SMFIC_MAIL, SMFIC_RCPT}
use Rattle.milter_fields.specs.declared.client.Client.{Client}
use Rattle.milter_wire.specs.declared.command.Command.TheVariants as commands
use Rattle.milter_wire.specs.Command.{Fits}
use Rattle.milter_mail.specs.Macros.{Macros}
use Rattle.milter_message.specs.LeadingSpace.{WholeFieldFits}
use Rattle.milter_message.specs.MailObject.{IsMessage, MailObject}
use Rattle.milter_mail.specs.Weight.{weight}

-- the client, the name that it greets with, the macros, and the messages in order
pub record MailSession : Type 0 where
  pub client : Client
  pub helo : List ℕ
  pub macros : Macros
  pub messages : List MailObject

-- each packet of macros can be made, with the code of its stage's command
pub record MacrosFit (macros : Macros) : Type 0 where
  pub connect : Fits (commands.Macro SMFIC_CONNECT macros.connect)
  pub helo : Fits (commands.Macro SMFIC_HELO macros.helo)
  pub mail : Fits (commands.Macro SMFIC_MAIL macros.mail)
  pub rcpt : Fits (commands.Macro SMFIC_RCPT macros.rcpt)
  pub data_cmd : Fits (commands.Macro SMFIC_DATA macros.data_cmd)
  pub eoh : Fits (commands.Macro SMFIC_EOH macros.eoh)
  pub eom : Fits (commands.Macro SMFIC_BODYEOB macros.eom)

-- a message that has a recipient, whose header fields fit a packet with their whole values, and which weighs at most
-- 16 MiB
pub record IsSendable (client : Client) (helo : List ℕ) (macros : Macros) (m : MailObject) : Type 0 where
  pub whole : IsMessage m
  pub has_recipient : m.recipients ≢ []
  pub whole_fields : All WholeFieldFits m.headers
  pub weight_fits : weight client helo macros m ≤ WEIGHT_MAX

pub record IsSession (s : MailSession) : Type 0 where
  pub client_fits : Fits (commands.Connect s.client)
  pub helo_fits : Fits (commands.Helo s.helo)
  pub macros_fit : MacrosFit s.macros
  pub are_sendable : All (IsSendable s.client s.helo s.macros) s.messages
