-- What the protocol knows of the stages of a connection and of its messages.
use Rattle.std.specs.Prelude.{ℕ, List, [], ◌∷◌, codes, find, Option, None, Some}
use Rattle.std.specs.Str.{bytes_eq}
use Rattle.milter_wire.specs.declared.macro_stage.MacroStage.{MacroStage}
use Rattle.milter_wire.specs.declared.macro_stage.MacroStage.TheVariants as macro_stages
use Rattle.milter_wire.specs.declared.options.Protocol.{Protocol}
use Rattle.milter_wire.specs.declared.codes.TheConstants.{SMFIC_BODYEOB, SMFIC_CONNECT, SMFIC_DATA, SMFIC_EOH, SMFIC_HELO, SMFIC_MAIL, SMFIC_RCPT}
use Rattle.milter_wire.specs.declared.command.Command.{Command}
use Rattle.milter_wire.specs.declared.command.Command.TheVariants as commands
use Rattle.milter_wire.specs.declared.stage.Stage.{Stage}
use Rattle.milter_wire.specs.declared.stage.Stage.TheVariants.{Connect, Helo, Mail, Rcpt, DataCmd, Header, Eoh, Body, Eob}

-- all of them, in the order of a connection and of each of its messages
abbrev pub all_stages : List Stage
all_stages = Connect ∷ Helo ∷ Mail ∷ Rcpt ∷ DataCmd ∷ Header ∷ Eoh ∷ Body ∷ Eob ∷ []

-- the word of each in text files
abbrev pub name_of : Stage → List ℕ
name_of Connect = codes "connect"
name_of Helo = codes "helo"
name_of Mail = codes "mail"
name_of Rcpt = codes "rcpt"
name_of DataCmd = codes "data"
name_of Header = codes "header"
name_of Eoh = codes "eoh"
name_of Body = codes "body"
name_of Eob = codes "eob"

-- the stage with this name
abbrev pub stage_named : List ℕ → Option Stage
stage_named name = find (λ stage. bytes_eq name (name_of stage)) all_stages

-- the stage of macros that precede the commands of a stage
abbrev pub macro_stage_of : Stage → Option MacroStage
macro_stage_of Connect = Some macro_stages.Connect
macro_stage_of Helo = Some macro_stages.Helo
macro_stage_of Mail = Some macro_stages.Mail
macro_stage_of Rcpt = Some macro_stages.Rcpt
macro_stage_of DataCmd = Some macro_stages.DataCmd
macro_stage_of Header = None
macro_stage_of Eoh = Some macro_stages.Eoh
macro_stage_of Body = None
macro_stage_of Eob = Some macro_stages.Eom

-- the command byte of a stage's macro packet, in ASCII: the code of the stage's own command
abbrev pub macro_command_of : Stage → Option ℕ
macro_command_of Connect = Some SMFIC_CONNECT
macro_command_of Helo = Some SMFIC_HELO
macro_command_of Mail = Some SMFIC_MAIL
macro_command_of Rcpt = Some SMFIC_RCPT
macro_command_of DataCmd = Some SMFIC_DATA
macro_command_of Header = None
macro_command_of Eoh = Some SMFIC_EOH
macro_command_of Body = None
macro_command_of Eob = Some SMFIC_BODYEOB

-- a bit of the protocol
abbrev bit : ℕ → Option Protocol
bit n = Some (record { 0 = n })

-- the bit by which a stage is not sent
abbrev pub not_sent_of : Stage → Option Protocol
not_sent_of Connect = bit 1
not_sent_of Helo = bit 2
not_sent_of Mail = bit 4
not_sent_of Rcpt = bit 8
not_sent_of DataCmd = bit 512
not_sent_of Header = bit 32
not_sent_of Eoh = bit 64
not_sent_of Body = bit 16
not_sent_of Eob = None

-- the bit by which a stage is not answered
abbrev pub not_answered_of : Stage → Option Protocol
not_answered_of Connect = bit 4096
not_answered_of Helo = bit 8192
not_answered_of Mail = bit 16384
not_answered_of Rcpt = bit 32768
not_answered_of DataCmd = bit 65536
not_answered_of Header = bit 128
not_answered_of Eoh = bit 262144
not_answered_of Body = bit 524288
not_answered_of Eob = None

-- the stage that a command is
abbrev pub stage_of : Command → Option Stage
stage_of (commands.Connect c) = Some Connect
stage_of (commands.Helo name) = Some Helo
stage_of (commands.Mail sender) = Some Mail
stage_of (commands.Rcpt recipient) = Some Rcpt
stage_of commands.DataCmd = Some DataCmd
stage_of (commands.Header h) = Some Header
stage_of commands.Eoh = Some Eoh
stage_of (commands.Body bytes) = Some Body
stage_of (commands.Eob bytes) = Some Eob
stage_of _ = None
