-- The commands that are sent of a session with these macros, in order: those of its opening, and those of a message.
use Rattle.std.specs.Prelude.{ℕ, List, [], ◌∷◌, ◌++◌, Option, None, Some, option_map, unwrap_or, if◌then◌else◌}
use Rattle.std.specs.List.{flat_map}
use Rattle.milter_wire.specs.declared.negotiation.Negotiated.{Negotiated}
use Rattle.milter_fields.specs.declared.client.Client.{Client}
use Rattle.milter_wire.specs.declared.command.Command.{Command}
use Rattle.milter_wire.specs.declared.command.Command.TheVariants as commands
use Rattle.milter_fields.specs.declared.pair.Pair.{Pair}
use Rattle.milter_wire.specs.declared.stage.Stage.{Stage}
use Rattle.milter_wire.specs.declared.stage.Stage.TheVariants.{Connect, Helo, Mail, Rcpt, DataCmd, Header, Eoh, Body, Eob}
use Rattle.milter_wire.specs.Negotiation.{has_leading_space, is_sent}
use Rattle.milter_wire.specs.Stages.{macro_command_of, macro_stage_of}
use Rattle.milter_mail.specs.ByMacroStage.{at_stage}
use Rattle.milter_mail.specs.Macros.{Macros}
use Rattle.milter_message.specs.LeadingSpace.{sent_header}
use Rattle.milter_message.specs.MailObject.{MailObject}
use Rattle.milter_message.specs.Chunks.{chunks_of}

-- the macros that are sent before each command of a stage
abbrev pub macros_at : Macros → Stage → List Pair
macros_at macros stage = unwrap_or (option_map (at_stage macros) (macro_stage_of stage)) []

-- one packet with all of them, where there are some
abbrev pub macro_step : Option ℕ → List Pair → List Command
macro_step None pairs = []
macro_step (Some command) [] = []
macro_step (Some command) (pair ∷ pairs) = commands.Macro command (pair ∷ pairs) ∷ []

-- a command of a stage, after the stage's macros; nothing where the stage isn't sent
abbrev pub step : Negotiated → Macros → Stage → Command → List Command
step negotiated macros stage command =
    if is_sent negotiated stage then macro_step (macro_command_of stage) (macros_at macros stage) ++ command ∷ []
    else []

-- what is sent of the connection, before its first message
abbrev pub opening_steps : Negotiated → Macros → Client → List ℕ → List Command
opening_steps negotiated macros client helo =
    step negotiated macros Connect (commands.Connect client) ++ step negotiated macros Helo (commands.Helo helo)

-- what is sent of one message
abbrev pub message_steps : Negotiated → Macros → MailObject → List Command
message_steps negotiated macros message =
    step negotiated macros Mail (commands.Mail message.sender)
    ++ flat_map (λ recipient. step negotiated macros Rcpt (commands.Rcpt recipient)) message.recipients
    ++ step negotiated macros DataCmd commands.DataCmd
    ++ flat_map
    (λ header. step negotiated macros Header (commands.Header (sent_header (has_leading_space negotiated) header)))
    message.headers
    ++ step negotiated macros Eoh commands.Eoh
    ++ flat_map (λ chunk. step negotiated macros Body (commands.Body chunk)) (chunks_of message.body)
    ++ step negotiated macros Eob (commands.Eob [])
