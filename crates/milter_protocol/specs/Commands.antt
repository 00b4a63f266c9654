-- What each command is to a filter.
use Rattle.std.specs.Prelude.{◌==◌, Bool, true, false, ◌||◌, Option, None, Some, is_some}
use Rattle.milter_wire.specs.declared.codes.TheConstants.{SMFIC_CONNECT, SMFIC_HELO}
use Rattle.milter_wire.specs.declared.command.Command.{Command}
use Rattle.milter_wire.specs.declared.command.Command.TheVariants as commands
use Rattle.milter_wire.specs.declared.stage.Stage.{Stage}
use Rattle.milter_wire.specs.declared.stage.Stage.TheVariants.{Connect, Helo}
use Rattle.milter_wire.specs.declared.verdict.Verdict.{Verdict}
use Rattle.milter_wire.specs.Stages.{stage_of}
use Rattle.milter_protocol.specs.declared.answer.Answer.{Answer}
use Rattle.milter_protocol.specs.Verdicts.{has_verdict, is_final_at, is_refusal}

-- it is shown for the whole connection: the client, its greetings, and the macros of both
abbrev pub is_of_connection : Command → Bool
is_of_connection (commands.Connect client) = true
is_of_connection (commands.Helo name) = true
is_of_connection (commands.Macro command pairs) = command == SMFIC_CONNECT || command == SMFIC_HELO
is_of_connection other = false

-- it is shown at all: macros, and the commands of the stages
abbrev pub is_shown : Command → Bool
is_shown (commands.Macro command pairs) = true
is_shown command = is_some (stage_of command)

abbrev pub is_quit : Command → Bool
is_quit commands.Quit = true
is_quit other = false

-- another connection of a client follows
abbrev pub is_quit_new : Command → Bool
is_quit_new commands.QuitNew = true
is_quit_new other = false

abbrev pub is_abort : Command → Bool
is_abort commands.Abort = true
is_abort other = false

-- a message ends at a verdict that lets nothing more of it be sent; at the first two stages none is there yet
abbrev pub is_end_by : Stage → Verdict → Bool
is_end_by Connect verdict = false
is_end_by Helo verdict = false
is_end_by stage verdict = is_final_at stage verdict

abbrev pub is_end_at : Option Stage → Option Answer → Bool
is_end_at None answer = false
is_end_at (Some stage) answer = has_verdict (is_end_by stage) answer

-- a message ends with this command and its answer
abbrev pub is_message_end : Command → Option Answer → Bool
is_message_end command answer = is_abort command || is_quit_new command || is_end_at (stage_of command) answer

-- DATA is refused
abbrev pub is_refused_data : Command → Option Answer → Bool
is_refused_data commands.DataCmd answer = has_verdict is_refusal answer
is_refused_data other answer = false
