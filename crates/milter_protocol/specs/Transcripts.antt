-- What a filter knows by the transcript of a connection: parts of it, the latest first.
use Rattle.std.specs.Prelude.{ℕ, min, Bool, true, false, ◌||◌, List, [], ◌∷◌, ◌++◌, Option, None, Some, is_some}
use Rattle.std.specs.List.{filter, filter_map, list_any}
use Rattle.milter_wire.specs.declared.negotiation.Negotiated.{Negotiated}
use Rattle.milter_wire.specs.declared.command.Command.{Command}
use Rattle.milter_wire.specs.declared.command.Command.TheVariants as commands
use Rattle.milter_wire.specs.declared.stage.Stage.{Stage}
use Rattle.milter_wire.specs.Negotiation.{negotiate, has_leading_space}
use Rattle.milter_wire.specs.Stages.{stage_of}
use Rattle.milter_protocol.specs.Behavior.{Behavior}
use Rattle.milter_protocol.specs.Exchanges.{Exchange, commands_of, latest, since, up_to}
use Rattle.milter_protocol.specs.StageOrder.{rank_of}
use Rattle.milter_protocol.specs.Commands.{is_message_end, is_of_connection, is_quit_new, is_shown}

-- ---- kinds of exchanges

-- another connection of a client follows
abbrev pub begins_anew : Exchange → Bool
begins_anew exchange = is_quit_new exchange.command

abbrev pub ends_message : Exchange → Bool
ends_message exchange = is_message_end exchange.command exchange.answer

abbrev pub has_stage : Exchange → Bool
has_stage exchange = is_some (stage_of exchange.command)

-- ---- what was negotiated

abbrev pub negotiated_by : Behavior → Command → Option Negotiated
negotiated_by b (commands.Options offer) = Some (negotiate offer b.wants b.lists)
negotiated_by b other = None

abbrev pub negotiated_in : Behavior → List Exchange → Option Negotiated
negotiated_in b transcript = latest (filter_map (negotiated_by b) (commands_of transcript))

-- whether values of header fields come with leading spaces
abbrev pub has_leading_space_in : Option Negotiated → Bool
has_leading_space_in None = false
has_leading_space_in (Some negotiated) = has_leading_space negotiated

-- ---- what is shown

-- of the connection: all since another one began
abbrev pub of_connection : List Exchange → List Command
of_connection transcript = filter is_of_connection (commands_of (since begins_anew transcript))

-- all since the last message ended, and of what was before that the part of the connection
abbrev pub shown : List Exchange → List Command
shown transcript =
    filter is_shown (commands_of (since ends_message transcript)) ++ of_connection (up_to ends_message transcript)

-- ---- the order of stages

abbrev pub rank_at : Option Stage → ℕ
rank_at None = 0
rank_at (Some stage) = rank_of stage

-- the rank from which a message goes on: after its end that of the greeting at most
abbrev pub rank_from : Bool → ℕ → ℕ
rank_from true rank = min 2 rank
rank_from false rank = rank

-- by the last command of a stage, and whether a message has ended since then, or with it
abbrev pub rank_after : Bool → List Exchange → ℕ
rank_after has_ended [] = 0
rank_after has_ended (last ∷ before) = rank_from (has_ended || ends_message last) (rank_at (stage_of last.command))

abbrev pub rank_in : List Exchange → ℕ
rank_in transcript = rank_after (list_any ends_message (since has_stage transcript)) (up_to has_stage transcript)

-- the rank of the last stage since another connection began; 0 where there was none
abbrev pub last_rank : List Exchange → ℕ
last_rank transcript = rank_in (since begins_anew transcript)
