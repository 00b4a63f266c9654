-- A mail server's end in the midst of its dialogue about a message: after some exchanges, the latest first, where some
-- commands are left of the plan.
use Rattle.std.specs.Prelude.{List, [], ◌∷◌, Option, None, Some, if◌then◌else◌}
use Rattle.std.specs.List.{filter}
use Rattle.milter_wire.specs.declared.negotiation.Negotiated.{Negotiated}
use Rattle.milter_wire.specs.declared.command.Command.{Command}
use Rattle.milter_wire.specs.declared.stage.Stage.{Stage}
use Rattle.milter_wire.specs.Stages.{stage_of}
use Rattle.milter_protocol.specs.declared.answer.Answer.{Answer}
use Rattle.milter_protocol.specs.Commands.{is_of_connection}
use Rattle.milter_protocol.specs.Exchanges.{Exchange}
use Rattle.milter_protocol.specs.Dialogue.{is_closed, sendable}
use Rattle.milter_mta_outcome.specs.declared.acted_verdicts.Acted.{Acted}
use Rattle.milter_mta_outcome.specs.Dialogues.{acted}
use Rattle.milter_mta.specs.Mta.{Mta, Position, at_packet}
use Rattle.milter_mta.specs.Mta.Position.{Sending}
use Rattle.milter_mta.specs.Replies.{at}
use Rattle.milter_mta.specs.Dispositions.{settled}

-- the verdicts of the dialogue were acted on, no edit has come since, and the first of these commands is sent next
abbrev pub position_in : Negotiated → List Exchange → List Command → Position
position_in negotiated dialogue left = Sending negotiated (acted dialogue) [] (sendable dialogue left)

abbrev pub at_dialogue : Negotiated → List Exchange → List Command → Mta → Mta
at_dialogue negotiated dialogue left m = at (at_packet (position_in negotiated dialogue left)) m

-- the exchanges about the client, which each message of its connection begins with
abbrev pub opening_of : List Exchange → List Exchange
opening_of dialogue = filter (λ exchange. is_of_connection exchange.command) dialogue

-- ---- settled by the last answer of a dialogue

abbrev pub settled_at : Negotiated → Option Stage → Option Answer → List Acted → Mta → Mta
settled_at negotiated (Some stage) (Some answer) acted m = settled negotiated stage answer.edits answer.verdict acted m
settled_at negotiated (Some stage) None acted m = m
settled_at negotiated None answer acted m = m

abbrev pub settled_by : Negotiated → List Exchange → Mta → Mta
settled_by negotiated [] m = m
settled_by negotiated (last ∷ before) m =
    settled_at negotiated (stage_of last.command) last.answer (acted (last ∷ before)) m

-- after a dialogue: settled where its last exchange closed it; else the first of these commands is sent next
abbrev pub after_dialogue : Negotiated → List Exchange → List Command → Mta → Mta
after_dialogue negotiated dialogue left m = if is_closed dialogue left then settled_by negotiated dialogue m
    else at_dialogue negotiated dialogue left m
