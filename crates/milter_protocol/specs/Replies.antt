-- What a filter replies to a command.
use Rattle.std.specs.Prelude.{List, [], ◌∷◌, ◌++◌, map, Option, None, Some, if◌then◌else◌}
use Rattle.milter_wire.specs.declared.options.TheConstants.Protocol.{NR_UNKN}
use Rattle.milter_wire.specs.declared.negotiation.Negotiated.{Negotiated}
use Rattle.milter_wire.specs.declared.command.Command.{Command}
use Rattle.milter_wire.specs.declared.command.Command.TheVariants as commands
use Rattle.milter_wire.specs.declared.reply.Reply.{Reply}
use Rattle.milter_wire.specs.declared.reply.Reply.TheVariants as replies
use Rattle.milter_wire.specs.Negotiation.{negotiate, has}
use Rattle.milter_wire.specs.Verdicts as verdicts
use Rattle.milter_message.specs.EditReplies as edits
use Rattle.milter_protocol.specs.declared.answer.Answer.{Answer}
use Rattle.milter_protocol.specs.Behavior.{Behavior}

-- the edits, and then the verdict
abbrev pub replies_of_answer : Option Answer → List Reply
replies_of_answer None = []
replies_of_answer (Some answer) = map edits.reply_of answer.edits ++ verdicts.reply_of answer.verdict ∷ []

-- unknown commands of the client are always let go on
abbrev pub replies_to_unknown : Option Negotiated → List Reply
replies_to_unknown None = []
replies_to_unknown (Some negotiated) = if has negotiated (Some NR_UNKN) then [] else replies.Continue ∷ []

-- the reply that states what was negotiated
abbrev pub options_reply : Negotiated → Reply
options_reply negotiated = replies.Options negotiated.options negotiated.lists

-- the replies to a command that has this answer, by what was negotiated before it
abbrev pub replies_to : Behavior → Option Negotiated → Command → Option Answer → List Reply
replies_to b negotiated (commands.Options offer) answer = options_reply (negotiate offer b.wants b.lists) ∷ []
replies_to b negotiated (commands.Unknown text) answer = replies_to_unknown negotiated
replies_to b negotiated other answer = replies_of_answer answer
