-- What a handle has, by kind.
use Rattle.std.specs.Prelude.{◌≡◌, ℕ, List, Option, Some, None}
use Rattle.milter_message.specs.declared.message.Held.{Held}
use Rattle.milter_protocol.specs.declared.answer.Answer.{Answer}
use Rattle.milter_filter_stream.specs.Conversations.{Conversation}
use Rattle.milter_filter_rules.specs.declared.rules.Rules.{Rules}
use Rattle.milter_trace.specs.PrintedPackets.{PrintedPackets}
use Rattle.milter_c_objects.specs.declared.decoded.Decoded.{Decoded}
use Rattle.milter_c_objects.specs.declared.mta_end.MtaEnd.{MtaEnd}
use Rattle.milter_c_objects.specs.declared.handle.Handle.{Handle}
use Rattle.milter_c_objects.specs.declared.object.Object.{Object}
use Rattle.milter_c_objects.specs.declared.object.Object.TheVariants as objects

abbrev pub stream_in : Option Object → Option (List ℕ)
stream_in (Some (objects.Stream unread)) = Some unread
stream_in (Some other) = None
stream_in None = None

abbrev pub decoded_in : Option Object → Option Decoded
decoded_in (Some (objects.Decoded decoded)) = Some decoded
decoded_in (Some other) = None
decoded_in None = None

abbrev pub trace_in : Option Object → Option PrintedPackets
trace_in (Some (objects.Trace packets)) = Some packets
trace_in (Some other) = None
trace_in None = None

abbrev pub filter_in : Option Object → Option Conversation
filter_in (Some (objects.Filter conversation)) = Some conversation
filter_in (Some other) = None
filter_in None = None

abbrev pub answer_in : Option Object → Option Answer
answer_in (Some (objects.Answer answer)) = Some answer
answer_in (Some other) = None
answer_in None = None

abbrev pub rules_in : Option Object → Option Rules
rules_in (Some (objects.Rules rules)) = Some rules
rules_in (Some other) = None
rules_in None = None

abbrev pub message_in : Option Object → Option Held
message_in (Some (objects.Message held)) = Some held
message_in (Some other) = None
message_in None = None

abbrev pub mta_in : Option Object → Option MtaEnd
mta_in (Some (objects.Mta end)) = Some end
mta_in (Some other) = None
mta_in None = None

-- the bytes that were taken and not handed out, of a handle with a stream of packets
abbrev pub stream_of : Handle → Option (List ℕ)
stream_of handle = stream_in handle.slot.object

-- the command or the reply, of a handle with what a packet is decoded to
abbrev pub decoded_of : Handle → Option Decoded
decoded_of handle = decoded_in handle.slot.object

-- the lines and the bytes that aren't printed yet, of a handle with a trace
abbrev pub trace_of : Handle → Option PrintedPackets
trace_of handle = trace_in handle.slot.object

-- the connection, of a handle with a filter's end
abbrev pub filter_of : Handle → Option Conversation
filter_of handle = filter_in handle.slot.object

-- the answer, of a handle with one
abbrev pub answer_of : Handle → Option Answer
answer_of handle = answer_in handle.slot.object

-- the rules, of a handle with some
abbrev pub rules_of : Handle → Option Rules
rules_of handle = rules_in handle.slot.object

-- the message, of a handle with one
abbrev pub message_of : Handle → Option Held
message_of handle = message_in handle.slot.object

-- the connection and what was given for its next call, of a handle with a mail server's end
abbrev pub mta_of : Handle → Option MtaEnd
mta_of handle = mta_in handle.slot.object

-- a handle has the object that it had, or is empty as it was
abbrev pub IsKept : Handle → Handle → Type 0
IsKept old new = new.slot.object ≡ old.slot.object
