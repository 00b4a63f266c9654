-- Commands and replies as the frames of a stream: the frame of each, and what a frame is decoded to.
use Rattle.std.specs.Prelude.{ℕ, Bool, true, false, List, ◌++◌, Option, None, Some, Result, Ok, Err}
use Rattle.milter_fields.specs.declared.fault.WireFault.{WireFault}
use Rattle.milter_fields.specs.declared.fault.WireFault.TheVariants.{UnknownCode, Malformed}
use Rattle.milter_fields.specs.Stream.{Division, Frame, divide}
use Rattle.milter_wire.specs.declared.command.Command.{Command}
use Rattle.milter_wire.specs.declared.reply.Reply.{Reply}
use Rattle.milter_wire.specs.Command as commands
use Rattle.milter_wire.specs.Reply as replies

-- the value that was read, or the fault: of the code where the table lacks it, else of the payload
abbrev pub value_or_fault : {V : Type 0} → ℕ → Bool → Option V → Result V WireFault
value_or_fault code false read = Err (UnknownCode code)
value_or_fault code true None = Err (Malformed code)
value_or_fault code true (Some value) = Ok value

-- ---- frames to the filter

-- the command that a frame encodes, or its fault
abbrev pub frame_command : Frame → Result Command WireFault
frame_command f = value_or_fault f.code (commands.is_code f.code) (commands.command_in f.code f.payload)

abbrev pub command_frame : Command → Frame
command_frame c = record { code = commands.code_of c; payload = commands.payload_of c }

-- ---- frames to the mail server

-- the reply that a frame encodes, or its fault
abbrev pub frame_reply : Frame → Result Reply WireFault
frame_reply f = value_or_fault f.code (replies.is_code f.code) (replies.reply_in f.code f.payload)

abbrev pub reply_frame : Reply → Frame
reply_frame r = record { code = replies.code_of r; payload = replies.payload_of r }

-- ---- streams

-- the division of a stream that begins with these frames
abbrev pub frames_and : List Frame → List ℕ → Division
frames_and frames more = record { frames = frames ++ (divide more).frames; rest = (divide more).rest }
