-- What packets are decoded to.
use Rattle.std.specs.Prelude.{◌≡◌, Result, Ok, Err}
use Rattle.milter_fields.specs.Stream.{Frame}
use Rattle.milter_fields.specs.declared.fault.WireFault.{WireFault}
use Rattle.milter_fields.specs.declared.fault.WireFault.TheVariants.{NoMemory}
use Rattle.milter_wire.specs.Frames.{frame_command, frame_reply}
use Rattle.milter_wire.specs.Tables.{map_ok}
use Rattle.milter_c_objects.specs.declared.decoded.Decoded.{Decoded}
use Rattle.milter_c_objects.specs.declared.decoded.Decoded.TheVariants as packets

-- the command that a packet to a filter has, or its fault
abbrev pub decoded_command : Frame → Result Decoded WireFault
decoded_command frame = map_ok packets.Command (frame_command frame)

-- the reply that a packet of a filter has, or its fault
abbrev pub decoded_reply : Frame → Result Decoded WireFault
decoded_reply frame = map_ok packets.Reply (frame_reply frame)

-- what is answered of this, unless memory is refused
abbrev pub IsRead : Result Decoded WireFault → Result Decoded WireFault → Type 0
IsRead read (Ok decoded) = read ≡ Ok decoded
IsRead read (Err NoMemory) = Unit {0}
IsRead read (Err fault) = read ≡ Err fault
