-- What a splitter has in its buffer, and what it hands out.
use Rattle.std.specs.Prelude.{◌≡◌, ℕ, ◌≤◌, ◌<◌, List, [], length, take, Option, Some, None, Result, Ok, Err}
use Rattle.milter_fields.specs.declared.fault.WireFault.{WireFault}
use Rattle.milter_fields.specs.declared.number.TheConstants.{PACKET_MAX}
use Rattle.milter_fields.specs.declared.splitter.Packet.{Packet}
use Rattle.milter_fields.specs.FirstPacket.{IsAtMostOnePacket}
use Rattle.milter_fields.specs.Stream.{Frame}

-- the code and the payload of a packet that was handed out
abbrev pub frame_of : Packet → Frame
frame_of p = record { code = p.code; payload = p.payload.now }

-- the first bytes of a buffer with room for one packet are no more than that
pub record IsBuffer (len : ℕ) (buffer : List ℕ) : Type 0 where
  pub room : length buffer ≡ PACKET_MAX
  pub within : len ≤ PACKET_MAX
  pub one_packet : IsAtMostOnePacket (take len buffer)

-- A buffer with room for one packet begins with the unread bytes. While no byte is unread it may have no room.
pub record HasRoom (len : ℕ) (buffer : List ℕ) : Type 0 where
  pub within : len ≤ length buffer
  pub most : len ≤ PACKET_MAX
  pub one_packet : IsAtMostOnePacket (take len buffer)
  pub room : 0 < len → length buffer ≡ PACKET_MAX

-- a packet that is handed out isn't unread any more, and else all stays unread
abbrev pub LeavesUnread : List ℕ → List ℕ → Result (Option Packet) WireFault → Type 0
LeavesUnread old new (Ok (Some packet)) = new ≡ []
LeavesUnread old new (Ok None) = new ≡ old
LeavesUnread old new (Err fault) = new ≡ old
