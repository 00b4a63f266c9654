-- A stream of bytes, divided into packets.
use Rattle.std.specs.Prelude.{◌≡◌, ℕ, zero, suc, ◌+◌, ◌-◌, ◌<◌, nat_lt, nat_le, ◌==◌, ◌&&◌, List, [], ◌∷◌, ◌++◌, length, take, drop, All, Option, Some, None, is_none, if◌then◌else◌}
use Rattle.std.specs.List.{flat_map}
use Rattle.milter_fields.specs.declared.fault.WireFault.{WireFault}
use Rattle.milter_fields.specs.declared.fault.WireFault.TheVariants.{ZeroLength, TooLong}
use Rattle.milter_fields.specs.declared.number.TheConstants.{LENGTH_MAX}
use Rattle.milter_fields.specs.Packet.{packet, IsPayload}
use Rattle.milter_fields.specs.Number.{number_from_bytes}

-- ---- frames

-- a packet's code and payload
pub record Frame : Type 0 where
  pub code : ℕ
  pub payload : List ℕ

abbrev pub frame_bytes : Frame → List ℕ
frame_bytes f = packet f.code f.payload

-- a packet has room for it
abbrev pub IsFrame : Frame → Type 0
IsFrame f = IsPayload f.payload

-- ---- length fields

-- the fault of a length that no packet has
abbrev pub fault_of : ℕ → Option WireFault
fault_of n = if n == 0 then Some ZeroLength else if nat_lt LENGTH_MAX n then Some (TooLong n) else None

-- the fault of the length field that bytes begin with, if it is whole and has one
abbrev pub length_fault : List ℕ → Option WireFault
length_fault (a ∷ b ∷ c ∷ d ∷ body) = fault_of (number_from_bytes a b c d)
length_fault _ = None

-- ---- the division of a stream

-- Bytes that begin with no packet and no fault: fewer than four, or fewer than a valid length field states.
abbrev pub IsUnfinished : List ℕ → Type 0
IsUnfinished (a ∷ b ∷ c ∷ d ∷ body) =
    (fault_of (number_from_bytes a b c d) ≡ None) × (length body < number_from_bytes a b c d)
IsUnfinished _ = Unit {0}

-- Bytes that begin with no packet: fewer than four, or a length that no packet has, or fewer than it states.
abbrev pub IsRest : List ℕ → Type 0
IsRest (a ∷ b ∷ c ∷ d ∷ body) = fault_of (number_from_bytes a b c d) ≡ None → length body < number_from_bytes a b c d
IsRest _ = Unit {0}

-- The bytes are these packets, one after the other, and then a rest that begins with none.
pub record Divides (bytes : List ℕ) (frames : List Frame) (rest : List ℕ) : Type 0 where
  pub bytes_are : bytes ≡ flat_map frame_bytes frames ++ rest
  pub frames_fit : All IsFrame frames
  pub rest_is : IsRest rest

-- ---- the division as it computes

-- the packet that bytes begin with, if it is whole, and the bytes after it
unfoldable pub first_frame : List ℕ → Option (Frame × List ℕ)
first_frame (a ∷ b ∷ c ∷ d ∷ code ∷ body) =
    let n = number_from_bytes a b c d in
    if is_none (fault_of n) && nat_le n (length body + 1)
    then Some (record { code = code; payload = take (n - 1) body }, drop (n - 1) body)
    else None
first_frame _ = None

-- the packets of a stream, and what is left
pub record Division : Type 0 where
  pub frames : List Frame
  pub rest : List ℕ

abbrev pub with_frame : Frame → Division → Division
with_frame f d = record { frames = f ∷ d.frames; rest = d.rest }

-- the first packet, if there is one, and then the others of what follows it
abbrev pub from_first : List ℕ → Option (Frame × List ℕ) → (List ℕ → Division) → Division
from_first bytes None others = record { frames = []; rest = bytes }
from_first bytes (Some first) others = with_frame first.0 (others first.1)

-- One packet after the other. A stream has fewer packets than bytes, so as many turns as it has bytes are enough.
unfoldable pub divide_in : ℕ → List ℕ → Division
divide_in zero bytes = record { frames = []; rest = bytes }
divide_in (suc turns) bytes = from_first bytes (first_frame bytes) (divide_in turns)

unfoldable pub divide : List ℕ → Division
divide bytes = divide_in (length bytes) bytes
