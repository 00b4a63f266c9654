-- The laws of streams, for proofs in the crates above: each is also the contract of a function in src/laws.rt.
use Rattle.std.proofs.Common.{◌≡◌, ◌≢◌, ℕ, ◌<◌, ◌^◌, List, [], ◌++◌, take, drop, None, Some}
use Rattle.milter_fields.specs.declared.fault.WireFault.{WireFault}
use Rattle.milter_fields.specs.Stream.{Frame, IsFrame, IsUnfinished, divide, frame_bytes, length_fault, with_frame}
use Rattle.milter_fields.specs.Number.{BeginsWithNumber, IsBytes, number, number_at}
use Rattle.milter_fields.specs.Packet.{IsPayload, packet}
use Rattle.milter_fields.proofs.Division as division
use Rattle.milter_fields.proofs.Numbers as numbers
use Rattle.milter_fields.proofs.PacketLaws as packets
use Rattle.milter_fields.proofs.Pieces as pieces

-- a stream that goes on has the packets that it had, and then those of what was left and what came
pub divide-append : (bytes more : List ℕ) → divide (bytes ++ more)
    ≡ record { frames = (divide bytes).frames ++ (divide ((divide bytes).rest ++ more)).frames; rest = (divide ((divide bytes).rest ++ more)).rest }
divide-append = division.divide-append

pub divide-nil : divide [] ≡ record { frames = []; rest = [] }
divide-nil = pieces.divide-nil

-- bytes that begin with no packet and no fault
pub divide-unfinished : (bytes : List ℕ) → IsUnfinished bytes → divide bytes ≡ record { frames = []; rest = bytes }
divide-unfinished = pieces.divide-unfinished

pub length_fault-unfinished : (bytes : List ℕ) → IsUnfinished bytes → length_fault bytes ≡ None
length_fault-unfinished = pieces.no_fault-unfinished

-- what was fed, and what is left of the piece, are what was unread and the piece
pub fed_on : (unread piece new : List ℕ) (n : ℕ) → new ≡ unread ++ take n piece → new ++ drop n piece ≡ unread ++ piece
fed_on = pieces.fed_on

-- a packet that is handed out after a piece was fed is the first of the stream
pub divide-handed : (unread piece new : List ℕ) (n : ℕ) (f : Frame) → new ≡ unread ++ take n piece → new ≡ frame_bytes f → IsFrame f
    → divide (unread ++ piece) ≡ with_frame f (divide (drop n piece))
divide-handed = pieces.divide-handed

-- a fault that is answered after a piece was fed is at the start of the stream
pub divide-fault : (unread piece new : List ℕ) (n : ℕ) (f : WireFault) → new ≡ unread ++ take n piece → length_fault new ≡ Some f
    → divide (unread ++ piece) ≡ record { frames = []; rest = unread ++ piece }
divide-fault unread piece new n f fed is = (pieces.divide-at_fault unread piece new n f fed is).division

pub length_fault-fed : (unread piece new : List ℕ) (n : ℕ) (f : WireFault) → new ≡ unread ++ take n piece → length_fault new ≡ Some f → length_fault (unread ++ piece) ≡ Some f
length_fault-fed unread piece new n f fed is = (pieces.divide-at_fault unread piece new n f fed is).fault

-- ---- numbers and packets

pub number_at-number : (n : ℕ) (rest : List ℕ) → n < 2 ^ 32 → number_at (number n ++ rest) ≡ Some (n, rest)
number_at-number = numbers.number_at-number

pub number_takes : (bytes : List ℕ) (n : ℕ) (rest : List ℕ) → IsBytes bytes → number_at bytes ≡ Some (n, rest) → BeginsWithNumber bytes n rest
number_takes = numbers.number_takes

pub packet-same : (code other : ℕ) (payload others : List ℕ) → packet code payload ≡ packet other others → (code ≡ other) × (payload ≡ others)
packet-same = packets.packet-same

pub packet-whole : (code other : ℕ) (payload others more : List ℕ) → IsPayload payload → IsPayload others → packet code payload ++ more ≡ packet other others → more ≡ []
packet-whole = packets.packet-whole

pub prefix-unfinished : (bytes more : List ℕ) (f : Frame) → IsFrame f → more ≢ [] → bytes ++ more ≡ frame_bytes f → IsUnfinished bytes
prefix-unfinished = packets.prefix-unfinished
