-- Bytes that begin with no packet, and those of one packet.
use Rattle.std.proofs.Common.{◌≡◌, ℕ, ◌+◌, List, [], ◌∷◌, ◌++◌, length, Option, None, Some, sym, ◌∙◌, ap, append-nil, arith, length-append}
use Rattle.milter_fields.specs.declared.fault.WireFault.{WireFault}
use Rattle.milter_fields.specs.Stream.{Frame, IsFrame, IsUnfinished, fault_of, first_frame, frame_bytes, length_fault}
use Rattle.milter_fields.proofs.Frames.{fault_of-valid, first_frame-packet, first_frame-rest}
use Rattle.milter_fields.proofs.Numbers.{four_bytes}
use Rattle.milter_fields.proofs.PacketLaws.{packet_cells}
use Rattle.milter_fields.proofs.Pieces.{rest_of_unfinished}

pub no_frame-unfinished : (bytes : List ℕ) → IsUnfinished bytes → first_frame bytes ≡ None
no_frame-unfinished bytes u = first_frame-rest bytes (rest_of_unfinished bytes u)

-- nor do fewer of them
pub unfinished-before : (bytes more : List ℕ) → IsUnfinished (bytes ++ more) → IsUnfinished bytes
unfinished-before (a ∷ b ∷ c ∷ d ∷ body) more u =
    let less = u.1 in
    (u.0, omega (arith, less, length-append body more))
unfinished-before [] more u = tt
unfinished-before (a ∷ []) more u = tt
unfinished-before (a ∷ b ∷ []) more u = tt
unfinished-before (a ∷ b ∷ c ∷ []) more u = tt

no_frame_there : (first : Frame × List ℕ) (found : Option (Frame × List ℕ)) → found ≡ Some first → found ≡ None → ⊥
no_frame_there first found some none = cc

pub first-packet : (bytes : List ℕ) (f : Frame) → IsFrame f → bytes ≡ frame_bytes f → first_frame bytes ≡ Some (f, [])
first-packet bytes f fits is = ap first_frame (is ∙ sym (append-nil (frame_bytes f))) ∙ first_frame-packet f [] fits

-- a whole packet is no such bytes
pub unfinished-no_packet : (bytes : List ℕ) (f : Frame) → IsFrame f → IsUnfinished bytes → bytes ≡ frame_bytes f → ⊥
unfinished-no_packet bytes f fits u is = no_frame_there (f, []) (first_frame bytes) (first-packet bytes f fits is) (no_frame-unfinished bytes u)

pub no_fault-packet : (bytes : List ℕ) (f : Frame) → IsFrame f → bytes ≡ frame_bytes f → length_fault bytes ≡ None
no_fault-packet bytes f fits is =
    let k = four_bytes (length f.payload + 1) (omega arith) in
    ap length_fault (is ∙ packet_cells f k) ∙ ap fault_of k.value ∙ fault_of-valid (length f.payload + 1) (omega arith) (omega arith)

pub no_fault_there : (f : WireFault) (found : Option WireFault) → found ≡ Some f → found ≡ None → ⊥
no_fault_there f found some none = cc
