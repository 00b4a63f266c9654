-- The packet that a piece begins with.
use Rattle.std.proofs.Common.{◌≡◌, ℕ, ◌+◌, ◌≤◌, List, ◌∷◌, ◌++◌, length, take, drop, Some, sym, ap, subst, ◌∙◌, inl, inr, arith, length-append, take-append-drop}
use Rattle.std.proofs.lemmas.Bool.{cases_lt}
use Rattle.std.proofs.lemmas.List.{length-take, take_all, take_at}
use Rattle.std.proofs.lemmas.Option.{none-some}
use Rattle.milter_fields.specs.declared.fault.WireFault.{WireFault}
use Rattle.milter_fields.specs.FirstPacket.{first_packet_end}
use Rattle.milter_fields.specs.Number.{number}
use Rattle.milter_fields.specs.Stream.{Frame, IsFrame, IsRest, IsUnfinished, first_frame, frame_bytes, length_fault}
use Rattle.milter_fields.proofs.FirstPackets.{first_packet_end-append, first_packet_end-le, unfinished_end}
use Rattle.milter_fields.proofs.Frames.{first_frame-packet, first_frame-rest}
use Rattle.milter_fields.proofs.Numbers.{length-number}
use Rattle.milter_fields.proofs.Pieces.{length_fault-append, rest_of_fault, rest_of_unfinished}

frame-length : (f : Frame) → length (frame_bytes f) ≡ length f.payload + 5
frame-length f = omega (arith, length-number (length f.payload + 1), length-append (number (length f.payload + 1)) (f.code ∷ f.payload))

module _ (piece : List ℕ) (n : ℕ) (f : Frame) (is : take n piece ≡ frame_bytes f) where
  begins : piece ≡ frame_bytes f ++ drop n piece
  begins = sym (take-append-drop n piece) ∙ ap (λ (x : List ℕ). x ++ drop n piece) is

  pub first-bytes : take (length f.payload + 5) piece ≡ frame_bytes f
  first-bytes = ap (take (length f.payload + 5)) begins ∙ take_at (frame_bytes f) (drop n piece) _ (frame-length f)

  pub first-within : length f.payload + 5 ≤ length piece
  first-within = omega (arith, ap length begins, length-append (frame_bytes f) (drop n piece), frame-length f)

  pub first-no_rest : IsFrame f → IsRest piece → ⊥
  first-no_rest fits rest = none-some (f, drop n piece) (sym (first_frame-rest piece rest) ∙ ap first_frame begins ∙ first_frame-packet f (drop n piece) fits)

-- no whole packet is within its end
pub rest-unfinished : (piece : List ℕ) → IsUnfinished (take (first_packet_end piece) piece) → IsRest piece
rest-unfinished piece unfinished =
    let end = first_packet_end piece in
    let first = take end piece in
    elim (cases_lt end (length piece)) [
      | inl lt ↦
          let len : length first ≡ end = omega (arith, length-take end piece, lt) in
          let least = first_packet_end-le piece in
          let same : end ≡ first_packet_end first = sym (ap first_packet_end (take-append-drop end piece)) ∙ first_packet_end-append first (drop end piece) (omega (arith, len, least)) in
          absurd (omega (arith, len, same, unfinished_end first unfinished))
      | inr le ↦ rest_of_unfinished piece (subst IsUnfinished (take_all end piece le) unfinished)
    ]

pub rest-fault : (piece : List ℕ) (n : ℕ) (fault : WireFault) → length_fault (take n piece) ≡ Some fault → IsRest piece
rest-fault piece n fault is =
    rest_of_fault piece fault (ap length_fault (sym (take-append-drop n piece)) ∙ length_fault-append (take n piece) (drop n piece) fault is)
