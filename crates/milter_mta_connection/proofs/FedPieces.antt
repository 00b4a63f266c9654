-- What becomes of a channel by a piece of what a filter sends.
use Rattle.std.proofs.Common.{◌≡◌, ℕ, true, false, List, [], ◌++◌, Some, Err, sym, ◌∙◌, ap, subst, take, drop, length, ◌+◌, ◌<◌, take-add, take-append-drop}
use Rattle.std.specs.List.{fold}
use Rattle.std.proofs.lemmas.List.Sums.{fold-append}
use Rattle.milter_fields.specs.declared.fault.WireFault.{WireFault}
use Rattle.milter_fields.specs.declared.fault.WireFault.TheVariants.{NoMemory}
use Rattle.milter_fields.specs.Stream.{Frame, IsFrame, IsUnfinished, frame_bytes, length_fault}
use Rattle.milter_fields.proofs.StreamLaws.{length_fault-fed}
use Rattle.milter_wire.specs.Frames.{frame_reply}
use Rattle.milter_mta_outcome.specs.declared.loss.Loss.{Loss}
use Rattle.milter_mta_outcome.specs.declared.loss.Loss.TheVariants.{Fault, Memory, Reset, Timeout}
use Rattle.milter_mta_outcome.specs.declared.loss.MtaFault.TheVariants.{Early}
use Rattle.milter_mta_connection.specs.declared.channel_state.ChannelState.{ChannelState}
use Rattle.milter_mta_connection.specs.declared.filter_event.FilterEvent.{FilterEvent}
use Rattle.milter_mta_connection.specs.Channel.{Channel, is_expecting, is_owed}
use Rattle.milter_mta_connection.specs.ChannelParts.{ReceivesBy, Leaves, LeavesPrefix, channel_of}
use Rattle.milter_mta_connection.specs.Received.{After, ended, framed, goes_on, lost_by, received, received_byte, wire_loss}
use Rattle.milter_mta_connection.proofs.ReceivedFrames.{early, lost-stays, received-fault, received-packet, received-unfinished}

-- with a loss the rest of a piece is not received
pub whole-lost : (h : FilterEvent) (c : Channel) (loss : Loss) (piece : List ℕ) (n : ℕ) → fold received_byte (goes_on h c) (take n piece) ≡ lost_by loss h c
    → fold received_byte (goes_on h c) piece ≡ lost_by loss h c
whole-lost h c loss piece n is =
    ap (fold received_byte (goes_on h c)) (sym (take-append-drop n piece))
    ∙ fold-append received_byte (goes_on h c) (take n piece) (drop n piece)
    ∙ ap (λ (a : After). fold received_byte a (drop n piece)) is
    ∙ lost-stays h (ended h c) loss (drop n piece)

-- ---- up to the end of one packet

module _ (h : FilterEvent) (s : ChannelState) (unread piece new : List ℕ) (n : ℕ) (expecting : is_expecting s.expected ≡ true) (fed : new ≡ unread ++ take n piece) where
  -- it isn't whole
  pub leaves-kept : IsUnfinished new → fold received_byte (goes_on h (channel_of s [] unread)) (take n piece) ≡ goes_on h (channel_of s [] new)
  leaves-kept u =
      received-unfinished (take n piece) unread h (channel_of s [] []) expecting (subst IsUnfinished fed u)
      ∙ ap (λ (us : List ℕ). goes_on h (channel_of s [] us)) (sym fed)

  received-reply : (f : Frame) → IsUnfinished unread → IsFrame f → new ≡ frame_bytes f
      → fold received_byte (goes_on h (channel_of s [] unread)) (take n piece) ≡ framed (frame_reply f) h (channel_of s [] [])
  received-reply f u fits is = received-packet (take n piece) unread h (channel_of s [] []) f expecting u fits (sym fed ∙ is)

  -- its reply was received
  pub leaves-reply : (f : Frame) (state : ChannelState) (event : FilterEvent) → IsUnfinished unread → IsFrame f → new ≡ frame_bytes f
      → framed (frame_reply f) h (channel_of s [] []) ≡ goes_on event (channel_of state [] [])
      → fold received_byte (goes_on h (channel_of s [] unread)) (take n piece) ≡ goes_on event (channel_of state [] [])
  leaves-reply f state event u fits is leaves = received-reply f u fits is ∙ leaves

  -- the filter is lost by it
  pub leaves-lost : (f : Frame) (state : ChannelState) (us : List ℕ) (loss : Loss) → IsUnfinished unread → IsFrame f → new ≡ frame_bytes f
      → Leaves h (channel_of s [] []) (framed (frame_reply f) h (channel_of s [] [])) (channel_of state [] []) (Err loss)
      → LeavesPrefix h (channel_of s [] unread) piece (channel_of state [] us) (Err loss)
  leaves-lost f state us Memory u fits is leaves = tt
  leaves-lost f state us Reset u fits is leaves = whole-lost h (channel_of s [] unread) Reset piece n (received-reply f u fits is ∙ leaves)
  leaves-lost f state us Timeout u fits is leaves = whole-lost h (channel_of s [] unread) Timeout piece n (received-reply f u fits is ∙ leaves)
  leaves-lost f state us (Fault fault) u fits is leaves = whole-lost h (channel_of s [] unread) (Fault fault) piece n (received-reply f u fits is ∙ leaves)

  -- its length is at fault
  pub leaves-fault : (fault : WireFault) (state : ChannelState) (us : List ℕ) (loss : Loss) → IsUnfinished unread → length_fault new ≡ Some fault → loss ≡ wire_loss fault
      → LeavesPrefix h (channel_of s [] unread) piece (channel_of state [] us) (Err loss)
  leaves-fault NoMemory state us loss u is loss_is =
      subst (λ (l : Loss). LeavesPrefix h (channel_of s [] unread) piece (channel_of state [] us) (Err l)) (sym loss_is) tt
  leaves-fault fault state us loss u is loss_is =
      subst (λ (l : Loss). LeavesPrefix h (channel_of s [] unread) piece (channel_of state [] us) (Err l)) (sym loss_is)
      (received-fault piece unread h (channel_of s [] []) fault expecting u (length_fault-fed unread piece new n fault fed is))

-- ---- a piece

module _ (old c : Channel) (h : FilterEvent) (piece : List ℕ) (i : ℕ) (so_far : received old (take i piece) ≡ goes_on h c) where
  pub received-more : (n : ℕ) (after : After) → fold received_byte (goes_on h c) (take n (drop i piece)) ≡ after → received old (take (i + n) piece) ≡ after
  received-more n after is =
      ap (received old) (take-add i n piece)
      ∙ fold-append received_byte _ (take i piece) (take n (drop i piece))
      ∙ ap (λ (a : After). fold received_byte a (take n (drop i piece))) so_far
      ∙ is

  pub received-rest : (after : After) → fold received_byte (goes_on h c) (drop i piece) ≡ after → received old piece ≡ after
  received-rest after is =
      ap (received old) (sym (take-append-drop i piece))
      ∙ fold-append received_byte _ (take i piece) (drop i piece)
      ∙ ap (λ (a : After). fold received_byte a (drop i piece)) so_far
      ∙ is

  -- something came while nothing was expected
  pub receives-early : is_owed c ≡ false → 0 < length (drop i piece) → received old piece ≡ lost_by (Fault Early) h c
  receives-early owed some = received-rest _ (early h c (drop i piece) owed some)

  -- the filter is lost by the next bytes
  pub receives-lost : (new : Channel) (loss : Loss) → i < length piece → is_owed c ≡ true → new ≡ ended h c
      → LeavesPrefix h c (drop i piece) c (Err loss) → ReceivesBy (Some loss) old piece new h
  receives-lost new Memory within owed new_is leaves = record {
    count = i;
    before = c;
    within = within;
    received_before = so_far;
    owed_before = owed;
    lost_then = new_is;
  }
  receives-lost new Reset within owed new_is leaves = received-rest _ leaves ∙ ap (λ (k : Channel). record { channel = k; event = h; loss = Some Reset }) (sym new_is)
  receives-lost new Timeout within owed new_is leaves = received-rest _ leaves ∙ ap (λ (k : Channel). record { channel = k; event = h; loss = Some Timeout }) (sym new_is)
  receives-lost new (Fault fault) within owed new_is leaves = received-rest _ leaves ∙ ap (λ (k : Channel). record { channel = k; event = h; loss = Some (Fault fault) }) (sym new_is)
