-- A stream of one packet, and one that begins with a packet or a fault.
use Rattle.std.proofs.Common.{◌≡◌, ℕ, false, if◌then◌else◌, List, [], ◌∷◌, ◌++◌, take, drop, map, Option, None, Some, Ok, Err, refl, sym, ◌∙◌, ap, append-nil, inl, inr}
use Rattle.milter_fields.specs.declared.fault.WireFault.{WireFault}
use Rattle.milter_fields.specs.Stream.{Division, Frame, IsFrame, IsUnfinished, divide, first_frame, frame_bytes, length_fault, with_frame}
use Rattle.milter_fields.proofs.Division.{divide-first}
use Rattle.milter_fields.proofs.Frames.{first_frame-packet}
use Rattle.milter_fields.proofs.StreamLaws.{divide-fault, divide-handed, divide-nil, divide-unfinished, length_fault-fed}
use Rattle.milter_wire.specs.Frames.{frame_command}
use Rattle.milter_wire.specs.declared.negotiation.Negotiated.{Negotiated}
use Rattle.milter_wire.specs.declared.command.Command.TheVariants.{Abort}
use Rattle.milter_protocol.specs.declared.stage_order.CommandOrder.{CommandOrder}
use Rattle.milter_protocol.specs.declared.stage_order.CommandOrder.TheVariants.{Lenient, Strict}
use Rattle.milter_protocol.specs.Aborts.{needs_abort}
use Rattle.milter_protocol.specs.declared.filter_fault.FilterFault.{FilterFault}
use Rattle.milter_protocol.specs.declared.filter_fault.FilterFault.TheVariants.{Wire}
use Rattle.milter_protocol.specs.declared.filter_fault.FilterState.TheVariants.{Failed}
use Rattle.milter_protocol.specs.FilterEnds.{Received}
use Rattle.milter_protocol.specs.OrderStates.{OrderState, nothing_kept, order_state_before, order_step_in}
use Rattle.milter_protocol.specs.Steps.{Step, silent, steps}
use Rattle.milter_filter_stream.specs.Asking.{Asking, asking_after, asking_next}
use Rattle.milter_filter_stream.specs.Conversations.{GivesUpIn}
use Rattle.milter_protocol.specs.Questions.{AskState, IsTaking, Wanted, ask_after, ask_replies, ask_step, ask_step_from, ask_step_in, unasked, unquestioned}
use Rattle.milter_filter_stream.specs.Streams.{IsOnePacketAtMost, fault_after, read_in, received_in}

-- ---- one packet

divide-one : (f : Frame) → IsFrame f → divide (frame_bytes f) ≡ record { frames = f ∷ []; rest = [] }
divide-one f fits =
    let first = ap first_frame (sym (append-nil (frame_bytes f))) ∙ first_frame-packet f [] fits in
    divide-first (frame_bytes f) f [] first ∙ ap (with_frame f) divide-nil

module _ (w : Wanted) (old : Asking) where
  pub replied-packet : (f : Frame) (bytes : List ℕ) (new : Asking) → IsFrame f → bytes ≡ frame_bytes f → new ≡ asking_next w old (frame_command f)
      → new ≡ asking_after w old (read_in bytes)
  replied-packet f bytes new fits is e = rw (is, divide-one f fits, append-nil) e

  -- no packet yet
  pub replied-unfinished : (bytes : List ℕ) → IsUnfinished bytes → old ≡ asking_after w old (read_in bytes)
  replied-unfinished bytes unfinished = rw (divide-unfinished bytes unfinished) (ap (λ pending. record { state = old.state; pending = pending }) (sym (append-nil old.pending)))

pub rest-packet : (f : Frame) (bytes : List ℕ) → IsFrame f → bytes ≡ frame_bytes f → [] ≡ (divide bytes).rest
rest-packet f bytes fits is = rw (is, divide-one f fits) refl

pub rest-unfinished : (bytes : List ℕ) → IsUnfinished bytes → bytes ≡ (divide bytes).rest
rest-unfinished bytes unfinished = rw (divide-unfinished bytes unfinished) refl

pub one-packet : (f : Frame) (bytes : List ℕ) → IsFrame f → bytes ≡ frame_bytes f → IsOnePacketAtMost bytes
one-packet f bytes fits is =
    let d : divide bytes ≡ record { frames = f ∷ []; rest = [] } = ap divide is ∙ divide-one f fits in
    inr (frame_command f, ap (λ (x : Division). map frame_command x.frames) d, ap (λ (x : Division). x.rest) d)

pub one-unfinished : (bytes : List ℕ) → IsUnfinished bytes → IsOnePacketAtMost bytes
one-unfinished bytes unfinished = inl (ap (λ (x : Division). map frame_command x.frames) (divide-unfinished bytes unfinished))

-- ---- faults

abbrev failed_state : FilterFault → AskState
failed_state fault = unquestioned (nothing_kept (Failed fault))

failed-stays : (w : Wanted) (fault : FilterFault) (received : List Received) → steps (ask_step w) (failed_state fault) received ≡ silent (failed_state fault)
failed-stays w fault [] = refl
failed-stays w fault (first ∷ more) = failed-stays w fault more

module _ (w : Wanted) (s : AskState) (unread piece new : List ℕ) (n : ℕ) (fed : new ≡ unread ++ take n piece) where
  pub packet-gives_up : (f : Frame) (fault : FilterFault) → new ≡ frame_bytes f → IsFrame f → (ask_step w s (frame_command f)).after ≡ unquestioned (nothing_kept (Failed fault))
      → (ask_step w s (frame_command f)).replies ≡ [] → GivesUpIn w s (received_in (unread ++ piece)) fault
  packet-gives_up f fault is fits at_fault silent =
      let more = divide (drop n piece) in
      let others = map frame_command more.frames ++ fault_after (length_fault more.rest) in
      let handed : received_in (unread ++ piece) ≡ frame_command f ∷ others =
      ap (λ (d : Division). map frame_command d.frames ++ fault_after (length_fault d.rest)) (divide-handed unread piece new n f fed is fits) in
      record {
        failed =
            ap (ask_after w s) handed
            ∙ ap (λ (x : AskState). ask_after w x others) at_fault
            ∙ ap (λ (x : Step AskState). x.after) (failed-stays w fault others);
        silent =
            ap (ask_replies w s) handed
            ∙ ap (λ rs. rs ++ ask_replies w (ask_step w s (frame_command f)).after others) silent
            ∙ ap (λ (x : AskState). ask_replies w x others) at_fault
            ∙ ap (λ (x : Step AskState). x.replies) (failed-stays w fault others);
      }

  -- a fault is no greeting
  no-abort : (order : CommandOrder) (negotiated : Option Negotiated) (last : ℕ) (fault : WireFault) → needs_abort order negotiated last (Err fault) ≡ false
  no-abort Strict negotiated last fault = refl
  no-abort Lenient None last fault = refl
  no-abort Lenient (Some negotiated) last fault = refl

  ready-fault : (t : OrderState) (fault : WireFault) → order_state_before (unasked w) t (Err fault) ≡ t
  ready-fault t fault = ap (λ aborts. if aborts then (order_step_in (unasked w) t (Ok Abort) t.state).after else t) (no-abort t.order t.negotiated t.last_rank fault)

  step-fault : (fault : WireFault) → IsTaking s → ask_step w s (Err fault) ≡ silent (unquestioned (nothing_kept (Failed (Wire fault))))
  step-fault fault taking =
      let t = s.order_state in
      ap (ask_step_from w t (Err fault)) taking.unasked
      ∙ ap (λ (ready : OrderState). ask_step_in w ready (Err fault) ready.state) (ready-fault t fault)
      ∙ ap (ask_step_in w t (Err fault)) taking.serving

  pub length-gives_up : (fault : WireFault) → IsTaking s → length_fault new ≡ Some fault → GivesUpIn w s (received_in (unread ++ piece)) (Wire fault)
  length-gives_up fault taking is =
      let received : received_in (unread ++ piece) ≡ Err fault ∷ [] = rw (divide-fault unread piece new n fault fed is, length_fault-fed unread piece new n fault fed is) refl in
      let step = step-fault fault taking in
      record {
        failed = ap (ask_after w s) received ∙ ap (λ (x : Step AskState). x.after) step;
        silent = ap (ask_replies w s) received ∙ ap (λ (x : Step AskState). x.replies ++ []) step;
      }
