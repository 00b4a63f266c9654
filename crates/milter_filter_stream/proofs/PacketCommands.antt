-- The command of a packet.
use Rattle.std.proofs.Common.{◌≡◌, ◌≢◌, if◌then◌else◌, ℕ, ◌+◌, ◌<◌, Bool, true, false, Option, None, Some, Result, Ok, Err, length, get_or, refl, sym, ◌∙◌, ap, IfOk}
use Rattle.milter_fields.specs.declared.fault.WireFault.{WireFault}
use Rattle.milter_fields.specs.Packet.{packet}
use Rattle.milter_fields.specs.Stream.{Frame, IsFrame}
use Rattle.milter_wire.specs.declared.command.Command.{Command}
use Rattle.milter_wire.specs.Command.{IsEncodedAs, command_in, encoding, is_code}
use Rattle.milter_wire.specs.declared.command_ref.CommandRef.{CommandRef}
use Rattle.milter_wire.specs.Tables.{map_ok}
use Rattle.milter_wire.specs.BorrowedCommand.{command_of}
use Rattle.milter_wire.specs.Frames.{frame_command, value_or_fault}
use Rattle.milter_wire.proofs.CommandGrammar.{commands_read}
use Rattle.milter_wire.specs.declared.negotiation.Negotiated.{Negotiated}
use Rattle.milter_wire.specs.declared.command.Command.TheVariants.{Abort}
use Rattle.milter_protocol.specs.declared.stage_order.CommandOrder.{CommandOrder}
use Rattle.milter_protocol.specs.declared.stage_order.CommandOrder.TheVariants.{Lenient, Strict}
use Rattle.milter_protocol.specs.Aborts.{needs_abort}
use Rattle.milter_protocol.specs.Behavior.{Behavior}
use Rattle.milter_protocol.specs.declared.filter_fault.FilterFault.{FilterFault}
use Rattle.milter_protocol.specs.declared.filter_fault.FilterState.TheVariants.{Failed, Serving}
use Rattle.milter_protocol.specs.FilterEnds.{Received}
use Rattle.milter_protocol.specs.Faults.{fault_of}
use Rattle.milter_protocol.specs.OrderStates.{OrderState, after_message, nothing_kept, order_state_before, order_state_fault, order_step_in}
use Rattle.milter_protocol.specs.Questions.{AskState, Wanted, ask_step, ask_step_by, ask_step_from, ask_step_in, asked_step, question_at, unasked, unquestioned}
use Rattle.milter_wire.specs.declared.stage.Stage.{Stage}
use Rattle.milter_wire.specs.Stages.{stage_of}
use Rattle.milter_filter_stream.proofs.PacketLengths.{packet-len}
use Rattle.milter_filter_stream.proofs.UndoneData.{asked-state, command-going, not-undone}
use Rattle.milter_protocol.specs.Steps.{Step, silent}

value-found : (code : ℕ) (known : Bool) (read : Option Command) (c : Command) → value_or_fault code known read ≡ Ok c → read ≡ Some c
value-found code false read c e = absurd cc
value-found code true None c e = absurd cc
value-found code true (Some d) c e = cc

packet-encoded : (f : Frame) (c : Command) → ((i : ℕ) → get_or f.payload i 0 < 256) → IsFrame f → frame_command f ≡ Ok c
    → IsEncodedAs c (packet f.code f.payload)
packet-encoded f c bytes fits is =
    (commands_read f.code f.payload bytes fits).found c (value-found f.code (is_code f.code) (command_in f.code f.payload) c is)

pub found-encoded : (f : Frame) (result : Result CommandRef WireFault) → ((i : ℕ) → get_or f.payload i 0 < 256) → IsFrame f → map_ok command_of result ≡ frame_command f
    → IfOk result (λ command. IsEncodedAs (command_of command) (packet f.code f.payload))
found-encoded f (Ok command) bytes fits is = packet-encoded f (command_of command) bytes fits (sym is)
found-encoded f (Err fault) bytes fits is = tt

pub encoded-len : (f : Frame) (c : Command) → IsEncodedAs c (packet f.code f.payload) → length f.payload + 5 ≡ length (encoding c)
encoded-len f c e = sym (packet-len f.code f.payload) ∙ ap length e.bytes_are

-- ---- the abort that is due before it

abort-ends : (b : Behavior) (s : OrderState) (negotiated : Negotiated) → let t = record s { negotiated = Some negotiated; state = Serving } in after_message t ≡ (order_step_in b t (Ok Abort) Serving).after
abort-ends b s negotiated =
    let t = record s { negotiated = Some negotiated; state = Serving } in
    ap (λ undone. if undone then t else after_message t) (sym (not-undone s.order s.last_rank Abort))

pub ready-is : (b : Behavior) (s : OrderState) (received : Received) → s.state ≡ Serving
    → (if needs_abort s.order s.negotiated s.last_rank received then after_message s else s) ≡ order_state_before b s received
ready-is b s received serving = by_need (needs_abort s.order s.negotiated s.last_rank received) refl
  where
    none : (order : CommandOrder) → needs_abort order None s.last_rank received ≡ false
    none Strict = refl
    none Lenient = refl

    by_negotiated : (negotiated : Option Negotiated) → s.negotiated ≡ negotiated → needs_abort s.order s.negotiated s.last_rank received ≡ true → after_message s ≡ (order_step_in b s (Ok Abort) s.state).after
    by_negotiated None is due =
        let no : false ≡ true = sym (none s.order) ∙ ap (λ (negotiated : Option Negotiated). needs_abort s.order negotiated s.last_rank received) (sym is) ∙ due in absurd cc
    by_negotiated (Some negotiated) is due =
        let same : s ≡ record s { negotiated = Some negotiated; state = Serving } = λ i. record s { negotiated = is i; state = serving i } in
        ap after_message same ∙ abort-ends b s negotiated ∙ ap (λ (t : OrderState). (order_step_in b t (Ok Abort) t.state).after) (sym same)

    by_need : (need : Bool) → needs_abort s.order s.negotiated s.last_rank received ≡ need → (if need then after_message s else s) ≡ (if need then (order_step_in b s (Ok Abort) s.state).after else s)
    by_need true due = by_negotiated s.negotiated refl due
    by_need false due = refl

-- ---- what it comes to

abbrev step_at : Wanted → Received → OrderState → Step AskState
step_at w received ready = ask_step_in w ready received ready.state

module _ (w : Wanted) (s : AskState) (ready : OrderState) (received : Received) (c : Command) (is : ready ≡ order_state_before (unasked w) s.order_state received) (read : Ok c ≡ received)
    (serving : ready.state ≡ Serving) (free : s.asked ≡ None) where
  step-by : (fault : Option FilterFault) → order_state_fault ready (Ok c) ≡ fault → ask_step_by w ready (Ok c) fault ≡ ask_step w s received
  step-by fault found =
      ap (ask_step_by w ready (Ok c)) (sym found)
      ∙ ap (ask_step_in w ready (Ok c)) (sym serving)
      ∙ ap (λ r. step_at w r ready) read
      ∙ ap (step_at w received) is
      ∙ ap (ask_step_from w s.order_state received) (sym free)

  pub step-in_order : order_state_fault ready (Ok c) ≡ None → ask_step_by w ready (Ok c) None ≡ ask_step w s received
  step-in_order none = step-by None none

  pub step-fault : (fault : FilterFault) → order_state_fault ready (Ok c) ≡ Some fault → ask_step w s received ≡ silent (unquestioned (nothing_kept (Failed fault)))
  step-fault fault some = sym (step-by (Some fault) some)

asked-going : (w : Wanted) (s : OrderState) (c : Command) (question : Option Stage) → s.state ≡ Serving → (fault : FilterFault) → (asked_step w s c question).after.order_state.state ≢ Failed fault
asked-going w s c None serving fault e = command-going (unasked w) s c serving fault e
asked-going w s c (Some stage) serving fault e =
    absurd (let no : Serving ≡ Failed fault = sym (asked-state s c stage ∙ serving) ∙ e in absurd cc)

pub goes-on : (w : Wanted) (s : OrderState) (new : AskState) (c : Command) → new ≡ (ask_step_by w s (Ok c) None).after → s.state ≡ Serving → (fault : FilterFault) → new.order_state.state ≢ Failed fault
goes-on w s new c is serving fault failed =
    asked-going w s c (question_at s.negotiated (stage_of c)) serving fault (sym (ap (λ (x : AskState). x.order_state.state) is) ∙ failed)

-- the fault of the command, by the bytes of its packet
pub fault-by_len : (s : OrderState) (f : Frame) (c : Command) (result : Option FilterFault) → IsEncodedAs c (packet f.code f.payload)
    → result ≡ fault_of s.negotiated s.last_rank (length f.payload + 5 + s.shown.bytes) c → order_state_fault s (Ok c) ≡ result
fault-by_len s f c result e is =
    ap (λ n. fault_of s.negotiated s.last_rank (n + s.shown.bytes) c) (sym (encoded-len f c e)) ∙ sym is
