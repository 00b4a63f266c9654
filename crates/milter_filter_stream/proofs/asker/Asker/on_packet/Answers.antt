use Rattle.std.proofs.Common.{◌≡◌, ◌∙◌, Ok, ap, subst, sym}
use Rattle.milter_protocol.specs.OrderStates.{order_state_before}
use Rattle.milter_protocol.specs.Steps.{Step}
use Rattle.milter_fields.specs.Splitter.{frame_of}
use Rattle.milter_wire.specs.Frames.{frame_command}
use Rattle.milter_wire.specs.BorrowedCommand.{command_of}
use Rattle.milter_filter_stream.specs.Asking.{Asking, FailsAt, asking_next, asking_step}
use Rattle.milter_protocol.specs.Questions.{AskState, IsTaking, unasked}
use Rattle.milter_filter_stream.proofs.PacketCommands.{encoded-len, fault-by_len, ready-is, step-fault, step-in_order}
use Rattle.milter_filter_stream.proofs.asker.Asker.on_packet.Goals as goal

pub returns-in-Some-clause-fails : goal.returns-in-Some-clause-fails
returns-in-Some-clause-fails c =
    let f = frame_of c.args.packet.now in
    let command = command_of c.in-Ok.command in
    let w = c.args.wants.now in
    let s : AskState = record { order_state = c.self.inside.connection; asked = c.self.inside.asked } in
    let t = c.self.inside.connection in
    let ready = c.end_message_before.new.self in
    let taking : IsTaking s = subst (λ (r : Asking). IsTaking r.state) (sym c.self.view_is) c.requires.taking in
    let is = c.end_message_before.ensures.new ∙ ready-is (unasked w) t (Ok command) taking.serving ∙ ap (order_state_before (unasked w) t) c.in-Ok.ensures.read in
    let serving = c.end_message_before.ensures.serving ∙ taking.serving in
    let fault = fault-by_len ready f command c.fault_of.result c.in-Ok.ensures.encoded c.fault_of.ensures.fault ∙ c.in-Some.is in
    let step = step-fault w s ready (frame_command f) command is c.in-Ok.ensures.read serving taking.unasked c.in-Some.fault fault in
    let fails : FailsAt w s (frame_command f) c.in-Some.fault = record {
      failed = λ other. ap (λ (x : Step AskState). x.after) step;
      silent = λ other. ap (λ (x : Step AskState). x.replies) step;
      no_length = c.in-Some.ensures.no_length;
    } in
    subst (λ (r : Asking). FailsAt w r.state (frame_command f) c.in-Some.fault) c.self.view_is fails

pub on_command-requires-clause-len : goal.on_command-requires-clause-len
on_command-requires-clause-len c = encoded-len (frame_of c.args.packet.now) (command_of c.in-Ok.command) c.in-Ok.ensures.encoded

pub on_command-requires-clause-no_fault : goal.on_command-requires-clause-no_fault
on_command-requires-clause-no_fault c =
    fault-by_len c.end_message_before.new.self (frame_of c.args.packet.now) (command_of c.in-Ok.command) c.fault_of.result c.in-Ok.ensures.encoded c.fault_of.ensures.fault ∙ c.in_default.is

pub returns-clause-replied : goal.returns-clause-replied
returns-clause-replied c =
    let f = frame_of c.args.packet.now in
    let command = command_of c.in-Ok.command in
    let inside = c.self.inside in
    let w = c.args.wants.now in
    let t = inside.connection in
    let s : AskState = record { order_state = t; asked = inside.asked } in
    let old : Asking = record { state = s; pending = inside.pending.items } in
    let ready = c.end_message_before.new.self in
    let taking : IsTaking s = subst (λ (r : Asking). IsTaking r.state) (sym c.self.view_is) c.requires.taking in
    let is = c.end_message_before.ensures.new ∙ ready-is (unasked w) t (Ok command) taking.serving ∙ ap (order_state_before (unasked w) t) c.in-Ok.ensures.read in
    let serving = c.end_message_before.ensures.serving ∙ taking.serving in
    let none = fault-by_len ready f command c.fault_of.result c.in-Ok.ensures.encoded c.fault_of.ensures.fault ∙ c.in_default.is in
    let step = step-in_order w s ready (frame_command f) command is c.in-Ok.ensures.read serving taking.unasked none in
    let new : c.on_command.new.self ≡ asking_next w old (frame_command f) = c.in_ok-on_command.ensures ∙ ap (asking_step old) step in
    subst (λ (r : Asking). c.on_command.new.self ≡ asking_next w r (frame_command f)) c.self.view_is new
