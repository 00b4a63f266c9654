use Rattle.std.proofs.Common.{Option, [], option_map, sym, ap, ◌∙◌, arith}
use Rattle.milter_wire.specs.declared.command_ref.CommandRef.{CommandRef}
use Rattle.milter_wire.specs.BorrowedCommand.{command_of}
use Rattle.milter_mta.proofs.NextPackets.{next_fits}
use Rattle.milter_mta.proofs.mta_core.queue_next.Goals as goal

pub queue_expecting-requires : goal.queue_expecting-requires
queue_expecting-requires c =
    next_fits c.offer.result c.args.client_info.now c.expected-expected.new.self.aborts [] c.expected-expected.new.self.position (command_of c.in-Some.command)
    (record { version = omega arith; actions = omega arith; protocol = omega arith })
    c.expected-expected.ensures.same.can_send
    (sym (c.command.ensures []) ∙ ap (λ (o : Option CommandRef). option_map command_of o) c.in-Some.is)
