use Rattle.std.proofs.Common.{Option, ap, sym, ◌∙◌, ◌%◌}
use Rattle.std.specs.Option.{option_map, option_to_list}
use Rattle.milter_wire.specs.declared.command_ref.CommandRef.{CommandRef}
use Rattle.milter_wire.specs.BorrowedCommand.{command_of}
use Rattle.milter_mta_outcome.specs.OutgoingValue.{outgoing}
use Rattle.milter_mta_outcome.specs.PlanCursor.{commands_of, one_of_two}
use Rattle.milter_mta_outcome.proofs.NumberedCommands.{left_out, paired, plain}
use Rattle.milter_mta_outcome.proofs.plan_cursor.step_at.Goals as goal

pub returns-then-not-is_sent : goal.returns-then-not-is_sent
returns-then-not-is_sent c =
    left_out _ _ (commands_of (outgoing c.args.of.now) c.args.at.stage) c.args.at.step (sym c.is_sent.ensures ∙ c.if-not-is_sent.true)

pub returns-in-None : goal.returns-in-None
returns-in-None c =
    c.command_at.ensures
    ∙ plain _ _ (commands_of (outgoing c.args.of.now) c.args.at.stage) c.args.at.step (sym c.is_sent.ensures ∙ c.if-not-is_sent.false)
    (sym (ap (λ (p : Option CommandRef). option_to_list (option_map command_of p)) c.in-None.is) ∙ c.macro_packet.ensures)

pub returns-in-Some : goal.returns-in-Some
returns-in-Some c =
    c.one_of_two.ensures
    ∙ ap (λ command. one_of_two (command_of c.in-Some.packet) command (c.args.at.step % 2)) c.command_at-in-Some.ensures
    ∙ paired _ (command_of c.in-Some.packet) _ (commands_of (outgoing c.args.of.now) c.args.at.stage) c.args.at.step
    (sym c.is_sent.ensures ∙ c.if-not-is_sent.false)
    (sym (ap (λ (p : Option CommandRef). option_to_list (option_map command_of p)) c.in-Some.is) ∙ c.macro_packet.ensures)
