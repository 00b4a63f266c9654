use Rattle.std.proofs.Common.{sym, ◌∙◌, true, false}
use Rattle.milter_mta_outcome.specs.OutgoingValue.{outgoing}
use Rattle.milter_mta_outcome.proofs.StagesFound.{at_command, at_macros, none_at, not_sent, some_at}
use Rattle.milter_mta_outcome.proofs.plan_cursor.stage_at.Goals as goal

pub returns-then-not-is_sent : goal.returns-then-not-is_sent
returns-then-not-is_sent c =
    not_sent (outgoing c.args.of.now) c.args.at.stage c.args.at.step (sym c.is_sent.ensures ∙ c.if-not-is_sent.true)

pub returns-then-has_command : goal.returns-then-has_command
returns-then-has_command c =
    some_at (outgoing c.args.of.now) c.args.at.stage c.args.at.step false
    (sym c.is_sent.ensures ∙ c.if-not-is_sent.false) (sym c.if-not-has_macros.true ∙ c.has_macros.ensures)
    (sym c.has_command.ensures ∙ c.if-has_command.true)

pub returns-else-has_command : goal.returns-else-has_command
returns-else-has_command c =
    none_at (outgoing c.args.of.now) c.args.at.stage c.args.at.step false
    (sym c.is_sent.ensures ∙ c.if-not-is_sent.false) (sym c.if-not-has_macros.true ∙ c.has_macros.ensures)
    (sym c.has_command.ensures ∙ c.if-has_command.false)

pub returns-then-not-has_command : goal.returns-then-not-has_command
returns-then-not-has_command c =
    none_at (outgoing c.args.of.now) c.args.at.stage c.args.at.step true
    (sym c.is_sent.ensures ∙ c.if-not-is_sent.false) (sym c.if-not-has_macros.false ∙ c.has_macros.ensures)
    (sym c.has_command-2.ensures ∙ c.if-not-has_command.true)

pub returns-then-at-eq0 : goal.returns-then-at-eq0
returns-then-at-eq0 c =
    at_macros (outgoing c.args.of.now) c.args.at.stage c.args.at.step
    (sym c.is_sent.ensures ∙ c.if-not-is_sent.false) (sym c.if-not-has_macros.false ∙ c.has_macros.ensures)
    (sym c.has_command-2.ensures ∙ c.if-not-has_command.false) c.if-at-eq0.true

pub returns-else-at-eq0 : goal.returns-else-at-eq0
returns-else-at-eq0 c =
    at_command (outgoing c.args.of.now) c.args.at.stage c.args.at.step
    (sym c.is_sent.ensures ∙ c.if-not-is_sent.false) (sym c.if-not-has_macros.false ∙ c.has_macros.ensures)
    (sym c.has_command-2.ensures ∙ c.if-not-has_command.false) c.if-at-eq0.false
