use Rattle.std.proofs.Common.{◌≤◌, ℕ, subst}
use Rattle.milter_world.specs.Schedule.{run_reports}
use Rattle.milter_world.specs.DialogueReports.{by_reset, by_timeout, count_reports}
use Rattle.milter_world.proofs.Undisturbed.{all-by-verdict, all-ruled-by, all-verdicts}
use Rattle.milter_world.proofs.laws.undisturbed_schedules_are_ruled.Goals as goal

pub returns-clause-ruled : goal.returns-clause-ruled
returns-clause-ruled c = λ p events is.
    all-ruled-by p (run_reports p events) (c.schedules_report_dialogues.ensures p events) (c.defaults_are_counted.ensures.causes p events)
    (subst (λ (n : ℕ). count_reports by_reset (run_reports p events) ≤ n) is.no_loss (c.defaults_are_counted.ensures.reset p events))
    (subst (λ (n : ℕ). count_reports by_timeout (run_reports p events) ≤ n) is.no_timeout (c.defaults_are_counted.ensures.timeout p events))
    (c.losses_settle_messages.ensures.done p events is.over)

pub returns-clause-verdicts : goal.returns-clause-verdicts
returns-clause-verdicts c = λ p events is. all-verdicts p p.session.messages (run_reports p events) (returns-clause-ruled c p events is)

pub returns-clause-causes : goal.returns-clause-causes
returns-clause-causes c = λ p events is. all-by-verdict p p.session.messages (run_reports p events) (returns-clause-ruled c p events is)
