use Rattle.std.proofs.Common.{◌≡◌, All, List, true, sym, ap, subst, ◌∙◌, arith}
use Rattle.std.specs.List.{AllZip}
use Rattle.milter_protocol.specs.declared.stage_order.CommandOrder.TheVariants.{Strict}
use Rattle.milter_mta_outcome.specs.declared.outcome.Report.{Report}
use Rattle.milter_world.specs.declared.state.State.{State}
use Rattle.milter_world.specs.Schedule.{After, Scenario, run_reports}
use Rattle.milter_world.specs.DialogueReports.{HasAllVerdicts, IsRuledBy, IsUndisturbed, is_by_verdict}
use Rattle.milter_world.specs.Ends.{IsAt, IsLinked}
use Rattle.milter_world.specs.PlayedSessions.{AreUndisturbed, Lives}
use Rattle.milter_world.specs.Reached.{scenario_of}
use Rattle.milter_world.proofs.Connections.{connection-given}
use Rattle.milter_world.proofs.PlayedRounds.{dialled-lives, is-over, round-keeps}
use Rattle.milter_world.proofs.one_connection.play.Goals as goal

pub loop-world-init : goal.loop-world-init
loop-world-init g c =
    let p : Scenario = scenario_of (g.P.Policy.behavior c.args.policy.now) c.args.config c.args.session in
    let steps = c.in_ok-world-2.ensures p (ap g.P.Policy.behavior (sym (ap (λ e. e.policy) c.in_ok-world.ensures.begins))) c.in_ok-world.ensures.are in
    record {
      undisturbed = dialled-lives p Strict c.args.policy.now c.in_ok-world.world c.in_ok-world-2.world c.in_ok-world.ensures.begins steps;
      policy = steps.policy ∙ ap (λ e. e.policy) c.in_ok-world.ensures.begins;
    }

-- what a round leaves
pub loop-world-smaller : goal.loop-world-smaller
loop-world-smaller g c =
    let p : Scenario = scenario_of (g.P.Policy.behavior c.args.policy.now) c.args.config c.args.session in
    let inv = c.loop-world.invariant in
    let at = sym c.state.ensures ∙ c.in-Linked.is in
    let leads = c.in_ok-world-3.ensures p (ap g.P.Policy.behavior (sym inv.policy)) inv.undisturbed.are in
    let linked : IsLinked p c.in-Linked.field-0 c.in-Linked.field-1 c.loop-world.world =
    subst (λ (s : State). IsAt p s c.loop-world.world) at inv.undisturbed.are.is_at in
    (round-keeps p c.loop-world.world c.in_ok-world-3.world _ inv.undisturbed leads c.in-Linked.field-0 c.in-Linked.field-1 at
    (c.rounds_move_on.ensures.goes_on p c.in-Linked.field-0 _ c.in-Linked.field-1 c.loop-world.world.mta.reports (omega arith) linked.counts
    (subst Lives at inv.undisturbed.lives))).1

pub loop-world-preserved : goal.loop-world-preserved
loop-world-preserved g c =
    let p : Scenario = scenario_of (g.P.Policy.behavior c.args.policy.now) c.args.config c.args.session in
    let inv = c.loop-world.invariant in
    let at = sym c.state.ensures ∙ c.in-Linked.is in
    let leads = c.in_ok-world-3.ensures p (ap g.P.Policy.behavior (sym inv.policy)) inv.undisturbed.are in
    let linked : IsLinked p c.in-Linked.field-0 c.in-Linked.field-1 c.loop-world.world =
    subst (λ (s : State). IsAt p s c.loop-world.world) at inv.undisturbed.are.is_at in
    record {
      undisturbed = (round-keeps p c.loop-world.world c.in_ok-world-3.world _ inv.undisturbed leads c.in-Linked.field-0 c.in-Linked.field-1 at
          (c.rounds_move_on.ensures.goes_on p c.in-Linked.field-0 _ c.in-Linked.field-1 c.loop-world.world.mta.reports (omega arith) linked.counts
          (subst Lives at inv.undisturbed.lives))).0;
      policy = leads.policy ∙ inv.policy;
    }

pub returns : goal.returns
returns g c =
    let p : Scenario = scenario_of (g.P.Policy.behavior c.args.policy.now) c.args.config c.args.session in
    let u : AreUndisturbed p c.loop-world.world = c.loop-world.invariant.undisturbed in
    let over : IsUndisturbed p u.events = is-over p c.loop-world.world u (λ settled counts is. c.in_default.not-Linked settled counts (c.state.ensures ∙ is)) in
    let reports_are : c.into_reports.result.messages ≡ run_reports p u.events = c.into_reports.ensures.messages ∙ ap (λ (a : After). a.reports) u.after in
    record {
      dialogues = subst (λ (rs : List Report). AllZip (IsRuledBy p) p.session.messages rs) (sym reports_are)
          (c.undisturbed_schedules_are_ruled.ensures.ruled p u.events over);
      verdicts = subst (λ (rs : List Report). AllZip (HasAllVerdicts p) p.session.messages rs) (sym reports_are)
          (c.undisturbed_schedules_are_ruled.ensures.verdicts p u.events over);
      causes = subst (λ (rs : List Report). All (λ r. is_by_verdict r.settled_by ≡ true) rs) (sym reports_are)
          (c.undisturbed_schedules_are_ruled.ensures.causes p u.events over);
      connection = connection-given c.loop-world.world.mta c.into_reports.result c.into_reports.ensures.connection c.into_reports.ensures.messages u.are.by_dialogues.connection;
    }
