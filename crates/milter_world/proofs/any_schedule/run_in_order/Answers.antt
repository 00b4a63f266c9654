use Rattle.std.proofs.Common.{◌≡◌, ◌<◌, ◌≤◌, ◌+◌, ℕ, suc, All, List, [], ◌∷◌, drop, length, min, true, get_or, arith, drop-cons, sym, ap, subst, ◌∙◌}
use Rattle.std.specs.List.{AllZip}
use Rattle.std.proofs.lemmas.List.{drop_all}
use Rattle.milter_message.specs.MailObject.{MailObject}
use Rattle.milter_mta_outcome.specs.declared.outcome.Report.{Report}
use Rattle.milter_world.specs.declared.event_line.Event.{Event}
use Rattle.milter_world.specs.declared.event_line.Event.TheVariants.{Dial}
use Rattle.milter_world.specs.Schedule.{After, Scenario, after_all, first, stays}
use Rattle.milter_world.specs.DialogueReports.{AreReported, IsReportOf, WasGiven, by_reset, by_timeout, count_events, count_reports, is_known, is_lose, is_timeout}
use Rattle.milter_world.specs.Reached.{after_of, scenario_of}
use Rattle.milter_world.proofs.EventRuns.{leads-on}
use Rattle.milter_world.proofs.any_schedule.run_in_order.Goals as goal

zip-map : (R S : MailObject → Report → Type 0) → ((m : MailObject) (r : Report) → R m r → S m r) → (ms : List MailObject) (rs : List Report) → AllZip R ms rs
    → AllZip S ms rs
zip-map R S weaker [] [] all = tt
zip-map R S weaker [] (r ∷ rs) all = absurd all
zip-map R S weaker (m ∷ ms) [] all = absurd all
zip-map R S weaker (m ∷ ms) (r ∷ rs) all = (weaker m r all.0, zip-map R S weaker ms rs all.1)

cut-at : (events : List Event) (i : ℕ) → i < length events → drop i events ≡ get_or events i Dial ∷ drop (i + 1) events
cut-at events i within =
    let next : suc i ≡ i + 1 = omega arith in
    drop-cons events i Dial within ∙ ap (λ (n : ℕ). get_or events i Dial ∷ drop n events) next

pub loop-event-preserved : goal.loop-event-preserved
loop-event-preserved g c =
    let p : Scenario = scenario_of (g.P.Policy.behavior c.args.policy.now) c.args.config c.args.session in
    let inv = c.loop-event.invariant in
    let steps = c.in_ok-world-2.ensures p (ap g.P.Policy.behavior (sym inv.policy)) inv.are in
    record {
      are = steps.is;
      policy = steps.policy ∙ inv.policy;
      leads = leads-on p c.loop-event.world c.in_ok-world-2.world (get_or c.args.events.now c.loop-event.event-index Dial) (drop c.loop-event.event-index c.args.events.now)
          (drop (c.loop-event.event-index + 1) c.args.events.now) (after_all p (stays (first p)) c.args.events.now) steps
          (cut-at c.args.events.now c.loop-event.event-index c.loop-event-test.true) inv.leads;
    }

-- ---- the reports are the schedule's, of which the laws speak

reports-are : goal.returns-clause-reports
reports-are g c =
    let p : Scenario = scenario_of (g.P.Policy.behavior c.args.policy.now) c.args.config c.args.session in
    let none : drop c.loop-event.event-index c.args.events.now ≡ [] =
    drop_all c.loop-event.event-index c.args.events.now (let all = c.loop-event-test.false in omega (arith, all)) in
    c.into_reports.ensures.messages
    ∙ ap (λ (a : After). a.reports)
    (sym (ap (after_all p (after_of c.loop-event.world)) none) ∙ c.loop-event.invariant.leads)

pub returns-clause-reports : goal.returns-clause-reports
returns-clause-reports = reports-are

pub returns-clause-dialogues : goal.returns-clause-dialogues
returns-clause-dialogues g c =
    let p : Scenario = scenario_of (g.P.Policy.behavior c.args.policy.now) c.args.config c.args.session in
    subst (λ (rs : List Report). AreReported p p.session.messages rs) (sym (reports-are g c)) (c.schedules_report_dialogues.ensures p c.args.events.now)

pub returns-clause-resets : goal.returns-clause-resets
returns-clause-resets g c =
    let p : Scenario = scenario_of (g.P.Policy.behavior c.args.policy.now) c.args.config c.args.session in
    subst (λ (rs : List Report). count_reports by_reset rs ≤ count_events is_lose c.args.events.now) (sym (reports-are g c))
    (c.defaults_are_counted.ensures.reset p c.args.events.now)

pub returns-clause-timeouts : goal.returns-clause-timeouts
returns-clause-timeouts g c =
    let p : Scenario = scenario_of (g.P.Policy.behavior c.args.policy.now) c.args.config c.args.session in
    subst (λ (rs : List Report). count_reports by_timeout rs ≤ count_events is_timeout c.args.events.now) (sym (reports-are g c))
    (c.defaults_are_counted.ensures.timeout p c.args.events.now)

pub returns-clause-causes : goal.returns-clause-causes
returns-clause-causes g c =
    let p : Scenario = scenario_of (g.P.Policy.behavior c.args.policy.now) c.args.config c.args.session in
    subst (λ (rs : List Report). All (λ r. is_known r.settled_by ≡ true) rs) (sym (reports-are g c))
    (c.defaults_are_counted.ensures.causes p c.args.events.now)

pub returns-clause-settles : goal.returns-clause-settles
returns-clause-settles g c =
    let p : Scenario = scenario_of (g.P.Policy.behavior c.args.policy.now) c.args.config c.args.session in
    subst (λ (rs : List Report). min (count_events is_lose c.args.events.now + count_events is_timeout c.args.events.now) (length p.session.messages) ≤ length rs)
    (sym (reports-are g c)) (c.losses_settle_messages.ensures.losses p c.args.events.now)

pub returns-clause-given : goal.returns-clause-given
returns-clause-given g c =
    let p : Scenario = scenario_of (g.P.Policy.behavior c.args.policy.now) c.args.config c.args.session in
    let dialogues : AreReported p p.session.messages c.into_reports.result.messages =
    subst (λ (rs : List Report). AreReported p p.session.messages rs) (sym (reports-are g c)) (c.schedules_report_dialogues.ensures p c.args.events.now) in
    record {
      done = dialogues.done;
      rest = dialogues.rest;
      messages_are = dialogues.messages_are;
      each = zip-map (IsReportOf p) (λ message r. All (WasGiven p message) r.acted) (λ message r is. c.verdicts_were_given.ensures.verdicts p message r is)
          dialogues.done c.into_reports.result.messages dialogues.each;
    }
