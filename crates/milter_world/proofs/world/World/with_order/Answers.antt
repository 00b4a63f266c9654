use Rattle.std.proofs.Common.{refl, sym, ap, ◌∙◌}
use Rattle.milter_mail.specs.MailSession.{MailSession}
use Rattle.milter_mta.specs.Mta.{fresh}
use Rattle.milter_mta.specs.Output.{want}
use Rattle.milter_world.specs.Ends.{fresh_ends}
use Rattle.milter_world.specs.Reached.{scenario_of}
use Rattle.milter_world.proofs.EndsByParts.{ends-as, same-ends}
use Rattle.milter_world.proofs.world.World.with_order.Goals as goal
use Rattle.milter_world.proofs.world.World.with_order.Goals.{in-Dial, in_default-want}

pub returns-clause-begins : goal.returns-clause-begins
returns-clause-begins g c =
    let p = scenario_of (g.P.Policy.behavior c.args.policy.now) c.args.config c.args.session in
    let mta_is = c.in-Ok.ensures.ok ∙ ap (λ (s : MailSession). fresh c.args.config s) c.possible_session-session.ensures.same in
    let want_is = sym (c.want.ensures ∙ ap want mta_is) in
    elim c.match-want.branch [
      | in-Dial w ↦ same-ends (fresh_ends p c.args.order c.args.policy.now) _ _ _ _ _ _ _ refl refl mta_is refl c.new-2.ensures c.new-3.ensures
          (w.state-is ∙ sym (c.fresh_ends_begin.ensures.dials p (want_is ∙ w.in-Dial.is)))
      | in_default-want w ↦ same-ends (fresh_ends p c.args.order c.args.policy.now) _ _ _ _ _ _ _ refl refl mta_is refl c.new-2.ensures c.new-3.ensures
          (w.state-is ∙ sym (c.fresh_ends_begin.ensures.over p (λ dial. w.in_default-want.not-Dial (sym want_is ∙ dial))))
    ]

pub returns-clause-are : goal.returns-clause-are
returns-clause-are g c =
    let p = scenario_of (g.P.Policy.behavior c.args.policy.now) c.args.config c.args.session in
    let mta_is = c.in-Ok.ensures.ok ∙ ap (λ (s : MailSession). fresh c.args.config s) c.possible_session-session.ensures.same in
    let want_is = sym (c.want.ensures ∙ ap want mta_is) in
    let are = c.fresh_ends_begin.ensures.begins p c.args.order c.args.policy.now c.possible_session-session.ensures.possible in
    elim c.match-want.branch [
      | in-Dial w ↦ ends-as p (fresh_ends p c.args.order c.args.policy.now) _ _ _ _ _ _ _ refl refl mta_is refl c.new-2.ensures c.new-3.ensures
          (w.state-is ∙ sym (c.fresh_ends_begin.ensures.dials p (want_is ∙ w.in-Dial.is))) are
      | in_default-want w ↦ ends-as p (fresh_ends p c.args.order c.args.policy.now) _ _ _ _ _ _ _ refl refl mta_is refl c.new-2.ensures c.new-3.ensures
          (w.state-is ∙ sym (c.fresh_ends_begin.ensures.over p (λ dial. w.in_default-want.not-Dial (sym want_is ∙ dial)))) are
    ]
