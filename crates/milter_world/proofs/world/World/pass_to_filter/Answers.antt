use Rattle.std.proofs.Common.{◌≡◌, ◌≢◌, ℕ, ◌+◌, List, [], ◌∷◌, Some, arith, take, drop, length, refl, sym, ap, ◌∙◌, subst}
use Rattle.milter_world.specs.declared.event_line.Event.TheVariants as events
use Rattle.milter_world.specs.declared.state.State.TheVariants.{Linked}
use Rattle.milter_world.specs.Ends.{AreEndsOf, Steps}
use Rattle.milter_world.specs.Schedule.{Scenario}
use Rattle.milter_world.proofs.EndsByParts.{steps-as}
use Rattle.milter_world.proofs.world.World.pass_to_filter.Goals as goal
use Rattle.milter_protocol.specs.Behavior.{Behavior}
use Rattle.milter_filter.specs.Cores.{Takes}
use Rattle.milter_world.specs.Reached.{CanTake}
use Rattle.milter_world.proofs.FedFilter.{same-drop}

pub feed_filter-requires-clause-serves : goal.feed_filter-requires-clause-serves
feed_filter-requires-clause-serves g c =
    let v = c.self.view_is in
    c.taken_bytes_step.ensures.serves c.requires.scenario c.args.self.now c.in-Linked.settled c.in-Linked.counts c.in-Some.filter c.requires.are
    (sym (ap (λ s. s.state) v) ∙ c.in-Linked.is) (sym (ap (λ s. s.filter) v) ∙ c.in-Some.is)

pub feed_filter-requires-clause-takes : goal.feed_filter-requires-clause-takes
feed_filter-requires-clause-takes g c =
    let v = c.self.view_is in
    let p = c.requires.scenario in
    let ends = c.args.self.now in
    let core = c.in-Some.filter in
    let at = sym (ap (λ s. s.state) v) ∙ c.in-Linked.is in
    let some = sym (ap (λ s. s.filter) v) ∙ c.in-Some.is in
    let same : p.filter ≡ g.P.Policy.behavior core.policy =
    c.requires.filter ∙ ap g.P.Policy.behavior (sym (c.taken_bytes_step.ensures.same_policy p ends c.in-Linked.settled c.in-Linked.counts core c.requires.are at some)) in
    let can : CanTake p.filter core (take c.args.count ends.to_filter) =
    record {
      waits = λ full. (c.taken_bytes_step.ensures.waits p ends c.in-Linked.settled c.in-Linked.counts core c.args.count c.requires.are at some full).0;
      all = λ n new none takes_it. (c.taken_bytes_step.ensures.takes p ends c.in-Linked.settled c.in-Linked.counts core new c.args.count n c.requires.are at some none takes_it).0;
      sound = λ fault none. c.taken_bytes_step.ensures.fails_not p ends c.in-Linked.settled c.in-Linked.counts core c.args.count fault c.requires.are at some none;
    } in
    subst (λ (b : Behavior). CanTake b core (take c.args.count c.self.inside.to_filter)) same
    (subst (λ (l : List ℕ). CanTake p.filter core (take c.args.count l)) (sym (ap (λ s. s.to_filter) v)) can)

pub overflow_add-taken : goal.overflow_add-taken
overflow_add-taken g c =
    let v = c.self.view_is in
    let s = c.taken_bytes_step.ensures.short c.requires.scenario c.args.self.now c.in-Linked.settled c.in-Linked.counts c.in-Some.filter c.args.count c.requires.are
    (sym (ap (λ s. s.state) v) ∙ c.in-Linked.is) (sym (ap (λ s. s.filter) v) ∙ c.in-Some.is) in
    let e = c.in_ok-taken-in-Linked.ensures.count ∙ ap (λ s. length (take c.args.count s.to_filter)) v in
    omega arith

pub returns-in_ok-taken-in-Linked : goal.returns-in_ok-taken-in-Linked
returns-in_ok-taken-in-Linked g c = λ p b is. by_pending p b is c.in-Some.filter.pending refl
  where
    by_pending : (p : Scenario) → p.filter ≡ g.P.Policy.behavior c.args.self.now.policy → AreEndsOf p c.args.self.now → (l : List ℕ) → c.in-Some.filter.pending ≡ l
        → Steps p c.args.self.now (events.ToFilter c.args.count)
        (record {
          policy = c.self.inside.policy.now;
          order = c.self.inside.order;
          mta = c.self.inside.mta;
          filter = Some c.feed_filter.new.filter;
          to_filter = c.feed_filter.new.pipe;
          to_mta = c.self.inside.to_mta;
          state = Linked c.in-Linked.settled (record c.in-Linked.counts { taken = c.in-Linked.counts.taken + c.in_ok-taken-in-Linked.taken });
        })
    by_pending p b is [] e =
        let v = c.self.view_is in
        let ends = c.args.self.now in
        let core = c.in-Some.filter in
        let at = sym (ap (λ s. s.state) v) ∙ c.in-Linked.is in
        let some = sym (ap (λ s. s.filter) v) ∙ c.in-Some.is in
        let same : g.P.Policy.behavior core.policy ≡ p.filter =
        ap g.P.Policy.behavior (c.taken_bytes_step.ensures.same_policy p ends c.in-Linked.settled c.in-Linked.counts core is at some) ∙ sym b in
        let takes_it = subst (λ (x : Behavior). Takes x core (take c.args.count ends.to_filter) c.in_ok-taken-in-Linked.taken c.feed_filter.new.filter) same
        (subst (λ (l : List ℕ). Takes (g.P.Policy.behavior core.policy) core (take c.args.count l) c.in_ok-taken-in-Linked.taken c.feed_filter.new.filter) (ap (λ s. s.to_filter) v)
        (c.in_ok-taken-in-Linked.ensures.taken e)) in
        steps-as p ends (events.ToFilter c.args.count) _ _ _ _ _ _ _ _
        (ap (λ s. s.policy) v) (ap (λ s. s.order) v) (ap (λ s. s.mta) v) refl
        (c.in_ok-taken-in-Linked.ensures.pipe ∙ ap (λ s. drop c.args.count s.to_filter) v)
        (ap (λ s. s.to_mta) v)
        (ap (λ k. Linked c.in-Linked.settled (record c.in-Linked.counts { taken = c.in-Linked.counts.taken + k }))
        (c.in_ok-taken-in-Linked.ensures.count ∙ ap (λ s. length (take c.args.count s.to_filter)) v))
        (c.taken_bytes_step.ensures.takes p ends c.in-Linked.settled c.in-Linked.counts core c.feed_filter.new.filter c.args.count c.in_ok-taken-in-Linked.taken is at some e takes_it).1
    by_pending p b is (byte ∷ bytes) e =
        let v = c.self.view_is in
        let ends = c.args.self.now in
        let core = c.in-Some.filter in
        let at = sym (ap (λ s. s.state) v) ∙ c.in-Linked.is in
        let some = sym (ap (λ s. s.filter) v) ∙ c.in-Some.is in
        let full : core.pending ≢ [] = λ none. (let x : byte ∷ bytes ≡ [] = sym e ∙ none in absurd (cc)) in
        let w = c.taken_bytes_step.ensures.waits p ends c.in-Linked.settled c.in-Linked.counts core c.args.count is at some full in
        steps-as p ends (events.ToFilter c.args.count) _ _ _ _ _ _ _ _
        (ap (λ s. s.policy) v) (ap (λ s. s.order) v) (ap (λ s. s.mta) v)
        (ap Some (c.in_ok-taken-in-Linked.ensures.waits full) ∙ sym some)
        (c.in_ok-taken-in-Linked.ensures.pipe ∙ ap (λ s. drop c.args.count s.to_filter) v ∙ sym (same-drop 0 c.args.count ends.to_filter (sym w.0)))
        (ap (λ s. s.to_mta) v)
        (ap (λ k. Linked c.in-Linked.settled (record c.in-Linked.counts { taken = c.in-Linked.counts.taken + k }))
        (c.in_ok-taken-in-Linked.ensures.count ∙ ap (λ s. length (take c.args.count s.to_filter)) v))
        w.1
