-- A round keeps what holds of a session that is played without a loss.
use Rattle.std.proofs.Common.{◌≡◌, ◌≢◌, ◌⊎◌, inl, inr, nat_lt, length, ℕ, suc, ◌<◌, Bool, true, false, if◌then◌else◌, List, [], ◌∷◌, ◌++◌, refl, sym, ap, ◌∙◌, subst, arith}
use Rattle.milter_protocol.specs.declared.stage_order.CommandOrder.{CommandOrder}
use Rattle.milter_world.specs.declared.event_line.Event.{Event}
use Rattle.milter_world.specs.declared.event_line.Event.TheVariants.{Dial}
use Rattle.milter_world.specs.declared.state.Counts.{Counts}
use Rattle.milter_world.specs.declared.state.State.{State}
use Rattle.milter_world.specs.declared.state.State.TheVariants.{Idle, Linked, Done}
use Rattle.milter_world.specs.Rounds.{MovesOn, round}
use Rattle.milter_world.specs.Schedule.{After, Scenario, after_all, first, happens, idle_at, lines_at, stays}
use Rattle.milter_world.specs.DialogueReports.{IsUndisturbed, count_events, is_lose, is_timeout}
use Rattle.milter_world.specs.Ends.{Ends, Steps, fresh_ends}
use Rattle.milter_world.specs.PlayedSessions.{AreUndisturbed, Lives, left_to_move}
use Rattle.milter_world.specs.Reached.{Leads, after_of}
use Rattle.milter_world.proofs.EventRuns.{after-both, at_after, then-events}

-- no event of a round is one of these
count-none : (is_event : Event → Bool) (events : List Event) (n : ℕ) → count_events is_event events ≡ 0 → count_events is_event (round n) ≡ 0
    → count_events is_event (events ++ round n) ≡ 0
count-none is_event [] n none of_round = of_round
count-none is_event (event ∷ events) n none of_round = by_kind (is_event event) none (λ rest. count-none is_event events n rest of_round)
  where
    by_kind : (kind : Bool) → (if kind then suc (count_events is_event events) else count_events is_event events) ≡ 0
        → (count_events is_event events ≡ 0 → count_events is_event (events ++ round n) ≡ 0)
        → (if kind then suc (count_events is_event (events ++ round n)) else count_events is_event (events ++ round n)) ≡ 0
    by_kind true none rest = absurd cc
    by_kind false none rest = rest none

module _ {P : Type 0} (p : Scenario) (old new : Ends P) (n : ℕ) (before : AreUndisturbed p old) (leads : Leads p old (round n) new) where
  pub keeps : Lives new.state → AreUndisturbed p new
  keeps lives =
      record {
        are = leads.are;
        lives = lives;
        events = before.events ++ round n;
        no_loss = count-none is_lose before.events n before.no_loss refl;
        no_timeout = count-none is_timeout before.events n before.no_timeout refl;
        after = leads.after ∙ ap (λ (a : After). after_all p a (round n)) before.after
            ∙ sym (after-both p (stays (first p)) before.events (round n));
      }

  -- where a round led
  module _ (settled : ℕ) (c : Counts) (at : old.state ≡ Linked settled c)
      (goes_on : ((after_all p (at_after (Linked settled c) old.mta.reports) (round n)).state ≡ Done)
      ⊎ MovesOn (lines_at p settled) settled c (after_all p (at_after (Linked settled c) old.mta.reports) (round n)).state) where
    state-is : new.state ≡ (after_all p (at_after (Linked settled c) old.mta.reports) (round n)).state
    state-is = ap (λ (a : After). a.state) leads.after ∙ ap (λ (s : State). (after_all p (at_after s old.mta.reports) (round n)).state) at

    by_end : (state : State) → (state ≡ Done) ⊎ MovesOn (lines_at p settled) settled c state
        → Lives state × (left_to_move p state < left_to_move p (Linked settled c))
    by_end state (inl done) = subst (λ (s : State). Lives s × (left_to_move p s < left_to_move p (Linked settled c))) (sym done) (tt, omega arith)
    by_end state (inr on) =
        let less = on.less in
        subst (λ (s : State). Lives s × (left_to_move p s < left_to_move p (Linked settled c))) (sym on.state_is) (on.lives, omega (arith, less))

    pub round-keeps : AreUndisturbed p new × (left_to_move p new.state < left_to_move p old.state)
    round-keeps =
        let end = by_end (after_all p (at_after (Linked settled c) old.mta.reports) (round n)).state goes_on in (
          keeps (subst Lives (sym state-is) end.0),
          subst (λ (s : State). left_to_move p new.state < left_to_move p s) (sym at)
              (subst (λ (s : State). left_to_move p s < left_to_move p (Linked settled c)) (sym state-is) end.1),
        )

-- ---- the start and the end

dial-lives : (p : Scenario) (n : ℕ) → Lives (happens p (idle_at p n) Dial).state
dial-lives p n = by_some (nat_lt n (length p.session.messages))
  where
    by_some : (some : Bool) → Lives (happens p (if some then Idle n else Done) Dial).state
    by_some true = refl
    by_some false = tt

pub dialled-lives : {P : Type 0} (p : Scenario) (order : CommandOrder) (policy : P) (old new : Ends P) → old ≡ fresh_ends p order policy → Steps p old Dial new → AreUndisturbed p new
dialled-lives p order policy old new fresh steps =
    record {
      are = steps.is;
      lives = subst Lives (sym (steps.state ∙ ap (λ e. (happens p e.state Dial).state) fresh)) (dial-lives p 0);
      events = Dial ∷ [];
      no_loss = refl;
      no_timeout = refl;
      after = then-events p old new Dial [] steps ∙ ap (λ e. after_all p (after_of e) (Dial ∷ [])) fresh;
    }

over-is : (state : State) → Lives state → ((settled : ℕ) (c : Counts) → state ≢ Linked settled c) → state ≡ Done
over-is (Idle settled) lives not_linked = absurd lives
over-is (Linked settled c) lives not_linked = absurd (not_linked settled c refl)
over-is Done lives not_linked = refl

pub is-over : {P : Type 0} (p : Scenario) (ends : Ends P) (u : AreUndisturbed p ends) → ((settled : ℕ) (c : Counts) → ends.state ≢ Linked settled c)
    → IsUndisturbed p u.events
is-over p ends u not_linked =
    record {
      no_loss = u.no_loss;
      no_timeout = u.no_timeout;
      over = sym (ap (λ (a : After). a.state) u.after) ∙ over-is ends.state u.lives not_linked;
    }
