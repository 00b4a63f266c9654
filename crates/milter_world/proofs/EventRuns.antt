-- Events one after the other.
use Rattle.std.proofs.Common.{◌≡◌, List, [], ◌∷◌, ◌++◌, refl, sym, ap, ◌∙◌}
use Rattle.milter_mta_outcome.specs.declared.outcome.Report.{Report}
use Rattle.milter_world.specs.declared.event_line.Event.{Event}
use Rattle.milter_world.specs.declared.state.State.{State}
use Rattle.milter_world.specs.Schedule.{After, Scenario, after_all, happens}
use Rattle.milter_world.specs.Ends.{Ends, Steps}
use Rattle.milter_world.specs.Reached.{Leads, after_of}

abbrev pub at_after : State → List Report → After
at_after state reports = record { state = state; reports = reports }

-- an event, and then others
pub then-events : {P : Type 0} (p : Scenario) (old new : Ends P) (event : Event) (rest : List Event) → Steps p old event new
    → after_all p (after_of new) rest ≡ after_all p (after_of old) (event ∷ rest)
then-events p old new event rest steps =
    ap (λ (s : State). after_all p (at_after s new.mta.reports) rest) steps.state
    ∙ ap (λ (r : List Report). after_all p (at_after (happens p old.state event).state r) rest) steps.reports

pub leads-on : {P : Type 0} (p : Scenario) (old new : Ends P) (event : Event) (left rest : List Event) (end : After) → Steps p old event new → left ≡ event ∷ rest
    → after_all p (after_of old) left ≡ end → after_all p (after_of new) rest ≡ end
leads-on p old new event left rest end steps cut leads =
    then-events p old new event rest steps ∙ sym (ap (after_all p (after_of old)) cut) ∙ leads

-- four events
pub four : {P : Type 0} (p : Scenario) (a b c d e : Ends P) (w x y z : Event) → Steps p a w b → Steps p b x c → Steps p c y d → Steps p d z e
    → Leads p a (w ∷ x ∷ y ∷ z ∷ []) e
four p a b c d e w x y z first second third last =
    record {
      are = last.is;
      policy = last.policy ∙ third.policy ∙ second.policy ∙ first.policy;
      after = then-events p d e z [] last ∙ then-events p c d y (z ∷ []) third ∙ then-events p b c x (y ∷ z ∷ []) second
          ∙ then-events p a b w (x ∷ y ∷ z ∷ []) first;
    }

-- lists of events one after the other
pub after-both : (p : Scenario) (from : After) (events others : List Event) → after_all p from (events ++ others) ≡ after_all p (after_all p from events) others
after-both p from [] others = refl
after-both p from (event ∷ events) others =
    after-both p (record { state = (happens p from.state event).state; reports = from.reports ++ (happens p from.state event).reports }) events others
