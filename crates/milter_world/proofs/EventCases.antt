-- Events, by the state in which they come.
use Rattle.std.proofs.Common.{◌≡◌, ◌≢◌, ◌<◌, ℕ, Bool, if◌then◌else◌, List, [], ◌∷◌, Option, None, refl, sym, ◌∙◌, ap, subst, arith, drop, length, length-drop}
use Rattle.std.proofs.lemmas.Bool.{le-ltb}
use Rattle.std.proofs.lemmas.List.{drop_all}
use Rattle.milter_message.specs.MailObject.{MailObject}
use Rattle.milter_mta.specs.declared.mta_core.Want.TheVariants as wants
use Rattle.milter_mta.specs.Mta.{FilterConnection}
use Rattle.milter_mta.specs.Output.{want, want_in, want_unconnected}
use Rattle.milter_mta.specs.Dispositions.{lost as lost_by}
use Rattle.milter_world.proofs.CountedBytes.{by_lt, lt-ltb}
use Rattle.milter_mta_outcome.specs.declared.loss.Loss.{Loss}
use Rattle.milter_world.specs.declared.event_line.Event.{Event}
use Rattle.milter_world.specs.declared.event_line.Event.TheVariants.{Dial, Send, ToFilter, Answer, ToMta, Die, Lose, Timeout}
use Rattle.milter_world.specs.declared.state.Counts.{Counts}
use Rattle.milter_world.specs.declared.state.State.{State}
use Rattle.milter_world.specs.declared.state.State.TheVariants.{Idle, Linked, Done}
use Rattle.milter_world.specs.Ends.{IsAt, IsOfConnection, IsLossBy, IsOfFilter, AreEndsOf, Ends, Steps, lost_ends}
use Rattle.milter_world.specs.Schedule as states
use Rattle.milter_world.specs.Schedule.{Scenario, happens, idle_at}
use Rattle.milter_world.proofs.EndSteps.{LossLaws, count-by, loses, messages-left, nothing, dialogues-lost}
use Rattle.milter_world.proofs.EventMoves.{count-idle, dead-answer, dead-to, gives-up}

module _ {P : Type 0} (p : Scenario) (ends : Ends P) (is : AreEndsOf p ends) where
  pub at-state : (s : State) → ends.state ≡ s → IsAt p s ends
  at-state s e = subst (λ (x : State). IsAt p x ends) e is.is_at

  stays-as : (event : Event) (s : State) → ends.state ≡ s → happens p s event ≡ states.stays s → Steps p ends event ends
  stays-as event s at e =
      nothing p ends is.possible is.by_dialogues event is.is_at
      (ap (λ (x : State). happens p x event) at ∙ e ∙ ap states.stays (sym at))

  pub no_dial : ((settled : ℕ) → ends.state ≢ Idle settled) → Steps p ends Dial ends
  no_dial other = by_state ends.state refl
    where
      by_state : (s : State) → ends.state ≡ s → Steps p ends Dial ends
      by_state (Idle settled) at = absurd (other settled at)
      by_state (Linked settled c) at = stays-as Dial (Linked settled c) at refl
      by_state Done at = stays-as Dial Done at refl

  pub over : (event : Event) → ends.state ≡ Done → Steps p ends event ends
  over event at = stays-as event Done at refl

  pub unconnected : (event : Event) → ((settled : ℕ) (c : Counts) → ends.state ≢ Linked settled c) → IsOfConnection event → Steps p ends event ends
  unconnected event other kind = by_state ends.state refl
    where
      idle-stays : (settled : ℕ) (event : Event) → IsOfConnection event → happens p (Idle settled) event ≡ states.stays (Idle settled)
      idle-stays settled (Send n) kind = refl
      idle-stays settled (ToFilter n) kind = refl
      idle-stays settled (Answer n) kind = refl
      idle-stays settled (ToMta n) kind = refl
      idle-stays settled Die kind = refl
      idle-stays settled Dial kind = absurd kind
      idle-stays settled Lose kind = absurd kind
      idle-stays settled Timeout kind = absurd kind

      by_state : (s : State) → ends.state ≡ s → Steps p ends event ends
      by_state (Idle settled) at = stays-as event (Idle settled) at (idle-stays settled event kind)
      by_state (Linked settled c) at = absurd (other settled c at)
      by_state Done at = stays-as event Done at refl

  pub dead : (event : Event) → ends.filter ≡ None → IsOfFilter event → Steps p ends event ends
  dead event none kind = by_state ends.state refl event kind
    where
      by_event : (settled : ℕ) (c : Counts) → ends.state ≡ Linked settled c → (event : Event) → IsOfFilter event → Steps p ends event ends
      by_event settled c at (ToFilter n) kind = dead-to p ends is.possible is.by_dialogues settled c at (at-state (Linked settled c) at) none n
      by_event settled c at (Answer n) kind = dead-answer p ends is.possible is.by_dialogues settled c at (at-state (Linked settled c) at) none n
      by_event settled c at (Send n) kind = absurd kind
      by_event settled c at (ToMta n) kind = absurd kind
      by_event settled c at Die kind = absurd kind
      by_event settled c at Dial kind = absurd kind
      by_event settled c at Lose kind = absurd kind
      by_event settled c at Timeout kind = absurd kind

      idle-stays : (settled : ℕ) (event : Event) → IsOfFilter event → happens p (Idle settled) event ≡ states.stays (Idle settled)
      idle-stays settled (ToFilter n) kind = refl
      idle-stays settled (Answer n) kind = refl
      idle-stays settled (Send n) kind = refl
      idle-stays settled (ToMta n) kind = refl
      idle-stays settled Die kind = refl
      idle-stays settled Dial kind = absurd kind
      idle-stays settled Lose kind = absurd kind
      idle-stays settled Timeout kind = absurd kind

      by_state : (s : State) → ends.state ≡ s → (event : Event) → IsOfFilter event → Steps p ends event ends
      by_state (Idle settled) at event kind = stays-as event (Idle settled) at (idle-stays settled event kind)
      by_state (Linked settled c) at event kind = by_event settled c at event kind
      by_state Done at event kind = stays-as event Done at refl

  pub lost : LossLaws → (event : Event) (loss : Loss) → ends.state ≢ Done → IsLossBy loss event → Steps p ends event (lost_ends loss ends (happens p ends.state event).state)
  lost laws event loss going kind = by_state ends.state refl event kind
    where
      by_idle : (settled : ℕ) → ends.state ≡ Idle settled → (event : Event) → IsLossBy loss event → Steps p ends event (lost_ends loss ends (happens p ends.state event).state)
      by_idle settled at Lose e = gives-up p ends is.possible is.by_dialogues settled at (at-state (Idle settled) at) loss laws Lose (rw e refl)
      by_idle settled at Timeout e = gives-up p ends is.possible is.by_dialogues settled at (at-state (Idle settled) at) loss laws Timeout (rw e refl)
      by_idle settled at Dial e = absurd e
      by_idle settled at (Send n) e = absurd e
      by_idle settled at (ToFilter n) e = absurd e
      by_idle settled at (Answer n) e = absurd e
      by_idle settled at (ToMta n) e = absurd e
      by_idle settled at Die e = absurd e

      by_linked : (settled : ℕ) (c : Counts) → ends.state ≡ Linked settled c → (event : Event) → IsLossBy loss event → Steps p ends event (lost_ends loss ends (happens p ends.state event).state)
      by_linked settled c at Lose e = loses p ends is.possible is.by_dialogues settled c at (at-state (Linked settled c) at) laws loss Lose (rw e refl)
      by_linked settled c at Timeout e = loses p ends is.possible is.by_dialogues settled c at (at-state (Linked settled c) at) laws loss Timeout (rw e refl)
      by_linked settled c at Dial e = absurd e
      by_linked settled c at (Send n) e = absurd e
      by_linked settled c at (ToFilter n) e = absurd e
      by_linked settled c at (Answer n) e = absurd e
      by_linked settled c at (ToMta n) e = absurd e
      by_linked settled c at Die e = absurd e

      by_state : (s : State) → ends.state ≡ s → (event : Event) → IsLossBy loss event → Steps p ends event (lost_ends loss ends (happens p ends.state event).state)
      by_state (Idle settled) at event kind = by_idle settled at event kind
      by_state (Linked settled c) at event kind = by_linked settled c at event kind
      by_state Done at event kind = absurd (going at)

  -- ---- where a loss leads

  count-lost : LossLaws → (event : Event) (loss : Loss) → ends.state ≢ Done → IsLossBy loss event
      → (happens p ends.state event).state ≡ idle_at p (length (lost_by loss ends.mta).reports)
  count-lost laws event loss going kind = by_state ends.state refl event kind
    where
      by_idle : (settled : ℕ) → ends.state ≡ Idle settled → (event : Event) → IsLossBy loss event → (happens p (Idle settled) event).state ≡ idle_at p (length (lost_by loss ends.mta).reports)
      by_idle settled at Lose e = rw (← e) (ap (idle_at p) (sym (count-idle p ends is.possible is.by_dialogues settled at (at-state (Idle settled) at) loss)))
      by_idle settled at Timeout e = rw (← e) (ap (idle_at p) (sym (count-idle p ends is.possible is.by_dialogues settled at (at-state (Idle settled) at) loss)))
      by_idle settled at Dial e = absurd e
      by_idle settled at (Send n) e = absurd e
      by_idle settled at (ToFilter n) e = absurd e
      by_idle settled at (Answer n) e = absurd e
      by_idle settled at (ToMta n) e = absurd e
      by_idle settled at Die e = absurd e

      by_linked : (settled : ℕ) (c : Counts) → ends.state ≡ Linked settled c → (event : Event) → IsLossBy loss event
          → (happens p (Linked settled c) event).state ≡ idle_at p (length (lost_by loss ends.mta).reports)
      by_linked settled c at Lose e = rw (← e) (ap (idle_at p) (sym (count-by p ends is.possible is.by_dialogues settled c at (at-state (Linked settled c) at) laws.settles_nothing loss)))
      by_linked settled c at Timeout e = rw (← e) (ap (idle_at p) (sym (count-by p ends is.possible is.by_dialogues settled c at (at-state (Linked settled c) at) laws.settles_nothing loss)))
      by_linked settled c at Dial e = absurd e
      by_linked settled c at (Send n) e = absurd e
      by_linked settled c at (ToFilter n) e = absurd e
      by_linked settled c at (Answer n) e = absurd e
      by_linked settled c at (ToMta n) e = absurd e
      by_linked settled c at Die e = absurd e

      by_state : (s : State) → ends.state ≡ s → (event : Event) → IsLossBy loss event → (happens p s event).state ≡ idle_at p (length (lost_by loss ends.mta).reports)
      by_state (Idle settled) at event kind = by_idle settled at event kind
      by_state (Linked settled c) at event kind = by_linked settled c at event kind
      by_state Done at event kind = absurd (going at)

  want-lost : LossLaws → (loss : Loss) → want (lost_by loss ends.mta) ≡ want_unconnected (drop (length (lost_by loss ends.mta).reports) p.session.messages)
  want-lost laws loss =
      ap (λ (l : Option FilterConnection). want_in l (lost_by loss ends.mta).session.messages) (laws.unconnected loss ends.mta)
      ∙ ap want_unconnected (messages-left p (lost_by loss ends.mta) (dialogues-lost p ends is.possible is.by_dialogues laws loss))

  pub dials-again : LossLaws → (event : Event) (loss : Loss) → ends.state ≢ Done → IsLossBy loss event → want (lost_by loss ends.mta) ≡ wants.Dial
      → (happens p ends.state event).state ≡ Idle (length (lost_by loss ends.mta).reports)
  dials-again laws event loss going kind wanted =
      count-lost laws event loss going kind
      ∙ by_lt n (length p.session.messages)
      (λ less. ap (λ (k : Bool). if k then Idle n else Done) (lt-ltb n (length p.session.messages) less))
      (λ none. absurd (let w : wants.Done ≡ wants.Dial = ap want_unconnected (sym (drop_all n p.session.messages none)) ∙ sym (want-lost laws loss) ∙ wanted in cc))
    where
      n : ℕ
      n = length (lost_by loss ends.mta).reports

  pub ends-then : LossLaws → (event : Event) (loss : Loss) → ends.state ≢ Done → IsLossBy loss event → want (lost_by loss ends.mta) ≢ wants.Dial
      → (happens p ends.state event).state ≡ Done
  ends-then laws event loss going kind other =
      count-lost laws event loss going kind
      ∙ by_lt (length (lost_by loss ends.mta).reports) (length p.session.messages)
      (λ less. absurd (other (want-lost laws loss ∙ some-left (length (lost_by loss ends.mta).reports) p.session.messages less)))
      (λ none. ap (λ (k : Bool). if k then Idle (length (lost_by loss ends.mta).reports) else Done) (le-ltb (length (lost_by loss ends.mta).reports) (length p.session.messages) none))
    where
      by_list : (l : List MailObject) → 0 < length l → want_unconnected l ≡ wants.Dial
      by_list [] some = absurd (let h : 0 < 0 = some in omega arith)
      by_list (m ∷ l) some = refl

      some-left : (n : ℕ) (l : List MailObject) → n < length l → want_unconnected (drop n l) ≡ wants.Dial
      some-left n l less = by_list (drop n l) (let d = length-drop n l in omega arith)
