-- Both ends before their first connection.
use Rattle.std.proofs.Common.{◌≡◌, ◌≢◌, Bool, if◌then◌else◌, ltb, List, [], ◌∷◌, refl, ap, arith, length}
use Rattle.milter_message.specs.MailObject.{MailObject}
use Rattle.milter_protocol.specs.declared.stage_order.CommandOrder.{CommandOrder}
use Rattle.milter_mta.specs.declared.mta_core.Want.TheVariants as wants
use Rattle.milter_mta.specs.Mta.{fresh}
use Rattle.milter_mta.specs.Output.{want, want_unconnected}
use Rattle.milter_world.proofs.CountedBytes.{lt-ltb}
use Rattle.milter_world.specs.declared.state.State.TheVariants.{Idle, Done}
use Rattle.milter_world.specs.Schedule.{Scenario, first}
use Rattle.milter_world.specs.Ends.{AreEndsOf, IsPossible, IsReportedByDialogues, fresh_ends}
use Rattle.milter_world.proofs.EndSteps.{idle-at}

pub begins : {P : Type 0} (p : Scenario) (order : CommandOrder) (policy : P) → IsPossible p → IsReportedByDialogues p (fresh p.config p.session) → AreEndsOf p (fresh_ends p order policy)
begins p order policy possible by_dialogues =
    record {
      possible = possible;
      by_dialogues = by_dialogues;
      is_at = idle-at p (fresh_ends p order policy) possible by_dialogues 0 (fresh p.config p.session) refl refl;
    }

pub dials-first : (p : Scenario) → want (fresh p.config p.session) ≡ wants.Dial → first p ≡ Idle 0
dials-first p wanted = by_messages p.session.messages wanted
  where
    by_messages : (l : List MailObject) → want_unconnected l ≡ wants.Dial → (if ltb 0 (length l) then Idle 0 else Done) ≡ Idle 0
    by_messages [] e = absurd cc
    by_messages (message ∷ l) e = ap (λ (b : Bool). if b then Idle 0 else Done) (lt-ltb 0 (length (message ∷ l)) (omega arith))

pub over-first : (p : Scenario) → want (fresh p.config p.session) ≢ wants.Dial → first p ≡ Done
over-first p other = by_messages p.session.messages other
  where
    by_messages : (l : List MailObject) → want_unconnected l ≢ wants.Dial → (if ltb 0 (length l) then Idle 0 else Done) ≡ Done
    by_messages [] some = refl
    by_messages (message ∷ l) some = absurd (some refl)
