-- What becomes of a session, from what happened.
use Rattle.std.proofs.Common.{◌≡◌, ◌≢◌, ◌<◌, inl, inr, arith, List, [], ◌++◌, append-nil, length, Option, refl, sym, ap, ◌∙◌, subst}
use Rattle.std.specs.List.{AllZip}
use Rattle.milter_wire.specs.declared.verdict.Verdict.{Verdict}
use Rattle.milter_message.specs.MailObject.{MailObject}
use Rattle.milter_mta_outcome.specs.declared.loss.Loss.{Loss}
use Rattle.milter_mta_outcome.specs.declared.outcome.Report.{Report}
use Rattle.milter_mta.specs.declared.mta_core.Want.{Want}
use Rattle.milter_mta.specs.declared.mta_core.Want.TheVariants as wants
use Rattle.milter_mta.specs.Accounts.{Disposition}
use Rattle.milter_mta.specs.Mta.{Mta}
use Rattle.milter_mta.specs.Output.{want}
use Rattle.milter_mta.specs.Dispositions.{lost}
use Rattle.milter_mta.specs.AnyFilter.{ConnectionIsReported, GoesOnDialogues, IsOnDialogue, IsReportByDialogue, without_messages}
use Rattle.milter_mta_client.specs.ClientRuns.{Converses, ReportsEach, first_events}
use Rattle.milter_mta_client.specs.ConnectionRuns.{IsBetween, IsOver, Moves, Steps, dials_left}
use Rattle.milter_mta_client.specs.Events.{Event, IsOutside, Runs}
use Rattle.milter_mta_client.specs.Events.Event.{GaveUp}
use Rattle.milter_mta_client.proofs.Connected.{connected-fewer, connected-on, lost-between, lost-fewer}
use Rattle.milter_mta_client.proofs.EventRuns.{one-step, runs-append, steps-on}

-- ---- one connection

-- what a connection leaves that was driven to its end
pub record Drives (start last : Mta) : Type 0 where
  pub steps : Steps start last
  pub between : IsBetween last
  pub fewer : dials_left last < length start.session.messages

module _ (start : Mta) (some : start.session.messages ≢ []) where
  pub gives-up : (m : Mta) (loss : Loss) → Moves start m → IsOutside loss → Drives start (lost loss m)
  gives-up m loss moves outside = record {
    steps = steps-on start m (lost loss m) moves.steps (one-step m (lost loss m) (GaveUp loss) (outside, refl));
    between = lost-between loss m;
    fewer = lost-fewer start m loss moves.stays.no_more some;
  }

  pub ends : (m last : Mta) → Moves start m → Steps m last → IsOver m last → Drives start last
  ends m last moves steps (inl same) = record {
    steps = steps-on start m last moves.steps steps;
    between = subst IsBetween (sym same.0) same.1;
    fewer = subst (λ (x : Mta). dials_left x < length start.session.messages) (sym same.0) (connected-fewer start m moves.stays.connected some);
  }
  ends m last moves steps (inr over) = record {
    steps = steps-on start m last moves.steps steps;
    between = subst IsBetween (sym over.lost_is) (lost-between over.loss over.before);
    fewer = subst (λ (x : Mta). dials_left x < length start.session.messages) (sym over.lost_is)
        (lost-fewer start over.before over.loss (omega (arith, over.stays.no_more, moves.stays.no_more)) some);
  }

-- one turn after the other
pub moves-on : (a b c : Mta) → Moves a b → Moves b c → Moves a c
moves-on a b c first next = record { steps = steps-on a b c first.steps next.steps; stays = connected-on a b c first.stays next.stays }

-- ---- a connection that was there

pub between-runs : (m : Mta) → IsBetween m → Runs m (first_events (want m)) m
between-runs m (inl dial) = subst (λ (w : Want). Runs m (first_events w) m) (sym dial) refl
between-runs m (inr done) = subst (λ (w : Want). Runs m (first_events w) m) (sym done) refl

-- ---- to the end

pub disposition-is : (s : Disposition) (connection : Option Verdict) (messages : List Report) → s.connection ≡ connection → s.messages ≡ messages
    → s ≡ record { connection = connection; messages = messages }
disposition-is s connection messages of_connection of_messages =
    subst (λ (x : Option Verdict). s ≡ record { connection = x; messages = messages }) of_connection
    (subst (λ (x : List Report). s ≡ record { connection = s.connection; messages = x }) of_messages refl)

reports-each : (old last : Mta) (s : Disposition) → s ≡ record { connection = last.connection; messages = last.reports } → GoesOnDialogues old last → last.session.messages ≡ []
    → ReportsEach old s
reports-each old last s is goes none = record {
  added = goes.settles.added;
  reports_are = ap (λ (x : Disposition). x.messages) is ∙ goes.settles.reports_are;
  by_dialogues =
      let all : goes.settles.settled ≡ old.session.messages =
      sym (goes.settles.messages_are ∙ ap (λ (l : List MailObject). goes.settles.settled ++ l) none ∙ append-nil goes.settles.settled) in
      subst (λ (l : List MailObject). AllZip (IsReportByDialogue old.config (without_messages old.session)) l goes.settles.added) all goes.settles.by_dialogues;
}

pub converses : ((old new : Mta) (events : List Event) → IsOnDialogue old → Runs old events new → GoesOnDialogues old new)
    → ((old new : Mta) (events : List Event) → IsOnDialogue old → ConnectionIsReported old → Runs old events new → ConnectionIsReported new)
    → ((m : Mta) → IsOnDialogue m → want m ≡ wants.Done → m.session.messages ≡ [])
    → (old begun last : Mta) (s : Disposition) → Runs old (first_events (want old)) begun → Steps begun last → want last ≡ wants.Done
    → s ≡ record { connection = last.connection; messages = last.reports } → Converses old s
converses dialogues connections settles old begun last s first steps done is =
    let runs = runs-append old begun last (first_events (want old)) steps.events first steps.runs in
    record {
      events = steps.events;
      last = last;
      runs = runs;
      done = done;
      disposition_is = is;
      reports_each = λ on. let goes = dialogues old last _ on runs in reports-each old last s is goes (settles last goes.on_dialogue done);
      connection_is = λ on is_reported. connections old last _ on is_reported runs;
    }
