-- A connection that was just made.
use Rattle.std.proofs.Common.{◌≡◌, ◌≢◌, ◌<◌, arith, ℕ, Bool, true, false, List, [], length, Option, None, Some, refl, sym, subst}
use Rattle.milter_message.specs.MailObject.{MailObject}
use Rattle.milter_mta_outcome.specs.declared.loss.Loss.{Loss}
use Rattle.milter_mta.specs.declared.mta_core.Want.{Want}
use Rattle.milter_mta.specs.declared.mta_core.Want.TheVariants as wants
use Rattle.milter_mta.specs.Mta.{FilterConnection, Mta, Position}
use Rattle.milter_mta.specs.Mta.Position.{Ended, Offering, Quitting, Sending}
use Rattle.milter_mta.specs.Output.{dialled, dialled_if, want, want_at, want_if_owed, want_in, want_unconnected}
use Rattle.milter_mta.specs.Dispositions.{lost}
use Rattle.milter_mta_client.specs.ConnectionRuns.{IsConnected, dials_left, dials_left_with}
use Rattle.milter_mta_outcome.specs.declared.outcome.Report.{Report}
use Rattle.milter_mta_client.specs.Observations.{Notes, NotesAdded}
use Rattle.milter_mta_client.proofs.Connected.{lost-fewer}
use Rattle.milter_mta_client.proofs.Noted.{notes-none}

-- what is known where a connection is wanted
pub record IsDialled (m : Mta) : Type 0 where
  pub connected : IsConnected (dialled m)
  pub some_left : (dialled m).session.messages ≢ []
  pub dials : length (dialled m).session.messages ≡ dials_left m

owed-not-dial : (owed : Bool) → want_if_owed owed ≢ wants.Dial
owed-not-dial true e = absurd cc
owed-not-dial false e = absurd cc

at-not-dial : (aborts : Bool) (position : Position) (owed : Bool) → want_at aborts position owed ≢ wants.Dial
at-not-dial true position owed e = owed-not-dial owed e
at-not-dial false Offering owed e = owed-not-dial owed e
at-not-dial false (Sending negotiated verdicts es left) owed e = owed-not-dial owed e
at-not-dial false Quitting owed e = owed-not-dial owed e
at-not-dial false Ended owed e = absurd cc

none-not-dial : want_unconnected [] ≢ wants.Dial
none-not-dial e = absurd cc

some-messages : (messages : List MailObject) → want_unconnected messages ≡ wants.Dial → messages ≢ []
some-messages messages e none = none-not-dial (subst (λ (l : List MailObject). want_unconnected l ≡ wants.Dial) none e)

some-left : (filter_connection : Option FilterConnection) (messages : List MailObject) → want_in filter_connection messages ≡ wants.Dial → messages ≢ []
some-left None messages e = some-messages messages e
some-left (Some filter_connection) messages e = absurd (at-not-dial filter_connection.aborts filter_connection.position filter_connection.owed e)

all-left : (filter_connection : Option FilterConnection) (messages : List MailObject) → want_in filter_connection messages ≡ wants.Dial → length messages ≡ dials_left_with filter_connection messages
all-left None messages e = refl
all-left (Some filter_connection) messages e = absurd (at-not-dial filter_connection.aborts filter_connection.position filter_connection.owed e)

pub is-dialled : (m : Mta) → want m ≡ wants.Dial → IsDialled m
is-dialled m e = record {
  connected = subst (λ (w : Want). IsConnected (dialled_if w m)) (sym e) tt;
  some_left = subst (λ (w : Want). (dialled_if w m).session.messages ≢ []) (sym e) (some-left m.filter_connection m.session.messages e);
  dials = subst (λ (w : Want). length (dialled_if w m).session.messages ≡ dials_left m) (sym e) (all-left m.filter_connection m.session.messages e);
}

-- a failed attempt settles a message
pub lost-down : (m : Mta) (loss : Loss) → want m ≡ wants.Dial → dials_left (lost loss m) < dials_left m
lost-down m loss e =
    omega (arith, lost-fewer m m loss (omega arith) (some-left m.filter_connection m.session.messages e), all-left m.filter_connection m.session.messages e)

-- no report is added
pub dialled-notes : {O : Type 0} (notes : O → ℕ → Report → O → Type 0) (m : Mta) (a : O) → Notes notes m (dialled m) a a
dialled-notes notes m a on = by_want (want m)
  where
    by_want : (w : Want) → NotesAdded notes m (dialled_if w m) a a
    by_want wants.Dial = notes-none notes m a
    by_want wants.Send = notes-none notes m a
    by_want wants.Receive = notes-none notes m a
    by_want wants.Done = notes-none notes m a
