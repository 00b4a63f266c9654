-- A mail server's end, in the terms of what a caller in C passes and reads.
use Rattle.std.specs.Prelude.{◌≡◌, ℕ, ℤ, List, [], IsSomeAnd, Result}
use Rattle.milter_wire.specs.declared.options.Options.{Options}
use Rattle.milter_message.specs.declared.edit.Edit.{Edit}
use Rattle.milter_mta_connection.specs.ChannelParts.{Receives}
use Rattle.milter_mta_connection.specs.declared.call_outcome.CallFault.{CallFault}
use Rattle.milter_mta_connection.specs.declared.call_outcome.CallOutcome.{CallOutcome}
use Rattle.milter_mta_connection.specs.Connection.{after_fed, fresh}
use Rattle.milter_c_objects.specs.EditParts.{edit_index, edit_number, first_text, second_text}
use Rattle.milter_c_objects.specs.MtaEnds.{nothing_fed}
use Rattle.milter_c_objects.specs.MtaNumbers.{loss_status}
use Rattle.milter_c_objects.specs.declared.mta_end.MtaEnd.{MtaEnd}
use Rattle.milter_c_objects.specs.declared.handle.Handle.{Handle}
use Rattle.milter_c_objects.specs.Objects.{mta_of}
use Rattle.milter_c.specs.declared.view.EditView.{EditView}

abbrev pub options_of : ℕ → ℕ → ℕ → Options
options_of version actions protocol =
    record { version = version; actions = record { 0 = actions }; protocol = record { 0 = protocol } }

-- a connection that was just made, with this offer
abbrev pub fresh_mta : ℕ → ℕ → ℕ → MtaEnd
fresh_mta version actions protocol =
    record {
      connection = fresh (options_of version actions protocol);
      macros = [];
      params = [];
      fed = nothing_fed;
    }

-- a view shows the parts of an edit
abbrev pub ShowsEdit : Edit → EditView → Type 0
ShowsEdit edit view =
    (view.kind ≡ edit_number edit) × (view.index ≡ edit_index edit) × (view.first.now ≡ first_text edit)
    × (view.second.now ≡ second_text edit)

-- a piece was taken, and the status is its loss
pub record IsFed (old : MtaEnd) (piece : List ℕ) (new : MtaEnd) (status : ℤ) : Type 0 where
  pub receives : Receives old.connection.channel piece new.connection.channel new.fed
  pub goes_on : new.connection ≡ after_fed new.fed new.connection.channel old.connection
  pub given : new ≡ record old { connection = new.connection; fed = new.fed }
  pub status_is : status ≡ loss_status new.fed.loss

-- a call of a handle's mail server's end leaves what this says of it
abbrev pub IsCall : (MtaEnd → MtaEnd → Result CallOutcome CallFault → Type 0) → Handle → Handle
    → Result CallOutcome CallFault → Type 0
IsCall leaves old new done =
    IsSomeAnd (mta_of old) (λ before. IsSomeAnd (mta_of new) (λ after. leaves before after done))
