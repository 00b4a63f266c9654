-- What always holds of a mail server's end, and how it goes on by pieces.
use Rattle.std.specs.Prelude.{◌≡◌, ◌<◌, ℕ, Bool, true, false, List, [], length, take, Option, None, Some, Result, Ok, Err}
use Rattle.milter_mta_connection.specs.Channel.{Channel}
use Rattle.milter_mta_outcome.specs.declared.loss.Loss.{Loss}
use Rattle.milter_mta_outcome.specs.declared.loss.Loss.TheVariants.{Memory}
use Rattle.milter_mta_outcome.specs.declared.plan_cursor.ClientInfo.{ClientInfo}
use Rattle.milter_mta.specs.declared.state.FilterConnection.{FilterConnection as Connected}
use Rattle.milter_mta.specs.declared.state.SessionState.{SessionState}
use Rattle.milter_mta.specs.CoreParts.{IsConsistent, mta_of, position_of, unconnected}
use Rattle.milter_mta.specs.Driven.{IsInStep}
use Rattle.milter_mta.specs.Mta.{FilterConnection, Mta}
use Rattle.milter_mta.specs.Replies.{goes_on, received}
use Rattle.milter_mta.specs.Dispositions.{lost}

abbrev pub IsInStepIn : ClientInfo → Option Connected → Channel → Type 0
IsInStepIn client_info None channel = Unit {0}
IsInStepIn client_info (Some connection) channel =
    IsInStep connection.aborts (position_of client_info channel.edits connection.position) channel

pub record IsCore (state : SessionState) (connection : Option Connected) (channel : Channel) : Type 0 where
  pub consistent : IsConsistent state connection
  pub offer : channel.offer ≡ state.config.offer
  pub in_step : IsInStepIn state.client_info connection channel

-- after a loss there is no connection
abbrev pub mta_then : SessionState → Connected → Channel → Result Unit Loss → Mta
mta_then state connection channel (Ok done) = mta_of state (Some connection) channel
mta_then state connection channel (Err loss) = unconnected state []

abbrev pub IsCoreAfter : SessionState → Connected → Channel → Result Unit Loss → Type 0
IsCoreAfter state connection channel (Ok done) = IsCore state (Some connection) channel
IsCoreAfter state connection channel (Err loss) = IsCore state None channel

-- a reply is owed
abbrev pub is_owed_in : Option FilterConnection → Bool
is_owed_in None = false
is_owed_in (Some filter_connection) = filter_connection.owed

-- memory was refused before the piece was received to its end, while a reply was owed, and the filter is lost then
pub record IsLostAfter (old : Mta) (piece : List ℕ) (new : Mta) : Type 0 where
  pub count : ℕ
  pub before : Mta
  pub within : count < length piece
  pub received_before : received old (take count piece) ≡ goes_on before
  pub owed_before : is_owed_in before.filter_connection ≡ true
  pub lost_then : new ≡ lost Memory before

-- what a piece leaves, by what is received of it; or, where memory was refused, the filter is lost
abbrev pub ReceivesBytes : Mta → List ℕ → Mta → Result Unit Loss → Type 0
ReceivesBytes old piece new (Ok done) = received old piece ≡ goes_on new
ReceivesBytes old piece new (Err Memory) = IsLostAfter old piece new
ReceivesBytes old piece new (Err loss) = received old piece ≡ record { mta = new; loss = Some loss }
