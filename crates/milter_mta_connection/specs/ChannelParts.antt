-- A channel to a filter by its parts, and what its calls leave.
use Rattle.std.specs.Prelude.{◌≡◌, ◌<◌, ℕ, true, List, length, take, Option, None, Some, Result, Ok, Err}
use Rattle.std.specs.List.{fold}
use Rattle.milter_mta_outcome.specs.declared.loss.Loss.{Loss}
use Rattle.milter_mta_outcome.specs.declared.loss.Loss.TheVariants.{Memory}
use Rattle.milter_mta_connection.specs.declared.channel_state.ChannelState.{ChannelState}
use Rattle.milter_mta_connection.specs.declared.channel_state.FedPrefix.{FedPrefix}
use Rattle.milter_mta_connection.specs.declared.filter_event.Fed.{Fed}
use Rattle.milter_mta_connection.specs.declared.filter_event.FilterEvent.{FilterEvent}
use Rattle.milter_mta_connection.specs.Channel.{Channel, is_owed}
use Rattle.milter_mta_connection.specs.Received.{After, ended, goes_on, latest, lost_by, received, received_byte}

-- with the bytes that are pending, and those that are unread
abbrev pub channel_of : ChannelState → List ℕ → List ℕ → Channel
channel_of state pending unread =
    record {
      offer = state.offer;
      negotiated = state.negotiated;
      expected = state.expected;
      edits = state.edits;
      pending = pending;
      unread = unread;
    }

-- ---- what a reply leaves

-- `all` is what is received of it, after this event; with a loss the connection has ended, and nothing is said where
-- memory was refused
abbrev pub Leaves : FilterEvent → Channel → After → Channel → Result FilterEvent Loss → Type 0
Leaves before old all new (Ok event) = all ≡ goes_on event new
Leaves before old all new (Err Memory) = Unit {0}
Leaves before old all new (Err loss) = all ≡ lost_by loss before old

-- the same of the first bytes of a piece
abbrev pub LeavesPrefix : FilterEvent → Channel → List ℕ → Channel → Result FedPrefix Loss → Type 0
LeavesPrefix before old piece new (Ok prefix) =
    fold received_byte (goes_on before old) (take prefix.count piece) ≡ goes_on (latest before prefix.event) new
LeavesPrefix before old piece new (Err Memory) = Unit {0}
LeavesPrefix before old piece new (Err loss) =
    fold received_byte (goes_on before old) piece ≡ lost_by loss before old

-- ---- a piece

-- memory was refused before the piece was received to its end, while a reply was owed, and the filter is lost then
pub record IsLostAfter (old : Channel) (piece : List ℕ) (new : Channel) (event : FilterEvent) : Type 0 where
  pub count : ℕ
  pub before : Channel
  pub within : count < length piece
  pub received_before : received old (take count piece) ≡ goes_on event before
  pub owed_before : is_owed before ≡ true
  pub lost_then : new ≡ ended event before

abbrev pub ReceivesBy : Option Loss → Channel → List ℕ → Channel → FilterEvent → Type 0
ReceivesBy (Some Memory) old piece new event = IsLostAfter old piece new event
ReceivesBy loss old piece new event = received old piece ≡ record { channel = new; event = event; loss = loss }

-- what is received of a piece; or, where memory was refused, the filter is lost
abbrev pub Receives : Channel → List ℕ → Channel → Fed → Type 0
Receives old piece new fed = ReceivesBy fed.loss old piece new fed.event

abbrev pub left_after : Option Loss → FilterEvent → Channel → Channel
left_after None event c = c
left_after (Some loss) event c = ended event c

-- what is left after this event, and perhaps a loss
abbrev pub left_by : Fed → Channel → Channel
left_by fed c = left_after fed.loss fed.event c
