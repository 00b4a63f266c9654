-- How far a mail server's end comes on one connection.
use Rattle.std.specs.Prelude.{◌≡◌, ◌≤◌, ◌⊎◌, ℕ, List, length, Option, None, Some, Result, Ok, Err}
use Rattle.std.specs.Io.KnownBytes.{Appends, Consumes, Keeps}
use Rattle.milter_message.specs.MailObject.{MailObject}
use Rattle.milter_mta_outcome.specs.declared.loss.Loss.{Loss}
use Rattle.milter_mta_outcome.specs.declared.loss.Loss.TheVariants.{Memory}
use Rattle.milter_mta.specs.declared.mta_core.Want.TheVariants as wants
use Rattle.milter_mta.specs.Mta.{FilterConnection, Mta}
use Rattle.milter_mta.specs.Output.{advanced, want}
use Rattle.milter_mta.specs.Dispositions.{lost}
use Rattle.milter_mta_client.specs.Events.{Event, Reception, IsOutside, Runs, Sends}
use Rattle.milter_mta_client.specs.declared.link_calls.Stop.{Stop}
use Rattle.milter_mta_client.specs.declared.link_calls.Stop.TheVariants.{Interrupted, Lost, Over}

-- ---- connections

abbrev pub IsConnectedBy : Option FilterConnection → Type 0
IsConnectedBy None = ⊥
IsConnectedBy (Some filter_connection) = Unit {0}

-- a connection is there
abbrev pub IsConnected : Mta → Type 0
IsConnected m = IsConnectedBy m.filter_connection

-- a connection is to be made, or nothing is left to do
abbrev pub IsBetween : Mta → Type 0
IsBetween m = (want m ≡ wants.Dial) ⊎ (want m ≡ wants.Done)

-- how many connections are wanted at most: one for each message that is left, unless one is there
abbrev pub dials_left_with : Option FilterConnection → List MailObject → ℕ
dials_left_with None messages = length messages
dials_left_with (Some filter_connection) messages = 0

abbrev pub dials_left : Mta → ℕ
dials_left m = dials_left_with m.filter_connection m.session.messages

-- ---- events

-- by events
pub record Steps (old new : Mta) : Type 0 where
  pub events : List Event
  pub runs : Runs old events new

-- the connection is still there, and no message was added
pub record StaysConnected (old new : Mta) : Type 0 where
  pub connected : IsConnected new
  pub no_more : length new.session.messages ≤ length old.session.messages

-- the connection was there to the end, and was given up
pub record IsGivenUp (old new : Mta) : Type 0 where
  pub before : Mta
  pub stays : StaysConnected old before
  pub loss : Loss
  pub lost_is : new ≡ lost loss before

-- it went on over the connection
pub record Moves (old new : Mta) : Type 0 where
  pub steps : Steps old new
  pub stays : StaysConnected old new

-- nothing was left to do, or the connection was given up
abbrev pub IsOver : Mta → Mta → Type 0
IsOver old new = ((new ≡ old) × IsBetween old) ⊎ IsGivenUp old new

-- what a turn leaves
abbrev pub Turns : Mta → Mta → Result Unit Stop → Type 0
Turns old new (Ok done) = Moves old new
Turns old new (Err Interrupted) = Moves old new
Turns old new (Err (Lost loss)) = Moves old new × IsOutside loss
Turns old new (Err Over) = Steps old new × IsOver old new

-- ---- one call of the link

-- some bytes of the packet that is pending then were written, and no others
pub record Writes (written all : Option (List ℕ)) (old new : Mta) : Type 0 where
  pub bytes : List ℕ
  pub was_written : Appends written all bytes
  pub sends : Sends bytes (advanced old) new

abbrev pub Transmits : Option (List ℕ) → Option (List ℕ) → Mta → Mta → Result Unit Stop → Type 0
Transmits written all old new (Ok done) = Writes written all old new
-- the packet was not made
Transmits written all old new (Err (Lost Memory)) = Keeps written all × (new ≡ old)
-- nothing of it was written
Transmits written all old new (Err (Lost loss)) = Keeps written all × (new ≡ advanced old) × IsOutside loss
Transmits written all old new (Err Interrupted) = Keeps written all × (new ≡ advanced old)
Transmits written all old new (Err Over) = ⊥

-- what was read was received
pub record ReadsAs (unread left : Option (List ℕ)) (old new : Mta) (result : Result Unit Loss) : Type 0 where
  pub bytes : List ℕ
  pub was_read : Consumes unread left bytes
  pub reception : Reception bytes old new
  pub result_is : reception.result ≡ result

abbrev pub Receives : Option (List ℕ) → Option (List ℕ) → Mta → Mta → Result Unit Stop → Type 0
Receives unread left old new (Ok done) = ReadsAs unread left old new (Ok done)
-- the filter was lost by what was read
Receives unread left old new (Err Over) = (loss : Loss) × ReadsAs unread left old new (Err loss)
Receives unread left old new (Err (Lost loss)) = Keeps unread left × (new ≡ old) × IsOutside loss
Receives unread left old new (Err Interrupted) = Keeps unread left × (new ≡ old)
