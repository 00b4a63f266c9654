-- What happens to a mail server's end while it is driven over connections to filters.
use Rattle.std.specs.Prelude.{◌≡◌, ◌≢◌, ℕ, List, [], ◌∷◌, ◌++◌, length, Result}
use Rattle.milter_mta_outcome.specs.declared.loss.Loss.{Loss}
use Rattle.milter_mta_outcome.specs.declared.loss.Loss.TheVariants.{Fault}
use Rattle.milter_mta.specs.declared.mta_core.Want.TheVariants as wants
use Rattle.milter_mta.specs.Cores.{ReceivesBytes}
use Rattle.milter_mta.specs.Mta.{Mta}
use Rattle.milter_mta.specs.Output.{advanced, dialled, pending, sent, want}
use Rattle.milter_mta.specs.Dispositions.{lost}

pub data Event : Type 0 where
  -- a connection to a filter was made
  Dialled : Event
  -- the next packet was made
  Advanced : Event
  -- these bytes of the packet were written
  Wrote : List ℕ → Event
  -- these bytes were read
  Read : List ℕ → Event
  -- the connection, or the attempt to make one, was given up
  GaveUp : Loss → Event

-- a loss that isn't a fault of what the filter sent: those are received in what was read
abbrev pub IsOutside : Loss → Type 0
IsOutside (Fault fault) = ⊥
IsOutside loss = Unit {0}

-- these bytes are the next ones of the packet that is pending, and were sent
pub record Sends (bytes : List ℕ) (old new : Mta) : Type 0 where
  pub some : bytes ≢ []
  pub others : List ℕ
  pub packet : pending old ≡ bytes ++ others
  pub sent_is : new ≡ sent (length bytes) old

-- a reply is awaited, and these bytes were received
pub record Reception (bytes : List ℕ) (old new : Mta) : Type 0 where
  pub wanted : want old ≡ wants.Receive
  pub some : bytes ≢ []
  pub result : Result Unit Loss
  pub receives_bytes : ReceivesBytes old bytes new result

-- what an event leaves; each comes only where the mail server's end wants it
abbrev pub Does : Event → Mta → Mta → Type 0
Does Dialled old new = (want old ≡ wants.Dial) × (new ≡ dialled old)
Does Advanced old new = (want old ≡ wants.Send) × (new ≡ advanced old)
Does (Wrote bytes) old new = Sends bytes old new
Does (Read bytes) old new = Reception bytes old new
Does (GaveUp loss) old new = IsOutside loss × (new ≡ lost loss old)

-- these events came one after the other
abbrev pub Runs : Mta → List Event → Mta → Type 0
Runs old [] new = new ≡ old
Runs old (event ∷ events) new = (between : Mta) × Does event old between × Runs between events new
