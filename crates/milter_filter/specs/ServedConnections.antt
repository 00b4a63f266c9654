-- What serving a connection does to a reader and a writer.
use Rattle.std.specs.Prelude.{◌≡◌, ◌≢◌, ℕ, List, ◌++◌, length, Option}
use Rattle.std.specs.Io.KnownBytes.{Appends, Consumes, IsAtEnd}
use Rattle.milter_fields.specs.Stream.{divide}
use Rattle.milter_protocol.specs.Behavior.{Behavior}
use Rattle.milter_protocol.specs.declared.stage_order.CommandOrder.{CommandOrder}
use Rattle.milter_protocol.specs.declared.filter_fault.FilterFault.TheVariants.{NoMemory}
use Rattle.milter_protocol.specs.declared.filter_fault.FilterState.{FilterState}
use Rattle.milter_protocol.specs.declared.filter_fault.FilterState.TheVariants as states
use Rattle.milter_filter.specs.declared.turn.Served.{Served}
use Rattle.milter_filter.specs.declared.turn.Served.TheVariants.{Quit, Ended, Failed, ReadFault, WriteFault, TurnLimit}
use Rattle.milter_filter_stream.specs.Streams.{filter_end_of, reply_bytes}

-- by what connections are served one after another: a policy, and the order in which commands are taken
pub record ServedBy (P : Type 0) : Type 0 where
  pub policy : P
  pub order : CommandOrder

-- the reader gave these bytes, and the writer took all replies to them
pub record Replied (order : CommandOrder) (b : Behavior) (unread left written all : Option (List ℕ)) : Type 0 where
  pub input : List ℕ
  pub was_read : Consumes unread left input
  pub was_written : Appends written all (reply_bytes order b input)

-- the reader gave these bytes, and the writer took a prefix of the replies to them
pub record RepliedInPart (order : CommandOrder) (b : Behavior) (unread left written all : Option (List ℕ))
    : Type 0 where
  pub input : List ℕ
  pub sent : List ℕ
  pub unsent : List ℕ
  pub was_read : Consumes unread left input
  pub was_written : Appends written all sent
  pub prefix : sent ++ unsent ≡ reply_bytes order b input

-- the reader gave these bytes, and the writer took all replies to a prefix of them
pub record RepliedToPart (order : CommandOrder) (b : Behavior) (unread left written all : Option (List ℕ))
    : Type 0 where
  pub input : List ℕ
  pub answered : List ℕ
  pub others : List ℕ
  pub was_read : Consumes unread left input
  pub was_written : Appends written all (reply_bytes order b answered)
  pub prefix : answered ++ others ≡ input

-- all that was read is replied to, and this became of the connection
abbrev pub RepliedAs : FilterState → CommandOrder → Behavior → Option (List ℕ) → Option (List ℕ) → Option (List ℕ)
    → Option (List ℕ) → Type 0
RepliedAs state order b unread left written all =
    (x : Replied order b unread left written all) × ((filter_end_of order b x.input).state ≡ state)

abbrev pub Serves : CommandOrder → Behavior → Option (List ℕ) → Option (List ℕ) → Option (List ℕ) → Option (List ℕ)
    → Served → Type 0
Serves order b unread left written all Quit = RepliedAs states.Quit order b unread left written all
-- the reader is at its end, and so many bytes of a packet that isn't whole were its last
Serves order b unread left written all (Ended count) =
    (x : RepliedAs states.Serving order b unread left written all) × (length (divide x.0.input).rest ≡ count)
    × IsAtEnd left
-- what comes before the command at fault is replied to; where memory was refused, what comes before some command
Serves order b unread left written all (Failed fault) =
    (fault ≢ NoMemory → RepliedAs (states.Failed fault) order b unread left written all)
    × (fault ≡ NoMemory → RepliedToPart order b unread left written all)
Serves order b unread left written all ReadFault = RepliedAs states.Serving order b unread left written all
Serves order b unread left written all WriteFault = RepliedInPart order b unread left written all
Serves order b unread left written all TurnLimit = RepliedAs states.Serving order b unread left written all
