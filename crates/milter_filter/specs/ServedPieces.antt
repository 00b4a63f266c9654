-- What serving one piece of the input does, of which the contract of serving a connection is made.
use Rattle.std.specs.Prelude.{◌≡◌, ◌≢◌, ℕ, List, [], ◌++◌, Option}
use Rattle.std.specs.Io.KnownBytes.{Appends}
use Rattle.milter_protocol.specs.Behavior.{Behavior}
use Rattle.milter_protocol.specs.declared.filter_fault.FilterFault.{FilterFault as Fault}
use Rattle.milter_protocol.specs.declared.filter_fault.FilterFault.TheVariants.{NoMemory}
use Rattle.milter_protocol.specs.declared.filter_fault.FilterState.TheVariants as states
use Rattle.milter_filter.specs.declared.turn.Served.{Served}
use Rattle.milter_filter.specs.declared.turn.Served.TheVariants.{Failed, WriteFault}
use Rattle.milter_filter.specs.Cores.{Core, GoesOn, given_up}

-- the first of the bytes that were pending were written, and these are left
pub record Writes (pending left : List ℕ) (written all : Option (List ℕ)) : Type 0 where
  pub sent : List ℕ
  pub was_written : Appends written all sent
  pub whole : sent ++ left ≡ pending

-- the core goes on by these bytes, and what was sent was written
pub record Goes {P : Type 0} (b : Behavior) (old : Core P) (input : List ℕ) (new : Core P)
    (written all : Option (List ℕ)) : Type 0 where
  pub sent : List ℕ
  pub goes_on : GoesOn b old input sent new
  pub was_written : Appends written all sent

-- the whole piece was taken, and all replies to it were written
pub record PieceServed {P : Type 0} (b : Behavior) (old : Core P) (piece : List ℕ) (new : Core P)
    (written all : Option (List ℕ)) : Type 0 where
  pub goes : Goes b old piece new written all
  pub nothing_pending : new.pending ≡ []
  pub going : (fault : Fault) → new.order_state.state ≢ states.Failed fault

-- a prefix of the piece was taken
pub record PieceCut {P : Type 0} (b : Behavior) (old : Core P) (piece : List ℕ) (new : Core P)
    (written all : Option (List ℕ)) : Type 0 where
  pub taken : List ℕ
  pub others : List ℕ
  pub piece_is : taken ++ others ≡ piece
  pub goes : Goes b old taken new written all

-- serving ended in the piece, so
abbrev pub CutOff : {P : Type 0} → Behavior → Core P → List ℕ → Option (List ℕ) → Option (List ℕ) → Served → Type 0
CutOff {P} b old piece written all (Failed fault) =
    (fault ≢ NoMemory → Goes b old piece (given_up old fault) written all)
    × (fault ≡ NoMemory → (new : Core P) × PieceCut b old piece new written all × (new.pending ≡ []))
CutOff {P} b old piece written all WriteFault = (new : Core P) × PieceCut b old piece new written all
CutOff {P} b old piece written all other = ⊥
