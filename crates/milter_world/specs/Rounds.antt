-- Rounds in which all moves that can.
use Rattle.std.specs.Prelude.{◌≡◌, ◌≤◌, ◌<◌, ℕ, zero, suc, ◌+◌, ◌-◌, min, true, List, [], ◌∷◌, ◌++◌, length}
use Rattle.milter_mta.specs.Lines.{Line}
use Rattle.milter_world.specs.ByteCounts.{due, owed, to_filter, to_mta}
use Rattle.milter_world.specs.declared.event_line.Event.{Event}
use Rattle.milter_world.specs.declared.event_line.Event.TheVariants.{Send, ToFilter, Answer, ToMta}
use Rattle.milter_world.specs.declared.state.Counts.{Counts}
use Rattle.milter_world.specs.declared.state.State.{State}
use Rattle.milter_world.specs.declared.state.State.TheVariants.{Linked}

-- The counts of a connection that isn't over: each end has only what the other one sent, and no more was sent than is
-- due.
pub record AreCounts (lines : List Line) (c : Counts) : Type 0 where
  pub not_over : c.sent < length (to_filter lines)
  pub taken : c.taken ≤ c.sent
  pub sent : c.sent ≤ due lines c.received
  pub received : c.received ≤ c.answered
  pub answered : c.answered ≤ owed lines c.taken

-- how many bytes are to move yet
abbrev pub to_move : List Line → Counts → ℕ
to_move lines c =
    (length (to_filter lines) - c.sent) + (length (to_filter lines) - c.taken) + (length (to_mta lines) - c.answered)
    + (length (to_mta lines) - c.received)

-- at most so many bytes moved at each place but that where they are sent
abbrev pub after_round : List Line → Counts → ℕ → Counts
after_round lines c n =
    let taken = min (c.taken + n) c.sent in
    let answered = min (c.answered + n) (owed lines taken) in
    record c { taken = taken; answered = answered; received = min (c.received + n) answered }

-- all four moves, in order
abbrev pub round : ℕ → List Event
round n = Send n ∷ ToFilter n ∷ Answer n ∷ ToMta n ∷ []

abbrev pub rounds : ℕ → ℕ → List Event
rounds zero n = []
rounds (suc k) n = round n ++ rounds k n

-- it is over, or lives with fewer bytes to move
pub record MovesOn (lines : List Line) (settled : ℕ) (c : Counts) (state : State) : Type 0 where
  pub next : Counts
  pub state_is : state ≡ Linked settled next
  pub lives : next.lives ≡ true
  pub less : to_move lines next < to_move lines c
