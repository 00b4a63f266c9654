-- Places in a list of patterns: one before each, and one behind the last.
use Rattle.std.specs.Prelude.{ℕ, Bool, false, ◌||◌, ◌&&◌, List, [], ◌∷◌}
use Rattle.milter_mta_client.specs.Patterns.{stand_for}

-- the patterns behind some place that is open stand for the lines
abbrev pub any_open : List Bool → List (List ℕ) → List (List ℕ) → Bool
any_open [] patterns lines = false
any_open (is_open ∷ others) [] lines = is_open && stand_for [] lines
any_open (is_open ∷ others) (pattern ∷ patterns) lines =
    (is_open && stand_for (pattern ∷ patterns) lines) || any_open others patterns lines

-- some place is open
abbrev pub is_any_open : List Bool → Bool
is_any_open [] = false
is_any_open (is_open ∷ others) = is_open || is_any_open others
