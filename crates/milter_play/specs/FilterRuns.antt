-- What the serving of connections one after another leaves.
use Rattle.std.specs.Prelude.{◌≡◌, ℕ, ◌+◌, ◌<◌, List, [], ◌∷◌, ◌++◌, length, Option}
use Rattle.std.specs.Io.KnownBytes.{Appends}
use Rattle.milter_protocol.specs.Behavior.{Behavior}
use Rattle.milter_filter.specs.declared.turn.Served.{Served}
use Rattle.milter_text.specs.WrittenText.{WritesPrefix}
use Rattle.milter_cli.specs.ConnectionLine.{report_line}

-- the lines of connections in turn, of which the first has this number
abbrev pub report_lines : ℕ → List Served → List ℕ
report_lines number [] = []
report_lines number (end ∷ ends) = report_line number end ++ report_lines (number + 1) ends

-- connections were served in turn by this behavior, and ended so
abbrev pub ServesEach : {C : Type 0} → (C → Behavior → Served → C → Type 0) → Behavior → C → List Served → C → Type 0
ServesEach serves b before [] after = after ≡ before
ServesEach serves b before (end ∷ ends) after =
    (between : _) × serves before b end between × ServesEach serves b between ends after

-- so many connections were served, and the line of each was written, and nothing else
pub record ServedAll {C : Type 0} (serves : C → Behavior → Served → C → Type 0) (b : Behavior) (count : ℕ)
    (before after : C) (written all : Option (List ℕ)) : Type 0 where
  pub ends : List Served
  pub number : length ends ≡ count
  pub served : ServesEach serves b before ends after
  pub lines : Appends written all (report_lines 1 ends)

-- so many connections or fewer were served; the line of each but the last was written, of the last one's a prefix, and
-- nothing else
pub record ServedSome {C : Type 0} (serves : C → Behavior → Served → C → Type 0) (b : Behavior) (count : ℕ)
    (before after : C) (written all : Option (List ℕ)) : Type 0 where
  pub ends : List Served
  pub last : Served
  pub lines : Option (List ℕ)
  pub number : length ends < count
  pub served : ServesEach serves b before (ends ++ last ∷ []) after
  pub all_but_last : Appends written lines (report_lines 1 ends)
  pub last_line : WritesPrefix (report_line (length ends + 1) last) lines all
