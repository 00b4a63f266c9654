-- The lines of an event file as they are read, one after the other.
use Rattle.std.specs.Prelude.{◌≡◌, ◌≤◌, ◌<◌, ◌+◌, ℕ, List, [], ◌∷◌, ◌++◌, length, None, Some}
use Rattle.milter_text.specs.declared.word.Word.{Word}
use Rattle.milter_world.specs.declared.event_line.Event.{Event}
use Rattle.milter_world.specs.Rounds.{rounds}
use Rattle.milter_world.specs.declared.event_fault.EventFault.{EventFault}
use Rattle.milter_world.specs.declared.event_fault.EventFault.TheVariants.{UnknownLine, TooMany, NoMemory}
use Rattle.milter_world.specs.declared.event_file.TheConstants.{EVENTS_MAX}
use Rattle.milter_world.specs.declared.event_line.EventLine.{EventLine}
use Rattle.milter_world.specs.declared.event_line.EventLine.TheVariants.{One, Rounds}
use Rattle.milter_world.specs.EventFile.{events_of}

abbrev pub line_events : EventLine → List Event
line_events (One event) = event ∷ []
line_events (Rounds count bytes) = rounds count bytes

-- the events of these words follow the old ones, and they are not too many in all
pub record AddsEvents (words : List Word) (old new : List Event) : Type 0 where
  pub events : List Event
  pub events_are : events_of words ≡ Some events
  pub appended : new ≡ old ++ events
  pub few : length new ≤ EVENTS_MAX

-- what the fault says of a line with these words after so many events
abbrev pub IsWrongAfter : ℕ → List Word → EventFault → Type 0
IsWrongAfter count words (UnknownLine n) = events_of words ≡ None
IsWrongAfter count words (TooMany n) =
    (events : List Event) × (events_of words ≡ Some events) × (EVENTS_MAX < count + length events)
IsWrongAfter count words NoMemory = Unit {0}
