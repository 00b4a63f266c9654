-- The faults of an event file.
use Rattle.std.specs.Prelude.{◌≡◌, ℕ, ◌+◌, ◌≤◌, ◌<◌, IfSome, List, ◌∷◌, ◌++◌, length, Option, None, Some}
use Rattle.milter_text.specs.declared.line_fault.LineFault.{LineFault}
use Rattle.milter_text.specs.declared.line_fault.LineFault.TheVariants as line_faults
use Rattle.milter_world.specs.declared.event_line.Event.{Event}
use Rattle.milter_world.specs.declared.event_fault.EventFault.{EventFault}
use Rattle.milter_world.specs.declared.event_fault.EventFault.TheVariants.{UnknownLine, TooMany, NoMemory}
use Rattle.milter_world.specs.declared.event_file.TheConstants.{EVENTS_MAX}
use Rattle.milter_world.specs.EventFile.{HaveEvents, LineHasEvents}

abbrev pub event_fault_number : EventFault → ℕ
event_fault_number (UnknownLine n) = 1
event_fault_number (TooMany n) = 2
event_fault_number NoMemory = 3

abbrev pub event_fault_line : EventFault → Option ℕ
event_fault_line (UnknownLine n) = Some n
event_fault_line (TooMany n) = Some n
event_fault_line NoMemory = None

-- a line that is not in words is an unknown line
abbrev pub of_line_fault : LineFault → EventFault
of_line_fault (line_faults.NotInWords n) = UnknownLine n
of_line_fault line_faults.NoMemory = NoMemory

-- ---- the numbers of lines

-- the fault is of a line from 1 to this one, unless it is NoMemory
abbrev pub IsWithin : ℕ → EventFault → Type 0
IsWithin last fault = IfSome (event_fault_line fault) (λ line. (1 ≤ line) × (line ≤ last))

-- the fault is of a line from 1 to the one before this, unless it is NoMemory
abbrev pub IsBefore : ℕ → EventFault → Type 0
IsBefore end fault = IfSome (event_fault_line fault) (λ line. (1 ≤ line) × (line < end))

-- the fault is of the line with this number, unless it is NoMemory
abbrev pub IsAt : ℕ → EventFault → Type 0
IsAt number fault = IfSome (event_fault_line fault) (λ line. line ≡ number)

-- ---- what is wrong

-- what is so of a line that comes after so many events
abbrev pub HasNoEvents : ℕ → List ℕ → Type 0
HasNoEvents count line = (events : List Event) → ¬ LineHasEvents line events

abbrev pub HasTooMany : ℕ → List ℕ → Type 0
HasTooMany count line = (events : List Event) × LineHasEvents line events × (EVENTS_MAX < count + length events)

-- the lines before some line have events, which are not too many, and this is so of that line
pub record StopsAt (IsWrong : ℕ → List ℕ → Type 0) (lines : List (List ℕ)) : Type 0 where
  pub before : List (List ℕ)
  pub line : List ℕ
  pub after : List (List ℕ)
  pub in_order : lines ≡ before ++ line ∷ after
  pub events : List Event
  pub have_events : HaveEvents before events
  pub is_wrong : IsWrong (length events) line

-- the first line that is at fault has no events, or has too many
abbrev pub IsFaultOf : List (List ℕ) → EventFault → Type 0
IsFaultOf lines (UnknownLine n) = StopsAt HasNoEvents lines
IsFaultOf lines (TooMany n) = StopsAt HasTooMany lines
IsFaultOf lines NoMemory = Unit {0}
