-- The form of an event file: the events that each line has by its words, and those of all lines in order. Keywords and
-- numbers are plain words.
use Rattle.std.specs.Prelude.{◌≡◌, ◌≤◌, ◌^◌, ℕ, nat_lt, List, [], ◌∷◌, codes, length, Option, None, Some}
use Rattle.std.specs.Prelude.{if◌then◌else◌}
use Rattle.std.specs.List.{AllZip, flat_map}
use Rattle.std.specs.Option.{option_map}
use Rattle.milter_fields.specs.Bind.{◌>>=◌}
use Rattle.milter_text.specs.declared.word.Word.{Word}
use Rattle.milter_text.specs.Lines.{contents}
use Rattle.milter_text.specs.Words.{HasWords}
use Rattle.milter_text.specs.WordValues.{is_keyword, number_of}
use Rattle.milter_world.specs.declared.event_line.Event.{Event}
use Rattle.milter_world.specs.declared.event_line.Event.TheVariants.{Dial, Send, ToFilter, Answer, ToMta, Die}
use Rattle.milter_world.specs.declared.event_line.Event.TheVariants.{Lose, Timeout}
use Rattle.milter_world.specs.Rounds.{round, rounds}
use Rattle.milter_world.specs.declared.event_file.TheConstants.{EVENTS_MAX}

-- ---- the events of a line, by its words

-- a number of at most 4,294,967,295: of bytes, or of rounds
abbrev pub count_of : Word → Option ℕ
count_of word = number_of word >>= λ number. if nat_lt number (2 ^ 32) then Some number else None

-- `dial`, `die`, `lose` or `timeout`
abbrev pub lone_event : Word → Option Event
lone_event word =
    if is_keyword (codes "dial") word then Some Dial
    else if is_keyword (codes "die") word then Some Die
    else if is_keyword (codes "lose") word then Some Lose
    else if is_keyword (codes "timeout") word then Some Timeout
    else None

-- `send N`, `to-filter N`, `answer N`, `to-mta N` or `round N`
abbrev pub events_with : Word → ℕ → Option (List Event)
events_with word bytes =
    if is_keyword (codes "send") word then Some (Send bytes ∷ [])
    else if is_keyword (codes "to-filter") word then Some (ToFilter bytes ∷ [])
    else if is_keyword (codes "answer") word then Some (Answer bytes ∷ [])
    else if is_keyword (codes "to-mta") word then Some (ToMta bytes ∷ [])
    else if is_keyword (codes "round") word then Some (round bytes)
    else None

-- `rounds COUNT N`
abbrev pub rounds_of : Word → Word → Option (List Event)
rounds_of count bytes = do
  count ← count_of count
  bytes ← count_of bytes
  Some (rounds count bytes)

abbrev pub events_of : List Word → Option (List Event)
events_of (word ∷ []) = option_map (λ event. event ∷ []) (lone_event word)
events_of (word ∷ bytes ∷ []) = count_of bytes >>= events_with word
events_of (word ∷ count ∷ bytes ∷ []) = if is_keyword (codes "rounds") word then rounds_of count bytes else None
events_of _ = None

-- ---- the file

-- the line is in words, and they have these events
pub record LineHasEvents (line : List ℕ) (events : List Event) : Type 0 where
  pub words : List Word
  pub has_words : HasWords line words
  pub events_are : events_of words ≡ Some events

-- each of the lines has its events, in order; these are all of them, one line's after the other's, and not too many
pub record HaveEvents (lines : List (List ℕ)) (events : List Event) : Type 0 where
  pub parts : List (List Event)
  pub have_parts : AllZip LineHasEvents lines parts
  pub joined : events ≡ flat_map (λ part. part) parts
  pub few : length events ≤ EVENTS_MAX

-- the lines of the file that are not skipped have these events
abbrev pub IsEventFile : List ℕ → List Event → Type 0
IsEventFile bytes events = HaveEvents (contents bytes) events

-- ---- the numbers of events

-- how many bytes an event moves at most
abbrev pub bytes_moved : Event → ℕ
bytes_moved (Send bytes) = bytes
bytes_moved (ToFilter bytes) = bytes
bytes_moved (Answer bytes) = bytes
bytes_moved (ToMta bytes) = bytes
bytes_moved _ = 0
