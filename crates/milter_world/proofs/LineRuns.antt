-- The lines of an event file, as far as they were read.
use Rattle.std.proofs.Common.{◌≡◌, ℕ, List, [], ◌∷◌, ◌++◌, length, None, Some, refl, sym, ap, subst, ◌∙◌}
use Rattle.std.proofs.Common.{append_assoc, append-nil, arith}
use Rattle.std.specs.List.{AllZip, flat_map}
use Rattle.std.proofs.lemmas.List.Concat.{flat_map-append}
use Rattle.std.proofs.lemmas.Option.{same_Some}
use Rattle.milter_text.specs.declared.word.Word.{Word}
use Rattle.milter_text.specs.LineCursor.{IsNextLine, LinesAhead}
use Rattle.milter_text.specs.Words.{HasWords}
use Rattle.milter_text.proofs.WordLaws.{words_same}
use Rattle.milter_world.specs.declared.event_line.Event.{Event}
use Rattle.milter_world.specs.declared.event_fault.EventFault.{EventFault}
use Rattle.milter_world.specs.declared.event_fault.EventFault.TheVariants.{UnknownLine, TooMany, NoMemory}
use Rattle.milter_world.specs.EventFault.{IsFaultOf}
use Rattle.milter_world.specs.EventFile.{HaveEvents, LineHasEvents, events_of}
use Rattle.milter_world.specs.EventLines.{AddsEvents, IsWrongAfter}

abbrev pub all_of : List (List Event) → List Event
all_of parts = flat_map (λ part. part) parts

-- ---- one line

-- its events by its words
events_by : (line : List ℕ) (words : List Word) (events : List Event) → HasWords line words → LineHasEvents line events
    → events_of words ≡ Some events
events_by line words events has h = ap events_of (words_same words h.words line has h.has_words) ∙ h.events_are

pub line_events_same : (line : List ℕ) (events others : List Event) → LineHasEvents line events
    → LineHasEvents line others → events ≡ others
line_events_same line events others h k =
    same_Some events others (sym h.events_are ∙ events_by line h.words others h.has_words k)

-- ---- one more line

-- the lines before those that are left have these events
pub record ReadSoFar (all left : List (List ℕ)) (events : List Event) : Type 0 where
  pub before : List (List ℕ)
  pub in_order : all ≡ before ++ left
  pub have_events : HaveEvents before events

pub read_none : (all : List (List ℕ)) → ReadSoFar all all []
read_none all =
    record {
      before = [];
      in_order = refl;
      have_events = record { parts = []; have_parts = tt; joined = refl; few = omega arith };
    }

parts_more : (lines : List (List ℕ)) (parts : List (List Event)) (line : List ℕ) (part : List Event)
    → AllZip LineHasEvents lines parts → LineHasEvents line part
    → AllZip LineHasEvents (lines ++ line ∷ []) (parts ++ part ∷ [])
parts_more [] [] line part h k = (k, tt)
parts_more [] (p ∷ parts) line part h k = absurd h
parts_more (l ∷ lines) [] line part h k = absurd h
parts_more (l ∷ lines) (p ∷ parts) line part h k = (h.0, parts_more lines parts line part h.1 k)

all_of_more : (parts : List (List Event)) (part : List Event) → all_of (parts ++ part ∷ []) ≡ all_of parts ++ part
all_of_more parts part =
    flat_map-append (λ (p : List Event). p) parts (part ∷ [])
    ∙ ap (λ (l : List Event). all_of parts ++ l) (append-nil part)

pub read_more : (all : List (List ℕ)) (before : LinesAhead) (number : ℕ) (words : List Word) (after : LinesAhead)
    (old new : List Event) → ReadSoFar all before.lines old → IsNextLine before number words after
    → AddsEvents words old new → ReadSoFar all after.lines new
read_more all before number words after old new read next adds =
    let have = read.have_events in
    record {
      before = read.before ++ next.line ∷ [];
      in_order = read.in_order ∙ ap (λ l. read.before ++ l) next.first
          ∙ sym (append_assoc read.before (next.line ∷ []) after.lines);
      have_events = record {
        parts = have.parts ++ adds.events ∷ [];
        have_parts = parts_more read.before have.parts next.line adds.events have.have_parts
            (record { words = words; has_words = next.has_words; events_are = adds.events_are });
        joined = adds.appended ∙ ap (λ (l : List Event). l ++ adds.events) have.joined
            ∙ sym (all_of_more have.parts adds.events);
        few = adds.few;
      };
    }

pub read_all : (all left : List (List ℕ)) (events : List Event) → ReadSoFar all left events → left ≡ []
    → HaveEvents all events
read_all all left events read none =
    let whole = read.in_order ∙ ap (λ l. read.before ++ l) none ∙ append-nil read.before in
    subst (λ l. HaveEvents l events) (sym whole) read.have_events

-- ---- a line that is at fault

pub line_at_fault : (all : List (List ℕ)) (before : LinesAhead) (number : ℕ) (words : List Word) (after : LinesAhead)
    (events : List Event) (fault : EventFault) → ReadSoFar all before.lines events
    → IsNextLine before number words after → IsWrongAfter (length events) words fault → IsFaultOf all fault
line_at_fault all before number words after events (UnknownLine n) read next wrong =
    record {
      before = read.before;
      line = next.line;
      after = after.lines;
      in_order = read.in_order ∙ ap (λ l. read.before ++ l) next.first;
      events = events;
      have_events = read.have_events;
      is_wrong = λ some has.
          let e : None ≡ Some some = sym wrong ∙ events_by next.line words some next.has_words has in absurd cc;
    }
line_at_fault all before number words after events (TooMany n) read next wrong =
    record {
      before = read.before;
      line = next.line;
      after = after.lines;
      in_order = read.in_order ∙ ap (λ l. read.before ++ l) next.first;
      events = events;
      have_events = read.have_events;
      is_wrong = (
        wrong.0,
        record { words = words; has_words = next.has_words; events_are = wrong.1 },
        wrong.2,
      );
    }
line_at_fault all before number words after events NoMemory read next wrong = tt
