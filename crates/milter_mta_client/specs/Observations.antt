-- What an observer is shown while a session is played.
use Rattle.std.specs.Prelude.{◌≡◌, ◌+◌, ℕ, suc, List, [], ◌∷◌, drop, length}
use Rattle.milter_mta_outcome.specs.declared.outcome.Report.{Report}
use Rattle.milter_mta.specs.Mta.{Mta}
use Rattle.milter_mta.specs.AnyFilter.{IsOnDialogue}

-- the reports of messages that are numbered from this number on were noted one after the other, and nothing else
abbrev pub NotesEach : {O : Type 0} → (O → ℕ → Report → O → Type 0) → ℕ → List Report → O → O → Type 0
NotesEach notes number [] old new = new ≡ old
NotesEach {O} notes number (report ∷ reports) old new =
    (between : O) × notes old number report between × NotesEach notes (suc number) reports between new

-- so were the reports that were added
abbrev pub NotesAdded : {O : Type 0} → (O → ℕ → Report → O → Type 0) → Mta → Mta → O → O → Type 0
NotesAdded notes old new before after =
    NotesEach notes (length old.reports + 1) (drop (length old.reports) new.reports) before after

-- of a mail server's end that was new or came from its calls
abbrev pub Notes : {O : Type 0} → (O → ℕ → Report → O → Type 0) → Mta → Mta → O → O → Type 0
Notes notes old new before after = IsOnDialogue old → NotesAdded notes old new before after

abbrev pub notes_nothing : {O : Type 0} → O → ℕ → Report → O → Type 0
notes_nothing old number report new = Unit {0}
