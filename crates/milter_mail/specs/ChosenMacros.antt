-- The macros that are sent before the commands of each stage: those that the filter asked for by its symbol lists, out
-- of those that the session has.
use Rattle.std.specs.Prelude.{ℕ, ◌==◌, Bool, not, List, [], ◌∷◌, ◌++◌, Option, None, Some}
use Rattle.std.specs.List.{filter, last_or, slice_split}
use Rattle.std.specs.Option.{option_to_list}
use Rattle.std.specs.Str.{bytes_eq}
use Rattle.milter_wire.specs.declared.macro_stage.MacroStage.{MacroStage}
use Rattle.milter_wire.specs.MacroStages.{macro_stage_number}
use Rattle.milter_fields.specs.declared.pair.Pair.{Pair}
use Rattle.milter_wire.specs.declared.symbol_lists.SymList.{SymList}
use Rattle.milter_mail.specs.declared.chosen_macros.TheConstants.{NAME_SEPARATOR}
use Rattle.milter_mail.specs.ByMacroStage.{at_stage, by_stage}
use Rattle.milter_mail.specs.Macros.{Macros}

-- the words between blanks: where several blanks follow one another, or one is at an end, there is no word
abbrev pub is_word : List ℕ → Bool
is_word part = not (bytes_eq part [])

abbrev pub names_of : List ℕ → List (List ℕ)
names_of text = filter is_word (slice_split (λ byte. byte == NAME_SEPARATOR) text)

-- the last pair of a name, byte for byte
abbrev pub last_pair : List ℕ → List Pair → Option Pair
last_pair name pairs = last_or None (filter (λ pair. bytes_eq pair.name name) pairs)

-- the pairs of other names
abbrev pub without_name : List ℕ → List Pair → List Pair
without_name name pairs = filter (λ pair. not (bytes_eq pair.name name)) pairs

-- the last pair of each name, in the order of the names; a name that comes again gives no pair more
abbrev pub chosen_pairs : List (List ℕ) → List Pair → List Pair
chosen_pairs [] pairs = []
chosen_pairs (name ∷ names) pairs =
    option_to_list (last_pair name pairs) ++ chosen_pairs names (without_name name pairs)

-- the last list of a stage
abbrev pub list_of : ℕ → List SymList → Option SymList
list_of stage lists = last_or None (filter (λ list. list.stage == stage) lists)

-- all pairs where there is no list
abbrev pub pairs_by : Option SymList → List Pair → List Pair
pairs_by None pairs = pairs
pairs_by (Some list) pairs = chosen_pairs (names_of list.names) pairs

-- those of a stage's macros that its last list asks for
abbrev pub chosen_at : List SymList → MacroStage → List Pair → List Pair
chosen_at lists stage pairs = pairs_by (list_of (macro_stage_number stage) lists) pairs

-- the macros of each stage by the last list of it; a list of a stage above 6 is that of no stage
abbrev pub chosen_macros : List SymList → Macros → Macros
chosen_macros lists macros = by_stage (λ stage. chosen_at lists stage (at_stage macros stage))
