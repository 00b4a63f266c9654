-- The words of subcommands as `clap` takes them.
use Rattle.std.specs.Prelude.{◌≡◌, ℕ, List, [], ◌++◌, ◌∷◌, codes, map, true, false, Some}
use Rattle.std.specs.Borrow.{Bor}
use Rattle.clap.specs.Words.{App, Rule, Text, new_app, new_rule, with_subcommand}
use Rattle.clap.specs.Walk.{texts}
use Rattle.clap.specs.declared.builder.action.ArgAction.TheVariants.{Append, Set, SetTrue}
use Rattle.clap.specs.declared.builder.command.Command.{Command}
use Rattle.clap.specs.declared.builder.command.Command.TheViews.{out-Command}
use Rattle.clap.specs.declared.builder.value_parser.ValueParser.TheVariants.{Names, Unsigned}
use Rattle.milter_command_line.specs.declared.word.Kind.{Kind}
use Rattle.milter_command_line.specs.declared.word.Kind.TheVariants.{Place, Places, AnyPlaces, Value, Values, Number, UpTo}
use Rattle.milter_command_line.specs.declared.word.Kind.TheVariants.{Choice, Flag}
use Rattle.milter_command_line.specs.declared.word.Subcommand.{Subcommand}
use Rattle.milter_command_line.specs.declared.word.Word.{Word}

-- a word with a value
abbrev pub valued_rule : Text → Rule
valued_rule name = record (new_rule name) { action = Some Set; value_names = 1 }

-- a word that has to be there
abbrev pub place_rule : Text → Rule
place_rule name = record (valued_rule name) { required = true }

-- a word that has to be there, and may be there more than once
abbrev pub places_rule : Text → Rule
places_rule name = record (place_rule name) { action = Some Append }

-- a word that may be there any number of times
abbrev pub any_places_rule : Text → Rule
any_places_rule name = record (valued_rule name) { action = Some Append }

-- an option with a value
abbrev pub option_rule : Text → Rule
option_rule name = record (valued_rule name) { long = Some name }

-- an option with a value, which may be given more than once
abbrev pub options_rule : Text → Rule
options_rule name = record (option_rule name) { action = Some Append }

-- an option with a number from 1 to another
abbrev pub number_rule : Text → ℕ → Rule
number_rule name most = record (option_rule name) { parser = Some (Unsigned 1 most) }

-- an option with a number from 0 to another
abbrev pub up_to_rule : Text → ℕ → Rule
up_to_rule name most = record (option_rule name) { parser = Some (Unsigned 0 most) }

-- a list of words, wherever they are in memory
abbrev pub BorrowedWords : Type 0
BorrowedWords = Bor (List (Bor Text))

-- an option with one of these words
abbrev pub choice_rule : Text → BorrowedWords → Rule
choice_rule name words = record (option_rule name) { parser = Some (Names words) }

-- an option that is given or not
abbrev pub flag_rule : Text → Rule
flag_rule name = record (new_rule name) { long = Some name; action = Some SetTrue }

-- a word of this name that is of this kind
unfoldable pub rule_of_kind : Kind → Text → Rule
rule_of_kind Place name = place_rule name
rule_of_kind Places name = places_rule name
rule_of_kind AnyPlaces name = any_places_rule name
rule_of_kind Value name = option_rule name
rule_of_kind Values name = options_rule name
rule_of_kind (Number most) name = number_rule name most
rule_of_kind (UpTo most) name = up_to_rule name most
rule_of_kind (Choice words) name = choice_rule name words
rule_of_kind Flag name = flag_rule name

abbrev pub rule_of_word : Word → Rule
rule_of_word word = rule_of_kind word.kind word.name.now

-- a command line with these words after its own
abbrev pub with_rules : App → List Rule → App
with_rules app rules = record app { top = record app.top { rules = app.top.rules ++ rules } }

-- a subcommand with its words
abbrev pub app_in : Subcommand → App
app_in subcommand = with_rules (new_app subcommand.name.now) (map rule_of_word subcommand.words.now)

-- a command line with these subcommands after its own
unfoldable pub with_apps : App → List App → App
with_apps whole [] = whole
with_apps whole (app ∷ apps) = with_apps (with_subcommand whole app.top) apps

-- the words of `--loss`
abbrev pub AreLossWords : BorrowedWords → Type 0
AreLossWords losses = texts losses.now ≡ codes "accept" ∷ codes "tempfail" ∷ codes "reject" ∷ []

abbrev pub loss_rule : BorrowedWords → Rule
loss_rule losses = choice_rule (codes "loss") losses

-- no argument is global
abbrev pub IsLocal : Command → Type 0
IsLocal c = (out-Command c).has_globals ≡ false
