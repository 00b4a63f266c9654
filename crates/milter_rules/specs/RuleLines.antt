-- What each line of a rule file gives, by its words. A keyword and a number are plain words, a text is a quoted one.
use Rattle.std.specs.Prelude.{◌≡◌, ℕ, IsUtf8, nat_le, ◌&&◌, true, List, [], ◌∷◌, ◌++◌, codes, Option, None, Some, if◌then◌else◌}
use Rattle.std.specs.Option.{option_map}
use Rattle.milter_fields.specs.Bind.{◌>>=◌}
use Rattle.milter_text.specs.declared.word.Word.{Word}
use Rattle.milter_text.specs.WordValues.{is_keyword, keyword, number_of, plain_text, text_of}
use Rattle.milter_wire.specs.declared.macro_stage.MacroStage.{MacroStage}
use Rattle.milter_wire.specs.declared.options.Actions.{Actions}
use Rattle.milter_wire.specs.declared.options.Protocol.{Protocol}
use Rattle.milter_wire.specs.Bits.{actions_table, bits_named, protocol_table}
use Rattle.milter_wire.specs.MacroStages.{macro_stage_named, macro_stage_number}
use Rattle.milter_wire.specs.declared.stage.Stage.{Stage}
use Rattle.milter_wire.specs.Stages.{name_of, stage_named}
use Rattle.milter_protocol.specs.declared.permitted.TheConstants.{VERSION_MAX, VERSION_MIN}
use Rattle.milter_filter_rules.specs.declared.rule.Rule.{Rule}
use Rattle.milter_rules.specs.declared.rule_line.RuleLine.{RuleLine}
use Rattle.milter_rules.specs.declared.rule_line.RuleLine.TheVariants as lines
use Rattle.milter_rules.specs.declared.rule_line.Setting.{Setting}
use Rattle.milter_rules.specs.declared.rule_line.Setting.TheVariants as settings
use Rattle.milter_filter_rules.specs.ActionFits.{is_string, may_do}
use Rattle.milter_rules.specs.ActionWords.{action_of}
use Rattle.milter_rules.specs.ConditionWords.{conditions_words}

-- ---- options

-- a number from 2 to 6
abbrev pub if_known : ℕ → Option ℕ
if_known version = if nat_le VERSION_MIN version && nat_le version VERSION_MAX then Some version else None

abbrev pub version_of : Word → Option ℕ
version_of word = number_of word >>= if_known

-- the word is quoted, or its text isn't UTF-8
abbrev pub IsNoText : Word → Type 0
IsNoText word = (text : List ℕ) → plain_text word ≡ Some text → ¬ IsUtf8 text

-- a plain word that names bits
abbrev pub actions_of : Word → Option Actions
actions_of word = option_map (λ bits. record { 0 = bits }) (plain_text word >>= bits_named actions_table)

abbrev pub protocol_of : Word → Option Protocol
protocol_of word = option_map (λ bits. record { 0 = bits }) (plain_text word >>= bits_named protocol_table)

-- `version NUMBER`, `actions NAMES` or `protocol NAMES`
abbrev pub option_line : Word → Word → Option Setting
option_line first value =
    if is_keyword (codes "version") first then option_map settings.Version (version_of value)
    else if is_keyword (codes "actions") first then option_map settings.Actions (actions_of value)
    else if is_keyword (codes "protocol") first then option_map settings.Protocol (protocol_of value)
    else None

-- ---- symbol lists

-- a stage that has macros, by its word
abbrev pub macro_stage_of : Word → Option MacroStage
macro_stage_of word = plain_text word >>= macro_stage_named

abbrev pub if_string : List ℕ → Option (List ℕ)
if_string text = if is_string text then Some text else None

-- the names of macros: a text without a NUL
abbrev pub symbols_of : Word → Option (List ℕ)
symbols_of word = text_of word >>= if_string

-- `symbols STAGE TEXT`
abbrev pub symbols_with : MacroStage → List ℕ → Setting
symbols_with stage names = settings.Symbols (record { stage = macro_stage_number stage; names = names })

abbrev pub symbols_at : Word → MacroStage → Option Setting
symbols_at names stage = option_map (symbols_with stage) (symbols_of names)

abbrev pub symbols_line : Word → Word → Word → Option Setting
symbols_line first stage names =
    if is_keyword (codes "symbols") first then macro_stage_of stage >>= symbols_at names else None

-- what the filter wants by a line of options, or of a symbol list
abbrev pub setting_of : List Word → Option Setting
setting_of (first ∷ value ∷ []) = option_line first value
setting_of (first ∷ stage ∷ names ∷ []) = symbols_line first stage names
setting_of _ = None

-- ---- rules

-- a stage, by its word, and the words after it
abbrev pub stage_at : List Word → Option (Stage × List Word)
stage_at [] = None
stage_at (word ∷ rest) = option_map (λ stage. (stage, rest)) (plain_text word >>= stage_named)

-- after `at`, `STAGE do ACTION` or `STAGE when COND and COND .. do ACTION`: an action that may be done at the stage
pub record HasRule (words : List Word) (stage : Stage) (rule : Rule) : Type 0 where
  pub action : List Word
  pub in_order : words ≡ keyword (name_of stage) ∷ (conditions_words rule.conditions ++ keyword (codes "do") ∷ action)
  pub action_is : action_of action ≡ Some rule.action
  pub may : may_do stage rule.action ≡ true

-- ---- lines

-- what these words give
abbrev pub Gives : List Word → RuleLine → Type 0
Gives words (lines.At stage rule) =
    (rest : List Word) × (words ≡ keyword (codes "at") ∷ rest) × HasRule rest stage rule
Gives words (lines.Setting setting) = setting_of words ≡ Some setting
