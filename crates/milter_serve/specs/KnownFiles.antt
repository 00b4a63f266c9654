-- What is known of a rule file and its lists, and how what is read of them changes that.
use Rattle.std.specs.Prelude.{◌≡◌, ◌≢◌, ◌⊎◌, Bool, List, Option, None, Some, Result, Ok, Err, if◌then◌else◌}
use Rattle.milter_text.specs.declared.glob.TextCase.{TextCase}
use Rattle.milter_text.specs.declared.glob.TextCase.TheVariants.{Exact, Ignored}
use Rattle.milter_filter_rules.specs.declared.rules.Rules.{Rules}
use Rattle.milter_filter_rules.specs.RuleSet.{RuleSet}
use Rattle.milter_filter_rules.specs.RulesValue.{case_of, named_of, rule_set}
use Rattle.milter_rules.specs.ListFiles.{AreRead}
use Rattle.milter_rules.specs.RuleFile.{IsRuleFile, StatesProtocol}
use Rattle.milter_cli.specs.declared.file_error.FileError.{FileError}
use Rattle.milter_cli.specs.declared.file_error.FileError.TheVariants.{Fault, NoMemory}
use Rattle.milter_serve.specs.declared.file_stamp.FileStamp.{FileStamp}
use Rattle.milter_serve.specs.declared.known_file.ReadFile.{ReadFile}
use Rattle.milter_serve.specs.declared.known_file.RuleBytes.{RuleBytes}
use Rattle.milter_cli.specs.FileRun.{HasNone}
use Rattle.milter_cli.specs.UsedRules.{IsFileWith, used_set}
use Rattle.milter_cli.specs.declared.rules_run.RuleUse.{RuleUse}

-- what the file and its lists had when they were last taken, and the stamps by which they have it still
pub record Known : Type 0 where
  pub bytes : Option RuleBytes
  pub stamps : Option (List (Option FileStamp))

abbrev pub nothing_known : Known
nothing_known = record { bytes = None; stamps = None }

abbrev pub known : ReadFile → Known
known file = record { bytes = Some file.bytes; stamps = file.stamps }

-- they are read again, and what they have is compared with what they had
abbrev pub read_again : Known → Known
read_again k = record { bytes = k.bytes; stamps = None }

abbrev pub case_by : Bool → TextCase
case_by ignore_case = if ignore_case then Ignored else Exact

-- the rules of the file that has these bytes, as they are used, with the entries of its lists
pub record AreUsed (usage : RuleUse) (bytes : RuleBytes) (rules : Rules) : Type 0 where
  pub set : RuleSet
  pub is_stated : Bool
  pub of_file : IsRuleFile bytes.file set
  pub states : StatesProtocol bytes.file is_stated
  pub of_lists : AreRead bytes.lists set.sources (named_of rules)
  pub rules_are : rule_set rules ≡ used_set usage is_stated set
  pub case_is : case_of rules ≡ case_by usage.ignore_case

-- What other bytes give: their rules, or the fault for which they have none, or none whose lists can be read; and they
-- are known then. Refused memory leaves the files to be read again.
abbrev pub TakesOther : RuleUse → ReadFile → Known → Result Rules FileError → Known → Type 0
TakesOther usage file old (Ok rules) new =
    AreUsed usage file.bytes rules × (new ≡ known file)
TakesOther usage file old (Err (Fault kind line number)) new =
    HasNone (IsFileWith file.bytes.lists) (Some file.bytes.file) × (new ≡ known file)
TakesOther usage file old (Err NoMemory) new = new ≡ read_again old
TakesOther usage file old (Err _) new = ⊥

-- where a file was read, nothing is answered if it and its lists have what is known
abbrev pub TakesBytes : RuleUse → ReadFile → Known → Option (Result Rules FileError) → Known → Type 0
TakesBytes usage file old None new = (old.bytes ≡ Some file.bytes) × (new ≡ known file)
TakesBytes usage file old (Some answer) new =
    (old.bytes ≢ Some file.bytes) × TakesOther usage file old answer new

-- where it wasn't read, that is answered, and it is read again
abbrev pub TakesFile : RuleUse → Result ReadFile FileError → Known → Option (Result Rules FileError) → Known → Type 0
TakesFile usage (Ok file) old answer new = TakesBytes usage file old answer new
TakesFile usage (Err error) old answer new = (answer ≡ Some (Err error)) × (new ≡ read_again old)

-- what is known of a file, and how its rules are used
pub record Source : Type 0 where
  pub known : Known
  pub usage : RuleUse

abbrev pub new_source : RuleUse → Source
new_source usage = record { known = nothing_known; usage = usage }

-- nothing is read, and nothing changes; or what is read of it is taken, or why it isn't
abbrev pub LooksAt : Source → Option (Result Rules FileError) → Source → Type 0
LooksAt old answer new =
    (new.usage ≡ old.usage) × (((answer ≡ None) × (new.known ≡ old.known))
    ⊎ ((read : Result ReadFile FileError) × TakesFile old.usage read old.known answer new.known))
