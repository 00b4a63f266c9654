-- The rules of a rule file's other bytes as they are used, and what is known of it where they give none.
use Rattle.std.proofs.Common.{◌≡◌, ◌∙◌, refl, sym, subst, Err, Bool, true, false, List}
use Rattle.milter_text.specs.declared.glob.TextCase.TheVariants.{Exact, Ignored}
use Rattle.milter_filter_rules.specs.declared.named_list.NamedList.{NamedList}
use Rattle.milter_filter_rules.specs.declared.rules.Rules.{Rules}
use Rattle.milter_filter_rules.specs.RulesValue.{case_of, named_of, rule_set, states_protocol}
use Rattle.milter_rules.specs.ListFiles.{AreRead}
use Rattle.milter_rules.specs.RuleFile.{IsRuleFile, StatesProtocol}
use Rattle.milter_cli.specs.declared.file_error.FileError.{FileError}
use Rattle.milter_cli.specs.declared.file_error.FileError.TheVariants.{Read, Fault, Write, NoMemory}
use Rattle.milter_serve.specs.declared.known_file.ReadFile.{ReadFile}
use Rattle.milter_serve.specs.declared.known_file.RuleBytes.{RuleBytes}
use Rattle.milter_cli.specs.FileRun.{IsFaultOrMemory, IsFileFault}
use Rattle.milter_cli.specs.declared.rules_run.RuleUse.{RuleUse}
use Rattle.milter_cli.specs.UsedRules.{IsFileWith, used_set}
use Rattle.milter_serve.specs.KnownFiles.{AreUsed, Known, TakesOther, case_by, known, read_again}

module _ (usage : RuleUse) (file : ReadFile) (old new : Known) where
  pub fault_taken : (error : FileError) → IsFaultOrMemory (IsFileWith file.bytes.lists) file.bytes.file error → IsFileFault error → new ≡ known file
      → TakesOther usage file old (Err error) new
  fault_taken (Read kind) reason is known_so = absurd reason
  fault_taken (Fault kind line number) reason is known_so = (reason, known_so)
  fault_taken Write reason is known_so = absurd reason
  fault_taken NoMemory reason is known_so = absurd is

  pub memory_refused : (error : FileError) → IsFaultOrMemory (IsFileWith file.bytes.lists) file.bytes.file error → (IsFileFault error → ⊥) → new ≡ read_again old
      → TakesOther usage file old (Err error) new
  memory_refused (Read kind) reason is known_so = absurd reason
  memory_refused (Fault kind line number) reason is known_so = absurd (is tt)
  memory_refused Write reason is known_so = absurd reason
  memory_refused NoMemory reason is known_so = known_so

pub used_case : (ignore_case : Bool) → (of_file used : Rules) → case_of of_file ≡ Exact → (ignore_case ≡ true → case_of used ≡ Ignored)
    → (ignore_case ≡ false → case_of used ≡ case_of of_file) → case_of used ≡ case_by ignore_case
used_case true of_file used exact ignored kept = ignored refl
used_case false of_file used exact ignored kept = kept refl ∙ exact

pub are_used : (usage : RuleUse) → (bytes : RuleBytes) → (of_file used : Rules) → IsRuleFile bytes.file (rule_set of_file)
    → StatesProtocol bytes.file (states_protocol of_file) → AreRead bytes.lists (rule_set of_file).sources (named_of of_file)
    → case_of of_file ≡ Exact → rule_set used ≡ used_set usage (states_protocol of_file) (rule_set of_file) → named_of used ≡ named_of of_file
    → (usage.ignore_case ≡ true → case_of used ≡ Ignored) → (usage.ignore_case ≡ false → case_of used ≡ case_of of_file)
    → AreUsed usage bytes used
are_used usage bytes of_file used found stated read exact set_is named_is ignored kept =
    record {
      set = rule_set of_file;
      is_stated = states_protocol of_file;
      of_file = found;
      states = stated;
      of_lists = subst (λ (lists : List NamedList). AreRead bytes.lists (rule_set of_file).sources lists) (sym named_is) read;
      rules_are = set_is;
      case_is = used_case usage.ignore_case of_file used exact ignored kept;
    }
