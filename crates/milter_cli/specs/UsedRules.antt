-- The rules of a file whose lists have entries, and how rules are used.
use Rattle.std.specs.Prelude.{ℕ, List, [], ◌∷◌, Bool, ◌&&◌, not, if◌then◌else◌}
use Rattle.milter_wire.specs.declared.stage.Stage.{Stage}
use Rattle.milter_wire.specs.declared.stage.Stage.TheVariants.{Connect, Mail, Rcpt, DataCmd}
use Rattle.milter_filter_rules.specs.LeastWants.{with_least_wants}
use Rattle.milter_filter_rules.specs.RuleSet.{RuleSet}
use Rattle.milter_rules.specs.declared.list_file.ListFile.{ListFile}
use Rattle.milter_rules.specs.ListFiles.{CanBeRead}
use Rattle.milter_rules.specs.RuleFile.{IsRuleFile}
use Rattle.milter_cli.specs.declared.rules_run.RuleUse.{RuleUse}

-- the rule file gives these rules, and their lists can be read of these files
pub record IsFileWith (files : List ListFile) (bytes : List ℕ) (set : RuleSet) : Type 0 where
  pub is_file : IsRuleFile bytes set
  pub can_be : CanBeRead files set.sources

-- the stages that bring the names of clients and messages
abbrev pub naming_stages : List Stage
naming_stages = Connect ∷ Mail ∷ Rcpt ∷ DataCmd ∷ []

-- the stages that are sent besides those that the rules need
abbrev pub also_sent : RuleUse → List Stage
also_sent usage = if usage.names_messages then naming_stages else []

-- rules whose file states protocol bits keep these
abbrev pub used_set : RuleUse → Bool → RuleSet → RuleSet
used_set usage is_stated set =
    if usage.least_stages && not is_stated then with_least_wants (also_sent usage) set else set
