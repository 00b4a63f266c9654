-- The rules by which connections go that come, after a look at where the rules come from.
use Rattle.std.specs.Prelude.{◌≡◌, ◌⊎◌, Option, None, Some, Result, Ok, Err}
use Rattle.milter_protocol.specs.Behavior.{Behavior}
use Rattle.milter_filter_rules.specs.RuleSet.{behavior_of}
use Rattle.milter_filter_rules.specs.RulesValue.{matching_of, rule_set}
use Rattle.milter_filter_rules.specs.declared.rules.Rules.{Rules}
use Rattle.milter_cli.specs.declared.file_error.FileError.{FileError}

-- what a filter does that goes by these rules
abbrev pub behavior_by : Rules → Behavior
behavior_by rules = behavior_of (matching_of rules) (rule_set rules)

-- A source of rules gave this answer, and was this then. Its rules are in force, or memory is refused for them and it
-- looks again; where it gave none, or an error, the rules before stay.
abbrev pub IsFollowed : {P S : Type 0} → (P → Rules → Type 0) → (S → Type 0) → Option (Result Rules FileError) → S
    → P → S → P → Type 0
IsFollowed HasRules looks_again (Some (Ok rules)) between before source after =
    ((source ≡ between) × HasRules after rules) ⊎ (looks_again source × (after ≡ before))
IsFollowed HasRules looks_again (Some (Err error)) between before source after = (source ≡ between) × (after ≡ before)
IsFollowed HasRules looks_again None between before source after = (source ≡ between) × (after ≡ before)

-- the source was asked, and its answer followed
pub record Refreshes {P S : Type 0} (HasRules : P → Rules → Type 0)
    (answers : S → Option (Result Rules FileError) → S → Type 0) (looks_again : S → Type 0)
    (asked : S) (before : P) (source : S) (after : P) : Type 0 where
  pub answer : Option (Result Rules FileError)
  pub between : S
  pub answered : answers asked answer between
  pub followed : IsFollowed HasRules looks_again answer between before source after
