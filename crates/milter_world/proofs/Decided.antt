-- Rules decide alike where all that their conditions and actions look at is shown alike.
use Rattle.std.proofs.Common.{◌≡◌, Bool, true, false, cond, not, ◌&&◌, ◌||◌, List, [], ◌∷◌, ◌++◌, Some, map, filter, refl, sym, ap, ◌∙◌, if◌then◌else◌}
use Rattle.std.specs.List.{list_all, list_any}
use Rattle.std.proofs.lemmas.Bool.{and_from, or_left, or_right, true≢false}
use Rattle.milter_fields.specs.declared.header.Header.{Header}
use Rattle.milter_wire.specs.declared.stage.Stage.TheVariants as stages
use Rattle.milter_message.specs.declared.edit.Edit.{Edit}
use Rattle.milter_protocol.specs.declared.answer.Action.TheVariants as actions
use Rattle.milter_wire.specs.declared.stage.Stage.{Stage}
use Rattle.milter_protocol.specs.Seen.{Seen}
use Rattle.milter_filter_rules.specs.ListedValues.{Matching}
use Rattle.milter_filter_rules.specs.declared.rule.Check.{Check}
use Rattle.milter_filter_rules.specs.declared.rule.Condition.{Condition}
use Rattle.milter_filter_rules.specs.declared.rule.Joint.{Joint}
use Rattle.milter_filter_rules.specs.declared.rule.Joint.TheVariants.{And, Or}
use Rattle.milter_filter_rules.specs.declared.rule.Rule.{Rule}
use Rattle.milter_filter_rules.specs.Conditions.{after_joint, applies, check_holds, groups_of, is_met, with_first}
use Rattle.milter_filter_rules.specs.declared.rule.RuleAction.{RuleAction}
use Rattle.milter_filter_rules.specs.declared.rule.RuleAction.TheVariants.{Fixed, DeleteHeader, PrefixHeader}
use Rattle.milter_filter_rules.specs.ActionFits.{changes_seen}
use Rattle.milter_filter_rules.specs.Decisions.{actions_of, answer_by, decided, if_within}
use Rattle.milter_filter_rules.specs.LeastWants.{is_shown_by, looked_at, looks_at}
use Rattle.milter_filter_rules.specs.StageRules.{is_stage}

-- ---- the edits of actions

-- of actions that are the same whatever was seen
fixed-alike : (one other : List Header) (before : List Edit) (those : List RuleAction)
    → list_any changes_seen those ≡ false → answer_by one before those ≡ answer_by other before those
fixed-alike one other before [] none = refl
fixed-alike one other before (Fixed (actions.Verdict verdict) ∷ more) none = refl
fixed-alike one other before (Fixed (actions.Edit edit) ∷ more) none =
    fixed-alike one other (before ++ edit ∷ []) more none
fixed-alike one other before (DeleteHeader name ∷ more) none = absurd (true≢false none)
fixed-alike one other before (PrefixHeader header ∷ more) none = absurd (true≢false none)

answer-alike : (one other : List Header) (those : List RuleAction)
    → (list_any changes_seen those ≡ true → one ≡ other) → answer_by one [] those ≡ answer_by other [] those
answer-alike one other those same = by_changes (list_any changes_seen those) refl
  where
    by_changes : (changes : Bool) → list_any changes_seen those ≡ changes
        → answer_by one [] those ≡ answer_by other [] those
    by_changes true e = ap (λ (headers : List Header). answer_by headers [] those) (same e)
    by_changes false e = fixed-alike one other [] those e

-- an action of some of the rules that changes header fields looks at them
some-looks : (test : Rule → Bool) (rules : List Rule) (stage : Stage)
    → list_any changes_seen (map (λ rule. rule.action) (filter test rules)) ≡ true
    → is_stage stages.Header stage ≡ true → list_any (looks_at stage) rules ≡ true
some-looks test [] stage some at = absurd (true≢false (sym some))
some-looks test (rule ∷ rules) stage some at = by_test (λ more. some-looks test rules stage more at) (test rule) some
  where
    Rest : Type 0
    Rest =
        list_any changes_seen (map (λ r. r.action) (filter test rules)) ≡ true → list_any (looks_at stage) rules ≡ true

    first : Rest → (changes : Bool) → changes_seen rule.action ≡ changes
        → list_any changes_seen (rule.action ∷ map (λ r. r.action) (filter test rules)) ≡ true
        → list_any (looks_at stage) (rule ∷ rules) ≡ true
    first rest true e some =
        or_left (looks_at stage rule) (list_any (looks_at stage) rules)
        (or_right (list_any (λ c. is_shown_by (looked_at c.check) stage) rule.conditions) _
        (and_from (changes_seen rule.action) (is_stage stages.Header stage) e at))
    first rest false e some =
        or_right (looks_at stage rule) (list_any (looks_at stage) rules)
        (rest (sym (ap (λ (b : Bool). b || list_any changes_seen (map (λ r. r.action) (filter test rules))) e) ∙ some))

    by_test : Rest → (does : Bool)
        → list_any changes_seen (map (λ r. r.action) (cond does (rule ∷ filter test rules) (filter test rules))) ≡ true
        → list_any (looks_at stage) (rule ∷ rules) ≡ true
    by_test rest true some = first rest (changes_seen rule.action) refl some
    by_test rest false some = or_right (looks_at stage rule) (list_any (looks_at stage) rules) (rest some)

-- ---- the groups of conditions, of which each is met or not

abbrev with_bool : Bool → List Bool → List Bool
with_bool met [] = (met && true) ∷ []
with_bool met (group ∷ groups) = (met && group) ∷ groups

abbrev after_bool : Joint → List Bool → List Bool
after_bool And groups = groups
after_bool Or groups = true ∷ groups

first_of_groups : (test : Condition → Bool) (c : Condition) (conditions : List Condition)
    → map (list_all test) (groups_of (c ∷ conditions))
    ≡ after_bool c.joint (with_bool (test c) (map (list_all test) (groups_of conditions)))
first_of_groups test c conditions = by_joint c.joint (groups_of conditions)
  where
    first : (groups : List (List Condition))
        → map (list_all test) (with_first c groups) ≡ with_bool (test c) (map (list_all test) groups)
    first [] = refl
    first (group ∷ groups) = refl

    by_joint : (joint : Joint) (groups : List (List Condition))
        → map (list_all test) (after_joint joint (with_first c groups))
        ≡ after_bool joint (with_bool (test c) (map (list_all test) groups))
    by_joint And groups = first groups
    by_joint Or groups = ap (λ (l : List Bool). true ∷ l) (first groups)

any_of_groups : (test : List Condition → Bool) (groups : List (List Condition))
    → list_any test groups ≡ list_any (λ (met : Bool). met) (map test groups)
any_of_groups test [] = refl
any_of_groups test (group ∷ groups) = ap (λ (b : Bool). test group || b) (any_of_groups test groups)

-- a check holds alike, and the header fields are the same, if each stage that shows what is looked at has this property
module _ (m : Matching) (P : Stage → Type 0) (one other : Seen)
    (alike : (check : Check) → ((stage : Stage) → is_shown_by (looked_at check) stage ≡ true → P stage)
    → check_holds m one check ≡ check_holds m other check)
    (headers : ((stage : Stage) → is_shown_by (Some stages.Header) stage ≡ true → P stage)
    → one.headers ≡ other.headers) where
  abbrev looks : Stage → List Condition → Bool
  looks stage conditions = list_any (λ condition. is_shown_by (looked_at condition.check) stage) conditions

  condition-alike : (condition : Condition)
      → ((stage : Stage) → is_shown_by (looked_at condition.check) stage ≡ true → P stage)
      → is_met m one condition ≡ is_met m other condition
  condition-alike condition each =
      ap (λ (holds : Bool). if condition.negated then not holds else holds) (alike condition.check each)

  groups-alike : (conditions : List Condition) → ((stage : Stage) → looks stage conditions ≡ true → P stage)
      → map (list_all (is_met m one)) (groups_of conditions) ≡ map (list_all (is_met m other)) (groups_of conditions)
  groups-alike [] each = refl
  groups-alike (condition ∷ conditions) each =
      first_of_groups (is_met m one) condition conditions
      ∙ ap (λ (met : Bool). after_bool condition.joint (with_bool met (map (list_all (is_met m one)) (groups_of conditions))))
      (condition-alike condition (λ stage at. each stage (or_left _ (looks stage conditions) at)))
      ∙ ap (λ (groups : List Bool). after_bool condition.joint (with_bool (is_met m other condition) groups))
      (groups-alike conditions (λ stage at. each stage
      (or_right (is_shown_by (looked_at condition.check) stage) _ at)))
      ∙ sym (first_of_groups (is_met m other) condition conditions)

  conditions-alike : (conditions : List Condition) → ((stage : Stage) → looks stage conditions ≡ true → P stage)
      → list_any (list_all (is_met m one)) (groups_of conditions)
      ≡ list_any (list_all (is_met m other)) (groups_of conditions)
  conditions-alike conditions each =
      any_of_groups (list_all (is_met m one)) (groups_of conditions)
      ∙ ap (list_any (λ (met : Bool). met)) (groups-alike conditions each)
      ∙ sym (any_of_groups (list_all (is_met m other)) (groups_of conditions))

  rules-alike : (rules : List Rule) → ((stage : Stage) → list_any (looks_at stage) rules ≡ true → P stage)
      → filter (applies m one) rules ≡ filter (applies m other) rules
  rules-alike [] each = refl
  rules-alike (rule ∷ rules) each =
      ap (λ (b : Bool). cond b (rule ∷ filter (applies m one) rules) (filter (applies m one) rules))
      (conditions-alike rule.conditions
      (λ stage at. each stage
      (or_left (looks_at stage rule) (list_any (looks_at stage) rules) (or_left (looks stage rule.conditions) _ at))))
      ∙ ap (λ (l : List Rule). cond (applies m other rule) (rule ∷ l) l)
      (rules-alike rules (λ stage at. each stage (or_right (looks_at stage rule) _ at)))

  pub decided-alike : (rules : List Rule) → ((stage : Stage) → list_any (looks_at stage) rules ≡ true → P stage)
      → decided m rules one ≡ decided m rules other
  decided-alike rules each =
      ap (λ (l : List Rule). if_within (answer_by one.headers [] (map (λ rule. rule.action) l))) (rules-alike rules each)
      ∙ ap if_within (answer-alike one.headers other.headers (actions_of m other rules)
      (λ some. headers (λ stage at. each stage (some-looks (applies m other) rules stage some at))))
