-- A command line with words after its own, and one word more; and with subcommands, and one more.
use Rattle.std.proofs.Common.{◌≡◌, ◌∙◌, ℕ, List, [], ◌∷◌, ◌++◌, append_assoc, ap, length, refl, map, take, get_or, sym, ◌<◌, ◌+◌}
use Rattle.std.proofs.lemmas.List.{map_more}
use Rattle.clap.specs.Words.{AddsSubcommand, App, Rule, app_of, shape_of, with_rule, with_subcommand}
use Rattle.clap.specs.declared.builder.command.Command.{Command}
use Rattle.milter_command_line.specs.Words.{IsLocal, app_in, rule_of_word, with_apps, with_rules}
use Rattle.milter_command_line.specs.declared.word.Subcommand.{Subcommand}
use Rattle.milter_command_line.specs.declared.word.Word.{Word}

pub with_rules-more : (a b c : App) (words : List Word) (i : ℕ) (word : Word) (r : Rule) → i < length words
    → b ≡ with_rules a (map rule_of_word (take i words)) → c ≡ with_rule b r → r ≡ rule_of_word (get_or words i word)
    → c ≡ with_rules a (map rule_of_word (take (i + 1) words))
with_rules-more a b c words i word r in_words before adds is =
    let more = map_more rule_of_word words i word in_words in
    let joined = append_assoc a.top.rules (map rule_of_word (take i words)) (rule_of_word (get_or words i word) ∷ []) in
    adds ∙ ap (λ (b : App). with_rule b r) before ∙ ap (λ (r : Rule). with_rule (with_rules a (map rule_of_word (take i words))) r) is
    ∙ ap (λ (rs : List Rule). record a { top = record a.top { rules = rs } }) (joined ∙ ap (λ (rs : List Rule). a.top.rules ++ rs) (sym more))

pub with_subcommand_more : (app : App) (old sub new : Command) → app_of sub ≡ app → IsLocal sub → AddsSubcommand old sub new
    → app_of new ≡ with_subcommand (app_of old) app.top
with_subcommand_more app old sub new is local adds =
    adds.shape local ∙ ap (λ (a : App). with_subcommand (app_of old) a.top) is

with_apps-append : (whole : App) (apps : List App) (app : App)
    → with_apps whole (apps ++ app ∷ []) ≡ with_subcommand (with_apps whole apps) app.top
unfolding with_apps
with_apps-append whole [] app = refl
with_apps-append whole (first ∷ apps) app = with_apps-append (with_subcommand whole first.top) apps app

pub with_apps-more : (whole : App) (old new : Command) (subs : List Subcommand) (i : ℕ) (it : Subcommand) → i < length subs
    → app_of old ≡ with_apps whole (map app_in (take i subs)) → app_of new ≡ with_subcommand (app_of old) (app_in (get_or subs i it)).top
    → app_of new ≡ with_apps whole (map app_in (take (i + 1) subs))
with_apps-more whole old new subs i it in_subs before adds =
    adds ∙ ap (λ (app : App). with_subcommand app (app_in (get_or subs i it)).top) before
    ∙ sym (with_apps-append whole (map app_in (take i subs)) (app_in (get_or subs i it)))
    ∙ ap (λ (apps : List App). with_apps whole apps) (sym (map_more app_in subs i it in_subs))
