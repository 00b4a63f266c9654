use Rattle.std.proofs.Common.{List, Result, Ok, Err, IfOk, true, map, refl, subst, ◌≡◌}
use Rattle.clap.specs.Words.{App, FailsBy, HasMatchesOf, Text, app_of, is_simple, is_simple_and_free}
use Rattle.clap.specs.declared.error.Error.{Error}
use Rattle.clap.specs.declared.parser.matches.ArgMatches.{ArgMatches}
use Rattle.clap.proofs.OnLiterals.{clap_on_literals}
use Rattle.clap.specs.Faults.{fault_of}
use Rattle.milter_command_line.specs.Subcommands.{tool_app}
use Rattle.milter_command_line.specs.Words.{AreLossWords, BorrowedWords}
use Rattle.milter_command_line.specs.CommandLine.{MatchesAs}
use Rattle.milter_command_line.proofs.command_line.parse_matches.Goals as goal

simple : (losses : BorrowedWords) → is_simple (tool_app losses) ≡ true
unfolding clap_on_literals
simple losses = refl

free : (losses : BorrowedWords) → is_simple_and_free (tool_app losses) ≡ true
unfolding clap_on_literals
free losses = refl

matched : (losses : BorrowedWords) (words : List Text) (r : Result ArgMatches Error) → AreLossWords losses → FailsBy (fault_of (tool_app losses) words) r → IfOk r (HasMatchesOf (tool_app losses) words) → MatchesAs words r
matched losses words (Ok m) are faultless is = (losses, are, (faultless, (is (simple losses)).1), tt)
matched losses words (Err e) are fault is = (losses, are, tt, fault)

pub returns : goal.returns
returns g c =
    let losses = c.loss_words.result in
    let same : app_of c.in_ok-command.field-0 ≡ tool_app losses = c.in_ok-command.ensures in
    let words = map g.S.AsStr.text c.args.words.now in
    matched losses words c.try_get_matches_from.result c.loss_words.ensures
    (subst (λ (a : App). is_simple_and_free a ≡ true → FailsBy (fault_of a words) c.try_get_matches_from.result) same c.try_get_matches_from.ensures.kinds (free losses))
    (subst (λ (a : App). IfOk c.try_get_matches_from.result (HasMatchesOf a words)) same c.try_get_matches_from.ensures.matches)
