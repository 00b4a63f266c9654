-- A filter of rules that wants no more than its rules need leaves out nothing that changes an answer.
use Rattle.std.proofs.Common.{◌≡◌, ◌≤◌, Bool, true, false, ◌&&◌, nat_le, List, [], ◌∷◌, filter, Option, Some, refl, sym, ap, ◌∙◌, le-leb, if◌then◌else◌}
use Rattle.std.specs.List.{list_any}
use Rattle.std.proofs.lemmas.Bool.{and_from, or_left, or_right, true≢false}
use Rattle.milter_wire.specs.declared.options.Options.{Options}
use Rattle.milter_wire.specs.declared.negotiation.Negotiated.{Negotiated}
use Rattle.milter_wire.specs.declared.command.Command.{Command}
use Rattle.milter_wire.specs.declared.stage.Stage.{Stage}
use Rattle.milter_wire.specs.declared.stage.Stage.TheVariants.{Connect, Helo, Mail, Rcpt, DataCmd, Header, Eoh, Body, Eob}
use Rattle.milter_wire.specs.declared.verdict.Verdict.{Verdict}
use Rattle.milter_wire.specs.declared.verdict.Verdict.TheVariants as verdicts
use Rattle.milter_wire.specs.Negotiation.{has_leading_space, is_answered, is_sent}
use Rattle.milter_wire.specs.Stages.{all_stages}
use Rattle.milter_protocol.specs.declared.answer.Answer.{Answer}
use Rattle.milter_protocol.specs.Permitted.{permitted, permitted_verdict}
use Rattle.milter_protocol.specs.Seen.{Seen, seen}
use Rattle.milter_protocol.specs.StageOrder.{rank_of}
use Rattle.milter_filter_rules.specs.ListedValues.{Matching}
use Rattle.milter_filter_rules.specs.declared.rule.Rule.{Rule}
use Rattle.milter_filter_rules.specs.declared.rule_list.StageRules.{StageRules}
use Rattle.milter_filter_rules.specs.Decisions.{decided}
use Rattle.milter_filter_rules.specs.LeastWants.{has_rules, is_least_asked, is_least_sent, is_looked_at, is_looked_at_from, is_of_use, is_shown_by, is_wanted, looked_at, looks_at}
use Rattle.milter_filter_rules.specs.RuleSet.{RuleSet}
use Rattle.milter_filter_rules.specs.StageRules.{is_stage, rules_at}
use Rattle.milter_world.proofs.Decided.{decided-alike}
use Rattle.milter_world.proofs.NegotiatedBits.{answered_as_before, answered_before, as_it_is, least, sent_as_before, sent_before, skip_as_before, space_as_before}
use Rattle.milter_world.proofs.Places.{AreUpTo, place_of, sends}
use Rattle.milter_world.proofs.ShownFields.{HidesNone, check-alike, headers-alike}
use Rattle.milter_world.proofs.Thinned.{is_plain}
use Rattle.milter_world.proofs.ThinnedDialogues.{LeavesOut}

-- ---- the stages that rules need

-- what holds of one stage holds of one of all
any_at : (test : Stage → Bool) (stage : Stage) → test stage ≡ true → list_any test all_stages ≡ true
any_at test Connect e = rw e refl
any_at test Helo e = or_right (test Connect) _ (rw e refl)
any_at test Mail e = or_right (test Connect) _ (or_right (test Helo) _ (rw e refl))
any_at test Rcpt e = or_right (test Connect) _ (or_right (test Helo) _ (or_right (test Mail) _ (rw e refl)))
any_at test DataCmd e =
    or_right (test Connect) _ (or_right (test Helo) _ (or_right (test Mail) _ (or_right (test Rcpt) _ (rw e refl))))
any_at test Header e =
    or_right (test Connect) _ (or_right (test Helo) _ (or_right (test Mail) _ (or_right (test Rcpt) _
    (or_right (test DataCmd) _ (rw e refl)))))
any_at test Eoh e =
    or_right (test Connect) _ (or_right (test Helo) _ (or_right (test Mail) _ (or_right (test Rcpt) _
    (or_right (test DataCmd) _ (or_right (test Header) _ (rw e refl))))))
any_at test Body e =
    or_right (test Connect) _ (or_right (test Helo) _ (or_right (test Mail) _ (or_right (test Rcpt) _
    (or_right (test DataCmd) _ (or_right (test Header) _ (or_right (test Eoh) _ (rw e refl)))))))
any_at test Eob e =
    or_right (test Connect) _ (or_right (test Helo) _ (or_right (test Mail) _ (or_right (test Rcpt) _
    (or_right (test DataCmd) _ (or_right (test Header) _
    (or_right (test Eoh) _ (or_right (test Body) _ (rw e refl))))))))

module _ (also_sent : List Stage) (rules : StageRules) where
  of_use-wanted : (stage : Stage) → is_of_use rules stage ≡ true → is_wanted also_sent rules stage ≡ true
  of_use-wanted stage e = or_right (list_any (is_stage stage) also_sent) (is_of_use rules stage) e

  of_use-sent : (stage : Stage) → is_of_use rules stage ≡ true → is_least_sent also_sent rules stage ≡ true
  of_use-sent Mail e = or_left (is_wanted also_sent rules Mail) _ (of_use-wanted Mail e)
  of_use-sent other e = of_use-wanted other e

  asked-sent : (stage : Stage) → is_least_asked rules stage ≡ true → is_least_sent also_sent rules stage ≡ true
  asked-sent stage e = of_use-sent stage (or_left (is_least_asked rules stage) (is_looked_at rules stage) e)

  looked_at-sent : (stage later : Stage) → rank_of stage ≤ rank_of later
      → list_any (looks_at stage) (rules_at rules later) ≡ true → is_least_sent also_sent rules stage ≡ true
  looked_at-sent stage later less looks =
      of_use-sent stage (or_right (is_least_asked rules stage) (is_looked_at rules stage)
      (any_at (is_looked_at_from rules stage) later
      (and_from (nat_le (rank_of stage) (rank_of later)) _ (le-leb (rank_of stage) (rank_of later) less) looks)))

  no_rules : (these : List Rule) → has_rules these ≡ false → these ≡ []
  no_rules [] e = refl
  no_rules (rule ∷ these) e = absurd (true≢false e)

  unasked-none : (stage : Stage) → is_least_asked rules stage ≡ false → rules_at rules stage ≡ []
  unasked-none Eob e = absurd (true≢false e)
  unasked-none Connect e = no_rules rules.connect e
  unasked-none Helo e = no_rules rules.helo e
  unasked-none Mail e = no_rules rules.mail e
  unasked-none Rcpt e = no_rules rules.rcpt e
  unasked-none DataCmd e = no_rules rules.data_cmd e
  unasked-none Header e = no_rules rules.header e
  unasked-none Eoh e = no_rules rules.eoh e
  unasked-none Body e = no_rules rules.body e

module _ (m : Matching) (also_sent : List Stage) (set : RuleSet) (offer : Options) where
  abbrev as_wanted : Negotiated
  as_wanted = as_it_is also_sent set offer

  abbrev at_least : Negotiated
  at_least = least also_sent set offer

  abbrev pub decides : Stage → Seen → Answer
  decides = λ stage shown. decided m (rules_at set.rules stage) shown

  -- ---- what is left out changes nothing

  verdict-alike : (verdict : Verdict) → permitted_verdict at_least verdict ≡ permitted_verdict as_wanted verdict
  verdict-alike verdicts.Skip =
      ap (λ (b : Bool). if b then verdicts.Skip else verdicts.Continue) (skip_as_before also_sent set offer)
  verdict-alike other = refl

  answer-alike : (answer : Answer) → permitted at_least answer ≡ permitted as_wanted answer
  answer-alike answer =
      ap (λ (v : Verdict). record (permitted as_wanted answer) { verdict = v }) (verdict-alike answer.verdict)

  quiet : (stage : Stage) (shown : Seen) → is_sent as_wanted stage ≡ true → is_answered as_wanted stage ≡ true
      → (is_sent at_least stage && is_answered at_least stage) ≡ false
      → is_plain (Some (permitted as_wanted (decides stage shown))) ≡ true
  quiet stage shown sent answered none = by_asked (is_least_asked set.rules stage) refl
    where
      by_asked : (asked : Bool) → is_least_asked set.rules stage ≡ asked
          → is_plain (Some (permitted as_wanted (decides stage shown))) ≡ true
      by_asked true e =
          absurd (true≢false (sym (and_from (is_sent at_least stage) (is_answered at_least stage)
          (sent_as_before also_sent set offer stage (asked-sent also_sent set.rules stage e) ∙ sent)
          (answered_as_before also_sent set offer stage e ∙ answered)) ∙ none))
      by_asked false e =
          ap (λ (l : List Rule). is_plain (Some (permitted as_wanted (decided m l shown))))
          (unasked-none also_sent set.rules stage e)

  -- each stage that shows what a rule of this stage looks at is sent as before
  abbrev IsKept : Stage → Stage → Type 0
  IsKept stage shown = rank_of shown ≤ rank_of stage → is_least_sent also_sent set.rules shown ≡ true

  hides-none : (stage : Stage) (at : Option Stage)
      → ((shown : Stage) → is_shown_by at shown ≡ true → IsKept stage shown)
      → (before : List Command) → AreUpTo as_wanted (rank_of stage) before → HidesNone (sends at_least) at before
  hides-none stage at each [] up_to = tt
  hides-none stage at each (command ∷ before) up_to = (
    λ gone. by_shown (is_shown_by at
        (place_of command)) refl gone,
    hides-none stage at each before up_to.2,
  )
    where
      by_shown : (shown : Bool) → is_shown_by at (place_of command) ≡ shown
          → sends at_least command ≡ false
          → is_shown_by at (place_of command) ≡ false
      by_shown false e gone = e
      by_shown true e gone =
          absurd (true≢false (sym (sent_as_before also_sent set offer (place_of command)
          (each (place_of command) e up_to.0) ∙ up_to.1) ∙ gone))

  decides-alike : (stage : Stage) (command : Command) (before : List Command) → AreUpTo as_wanted (rank_of stage) before
      → decides stage (seen (has_leading_space at_least) (command ∷ filter (sends at_least) before))
      ≡ decides stage (seen (has_leading_space as_wanted) (command ∷ before))
  decides-alike stage command before up_to =
      decided-alike m (IsKept stage)
      (seen (has_leading_space at_least) (command ∷ filter (sends at_least) before))
      (seen (has_leading_space as_wanted) (command ∷ before))
      (λ check each. check-alike (sends at_least) (λ bytes. refl) command before (has_leading_space as_wanted)
      (has_leading_space at_least) m check (hides-none stage (looked_at check) each before up_to))
      (λ each. headers-alike (sends at_least) (λ bytes. refl) command before (has_leading_space as_wanted)
      (has_leading_space at_least) (hides-none stage (Some Header) each before up_to))
      (rules_at set.rules stage) (λ shown looks less. looked_at-sent also_sent set.rules shown stage less looks)

  pub leaves : LeavesOut decides as_wanted at_least
  leaves =
      record {
        permitted_alike = answer-alike;
        lists_alike = refl;
        space_alike = space_as_before also_sent set offer;
        sent = sent_before also_sent set offer;
        answered = answered_before also_sent set offer;
        quiet = quiet;
        decided = decides-alike;
      }
