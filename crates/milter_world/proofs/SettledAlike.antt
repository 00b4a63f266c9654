-- Messages come to the same by two negotiations with a filter, of which one leaves out what changes nothing.
use Rattle.std.proofs.Common.{◌≡◌, ℕ, ◌+◌, ◌-◌, Bool, true, List, [], ◌∷◌, ◌++◌, length, map, slice_get, is_some, Option, None, Some, option_map, refl, sym, ap, ◌∙◌, subst, arith, length-append, if◌then◌else◌}
use Rattle.std.proofs.lemmas.Bool.{true≢false}
use Rattle.milter_wire.specs.declared.options.Options.{Options}
use Rattle.milter_wire.specs.declared.symbol_lists.SymList.{SymList}
use Rattle.milter_wire.specs.declared.negotiation.Negotiated.{Negotiated}
use Rattle.milter_wire.specs.declared.command.Command.{Command}
use Rattle.milter_wire.specs.declared.stage.Stage.{Stage}
use Rattle.milter_wire.specs.declared.verdict.Verdict.{Verdict}
use Rattle.milter_wire.specs.Negotiation.{has_leading_space}
use Rattle.milter_wire.specs.Stages.{stage_of}
use Rattle.milter_message.specs.MailObject.{MailObject}
use Rattle.milter_mail.specs.MailSession.{MailSession}
use Rattle.milter_mail.specs.Plan.{plan}
use Rattle.milter_protocol.specs.declared.answer.Answer.{Answer}
use Rattle.milter_protocol.specs.Behavior.{Behavior}
use Rattle.milter_protocol.specs.Dialogue.{IsDialogueWith, dialogue_with, has_end, is_closed}
use Rattle.milter_protocol.specs.Exchanges.{Exchange, onto}
use Rattle.milter_protocol.specs.Seen.{Seen}
use Rattle.milter_protocol.proofs.WholeDialogues.{dialogue_with-whole}
use Rattle.milter_mta_outcome.specs.declared.acted_verdicts.Acted.{Acted}
use Rattle.milter_mta_outcome.specs.declared.loss.By.TheVariants.{Connection, Filter}
use Rattle.milter_mta_outcome.specs.declared.outcome.Outcome.{Outcome}
use Rattle.milter_mta_outcome.specs.ActedVerdicts.{kept}
use Rattle.milter_mta_outcome.specs.Dialogues.{acted, acted_at, ruled, ruled_at, ruled_by}
use Rattle.milter_mta_outcome.specs.TransactionVerdicts.{last_verdict}
use Rattle.milter_mta.specs.Dispositions.{report}
use Rattle.milter_mta.specs.Sessions.{connection_after, dialogue_of, report_by, reports_by, settled_through}
use Rattle.milter_mta.specs.Settled.{dialogue_verdict, ends_with_client}
use Rattle.milter_world.specs.SettledAlike.{Disposition, disposition_of}
use Rattle.milter_world.proofs.RuledAlike.{kept-alike, last-alike}
use Rattle.milter_world.proofs.Thinned.{AreQuiet, thinned, thinned-onto}
use Rattle.milter_world.proofs.ThinnedDialogues.{LeavesOut, dialogue-quiet, dialogues-alike}
use Rattle.milter_world.proofs.ThinnedPlans.{plan-ascends, plan-left}

-- ---- dialogues that close

-- the last exchange closes it, whatever is left
record Closes (dialogue : List Exchange) : Type 0 where
  last : Exchange
  before : List Exchange
  left : List Command
  is : dialogue ≡ last ∷ before
  closed : is_closed (last ∷ before) left ≡ true

closes : (b : Behavior) (negotiated : Negotiated) (exchanges before : List Exchange) (commands : List Command)
    → IsDialogueWith b negotiated before commands exchanges → Closes (onto exchanges before)
closes b negotiated [] before commands is = absurd is
closes b negotiated (exchange ∷ []) before commands is =
    record { last = exchange; before = before; left = is.0; is = refl; closed = is.2 }
closes b negotiated (exchange ∷ next ∷ more) before commands is =
    closes b negotiated (next ∷ more) (exchange ∷ before) is.0 is.3

-- the last one of verdicts
last_added : (xs : List Acted) (last : Acted) → last_verdict (xs ++ last ∷ []) ≡ Some last
last_added xs last =
    ap (λ (n : ℕ). slice_get (xs ++ last ∷ []) (n - 1)) (length-append xs (last ∷ []))
    ∙ ap (slice_get (xs ++ last ∷ [])) (let e : length xs + 1 - 1 ≡ length xs = omega arith in e)
    ∙ at xs
  where
    at : (xs : List Acted) → slice_get (xs ++ last ∷ []) (length xs) ≡ Some last
    at [] = refl
    at (x ∷ xs) = at xs

-- the last verdict of a dialogue that rules is that of its last exchange
verdict_of_last : (last : Exchange) (before : List Exchange) (leading_space : Bool) (message : MailObject)
    → is_some (ruled leading_space message (last ∷ before)) ≡ true
    → dialogue_verdict (last ∷ before) ≡ option_map (λ (a : Answer). a.verdict) last.answer
verdict_of_last last before leading_space message rules =
    by_answer (stage_of last.command) last.answer rules
  where
    by_answer : (at : Option Stage) (answer : Option Answer)
        → is_some (ruled_by leading_space (kept message (acted (last ∷ before))) at answer) ≡ true
        → option_map (λ (a : Acted). a.verdict) (last_verdict (acted before ++ acted_at at answer (last ∷ before)))
        ≡ option_map (λ (a : Answer). a.verdict) answer
    by_answer None answer rules = absurd (true≢false (sym rules))
    by_answer (Some stage) None rules = absurd (true≢false (sym rules))
    by_answer (Some stage) (Some answer) rules =
        ap (λ (o : Option Acted). option_map (λ (a : Acted). a.verdict) o) (last_added (acted before) _)

-- what is reported, by what a dialogue makes of a message and whether it ends with the client
abbrev disposed : Bool → Option Outcome → Option Disposition
disposed client found =
    option_map (λ outcome. record { outcome = outcome; settled_by = if client then Connection else Filter }) found

disposition-is : (negotiated : Negotiated) (dialogue : List Exchange) (message : MailObject)
    → option_map disposition_of (report_by negotiated dialogue message)
    ≡ disposed (ends_with_client dialogue) (ruled (has_leading_space negotiated) message dialogue)
disposition-is negotiated dialogue message = by_found (ruled (has_leading_space negotiated) message dialogue)
  where
    by_found : (found : Option Outcome)
        → option_map disposition_of (option_map (λ outcome. report (acted dialogue) outcome
        (settled_through dialogue)) found)
        ≡ disposed (ends_with_client dialogue) found
    by_found None = refl
    by_found (Some outcome) = refl

module _ (wants least_wants : Options) (lists : List SymList) (decide : Stage → Seen → Answer) (all least : Negotiated)
    (leaves : LeavesOut decide all least) where
  abbrev one : Behavior
  one = record { wants = wants; lists = lists; decide = decide }

  abbrev other : Behavior
  other = record { wants = least_wants; lists = lists; decide = decide }

  module _ (session : MailSession) (message : MailObject) (ends : has_end (plan all session message) ≡ true)
      (rules : (dialogue : List Exchange) (left : List Command) (leading_space : Bool) → is_closed dialogue left ≡ true
      → is_some (ruled leading_space message dialogue) ≡ true) where
    abbrev dialogue : List Exchange
    dialogue = dialogue_of one all session message

    abbrev least_dialogue : List Exchange
    least_dialogue = dialogue_of other least session message

    thinned-dialogue : least_dialogue ≡ thinned least dialogue
    thinned-dialogue =
        ap (λ (p : List Command). onto (dialogue_with other least [] p) [])
        (sym (plan-left all least leaves.sent leaves.space_alike leaves.lists_alike session message))
        ∙ ap (λ (d : List Exchange). onto d [])
        (dialogues-alike wants least_wants lists decide all least leaves (plan all session message) [] 0
        tt tt (plan-ascends all session message))
        ∙ thinned-onto least (dialogue_with one all [] (plan all session message)) []

    are_quiet : AreQuiet least dialogue
    are_quiet =
        dialogue-quiet wants least_wants lists decide all least leaves (plan all session message) [] 0
        tt (plan-ascends all session message)

    end : Closes dialogue
    end =
        closes one all (dialogue_with one all [] (plan all session message)) [] (plan all session message)
        (dialogue_with-whole one all (plan all session message) [] ends)

    last_is : least_dialogue ≡ end.last ∷ thinned least end.before
    last_is =
        thinned-dialogue
        ∙ ap (thinned least) end.is
        ∙ last-alike least end.last end.before end.left (subst (AreQuiet least) end.is are_quiet).0 end.closed

    -- ---- what becomes of the message

    ruled-alike : ruled (has_leading_space least) message least_dialogue
        ≡ ruled (has_leading_space all) message dialogue
    ruled-alike =
        ap (λ (b : Bool). ruled b message least_dialogue) leaves.space_alike
        ∙ ap (λ (m : MailObject). ruled_at (has_leading_space all) m least_dialogue)
        (ap (λ (d : List Exchange). kept message (acted d)) thinned-dialogue
        ∙ kept-alike least message dialogue are_quiet)
        ∙ ap (ruled_at (has_leading_space all) (kept message (acted dialogue))) last_is
        ∙ sym (ap (ruled_at (has_leading_space all) (kept message (acted dialogue))) end.is)

    client-alike : ends_with_client least_dialogue ≡ ends_with_client dialogue
    client-alike = ap ends_with_client last_is ∙ sym (ap ends_with_client end.is)

    verdict_alike : dialogue_verdict least_dialogue ≡ dialogue_verdict dialogue
    verdict_alike =
        let space = has_leading_space all in
        let rules_all : is_some (ruled space message (end.last ∷ end.before)) ≡ true =
        rules (end.last ∷ end.before) end.left space end.closed in
        let rules_least : is_some (ruled space message (end.last ∷ thinned least end.before)) ≡ true =
        ap (λ (d : List Exchange). is_some (ruled space message d)) (sym last_is)
        ∙ ap (λ (b : Bool). is_some (ruled b message least_dialogue)) (sym leaves.space_alike)
        ∙ ap is_some ruled-alike
        ∙ ap (λ (d : List Exchange). is_some (ruled space message d)) end.is
        ∙ rules_all in
        ap dialogue_verdict last_is
        ∙ verdict_of_last end.last (thinned least end.before) space message rules_least
        ∙ sym (verdict_of_last end.last end.before space message rules_all)
        ∙ sym (ap dialogue_verdict end.is)

    pub disposition-alike : option_map disposition_of (report_by all dialogue message)
        ≡ option_map disposition_of (report_by least least_dialogue message)
    disposition-alike =
        disposition-is all dialogue message
        ∙ ap (λ (found : Option Outcome). disposed (ends_with_client dialogue) found) (sym ruled-alike)
        ∙ ap (λ (client : Bool). disposed client (ruled (has_leading_space least) message least_dialogue))
        (sym client-alike)
        ∙ sym (disposition-is least least_dialogue message)

    pub first-alike : (before : Option Verdict)
        → (if ends_with_client dialogue then dialogue_verdict dialogue else before)
        ≡ (if ends_with_client least_dialogue then dialogue_verdict least_dialogue else before)
    first-alike before =
        ap (λ (v : Option Verdict). if ends_with_client dialogue then v else before) (sym verdict_alike)
        ∙ ap (λ (b : Bool). if b then dialogue_verdict least_dialogue else before) (sym client-alike)

  -- ---- sessions

  module _ (session : MailSession) (ends : (message : MailObject) → has_end (plan all session message) ≡ true)
      (rules : (dialogue : List Exchange) (left : List Command) (leading_space : Bool) (message : MailObject)
      → is_closed dialogue left ≡ true → is_some (ruled leading_space message dialogue) ≡ true) where
    abbrev rules_for : (message : MailObject) (dialogue : List Exchange) (left : List Command) (leading_space : Bool)
        → is_closed dialogue left ≡ true → is_some (ruled leading_space message dialogue) ≡ true
    rules_for message dialogue left leading_space closed = rules dialogue left leading_space message closed

    pub dispositions-alike : (messages : List MailObject)
        → map (option_map disposition_of) (reports_by one all session messages)
        ≡ map (option_map disposition_of) (reports_by other least session messages)
    dispositions-alike [] = refl
    dispositions-alike (message ∷ messages) =
        ap (λ (d : Option Disposition). d ∷ map (option_map disposition_of) (reports_by one all session messages))
        (disposition-alike session message (ends message) (rules_for message))
        ∙ ap (λ (l : List (Option Disposition)). option_map disposition_of
        (report_by least (dialogue_of other least session message) message) ∷ l)
        (dispositions-alike messages)

    pub connection-alike : (messages : List MailObject) (before : Option Verdict)
        → connection_after one all session messages before ≡ connection_after other least session messages before
    connection-alike [] before = refl
    connection-alike (message ∷ messages) before =
        first-alike session message (ends message) (rules_for message) before
