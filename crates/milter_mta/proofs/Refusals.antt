-- All recipients are refused by the verdicts that were acted on exactly where they are by the dialogue.
use Rattle.std.specs.Prelude.{if◌then◌else◌}
use Rattle.std.proofs.Common.{◌≡◌, Bool, true, false, cond, not, ◌&&◌, ◌||◌, List, [], ◌∷◌, ◌++◌, is_some, Option, None, Some, refl, sym, ap, ◌∙◌}
use Rattle.std.specs.List.{filter, list_all, list_any}
use Rattle.std.proofs.lemmas.Bool.{true≢false}
use Rattle.std.proofs.lemmas.List.Elements.{filter_map-append}
use Rattle.std.proofs.Math.Bool.{and-true}
use Rattle.milter_wire.specs.declared.negotiation.Negotiated.{Negotiated}
use Rattle.milter_wire.specs.declared.command.Command.{Command}
use Rattle.milter_wire.specs.declared.command.Command.TheVariants as commands
use Rattle.milter_wire.specs.declared.stage.Stage.{Stage}
use Rattle.milter_wire.specs.declared.stage.Stage.TheVariants.{Connect, Helo, Mail, Rcpt, DataCmd, Header, Eoh, Body, Eob}
use Rattle.milter_wire.specs.declared.verdict.Verdict.{Verdict}
use Rattle.milter_wire.specs.Negotiation.{is_answered, is_asked_at}
use Rattle.milter_wire.specs.Stages.{stage_of}
use Rattle.milter_protocol.specs.declared.answer.Answer.{Answer}
use Rattle.milter_protocol.specs.Exchanges.{Exchange}
use Rattle.milter_protocol.specs.Dialogue.{is_body, is_kept_rcpt, is_rcpt, is_refused, is_skipping, sendable}
use Rattle.milter_protocol.specs.Verdicts.{has_verdict, is_refusal, is_skip}
use Rattle.milter_mta_outcome.specs.ActedVerdicts.{rcpt_verdict, rcpt_verdicts}
use Rattle.milter_mta_outcome.specs.Dialogues.{acted, acted_at}
use Rattle.milter_mta_outcome.specs.PlanCursor.{without_body}
use Rattle.milter_mta_outcome.specs.TransactionVerdicts.{is_rcpt_stage, left_after}
use Rattle.milter_mta.specs.Order.{AreProper}

-- ---- truth values

and-swap : (a b : Bool) → (b && (a && true)) ≡ (a && b)
and-swap true true = refl
and-swap true false = refl
and-swap false true = refl
and-swap false false = refl

not_or : (a b : Bool) → (not a && not b) ≡ not (a || b)
not_or true b = refl
not_or false b = refl

not_not : (a : Bool) → not (not a) ≡ a
not_not true = refl
not_not false = refl

-- ---- recipients

-- a command is a recipient by its stage
abbrev pub is_rcpt_at : Option Stage → Bool
is_rcpt_at None = false
is_rcpt_at (Some stage) = is_rcpt_stage stage

pub rcpt_by_stage : (command : Command) → is_rcpt command ≡ is_rcpt_at (stage_of command)
rcpt_by_stage (commands.Connect client) = refl
rcpt_by_stage (commands.Helo name) = refl
rcpt_by_stage (commands.Mail sender) = refl
rcpt_by_stage (commands.Rcpt recipient) = refl
rcpt_by_stage commands.DataCmd = refl
rcpt_by_stage (commands.Header header) = refl
rcpt_by_stage commands.Eoh = refl
rcpt_by_stage (commands.Body bytes) = refl
rcpt_by_stage (commands.Eob bytes) = refl
rcpt_by_stage other = refl

abbrev all_refuse : List Verdict → Bool
all_refuse verdicts = list_all is_refusal verdicts

all_refuse-append : (xs ys : List Verdict) → all_refuse (xs ++ ys) ≡ (all_refuse xs && all_refuse ys)
all_refuse-append [] ys = refl
all_refuse-append (x ∷ xs) ys = ap (λ (b : Bool). is_refusal x && b) (all_refuse-append xs ys) ∙ regroup (is_refusal x) (all_refuse xs) (all_refuse ys)
  where
    regroup : (a b c : Bool) → (a && (b && c)) ≡ ((a && b) && c)
    regroup true b c = refl
    regroup false b c = refl

module _ (negotiated : Negotiated) (answered : is_answered negotiated Rcpt ≡ true) where
  abbrev Agree : List Exchange → Type 0
  Agree dialogue = all_refuse (rcpt_verdicts (acted dialogue)) ≡ not (list_any is_kept_rcpt dialogue)

  -- what the last exchange adds, by its stage and answer
  abbrev adds : Exchange → List Exchange → Option Stage → Option Answer → Type 0
  adds last before at answer =
      all_refuse (rcpt_verdicts (acted before) ++ rcpt_verdicts (acted_at at answer (last ∷ before)))
      ≡ not ((is_rcpt_at at && not (has_verdict is_refusal answer)) || list_any is_kept_rcpt before)

  more : (last : Exchange) (before : List Exchange) (at : Option Stage) (answer : Option Answer) → is_some answer ≡ is_asked_at negotiated at
      → Agree before → adds last before at answer
  more last before None answer asked is = all_refuse-append (rcpt_verdicts (acted before)) [] ∙ and-true _ ∙ is
  more last before (Some Rcpt) None asked is = absurd (true≢false (sym answered ∙ sym asked))
  more last before (Some Rcpt) (Some answer) asked is =
      all_refuse-append (rcpt_verdicts (acted before)) (answer.verdict ∷ [])
      ∙ and-swap (is_refusal answer.verdict) (all_refuse (rcpt_verdicts (acted before)))
      ∙ ap (λ (b : Bool). is_refusal answer.verdict && b) is
      ∙ ap (λ (b : Bool). b && not (list_any is_kept_rcpt before)) (sym (not_not (is_refusal answer.verdict)))
      ∙ not_or (not (is_refusal answer.verdict)) (list_any is_kept_rcpt before)
  more last before (Some Connect) None asked is = all_refuse-append (rcpt_verdicts (acted before)) [] ∙ and-true _ ∙ is
  more last before (Some Connect) (Some answer) asked is = all_refuse-append (rcpt_verdicts (acted before)) [] ∙ and-true _ ∙ is
  more last before (Some Helo) None asked is = all_refuse-append (rcpt_verdicts (acted before)) [] ∙ and-true _ ∙ is
  more last before (Some Helo) (Some answer) asked is = all_refuse-append (rcpt_verdicts (acted before)) [] ∙ and-true _ ∙ is
  more last before (Some Mail) None asked is = all_refuse-append (rcpt_verdicts (acted before)) [] ∙ and-true _ ∙ is
  more last before (Some Mail) (Some answer) asked is = all_refuse-append (rcpt_verdicts (acted before)) [] ∙ and-true _ ∙ is
  more last before (Some DataCmd) None asked is = all_refuse-append (rcpt_verdicts (acted before)) [] ∙ and-true _ ∙ is
  more last before (Some DataCmd) (Some answer) asked is = all_refuse-append (rcpt_verdicts (acted before)) [] ∙ and-true _ ∙ is
  more last before (Some Header) None asked is = all_refuse-append (rcpt_verdicts (acted before)) [] ∙ and-true _ ∙ is
  more last before (Some Header) (Some answer) asked is = all_refuse-append (rcpt_verdicts (acted before)) [] ∙ and-true _ ∙ is
  more last before (Some Eoh) None asked is = all_refuse-append (rcpt_verdicts (acted before)) [] ∙ and-true _ ∙ is
  more last before (Some Eoh) (Some answer) asked is = all_refuse-append (rcpt_verdicts (acted before)) [] ∙ and-true _ ∙ is
  more last before (Some Body) None asked is = all_refuse-append (rcpt_verdicts (acted before)) [] ∙ and-true _ ∙ is
  more last before (Some Body) (Some answer) asked is = all_refuse-append (rcpt_verdicts (acted before)) [] ∙ and-true _ ∙ is
  more last before (Some Eob) None asked is = all_refuse-append (rcpt_verdicts (acted before)) [] ∙ and-true _ ∙ is
  more last before (Some Eob) (Some answer) asked is = all_refuse-append (rcpt_verdicts (acted before)) [] ∙ and-true _ ∙ is

  pub refused_as_dialogue : (dialogue : List Exchange) → AreProper negotiated dialogue → Agree dialogue
  refused_as_dialogue [] all = refl
  refused_as_dialogue (last ∷ before) all =
      ap all_refuse (filter_map-append rcpt_verdict (acted before) (acted_at (stage_of last.command) last.answer (last ∷ before)))
      ∙ more last before (stage_of last.command) last.answer all.0.answered (refused_as_dialogue before all.1)
      ∙ ap (λ (b : Bool). not ((b && not (is_refused last)) || list_any is_kept_rcpt before)) (sym (rcpt_by_stage last.command))

-- ---- what is left to send

-- after one exchange more
abbrev pub keep_if : Bool → List Command → List Command
keep_if skips left = filter (λ command. not (is_body command && skips)) left

kept_by : (dialogue : List Exchange) (left : List Command) → sendable dialogue left ≡ keep_if (list_any is_skipping dialogue) left
kept_by dialogue left = refl

pub keep_all : (left : List Command) → keep_if false left ≡ left
keep_all [] = refl
keep_all (command ∷ left) =
    ap (λ (b : Bool). cond (not b) (command ∷ keep_if false left) (keep_if false left)) (no_more (is_body command)) ∙ ap (λ (l : List Command). command ∷ l) (keep_all left)
  where
    no_more : (b : Bool) → (b && false) ≡ false
    no_more true = refl
    no_more false = refl

pub keep_none : (left : List Command) → keep_if true left ≡ without_body left
keep_none [] = refl
keep_none (command ∷ left) =
    ap (λ (b : Bool). cond (not b) (command ∷ keep_if true left) (keep_if true left)) (and-true (is_body command)) ∙ by_body (is_body command) (keep_none left)
  where
    by_body : (b : Bool) → keep_if true left ≡ without_body left → cond (not b) (command ∷ keep_if true left) (keep_if true left) ≡ cond (not b) (command ∷ without_body left) (without_body left)
    by_body true rest = rest
    by_body false rest = ap (λ (l : List Command). command ∷ l) rest

without_body-twice : (left : List Command) → without_body (without_body left) ≡ without_body left
without_body-twice [] = refl
without_body-twice (command ∷ left) = by_body (is_body command) refl (without_body-twice left)
  where
    by_body : (b : Bool) → is_body command ≡ b → without_body (without_body left) ≡ without_body left → without_body (without_body (command ∷ left)) ≡ without_body (command ∷ left)
    by_body true e rest =
        ap (λ (b : Bool). without_body (cond (not b) (command ∷ without_body left) (without_body left))) e
        ∙ rest
        ∙ ap (λ (b : Bool). cond (not b) (command ∷ without_body left) (without_body left)) (sym e)
    by_body false e rest =
        ap (λ (b : Bool). without_body (cond (not b) (command ∷ without_body left) (without_body left))) e
        ∙ ap (λ (b : Bool). cond (not b) (command ∷ without_body (without_body left)) (without_body (without_body left))) e
        ∙ ap (λ (l : List Command). command ∷ l) rest
        ∙ ap (λ (b : Bool). cond (not b) (command ∷ without_body left) (without_body left)) (sym e)

-- a verdict leaves what can be sent after it
pub left-sendable : (last : Exchange) (dialogue : List Exchange) (left : List Command) (answer : Answer) → last.answer ≡ Some answer
    → left_after answer.verdict (sendable dialogue left) ≡ sendable (last ∷ dialogue) left
left-sendable last dialogue left answer answered =
    by_skips (is_skip answer.verdict) (list_any is_skipping dialogue)
    ∙ ap (λ (b : Bool). keep_if (b || list_any is_skipping dialogue) left) (sym (ap (has_verdict is_skip) answered))
  where
    by_skips : (skips before : Bool) → (if skips then without_body (keep_if before left) else keep_if before left) ≡ keep_if (skips || before) left
    by_skips false before = refl
    by_skips true false = ap without_body (keep_all left) ∙ sym (keep_none left)
    by_skips true true = ap without_body (keep_none left) ∙ without_body-twice left ∙ sym (keep_none left)

-- and so does an exchange without an answer
pub same-sendable : (last : Exchange) (dialogue : List Exchange) (left : List Command) → last.answer ≡ None → sendable (last ∷ dialogue) left ≡ sendable dialogue left
same-sendable last dialogue left unanswered = ap (λ (b : Bool). keep_if (b || list_any is_skipping dialogue) left) (ap (has_verdict is_skip) unanswered)
