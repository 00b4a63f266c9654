-- What closes a dialogue, and dialogues that are open.
use Rattle.std.proofs.Common.{◌≡◌, ◌≤◌, Bool, true, false, cond, not, ◌&&◌, ◌||◌, List, [], ◌∷◌, is_some, Option, None, Some, refl, sym, ap, ◌∙◌, subst, arith}
use Rattle.std.specs.List.{list_any}
use Rattle.std.proofs.lemmas.Bool.{true≢false}
use Rattle.milter_wire.specs.declared.negotiation.Negotiated.{Negotiated}
use Rattle.milter_wire.specs.declared.command.Command.{Command}
use Rattle.milter_wire.specs.declared.command.Command.TheVariants as commands
use Rattle.milter_wire.specs.declared.stage.Stage.{Stage}
use Rattle.milter_wire.specs.declared.stage.Stage.TheVariants.{Connect, Helo, Mail, Rcpt, DataCmd, Header, Eoh, Body, Eob}
use Rattle.milter_wire.specs.Stages.{stage_of}
use Rattle.milter_message.specs.MailObject.{MailObject}
use Rattle.milter_protocol.specs.declared.answer.Answer.{Answer}
use Rattle.milter_protocol.specs.Behavior.{Behavior}
use Rattle.milter_protocol.specs.Commands.{is_of_connection}
use Rattle.milter_protocol.specs.Exchanges.{Exchange, commands_of, onto}
use Rattle.milter_protocol.specs.Transcripts.{rank_at}
use Rattle.milter_protocol.specs.StageOrder.{rank_of}
use Rattle.milter_protocol.specs.Dialogue.{IsEnded, IsOpen, IsDialogueWith, are_all_refused, is_closed, is_final, is_final_answer, is_kept_rcpt, is_rcpt}
use Rattle.milter_protocol.specs.Verdicts.{has_verdict, is_refusal}
use Rattle.milter_protocol.proofs.DialogueSteps.{left-false}
use Rattle.milter_mta_outcome.specs.ActedVerdicts.{kept}
use Rattle.milter_mta_outcome.specs.Dialogues.{acted, ruled, ruled_by}
use Rattle.milter_mta.specs.Order.{AreInOrder, ComeBefore, ReachAtMost}
use Rattle.milter_mta.specs.Settled.{ends_with_client}
use Rattle.milter_mta.specs.Dialogues.{opening_of}
use Rattle.milter_mta.proofs.Openings.{low_rank}
use Rattle.milter_mta.proofs.Ordered.{further}
use Rattle.milter_mta.proofs.Refusals.{is_rcpt_at, rcpt_by_stage}
use Rattle.milter_mta.proofs.TruthValues.{none_refused}

-- ---- a command without an answer, or without a stage, closes nothing

no_final : (at : Option Stage) → is_final_answer at None ≡ false
no_final None = refl
no_final (Some stage) = refl

module _ (last : Exchange) (before : List Exchange) (left : List Command) where
  pub unanswered-open : last.answer ≡ None → is_closed (last ∷ before) left ≡ false
  unanswered-open unanswered =
      ap (λ (a : Option Answer). is_final_answer (stage_of last.command) a || are_all_refused (last ∷ before) left) unanswered
      ∙ ap (λ (b : Bool). b || are_all_refused (last ∷ before) left) (no_final (stage_of last.command))
      ∙ ap (λ (a : Option Answer). is_rcpt last.command && not (list_any is_rcpt left)
      && not ((is_rcpt last.command && not (has_verdict is_refusal a)) || list_any is_kept_rcpt before)) unanswered
      ∙ none_refused (is_rcpt last.command) (not (list_any is_rcpt left)) (list_any is_kept_rcpt before)

  pub no_stage-open : stage_of last.command ≡ None → is_closed (last ∷ before) left ≡ false
  no_stage-open at =
      ap (λ (s : Option Stage). is_final_answer s last.answer || are_all_refused (last ∷ before) left) at
      ∙ ap (λ (k : Bool). k && not (list_any is_rcpt left) && not (list_any is_kept_rcpt (last ∷ before))) (rcpt_by_stage last.command ∙ ap is_rcpt_at at)

-- a dialogue that closed rules
pub closed-rules : (last : Exchange) (before : List Exchange) (left : List Command) → is_closed (last ∷ before) left ≡ true
    → (leading_space : Bool) (message : MailObject) → is_some (ruled leading_space message (last ∷ before)) ≡ true
closed-rules last before left closed leading_space message = by_last (stage_of last.command) last.answer refl refl
  where
    by_last : (at : Option Stage) (answer : Option Answer) → stage_of last.command ≡ at → last.answer ≡ answer
        → is_some (ruled_by leading_space (kept message (acted (last ∷ before))) at answer) ≡ true
    by_last None answer at unanswered = absurd (true≢false (sym closed ∙ no_stage-open last before left at))
    by_last (Some stage) None at unanswered = absurd (true≢false (sym closed ∙ unanswered-open last before left unanswered))
    by_last (Some stage) (Some answer) at answered = refl

pub ended-rules : (dialogue : List Exchange) (left : List Command) → IsEnded dialogue left → (leading_space : Bool) (message : MailObject)
    → is_some (ruled leading_space message dialogue) ≡ true
ended-rules [] left ended leading_space message = absurd ended
ended-rules (last ∷ before) left ended leading_space message = closed-rules last before left ended.0 leading_space message

-- and so does a whole dialogue, by its last exchange
pub dialogue_with-rules : (b : Behavior) (negotiated : Negotiated) (before : List Exchange) (commands : List Command) (exchanges : List Exchange)
    → IsDialogueWith b negotiated before commands exchanges → (leading_space : Bool) (message : MailObject) → is_some (ruled leading_space message (onto exchanges before)) ≡ true
dialogue_with-rules b negotiated before commands [] is leading_space message = absurd is
dialogue_with-rules b negotiated before commands (exchange ∷ []) is leading_space message = closed-rules exchange before is.0 is.2 leading_space message
dialogue_with-rules b negotiated before commands (exchange ∷ next ∷ more) is leading_space message =
    dialogue_with-rules b negotiated (exchange ∷ before) is.0 (next ∷ more) is.3 leading_space message

-- ---- before there is a message, nothing depends on what is left

rcpt-low : (at : Option Stage) → rank_at at ≤ 2 → is_rcpt_at at ≡ false
rcpt-low None low = refl
rcpt-low (Some Connect) low = refl
rcpt-low (Some Helo) low = refl
rcpt-low (Some Mail) low = refl
rcpt-low (Some Rcpt) low = absurd (omega (arith, low))
rcpt-low (Some DataCmd) low = refl
rcpt-low (Some Header) low = refl
rcpt-low (Some Eoh) low = refl
rcpt-low (Some Body) low = refl
rcpt-low (Some Eob) low = refl

no_rcpt-closed : (last : Exchange) (before : List Exchange) (left : List Command) → is_rcpt last.command ≡ false → is_closed (last ∷ before) left ≡ (is_final last || false)
no_rcpt-closed last before left none =
    ap (λ (k : Bool). is_final last || (k && not (list_any is_rcpt left) && not ((k && not (has_verdict is_refusal last.answer)) || list_any is_kept_rcpt before))) none

low-closed : (last : Exchange) (before : List Exchange) (left other : List Command) → rank_at (stage_of last.command) ≤ 2
    → is_closed (last ∷ before) left ≡ is_closed (last ∷ before) other
low-closed last before left other low =
    let none : is_rcpt last.command ≡ false = rcpt_by_stage last.command ∙ rcpt-low (stage_of last.command) low in
    no_rcpt-closed last before left none ∙ sym (no_rcpt-closed last before other none)

low-open : (dialogue : List Exchange) (left other : List Command) → ReachAtMost 2 (commands_of dialogue) → IsOpen dialogue left → IsOpen dialogue other
low-open [] left other low is = tt
low-open (last ∷ before) left other low is = (
  sym (low-closed last before left other low.0) ∙ is.0,
  low-open before (last.command ∷ left) (last.command ∷ other) low.1 is.1,
)

low-ended : (dialogue : List Exchange) (left other : List Command) → ReachAtMost 2 (commands_of dialogue) → IsEnded dialogue left → IsEnded dialogue other
low-ended [] left other low is = is
low-ended (last ∷ before) left other low is = (
  sym (low-closed last before left other low.0) ∙ is.0,
  low-open before (last.command ∷ left) (last.command ∷ other) low.1 is.1,
)

-- a dialogue that ends with the client has not reached a message
pub client-low : (last : Exchange) (before : List Exchange) (stage : Stage) → stage_of last.command ≡ Some stage → is_of_connection last.command ≡ true
    → AreInOrder (commands_of (last ∷ before)) → ReachAtMost 2 (commands_of (last ∷ before))
client-low last before stage at client order =
    let low : rank_of stage ≤ 2 = subst (λ (s : Option Stage). rank_at s ≤ 2) at (low_rank last.command client) in (
      low_rank last.command client,
      further (rank_of stage) 2 low (commands_of before) (subst (λ (s : Option Stage). ComeBefore s (commands_of before)) at order.0),
    )

-- and so it ended whichever message was to follow
pub ended-client : (dialogue : List Exchange) (left other : List Command) → AreInOrder (commands_of dialogue) → ends_with_client dialogue ≡ true → IsEnded dialogue left → IsEnded dialogue other
ended-client [] left other order client is = is
ended-client (last ∷ before) left other order client is = by_stage (stage_of last.command) refl
  where
    by_stage : (at : Option Stage) → stage_of last.command ≡ at → IsEnded (last ∷ before) other
    by_stage None at = absurd (true≢false (sym is.0 ∙ no_stage-open last before left at))
    by_stage (Some stage) at = low-ended (last ∷ before) left other (client-low last before stage at client order) is

-- ---- the exchanges about the client

pub no_rcpt : (command : Command) → is_of_connection command ≡ true → is_rcpt command ≡ false
no_rcpt (commands.Rcpt recipient) e = absurd (true≢false (sym e))
no_rcpt other e = refl

-- of a dialogue that is open they are open, whatever follows them
pub opening-open : (dialogue : List Exchange) (left other : List Command) → IsOpen dialogue left → IsOpen (opening_of dialogue) other
opening-open [] left other is = tt
opening-open (last ∷ before) left other is =
    by_client (is_of_connection last.command) refl (opening-open before (last.command ∷ left) other is.1) (opening-open before (last.command ∷ left) (last.command ∷ other) is.1)
  where
    by_client : (client : Bool) → is_of_connection last.command ≡ client → IsOpen (opening_of before) other → IsOpen (opening_of before) (last.command ∷ other)
        → IsOpen (cond client (last ∷ opening_of before) (opening_of before)) other
    by_client true c rest more = (
      no_rcpt-closed last (opening_of before) other (no_rcpt last.command c)
          ∙ ap (λ (k : Bool). k || false) (left-false (is_final last) (are_all_refused (last ∷ before) left) is.0),
      more,
    )
    by_client false c rest more = rest

-- nor did they end a dialogue that ended with a message
pub opening-ended : (dialogue : List Exchange) (left other : List Command) → ends_with_client dialogue ≡ false → IsEnded dialogue left → IsOpen (opening_of dialogue) other
opening-ended [] left other client is = absurd is
opening-ended (last ∷ before) left other client is =
    subst (λ (w : List Exchange). IsOpen w other) (sym (ap (λ (k : Bool). cond k (last ∷ opening_of before) (opening_of before)) client))
    (opening-open before (last.command ∷ left) other is.1)
