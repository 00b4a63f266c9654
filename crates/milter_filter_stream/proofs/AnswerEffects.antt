-- Questions, and what the answers to them do to what is kept.
use Rattle.std.proofs.Common.{◌≡◌, ◌≢◌, ◌<◌, ◌≤◌, ◌+◌, ℕ, min, nat_lt, ◌&&◌, Bool, true, false, [], Option, None, Some, refl, sym, ◌∙◌, ap, subst, arith, length, if◌then◌else◌}
use Rattle.std.specs.Prelude.{is_some}
use Rattle.std.proofs.lemmas.Bool.{ltb-true}
use Rattle.std.proofs.lemmas.Option.{same_Some}
use Rattle.milter_fields.specs.declared.number.TheConstants.{HEAD_LEN}
use Rattle.milter_wire.specs.declared.command.Command.{Command}
use Rattle.milter_wire.specs.declared.command.Command.TheVariants as commands
use Rattle.milter_wire.specs.declared.negotiation.Negotiated.{Negotiated}
use Rattle.milter_wire.specs.declared.stage.Stage.{Stage}
use Rattle.milter_wire.specs.declared.stage.Stage.TheVariants as stages
use Rattle.milter_wire.specs.declared.verdict.Verdict.{Verdict}
use Rattle.milter_wire.specs.declared.verdict.Verdict.TheVariants as verdicts
use Rattle.milter_wire.specs.declared.options.TheConstants.Protocol.{SKIP}
use Rattle.milter_wire.specs.Command.{encoding}
use Rattle.milter_wire.specs.Negotiation.{has, is_answered}
use Rattle.milter_wire.specs.Stages.{stage_of}
use Rattle.milter_message.specs.declared.message.TheConstants.{WEIGHT_MAX}
use Rattle.milter_protocol.specs.declared.answer.Answer.{Answer}
use Rattle.milter_protocol.specs.declared.stage_order.CommandOrder.{CommandOrder}
use Rattle.milter_protocol.specs.declared.stage_order.CommandOrder.TheVariants.{Lenient, Strict}
use Rattle.milter_protocol.specs.declared.filter_fault.FilterState.TheVariants.{Serving}
use Rattle.milter_protocol.specs.Aborts.{is_in_message}
use Rattle.milter_protocol.specs.Commands.{is_end_by, is_shown}
use Rattle.milter_protocol.specs.OrderStates.{OrderState, after_message, with_shown}
use Rattle.milter_protocol.specs.Permitted.{permitted, permitted_verdict}
use Rattle.milter_protocol.specs.Questions.{answered_at, counted_with, counts_late, question_at, shown_after_answer}
use Rattle.milter_protocol.specs.Verdicts.{is_final_at, is_refusal}
use Rattle.milter_filter_stream.proofs.PacketLengths.{packet-len}
use Rattle.milter_filter_stream.specs.Asking.{IsAsked, effect_at, late_effect, with_effect}
use Rattle.milter_filter_stream.specs.declared.connection.AnswerEffect.TheVariants.{EndsMessage, Nothing}

-- ---- DATA that isn't counted yet

late-data : (order : CommandOrder) (last : ℕ) (stage : Stage) → counts_late order last stage ≡ true → stage ≡ stages.DataCmd
late-data Strict last stage late = absurd cc
late-data Lenient last stages.DataCmd late = refl
late-data Lenient last stages.Connect late = absurd cc
late-data Lenient last stages.Helo late = absurd cc
late-data Lenient last stages.Mail late = absurd cc
late-data Lenient last stages.Rcpt late = absurd cc
late-data Lenient last stages.Header late = absurd cc
late-data Lenient last stages.Eoh late = absurd cc
late-data Lenient last stages.Body late = absurd cc
late-data Lenient last stages.Eob late = absurd cc

both-first : (a b : Bool) → (a && b) ≡ true → a ≡ true
both-first true b is = refl
both-first false b is = absurd cc

late-within : (order : CommandOrder) (last : ℕ) (stage : Stage) → counts_late order last stage ≡ true → 2 < last
late-within Strict last stage late = absurd cc
late-within Lenient last stage late =
    let at = subst (λ (st : Stage). counts_late Lenient last st ≡ true) (late-data Lenient last stage late) late in
    ltb-true 2 last (both-first (is_in_message last) (nat_lt last 5) at)

-- once it is counted it isn't late any more
counted-at : (order : CommandOrder) (stage : Stage) → counts_late order 5 stage ≡ true → ⊥
counted-at Strict stage late = absurd cc
counted-at Lenient stages.DataCmd late = absurd cc
counted-at Lenient stages.Connect late = absurd cc
counted-at Lenient stages.Helo late = absurd cc
counted-at Lenient stages.Mail late = absurd cc
counted-at Lenient stages.Rcpt late = absurd cc
counted-at Lenient stages.Header late = absurd cc
counted-at Lenient stages.Eoh late = absurd cc
counted-at Lenient stages.Body late = absurd cc
counted-at Lenient stages.Eob late = absurd cc

-- ---- the question about a command

data-command : (command : Command) → stage_of command ≡ Some stages.DataCmd → command ≡ commands.DataCmd
data-command (commands.Options o) at = absurd cc
data-command (commands.Macro command pairs) at = absurd cc
data-command (commands.Connect c) at = absurd cc
data-command (commands.Helo name) at = absurd cc
data-command (commands.Mail sender) at = absurd cc
data-command (commands.Rcpt recipient) at = absurd cc
data-command commands.DataCmd at = refl
data-command (commands.Header h) at = absurd cc
data-command commands.Eoh at = absurd cc
data-command (commands.Body bytes) at = absurd cc
data-command (commands.Eob bytes) at = absurd cc
data-command (commands.Unknown text) at = absurd cc
data-command commands.Abort at = absurd cc
data-command commands.Quit at = absurd cc
data-command commands.QuitNew at = absurd cc

-- the packet of DATA
pub data-len : length (encoding commands.DataCmd) ≡ HEAD_LEN
data-len = packet-len 84 []

pub question-stage : (negotiated : Option Negotiated) (at stage : Stage) → question_at negotiated (Some at) ≡ Some stage → at ≡ stage
question-stage None at stage asked = absurd cc
question-stage (Some n) at stage asked = by_bit (is_answered n at) asked
  where
    by_bit : (answered : Bool) → (if answered then Some at else None) ≡ Some stage → at ≡ stage
    by_bit true is = same_Some at stage is
    by_bit false is = absurd cc

question-negotiated : (negotiated : Option Negotiated) (at : Option Stage) (stage : Stage) → question_at negotiated at ≡ Some stage → negotiated ≢ None
question-negotiated None at stage asked none = absurd cc
question-negotiated (Some n) at stage asked none = absurd cc

-- there is room for the packet of DATA where there is room for that of the command
pub asked-late : (s : OrderState) (command : Command) (stage : Stage) (len : ℕ) → s.state ≡ Serving → stage_of command ≡ Some stage → question_at s.negotiated (Some stage) ≡ Some stage
    → len ≡ length (encoding command) → (is_shown command ≡ true → len + s.shown.bytes ≤ WEIGHT_MAX) → IsAsked s stage
asked-late s command stage len serving at asked is room =
    record { serving = serving; negotiated = question-negotiated s.negotiated (Some stage) stage asked; room = λ late. fits (late-data s.order s.last_rank stage late) }
  where
    fits : stage ≡ stages.DataCmd → HEAD_LEN + s.shown.bytes ≤ WEIGHT_MAX
    fits at_data =
        let same = data-command command (at ∙ ap Some at_data) in
        let five : len ≡ HEAD_LEN = is ∙ ap (λ c. length (encoding c)) same ∙ data-len in
        let all = room (ap is_shown same) in
        omega (arith, five, all)

pub asked-shown : (s : OrderState) (command : Command) (stage : Stage) → s.state ≡ Serving → stage_of command ≡ Some stage → question_at s.negotiated (Some stage) ≡ Some stage
    → IsAsked (with_shown s command) stage
asked-shown s command stage serving at asked =
    record {
      serving = serving;
      negotiated = question-negotiated s.negotiated (Some stage) stage asked;
      room = λ late. absurd (never late);
    }
  where
    at-data : stage ≡ stages.DataCmd → counts_late s.order (with_shown s command).last_rank stage ≡ true → ⊥
    at-data at_data late =
        let same = data-command command (at ∙ ap Some at_data) in
        counted-at s.order stage (ap (λ c. counts_late s.order (with_shown s c).last_rank stage) (sym same) ∙ late)

    never : counts_late s.order (with_shown s command).last_rank stage ≡ true → ⊥
    never late = at-data (late-data s.order (with_shown s command).last_rank stage late) late

-- a question is open only while the connection serves
pub asked-serves : (s : OrderState) (asked : Option Stage) → ((stage : Stage) → asked ≡ Some stage → IsAsked s stage) → is_some asked ≡ true → s.state ≡ Serving
asked-serves s None law some = absurd cc
asked-serves s (Some stage) law some = (law stage refl).serving

-- ---- answers

skips : (stage : Stage) → is_end_by stage verdicts.Continue ≡ is_end_by stage verdicts.Skip
skips stages.Connect = refl
skips stages.Helo = refl
skips stages.Mail = refl
skips stages.Rcpt = refl
skips stages.DataCmd = refl
skips stages.Header = refl
skips stages.Eoh = refl
skips stages.Body = refl
skips stages.Eob = refl

end-permitted : (n : Negotiated) (stage : Stage) (verdict : Verdict) → is_end_by stage (permitted_verdict n verdict) ≡ is_end_by stage verdict
end-permitted n stage verdicts.Skip = by_bit (has n (Some SKIP))
  where
    by_bit : (may : Bool) → is_end_by stage (if may then verdicts.Skip else verdicts.Continue) ≡ is_end_by stage verdicts.Skip
    by_bit true = refl
    by_bit false = skips stage
end-permitted n stage verdicts.Continue = refl
end-permitted n stage verdicts.Accept = refl
end-permitted n stage verdicts.Reject = refl
end-permitted n stage verdicts.Tempfail = refl
end-permitted n stage verdicts.Discard = refl
end-permitted n stage (verdicts.Code text) = refl

-- of a message that ends nothing is left of DATA
ended-data : (s : OrderState) → 2 < s.last_rank → after_message (with_shown s commands.DataCmd) ≡ after_message s
ended-data s within =
    let same : min 2 5 ≡ min 2 s.last_rank = omega (arith, within) in
    λ i. record (after_message s) { last_rank = same i }

late-effects : (s : OrderState) (n : Negotiated) (answer : Answer) → 2 < s.last_rank → counted_with s (Some (permitted n answer)) ≡ with_effect s (late_effect answer.verdict)
late-effects s n answer within = by_verdict answer.verdict
  where
    of : Verdict → OrderState
    of v =
        if is_refusal v then s
        else if is_final_at stages.DataCmd v then after_message (with_shown s commands.DataCmd)
        else with_shown s commands.DataCmd

    by_bit : (may : Bool) → of (if may then verdicts.Skip else verdicts.Continue) ≡ with_shown s commands.DataCmd
    by_bit true = refl
    by_bit false = refl

    by_verdict : (v : Verdict) → of (permitted_verdict n v) ≡ with_effect s (late_effect v)
    by_verdict verdicts.Continue = refl
    by_verdict verdicts.Accept = ended-data s within
    by_verdict verdicts.Reject = refl
    by_verdict verdicts.Tempfail = refl
    by_verdict verdicts.Discard = ended-data s within
    by_verdict verdicts.Skip = by_bit (has n (Some SKIP))
    by_verdict (verdicts.Code text) = refl

usual-effects : (s : OrderState) (n : Negotiated) (answer : Answer) (stage : Stage)
    → shown_after_answer s (Some (permitted n answer)) (Some stage) ≡ with_effect s (if is_end_by stage answer.verdict then EndsMessage else Nothing)
usual-effects s n answer stage =
    ap (λ ends. if ends then after_message s else s) (end-permitted n stage answer.verdict) ∙ by_bit (is_end_by stage answer.verdict)
  where
    by_bit : (ends : Bool) → (if ends then after_message s else s) ≡ with_effect s (if ends then EndsMessage else Nothing)
    by_bit true = refl
    by_bit false = refl

pub effects-are : (s : OrderState) (n : Negotiated) (answer : Answer) (stage : Stage) → answered_at s (Some (permitted n answer)) stage ≡ with_effect s (effect_at s stage answer.verdict)
effects-are s n answer stage = by_late (counts_late s.order s.last_rank stage) refl
  where
    by_late : (late : Bool) → counts_late s.order s.last_rank stage ≡ late
        → (if late then counted_with s (Some (permitted n answer)) else shown_after_answer s (Some (permitted n answer)) (Some stage))
        ≡ with_effect s (if late then late_effect answer.verdict else if is_end_by stage answer.verdict then EndsMessage else Nothing)
    by_late true is = late-effects s n answer (late-within s.order s.last_rank stage is)
    by_late false is = usual-effects s n answer stage
