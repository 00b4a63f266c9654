-- A command of a stage, which is shown, and its answer.
use Rattle.std.proofs.Common.{◌≡◌, ℕ, Bool, true, false, not, ◌&&◌, nat_lt, Option, None, Some, refl, sym, ◌∙◌, ap, if◌then◌else◌}
use Rattle.std.proofs.lemmas.Bool.{true≢false}
use Rattle.std.specs.Option.{option_or}
use Rattle.std.proofs.lemmas.Option.{same_Some}
use Rattle.milter_message.specs.declared.message.TheConstants.{WEIGHT_MAX}
use Rattle.milter_wire.specs.declared.negotiation.Negotiated.{Negotiated}
use Rattle.milter_wire.specs.declared.command.Command.{Command}
use Rattle.milter_wire.specs.declared.command.Command.TheVariants as commands
use Rattle.milter_wire.specs.declared.stage.Stage.{Stage}
use Rattle.milter_wire.specs.declared.stage.Stage.TheVariants as stages
use Rattle.milter_wire.specs.Negotiation.{is_answered, is_asked_at}
use Rattle.milter_wire.specs.Stages.{stage_of}
use Rattle.milter_protocol.specs.declared.answer.Answer.{Answer}
use Rattle.milter_protocol.specs.declared.stage_order.CommandOrder.{CommandOrder}
use Rattle.milter_protocol.specs.declared.stage_order.CommandOrder.TheVariants.{Lenient, Strict}
use Rattle.milter_protocol.specs.declared.filter_fault.FilterFault.{FilterFault}
use Rattle.milter_protocol.specs.declared.filter_fault.FilterFault.TheVariants.{OutOfOrder, TooMuch}
use Rattle.milter_protocol.specs.declared.filter_fault.FilterState.TheVariants.{Serving}
use Rattle.milter_protocol.specs.Aborts.{is_in_message, is_undone}
use Rattle.milter_protocol.specs.Behavior.{Behavior, answer_to}
use Rattle.milter_protocol.specs.Commands.{is_end_at, is_message_end, is_quit_new, is_shown}
use Rattle.milter_protocol.specs.Faults.{fault_of}
use Rattle.milter_protocol.specs.FilterEnds.{state_after}
use Rattle.milter_protocol.specs.OrderStates.{OrderState, Part, after_message, connection_after, order_state_answer, order_state_with, rank_by, shown_after, with_negotiated, with_shown}
use Rattle.milter_protocol.specs.Permitted.{permitted}
use Rattle.milter_protocol.specs.Questions.{counts_late, question_at, sent_answer, shown_after_answer}
use Rattle.milter_protocol.specs.Replies.{replies_of_answer, replies_to}
use Rattle.milter_protocol.specs.Seen.{Seen, seen_with}
use Rattle.milter_protocol.specs.StageOrder.{rank_of}
use Rattle.milter_protocol.specs.Transcripts.{negotiated_by, rank_from}
use Rattle.milter_protocol.specs.Verdicts.{has_verdict, is_refusal}

-- ---- what is asked, and what isn't

answer-by : (b : Behavior) (negotiated : Negotiated) (at stage : Stage) (shown : Seen) (answered : Bool) → (if answered then Some at else None) ≡ Some stage
    → answer_to b negotiated (Some at) answered shown ≡ Some (permitted negotiated (b.decide stage shown))
answer-by b negotiated at stage shown true is = ap (λ s. Some (permitted negotiated (b.decide s shown))) (same_Some at stage is)
answer-by b negotiated at stage shown false is = absurd cc

pub answer-at : (b : Behavior) (negotiated : Option Negotiated) (at : Option Stage) (stage : Stage) (part : Part) (command : Command) → stage_of command ≡ at → question_at negotiated at ≡ Some stage
    → order_state_answer b negotiated part command ≡ sent_answer negotiated (b.decide stage (seen_with part.seen command))
answer-at b None at stage part command of is = absurd cc
answer-at b (Some negotiated) None stage part command of is = absurd cc
answer-at b (Some negotiated) (Some at) stage part command of is =
    ap (λ s. answer_to b negotiated s (is_asked_at negotiated s) (seen_with part.seen command)) of
    ∙ answer-by b negotiated at stage (seen_with part.seen command) (is_answered negotiated at) is

none-by : (b : Behavior) (negotiated : Negotiated) (at : Stage) (shown : Seen) (answered : Bool) → (if answered then Some at else None) ≡ None
    → answer_to b negotiated (Some at) answered shown ≡ None
none-by b negotiated at shown true is = absurd cc
none-by b negotiated at shown false is = refl

pub none-at : (b : Behavior) (negotiated : Option Negotiated) (at : Option Stage) (part : Part) (command : Command) → stage_of command ≡ at → question_at negotiated at ≡ None
    → order_state_answer b negotiated part command ≡ None
none-at b None at part command of is = refl
none-at b (Some negotiated) None part command of is = ap (λ s. answer_to b negotiated s (is_asked_at negotiated s) (seen_with part.seen command)) of
none-at b (Some negotiated) (Some at) part command of is =
    ap (λ s. answer_to b negotiated s (is_asked_at negotiated s) (seen_with part.seen command)) of
    ∙ none-by b negotiated at (seen_with part.seen command) (is_answered negotiated at) is

pub stage-asked : (negotiated : Option Negotiated) (at : Option Stage) (stage : Stage) → question_at negotiated at ≡ Some stage → at ≡ Some stage
stage-asked None at stage is = absurd cc
stage-asked (Some negotiated) None stage is = absurd cc
stage-asked (Some negotiated) (Some at) stage is = by_answered (is_answered negotiated at) is
  where
    by_answered : (answered : Bool) → (if answered then Some at else None) ≡ Some stage → Some at ≡ Some stage
    by_answered true e = e
    by_answered false e = absurd cc

-- ---- it is shown, and its answer ends the message or not

pub shown-at : (command : Command) (stage : Stage) → stage_of command ≡ Some stage → is_shown command ≡ true
shown-at (commands.Options o) stage is = absurd cc
shown-at (commands.Unknown text) stage is = absurd cc
shown-at commands.Abort stage is = absurd cc
shown-at commands.Quit stage is = absurd cc
shown-at commands.QuitNew stage is = absurd cc
shown-at other stage is = refl

abbrev with_end : Behavior → OrderState → Command → Bool → OrderState
with_end b s command ends =
    let connection = connection_after (is_quit_new command) s.connection command in
    record {
      order = s.order;
      negotiated = option_or (negotiated_by b command) s.negotiated;
      last_rank = if is_quit_new command then 0 else rank_from ends (rank_by s.last_rank (stage_of command));
      shown = with_negotiated (negotiated_by b command) (shown_after ends connection s.shown command);
      connection = with_negotiated (negotiated_by b command) connection;
      state = state_after command;
    }

abbrev served : OrderState → OrderState
served s = record s { state = Serving }

end-is : (b : Behavior) (s : OrderState) (command : Command) (ends : Bool) → is_shown command ≡ true
    → with_end b (served s) command ends ≡ (if ends then after_message (with_shown (served s) command) else with_shown (served s) command)
end-is b s (commands.Options o) ends shown = absurd cc
end-is b s (commands.Unknown text) ends shown = absurd cc
end-is b s commands.Abort ends shown = absurd cc
end-is b s commands.Quit ends shown = absurd cc
end-is b s commands.QuitNew ends shown = absurd cc
end-is b s other true shown = refl
end-is b s other false shown = refl

message-end : (command : Command) (answer : Option Answer) → is_shown command ≡ true → is_message_end command answer ≡ is_end_at (stage_of command) answer
message-end commands.Abort answer shown = absurd cc
message-end commands.QuitNew answer shown = absurd cc
message-end other answer shown = refl

pub answer-replies : (b : Behavior) (negotiated : Option Negotiated) (command : Command) (answer : Option Answer) → is_shown command ≡ true
    → replies_to b negotiated command answer ≡ replies_of_answer answer
answer-replies b negotiated (commands.Options o) answer shown = absurd cc
answer-replies b negotiated (commands.Unknown text) answer shown = absurd cc
answer-replies b negotiated other answer shown = refl

pub with-answer : (b : Behavior) (s : OrderState) (command : Command) (answer : Option Answer) → s.state ≡ Serving → is_shown command ≡ true
    → order_state_with b s command answer ≡ shown_after_answer (with_shown s command) answer (stage_of command)
with-answer b s command answer serving shown =
    let same : s ≡ served s = λ i. record s { state = serving i } in
    let of = λ (t : OrderState). with_end b t command (is_message_end command answer) in
    ap of same
    ∙ ap (with_end b (served s) command) (message-end command answer shown)
    ∙ end-is b s command (is_end_at (stage_of command) answer) shown
    ∙ ap (λ (t : OrderState). shown_after_answer (with_shown t command) answer (stage_of command)) (sym same)

-- ---- DATA that isn't counted before it is answered is the DATA that is undone where it is refused

abbrev pub late_at : CommandOrder → ℕ → Option Stage → Bool
late_at order last None = false
late_at order last (Some stage) = counts_late order last stage

pub and-false : (x : Bool) → (x && false) ≡ false
and-false true = refl
and-false false = refl

pub and-true : (x : Bool) → (x && true) ≡ x
and-true true = refl
and-true false = refl

late-strict : (last : ℕ) (at : Option Stage) → late_at Strict last at ≡ false
late-strict last None = refl
late-strict last (Some stage) = refl

pub undone-is : (order : CommandOrder) (last : ℕ) (command : Command) (answer : Option Answer) → (stage_of command ≡ Some stages.DataCmd → nat_lt last 5 ≡ true)
    → is_undone order last command answer ≡ (has_verdict is_refusal answer && late_at order last (stage_of command))
undone-is Strict last command answer in_order =
    sym (ap (λ (late : Bool). has_verdict is_refusal answer && late) (late-strict last (stage_of command)) ∙ and-false (has_verdict is_refusal answer))
undone-is Lenient last commands.DataCmd answer in_order =
    ap (λ (late : Bool). has_verdict is_refusal answer && late) (sym (and-true (is_in_message last)) ∙ ap (λ (before : Bool). is_in_message last && before) (sym (in_order refl)))
undone-is Lenient last other answer in_order = sym (and-false (has_verdict is_refusal answer))

pub data-in-order : (negotiated : Option Negotiated) (stage : Stage) (last amount : ℕ) (command : Command) → question_at negotiated (stage_of command) ≡ Some stage
    → fault_of negotiated last amount command ≡ None → stage_of command ≡ Some stages.DataCmd → nat_lt last 5 ≡ true
data-in-order None stage last amount commands.DataCmd asks none at = absurd cc
data-in-order (Some negotiated) stage last amount commands.DataCmd asks none at = by_order (nat_lt last 5) (if is_shown commands.DataCmd && nat_lt WEIGHT_MAX amount then Some TooMuch else None) none
  where
    by_order : (in_order : Bool) (other : Option FilterFault) → (if not in_order then Some OutOfOrder else other) ≡ None → in_order ≡ true
    by_order true other none = refl
    by_order false other none = absurd cc
data-in-order negotiated stage last amount other asks none at = absurd cc

pub late-stage : (order : CommandOrder) (last : ℕ) (stage : Stage) → counts_late order last stage ≡ true → stage ≡ stages.DataCmd
late-stage Strict last stage late = absurd (true≢false (sym late))
late-stage Lenient last stages.DataCmd late = refl
late-stage Lenient last other late = absurd (true≢false (sym late))

pub data-at : (command : Command) → stage_of command ≡ Some stages.DataCmd → command ≡ commands.DataCmd
data-at commands.DataCmd at = refl
data-at other at = absurd cc

-- once it is counted it is none
pub counted : (order : CommandOrder) (stage : Stage) → counts_late order (rank_of stage) stage ≡ false
counted Strict stage = refl
counted Lenient stages.DataCmd = refl
counted Lenient other = refl
