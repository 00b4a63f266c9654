-- An end whose questions a policy answers at once is one over that policy: each command.
use Rattle.std.proofs.Common.{◌≡◌, ◌+◌, Bool, true, false, ◌&&◌, nat_lt, List, [], ◌∷◌, ◌++◌, length, map, Option, None, Some, Ok, Err, refl, sym, ◌∙◌, ap, if◌then◌else◌}
use Rattle.std.proofs.lemmas.Option.{same_Some}
use Rattle.milter_wire.specs.declared.command.Command.{Command}
use Rattle.milter_wire.specs.declared.command.Command.TheVariants as commands
use Rattle.milter_wire.specs.declared.negotiation.Negotiated.{Negotiated}
use Rattle.milter_wire.specs.declared.reply.Reply.{Reply}
use Rattle.milter_wire.specs.declared.stage.Stage.{Stage}
use Rattle.milter_wire.specs.declared.stage.Stage.TheVariants as stages
use Rattle.milter_wire.specs.Command.{encoding}
use Rattle.milter_wire.specs.Stages.{stage_of}
use Rattle.milter_wire.specs.Verdicts as verdicts
use Rattle.milter_message.specs.EditReplies as edits
use Rattle.milter_protocol.specs.declared.answer.Answer.{Answer}
use Rattle.milter_protocol.specs.declared.filter_fault.FilterFault.{FilterFault}
use Rattle.milter_protocol.specs.declared.filter_fault.FilterState.{FilterState}
use Rattle.milter_protocol.specs.declared.filter_fault.FilterState.TheVariants.{Failed, Quit, Serving}
use Rattle.milter_protocol.specs.Aborts.{is_undone, needs_abort}
use Rattle.milter_protocol.specs.Behavior.{Behavior}
use Rattle.milter_protocol.specs.FilterEnds.{Received}
use Rattle.milter_protocol.specs.OrderStates.{OrderState, Part, order_state_answer, order_state_before, order_state_fault, order_state_with, order_step, order_step_by, order_step_in, rank_by, with_if, with_shown}
use Rattle.milter_protocol.specs.Permitted.{permitted}
use Rattle.milter_protocol.specs.Questions.{AskState, IsTaking, Wanted, answer_step, answered_at, ask_after, ask_step, ask_step_by, ask_step_in, asked_step, counted_with, counts_late, question_at, sent_answer, shown_after_answer, unasked, unquestioned, wanted_of}
use Rattle.milter_protocol.specs.Replies.{replies_of_answer, replies_to}
use Rattle.milter_protocol.specs.Seen.{seen_with}
use Rattle.milter_protocol.specs.Steps.{Step, joined, steps}
use Rattle.milter_protocol.specs.Verdicts.{has_verdict, is_refusal}
use Rattle.milter_protocol.proofs.EndedQuestions.{ended-stays}
use Rattle.milter_protocol.proofs.StageAnswers.{and-false, and-true, answer-at, answer-replies, counted, data-at, data-in-order, late-stage, late_at, none-at, shown-at, stage-asked, undone-is, with-answer}

-- what a command with this answer comes to
abbrev answered : Behavior → OrderState → Command → Option Answer → Step OrderState
answered b s command answer =
    record {
      after = if is_undone s.order s.last_rank command answer then s else order_state_with b s command answer;
      replies = replies_to b s.negotiated command answer;
    }

-- ---- the abort before a command is no policy's

abort-answer : (b : Behavior) (negotiated : Option Negotiated) (part : Part) → order_state_answer b negotiated part commands.Abort ≡ None
abort-answer b None part = refl
abort-answer b (Some negotiated) part = refl

abort-by : (b c : Behavior) (s : OrderState) (fault : Option FilterFault) → order_step_by b s (Ok commands.Abort) fault ≡ order_step_by c s (Ok commands.Abort) fault
abort-by b c s (Some fault) = refl
abort-by b c s None = ap (answered b s commands.Abort) (abort-answer b s.negotiated s.shown ∙ sym (abort-answer c s.negotiated s.shown))

abort-in : (b c : Behavior) (s : OrderState) (state : FilterState) → order_step_in b s (Ok commands.Abort) state ≡ order_step_in c s (Ok commands.Abort) state
abort-in b c s Serving = abort-by b c s (order_state_fault s (Ok commands.Abort))
abort-in b c s Quit = refl
abort-in b c s (Failed fault) = refl

before-same : (b c : Behavior) (s : OrderState) (received : Received) → order_state_before b s received ≡ order_state_before c s received
before-same b c s received =
    ap (λ (x : Step OrderState). if needs_abort s.order s.negotiated s.last_rank received then x.after else s) (abort-in b c s s.state)

-- ---- a command without a question

-- it is what it is with any policy
abbrev pub plain : Step AskState → Step OrderState
plain x = record { after = x.after.order_state; replies = x.replies }

abbrev wants_alike : Behavior → Behavior
wants_alike b = unasked (wanted_of b)

unasked-command : (b : Behavior) (s : OrderState) (command : Command) → question_at s.negotiated (stage_of command) ≡ None
    → order_step_by b s (Ok command) None ≡ order_step_by (wants_alike b) s (Ok command) None
unasked-command b s command none =
    ap (answered b s command) (none-at b s.negotiated (stage_of command) s.shown command refl none ∙ sym (none-at (wants_alike b) s.negotiated (stage_of command) s.shown command refl none))

unasked-by : (b : Behavior) (s : OrderState) (command : Command) (question : Option Stage) → question_at s.negotiated (stage_of command) ≡ question
    → let x = asked_step (wanted_of b) s command question in x.after.asked ≡ None → order_step_by b s (Ok command) None ≡ plain x
unasked-by b s command None is free = unasked-command b s command is
unasked-by b s command (Some stage) is free = absurd cc

unasked-fault : (b : Behavior) (s : OrderState) (received : Received) (fault : Option FilterFault)
    → let x = ask_step_by (wanted_of b) s received fault in x.after.asked ≡ None → order_step_by b s received fault ≡ plain x
unasked-fault b s received (Some fault) free = refl
unasked-fault b s (Err fault) None free = refl
unasked-fault b s (Ok command) None free = unasked-by b s command (question_at s.negotiated (stage_of command)) refl free

unasked-in : (b : Behavior) (s : OrderState) (received : Received) (state : FilterState)
    → let x = ask_step_in (wanted_of b) s received state in x.after.asked ≡ None → order_step_in b s received state ≡ plain x
unasked-in b s received Serving free = unasked-fault b s received (order_state_fault s received) free
unasked-in b s received Quit free = refl
unasked-in b s received (Failed fault) free = refl

pub step-unasked : (b : Behavior) (s : OrderState) (received : Received)
    → let x = ask_step (wanted_of b) (unquestioned s) received in x.after.asked ≡ None → order_step b s received ≡ plain x
step-unasked b s received free =
    let ready = order_state_before (wants_alike b) s received in
    ap (λ (t : OrderState). order_step_in b t received t.state) (before-same b (wants_alike b) s received)
    ∙ unasked-in b ready received ready.state free

-- ---- a command with a question

-- the policy's answer, by what is kept while the question is open
abbrev answered_from : Behavior → OrderState → Stage → Step OrderState
answered_from b s stage =
    let sent = sent_answer s.negotiated (b.decide stage s.shown.seen) in
    record { after = answered_at s sent stage; replies = replies_of_answer sent }

-- with the policy's answer to its question
abbrev pub with_policy : Behavior → Step AskState → Stage → Step OrderState
with_policy b x stage =
    let y = answer_step x.after (b.decide stage x.after.order_state.shown.seen) in
    record { after = y.after.order_state; replies = x.replies ++ y.replies }

-- DATA that isn't counted before its answer
asked-late : (b : Behavior) (s : OrderState) → s.state ≡ Serving → question_at s.negotiated (Some stages.DataCmd) ≡ Some stages.DataCmd → nat_lt s.last_rank 5 ≡ true
    → counts_late s.order s.last_rank stages.DataCmd ≡ true → order_step_by b s (Ok commands.DataCmd) None ≡ answered_from b s stages.DataCmd
asked-late b s serving asks in_order late =
    let answer = order_state_answer b s.negotiated s.shown commands.DataCmd in
    let sent = sent_answer s.negotiated (b.decide stages.DataCmd s.shown.seen) in
    let of = λ (undone : Bool) (other : OrderState). let x : Step OrderState = record { after = if undone then s else other; replies = replies_to b s.negotiated commands.DataCmd answer } in x in
    let is_sent : answer ≡ sent = answer-at b s.negotiated (Some stages.DataCmd) stages.DataCmd s.shown commands.DataCmd refl asks in
    let undone = undone-is s.order s.last_rank commands.DataCmd answer (λ at. in_order) ∙ ap (λ (l : Bool). has_verdict is_refusal answer && l) late ∙ and-true (has_verdict is_refusal answer) in
    ap (λ (u : Bool). of u (order_state_with b s commands.DataCmd answer)) undone
    ∙ ap (of (has_verdict is_refusal answer)) (with-answer b s commands.DataCmd answer serving refl)
    ∙ ap (λ (a : Option Answer). let x : Step OrderState = record { after = counted_with s a; replies = replies_of_answer a } in x) is_sent
    ∙ ap (λ (l : Bool). let x : Step OrderState = record { after = if l then counted_with s sent else shown_after_answer s sent (Some stages.DataCmd); replies = replies_of_answer sent } in x) (sym late)

-- all others
asked-counted : (b : Behavior) (s : OrderState) (command : Command) (stage : Stage) → s.state ≡ Serving → stage_of command ≡ Some stage → question_at s.negotiated (stage_of command) ≡ Some stage
    → (stage_of command ≡ Some stages.DataCmd → nat_lt s.last_rank 5 ≡ true) → counts_late s.order s.last_rank stage ≡ false
    → order_step_by b s (Ok command) None ≡ answered_from b (with_shown s command) stage
asked-counted b s command stage serving at asks in_order early =
    let shown = shown-at command stage at in
    let answer = order_state_answer b s.negotiated s.shown command in
    let sent = sent_answer s.negotiated (b.decide stage (seen_with s.shown.seen command)) in
    let t = with_shown s command in
    let is_sent : answer ≡ sent = answer-at b s.negotiated (stage_of command) stage s.shown command refl asks in
    let seen_is : seen_with s.shown.seen command ≡ t.shown.seen = ap (λ test. (with_if test s.shown command).seen) (sym shown) in
    let of = λ (after : OrderState) (replies : List Reply). let x : Step OrderState = record { after = after; replies = replies } in x in
    let late : late_at s.order s.last_rank (stage_of command) ≡ false = ap (late_at s.order s.last_rank) at ∙ early in
    let undone = undone-is s.order s.last_rank command answer in_order ∙ ap (λ (l : Bool). has_verdict is_refusal answer && l) late ∙ and-false (has_verdict is_refusal answer) in
    let none : false ≡ counts_late t.order t.last_rank stage = sym (counted s.order stage) ∙ ap (λ (a : Option Stage). counts_late s.order (rank_by s.last_rank a) stage) (sym at) in
    let final = sent_answer s.negotiated (b.decide stage t.shown.seen) in
    ap (λ (u : Bool). of (if u then s else order_state_with b s command answer) (replies_to b s.negotiated command answer)) undone
    ∙ ap (λ after. of after (replies_to b s.negotiated command answer)) (with-answer b s command answer serving shown)
    ∙ ap (of (shown_after_answer t answer (stage_of command))) (answer-replies b s.negotiated command answer shown)
    ∙ ap (λ a. of (shown_after_answer t a (stage_of command)) (replies_of_answer a)) (is_sent ∙ ap (λ x. sent_answer s.negotiated (b.decide stage x)) seen_is)
    ∙ ap (λ a. of (shown_after_answer t final a) (replies_of_answer final)) at
    ∙ ap (λ (l : Bool). of (if l then counted_with t final else shown_after_answer t final (Some stage)) (replies_of_answer final)) none

asked-shown : (b : Behavior) (s : OrderState) (command : Command) (stage : Stage) → s.state ≡ Serving → order_state_fault s (Ok command) ≡ None → question_at s.negotiated (stage_of command) ≡ Some stage
    → order_step_by b s (Ok command) None ≡ with_policy b (asked_step (wanted_of b) s command (Some stage)) stage
asked-shown b s command stage serving sound is = by_late (counts_late s.order s.last_rank stage) refl
  where
    at : stage_of command ≡ Some stage
    at = stage-asked s.negotiated (stage_of command) stage is

    in_order : stage_of command ≡ Some stages.DataCmd → nat_lt s.last_rank 5 ≡ true
    in_order = data-in-order s.negotiated stage s.last_rank (length (encoding command) + s.shown.bytes) command is sound

    by_late : (late : Bool) → counts_late s.order s.last_rank stage ≡ late → order_step_by b s (Ok command) None ≡ answered_from b (if late then s else with_shown s command) stage
    by_late false early = asked-counted b s command stage serving at is in_order early
    by_late true late =
        let stage_is = late-stage s.order s.last_rank stage late in
        let data_at = at ∙ ap Some stage_is in
        let command_is = data-at command data_at in
        let asks : question_at s.negotiated (Some stages.DataCmd) ≡ Some stages.DataCmd = ap (question_at s.negotiated) (sym data_at) ∙ is ∙ ap Some stage_is in
        ap (λ (c : Command). order_step_by b s (Ok c) None) command_is
        ∙ asked-late b s serving asks (in_order data_at) (ap (counts_late s.order s.last_rank) (sym stage_is) ∙ late)
        ∙ ap (answered_from b s) (sym stage_is)

asked-by : (b : Behavior) (s : OrderState) (command : Command) (stage : Stage) (question : Option Stage) → s.state ≡ Serving → order_state_fault s (Ok command) ≡ None
    → question_at s.negotiated (stage_of command) ≡ question
    → let x = asked_step (wanted_of b) s command question in x.after.asked ≡ Some stage → order_step_by b s (Ok command) None ≡ with_policy b x stage
asked-by b s command stage None serving sound is asks = absurd cc
asked-by b s command stage (Some other) serving sound is asks =
    let same = same_Some other stage asks in
    asked-shown b s command stage serving sound (is ∙ ap Some same)
    ∙ ap (λ q. with_policy b (asked_step (wanted_of b) s command (Some q)) stage) (sym same)

asked-fault : (b : Behavior) (s : OrderState) (received : Received) (stage : Stage) (fault : Option FilterFault) → s.state ≡ Serving → order_state_fault s received ≡ fault
    → let x = ask_step_by (wanted_of b) s received fault in x.after.asked ≡ Some stage → order_step_by b s received fault ≡ with_policy b x stage
asked-fault b s received stage (Some fault) serving is asks = absurd cc
asked-fault b s (Err fault) stage None serving is asks = absurd cc
asked-fault b s (Ok command) stage None serving is asks = asked-by b s command stage (question_at s.negotiated (stage_of command)) serving is refl asks

asked-in : (b : Behavior) (s : OrderState) (received : Received) (stage : Stage) (state : FilterState) → s.state ≡ state
    → let x = ask_step_in (wanted_of b) s received state in x.after.asked ≡ Some stage → order_step_in b s received state ≡ with_policy b x stage
asked-in b s received stage Serving serving asks = asked-fault b s received stage (order_state_fault s received) serving refl asks
asked-in b s received stage Quit is asks = absurd cc
asked-in b s received stage (Failed fault) is asks = absurd cc

pub step-asked : (b : Behavior) (s : OrderState) (received : Received) (stage : Stage)
    → let x = ask_step (wanted_of b) (unquestioned s) received in x.after.asked ≡ Some stage → order_step b s received ≡ with_policy b x stage
step-asked b s received stage asks =
    let ready = order_state_before (wants_alike b) s received in
    ap (λ (t : OrderState). order_step_in b t received t.state) (before-same b (wants_alike b) s received)
    ∙ asked-in b ready received stage ready.state refl asks

-- ---- all commands, where none leaves a question open

stuck-at : (s : AskState) (stage : Stage) → s.asked ≡ Some stage → IsTaking s → ⊥
stuck-at s stage is taking = let no : Some stage ≡ None = sym is ∙ taking.unasked in absurd cc

abbrev FreeSteps : Behavior → List Received → Type 0
FreeSteps b received =
    (s : OrderState) → (ask_after (wanted_of b) (unquestioned s) received).asked ≡ None
    → steps (order_step b) s received ≡ plain (steps (ask_step (wanted_of b)) (unquestioned s) received)

steps-more : (b : Behavior) (s : OrderState) (received : Received) (more : List Received) → FreeSteps b more
    → (question : Option Stage) → (ask_step (wanted_of b) (unquestioned s) received).after.asked ≡ question
    → (ask_after (wanted_of b) (unquestioned s) (received ∷ more)).asked ≡ None
    → steps (order_step b) s (received ∷ more) ≡ plain (steps (ask_step (wanted_of b)) (unquestioned s) (received ∷ more))
steps-more b s received more rest (Some stage) is free =
    let w = wanted_of b in
    let first = ask_step w (unquestioned s) received in
    let stays = ended-stays w first.after more (stuck-at first.after stage is) in
    absurd (let no : Some stage ≡ None = sym is ∙ ap (λ (t : AskState). t.asked) (sym stays.0) ∙ free in absurd cc)
steps-more b s received more rest None is free =
    let w = wanted_of b in
    let first = ask_step w (unquestioned s) received in
    let next = first.after.order_state in
    let same : first.after ≡ unquestioned next = λ i. record { order_state = next; asked = is i } in
    let one : order_step b s received ≡ plain first = step-unasked b s received is in
    let others = rest next (ap (λ (t : AskState). (ask_after w t more).asked) (sym same) ∙ free) in
    ap (λ (x : Step OrderState). joined x (steps (order_step b) x.after more)) one
    ∙ ap (joined (plain first)) (others ∙ ap (λ (t : AskState). plain (steps (ask_step w) t more)) (sym same))

pub steps-unasked : (b : Behavior) (s : OrderState) (received : List Received) → (ask_after (wanted_of b) (unquestioned s) received).asked ≡ None
    → steps (order_step b) s received ≡ plain (steps (ask_step (wanted_of b)) (unquestioned s) received)
steps-unasked b s [] free = refl
steps-unasked b s (received ∷ more) free =
    steps-more b s received more (λ t. steps-unasked b t more) (ask_step (wanted_of b) (unquestioned s) received).after.asked refl free

-- ---- an answer has replies

no-last : (replies : List Reply) (last : Reply) → replies ++ last ∷ [] ≡ [] → ⊥
no-last [] last e = absurd cc
no-last (reply ∷ more) last e = absurd cc

loud-answer : (negotiated : Option Negotiated) (at : Option Stage) (stage : Stage) (answer : Answer) → question_at negotiated at ≡ Some stage → replies_of_answer (sent_answer negotiated answer) ≡ [] → ⊥
loud-answer None at stage answer is e = absurd cc
loud-answer (Some negotiated) at stage answer is e =
    let sent = permitted negotiated answer in no-last (map edits.reply_of sent.edits) (verdicts.reply_of sent.verdict) e

asked-negotiated : (s : OrderState) (command : Command) (stage : Stage) (late : Bool) → (if late then s else with_shown s command).negotiated ≡ s.negotiated
asked-negotiated s command stage true = refl
asked-negotiated s command stage false = refl

loud-by : (w : Wanted) (s : OrderState) (command : Command) (stage : Stage) (answer : Answer) (question : Option Stage) → question_at s.negotiated (stage_of command) ≡ question
    → let x = asked_step w s command question in x.after.asked ≡ Some stage → (answer_step x.after answer).replies ≡ [] → ⊥
loud-by w s command stage answer None is asks e = absurd cc
loud-by w s command stage answer (Some other) is asks e =
    let same = asked-negotiated s command other (counts_late s.order s.last_rank other) in
    loud-answer s.negotiated (stage_of command) other answer is (ap (λ (g : Option Negotiated). replies_of_answer (sent_answer g answer)) (sym same) ∙ e)

loud-fault : (w : Wanted) (s : OrderState) (received : Received) (stage : Stage) (answer : Answer) (fault : Option FilterFault)
    → let x = ask_step_by w s received fault in x.after.asked ≡ Some stage → (answer_step x.after answer).replies ≡ [] → ⊥
loud-fault w s received stage answer (Some fault) asks e = absurd cc
loud-fault w s (Err fault) stage answer None asks e = absurd cc
loud-fault w s (Ok command) stage answer None asks e = loud-by w s command stage answer (question_at s.negotiated (stage_of command)) refl asks e

loud-in : (w : Wanted) (s : OrderState) (received : Received) (stage : Stage) (answer : Answer) (state : FilterState)
    → let x = ask_step_in w s received state in x.after.asked ≡ Some stage → (answer_step x.after answer).replies ≡ [] → ⊥
loud-in w s received stage answer Serving asks e = loud-fault w s received stage answer (order_state_fault s received) asks e
loud-in w s received stage answer Quit asks e = absurd cc
loud-in w s received stage answer (Failed fault) asks e = absurd cc

pub step-loud : (w : Wanted) (s : OrderState) (received : Received) (stage : Stage) (answer : Answer)
    → let x = ask_step w (unquestioned s) received in x.after.asked ≡ Some stage → (answer_step x.after answer).replies ≡ [] → ⊥
step-loud w s received stage answer asks e =
    let ready = order_state_before (unasked w) s received in loud-in w ready received stage answer ready.state asks e
