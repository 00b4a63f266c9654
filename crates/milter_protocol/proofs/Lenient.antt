-- An end that takes commands in the lenient order does what a strict one does with the aborts that are due, and without
-- the commands that are undone.
use Rattle.std.proofs.Common.{◌≡◌, Bool, true, false, ◌&&◌, List, [], ◌∷◌, ◌++◌, Option, None, Some, Ok, Err, is_none, refl, sym, ◌∙◌, ap, if◌then◌else◌}
use Rattle.milter_wire.specs.declared.command.Command.{Command}
use Rattle.milter_wire.specs.declared.command.Command.TheVariants.{Abort}
use Rattle.milter_wire.specs.declared.reply.Reply.{Reply}
use Rattle.milter_protocol.specs.declared.answer.Answer.{Answer}
use Rattle.milter_protocol.specs.declared.stage_order.CommandOrder.{CommandOrder}
use Rattle.milter_protocol.specs.declared.stage_order.CommandOrder.TheVariants.{Lenient, Strict}
use Rattle.milter_protocol.specs.declared.filter_fault.FilterFault.{FilterFault}
use Rattle.milter_protocol.specs.declared.filter_fault.FilterState.{FilterState}
use Rattle.milter_protocol.specs.declared.filter_fault.FilterState.TheVariants.{Failed, Quit, Serving}
use Rattle.milter_protocol.specs.Aborts.{aborts_before, is_undone, is_undone_at, is_within_message, lenient_commands, lenient_replies, replies_by, taken_at, taken_by}
use Rattle.milter_protocol.specs.Behavior.{Behavior}
use Rattle.milter_protocol.specs.Commands.{is_quit}
use Rattle.milter_protocol.specs.FilterEnds.{FilterEnd, Received, after, exchange_at, fault_at, next, replies_at, start, state_after, step, step_by}
use Rattle.milter_protocol.specs.Exchanges.{Exchange}
use Rattle.milter_protocol.specs.Transcripts.{negotiated_in, last_rank, shown}
use Rattle.milter_protocol.specs.Replies.{replies_to}
use Rattle.milter_protocol.specs.OrderStates.{OrderState, fresh_in, order_state_after, order_state_before, order_state_fault, order_state_of, order_state_replies, order_state_with, order_step, order_step_by, order_step_in}
use Rattle.milter_protocol.specs.Steps.{Step, joined, steps}
use Rattle.milter_protocol.proofs.StepSequences.{after-append}
use Rattle.milter_protocol.proofs.OrderStates.{answer-is, fault-is, going_on, steps-kept, with-exchange}

-- what a lenient end keeps where a strict one keeps this
abbrev pub eased_in : FilterState → OrderState → OrderState
eased_in (Failed fault) s = s
eased_in other s = record s { order = Lenient }

abbrev pub eased : OrderState → OrderState
eased s = eased_in s.state s

abbrev pub lenient : OrderState → OrderState
lenient s = record s { order = Lenient }

pub kept-state : (b : Behavior) (c : FilterEnd) → (order_state_of b c).state ≡ c.state
kept-state b c = by_state c.transcript c.state
  where
    by_state : (transcript : List Exchange) (state : FilterState) → (order_state_of b (record { transcript = transcript; state = state })).state ≡ state
    by_state transcript Serving = refl
    by_state transcript Quit = refl
    by_state transcript (Failed fault) = refl

module _ (b : Behavior) where
  -- what a lenient end keeps
  abbrev pub eased_of : FilterEnd → OrderState
  eased_of c = eased (order_state_of b c)

  pub eased-state : (c : FilterEnd) → (eased_of c).state ≡ c.state
  eased-state c = by_state c.transcript c.state
    where
      by_state : (transcript : List Exchange) (state : FilterState) → (eased_of (record { transcript = transcript; state = state })).state ≡ state
      by_state transcript Serving = refl
      by_state transcript Quit = refl
      by_state transcript (Failed fault) = refl

  -- ---- one command

  pub fault-eased : (s : OrderState) (received : Received) → order_state_fault (lenient s) received ≡ order_state_fault s received
  fault-eased s (Ok command) = refl
  fault-eased s (Err fault) = refl

  -- one that is undone changes nothing
  abbrev pub end_after : Bool → FilterEnd → FilterEnd → FilterEnd
  end_after undone c next = if undone then c else next

  pub taken-after : (c : FilterEnd) (received : Received) → after b c (taken_at b c received) ≡ end_after (is_undone_at b c received) c (next b c received)
  taken-after c received = by_undone (is_undone_at b c received)
    where
      by_undone : (undone : Bool) → after b c (if undone then [] else received ∷ []) ≡ end_after undone c (next b c received)
      by_undone true = refl
      by_undone false = refl

  abbrev pub kept_with : FilterEnd → List Reply → Step OrderState
  kept_with c replies = record { after = eased_of c; replies = replies }

  -- one that isn't undone
  pub added : (transcript : List Exchange) (e : Exchange) → order_state_with b (eased_of (going_on transcript)) e.command e.answer ≡ eased_of (record { transcript = e ∷ transcript; state = state_after e.command })
  added transcript e =
      by_quit (is_quit e.command) refl
      ∙ ap eased (sym (with-exchange b e transcript))
    where
      by_quit : (quits : Bool) → is_quit e.command ≡ quits → order_state_with b (eased_of (going_on transcript)) e.command e.answer ≡ eased (order_state_with b (order_state_of b (going_on transcript)) e.command e.answer)
      by_quit true is = rw is refl
      by_quit false is = rw is refl

  by-undone : (transcript : List Exchange) (command : Command) (undone : Bool)
      → let e = exchange_at b transcript command in
      let s = eased_of (going_on transcript) in
      (let x : Step OrderState = record { after = if undone then s else order_state_with b s command e.answer; replies = replies_to b s.negotiated command e.answer } in x)
      ≡ kept_with (end_after (undone && true) (going_on transcript) (step_by b transcript (Ok command) None).after) (step_by b transcript (Ok command) None).replies
  by-undone transcript command true = refl
  by-undone transcript command false =
      let e = exchange_at b transcript command in
      ap (λ (s : OrderState). let x : Step OrderState = record { after = s; replies = replies_to b (negotiated_in b transcript) command e.answer } in x) (added transcript e)

  by-fault : (transcript : List Exchange) (command : Command) (fault : Option FilterFault)
      → let e = exchange_at b transcript command in
      order_step_by b (eased_of (going_on transcript)) (Ok command) fault
      ≡ kept_with (end_after (is_undone Lenient (last_rank transcript) command e.answer && is_none fault) (going_on transcript) (step_by b transcript (Ok command) fault).after) (step_by b transcript (Ok command) fault).replies
  by-fault transcript command (Some fault) = by_undone (is_undone Lenient (last_rank transcript) command (exchange_at b transcript command).answer)
    where
      by_undone : (undone : Bool) → order_step_by b (eased_of (going_on transcript)) (Ok command) (Some fault)
          ≡ kept_with (end_after (undone && false) (going_on transcript) (record { transcript = transcript; state = Failed fault })) []
      by_undone true = refl
      by_undone false = refl
  by-fault transcript command None =
      let s = eased_of (going_on transcript) in
      ap (λ (answer : Option Answer). let x : Step OrderState = record { after = if is_undone s.order s.last_rank command answer then s else order_state_with b s command answer; replies = replies_to b s.negotiated command answer } in x)
      (sym (answer-is b (negotiated_in b transcript) (shown transcript) command))
      ∙ by-undone transcript command (is_undone Lenient (last_rank transcript) command (exchange_at b transcript command).answer)

  pub alone : (c : FilterEnd) (received : Received)
      → order_step_in b (eased_of c) received (eased_of c).state ≡ kept_with (end_after (is_undone_at b c received) c (next b c received)) (replies_at b c received)
  alone c received = by_state c.transcript c.state received
    where
      Goal : List Exchange → FilterState → Received → Type 0
      Goal transcript state received =
          let c : FilterEnd = record { transcript = transcript; state = state } in
          order_step_in b (eased_of c) received (eased_of c).state ≡ kept_with (end_after (is_undone_at b c received) c (next b c received)) (replies_at b c received)

      unchanged : (c : FilterEnd) (undone : Bool) → kept_with c [] ≡ kept_with (end_after undone c c) []
      unchanged c true = refl
      unchanged c false = refl

      by_state : (transcript : List Exchange) (state : FilterState) (received : Received) → Goal transcript state received
      by_state transcript Serving (Err fault) = refl
      by_state transcript Serving (Ok command) =
          ap (order_step_by b (eased_of (going_on transcript)) (Ok command)) (sym (fault-is b transcript (Ok command)))
          ∙ by-fault transcript command (fault_at b transcript (Ok command))
      by_state transcript Quit received =
          let c : FilterEnd = record { transcript = transcript; state = Quit } in unchanged c (is_undone_at b c received)
      by_state transcript (Failed fault) received =
          let c : FilterEnd = record { transcript = transcript; state = Failed fault } in unchanged c (is_undone_at b c received)

  -- ---- one command, with the abort before it

  ready : (c : FilterEnd) (received : Received) → order_state_before b (eased_of c) received ≡ eased_of (after b c (aborts_before b c received))
  ready c received = by_state c.transcript c.state
    where
      Goal : List Exchange → FilterState → Type 0
      Goal transcript state =
          let c : FilterEnd = record { transcript = transcript; state = state } in
          order_state_before b (eased_of c) received ≡ eased_of (after b c (aborts_before b c received))

      aborted : (c : FilterEnd) (within : Bool)
          → (if within then (order_step_in b (eased_of c) (Ok Abort) (eased_of c).state).after else eased_of c)
          ≡ eased_of (after b c (if within then Ok Abort ∷ [] else []))
      aborted c true = ap (λ (x : Step OrderState). x.after) (alone c (Ok Abort))
      aborted c false = refl

      failed : (c : FilterEnd) (within : Bool) → next b c (Ok Abort) ≡ c → eased_of c ≡ eased_of (after b c (if within then Ok Abort ∷ [] else []))
      failed c true same = ap eased_of (sym same)
      failed c false same = refl

      by_state : (transcript : List Exchange) (state : FilterState) → Goal transcript state
      by_state transcript Serving = aborted (record { transcript = transcript; state = Serving }) (is_within_message (negotiated_in b transcript) (last_rank transcript) received)
      by_state transcript Quit = aborted (record { transcript = transcript; state = Quit }) (is_within_message (negotiated_in b transcript) (last_rank transcript) received)
      by_state transcript (Failed fault) = failed (record { transcript = transcript; state = Failed fault }) (is_within_message (negotiated_in b transcript) (last_rank transcript) received) refl

  -- where none is due
  pub step-alone : (c : FilterEnd) (received : Received) → is_within_message (negotiated_in b c.transcript) (last_rank c.transcript) received ≡ false
      → order_step b (eased_of c) received ≡ kept_with (end_after (is_undone_at b c received) c (next b c received)) (replies_at b c received)
  step-alone c received none =
      ap (λ (s : OrderState). order_step_in b s received s.state) (ready c received)
      ∙ ap (λ (within : Bool). let s = eased_of (after b c (if within then Ok Abort ∷ [] else [])) in order_step_in b s received s.state) none
      ∙ alone c received

  -- what this command is taken for
  abbrev these : FilterEnd → Received → List Received
  these c received = let aborts = aborts_before b c received in aborts ++ taken_at b (after b c aborts) received

  step-eased : (c : FilterEnd) (received : Received)
      → order_step b (eased_of c) received ≡ kept_with (after b c (these c received)) (replies_at b (after b c (aborts_before b c received)) received)
  step-eased c received =
      let aborts = aborts_before b c received in
      let aborted = after b c aborts in
      let all = after-append (step b) c aborts (taken_at b aborted received) in
      ap (λ (s : OrderState). order_step_in b s received s.state) (ready c received)
      ∙ alone aborted received
      ∙ ap (λ (d : FilterEnd). kept_with d (replies_at b aborted received)) (sym (taken-after aborted received))
      ∙ ap (λ (d : FilterEnd). kept_with d (replies_at b aborted received)) (sym all)

  -- ---- all commands

  pub steps-eased : (c : FilterEnd) (received : List Received)
      → steps (order_step b) (eased_of c) received ≡ kept_with (after b c (lenient_commands b c received)) (lenient_replies b c received)
  steps-eased c [] = refl
  steps-eased c (first ∷ more) =
      let d = after b c (these c first) in
      let replies = replies_at b (after b c (aborts_before b c first)) first in
      let all = after-append (step b) c (these c first) (lenient_commands b d more) in
      ap (λ (x : Step OrderState). joined x (steps (order_step b) x.after more)) (step-eased c first)
      ∙ ap (joined (kept_with d replies)) (steps-eased d more)
      ∙ ap (λ (e : FilterEnd). kept_with e (replies ++ lenient_replies b d more)) (sym all)

  pub orders-state : (order : CommandOrder) (received : List Received) → (order_state_after b (fresh_in order) received).state ≡ (after b start (taken_by order b received)).state
  orders-state Strict received =
      ap (λ (x : Step OrderState). x.after.state) (sym (steps-kept b start received)) ∙ kept-state b (after b start received)
  orders-state Lenient received =
      ap (λ (x : Step OrderState). x.after.state) (steps-eased start received) ∙ eased-state (after b start (lenient_commands b start received))

  pub orders-replies : (order : CommandOrder) (received : List Received) → order_state_replies b (fresh_in order) received ≡ replies_by order b received
  orders-replies Strict received = ap (λ (x : Step OrderState). x.replies) (sym (steps-kept b start received))
  orders-replies Lenient received = ap (λ (x : Step OrderState). x.replies) (steps-eased start received)
