-- Commands that an end takes alike in either order.
use Rattle.std.proofs.Common.{◌≡◌, ℕ, ◌<◌, min, Bool, true, false, not, ◌&&◌, ◌||◌, ◌⊎◌, inl, inr, nat_lt, List, [], ◌∷◌, ◌++◌, Option, None, Some, Ok, Err, is_none, refl, sym, ◌∙◌, ap, subst, arith, if◌then◌else◌}
use Rattle.std.proofs.lemmas.Bool.{le-ltb, lt-leb, ltb-true, true≢false}
use Rattle.milter_message.specs.declared.message.TheConstants.{WEIGHT_MAX}
use Rattle.milter_wire.specs.declared.negotiation.Negotiated.{Negotiated}
use Rattle.milter_wire.specs.declared.command.Command.{Command}
use Rattle.milter_wire.specs.declared.command.Command.TheVariants as commands
use Rattle.milter_wire.specs.declared.reply.Reply.{Reply}
use Rattle.milter_wire.specs.declared.stage.Stage.{Stage}
use Rattle.milter_wire.specs.declared.verdict.Verdict.{Verdict}
use Rattle.milter_wire.specs.declared.verdict.Verdict.TheVariants as verdicts
use Rattle.milter_wire.specs.Command.{bytes_of}
use Rattle.milter_wire.specs.Stages.{stage_of}
use Rattle.milter_protocol.specs.declared.answer.Answer.{Answer}
use Rattle.milter_protocol.specs.declared.stage_order.CommandOrder.{CommandOrder}
use Rattle.milter_protocol.specs.declared.stage_order.CommandOrder.TheVariants.{Lenient, Strict}
use Rattle.milter_protocol.specs.declared.filter_fault.FilterFault.{FilterFault}
use Rattle.milter_protocol.specs.declared.filter_fault.FilterFault.TheVariants.{OutOfOrder, TooMuch}
use Rattle.milter_protocol.specs.declared.filter_fault.FilterState.{FilterState}
use Rattle.milter_protocol.specs.declared.filter_fault.FilterState.TheVariants.{Failed, Quit, Serving}
use Rattle.milter_protocol.specs.Aborts.{AreTakenAlike, IsTakenAlike, is_after_refused_data, is_greeting_or_sender, is_in_message, is_undone, is_undone_at, is_within_message, leaves_message, needs_abort}
use Rattle.milter_protocol.specs.Behavior.{Behavior}
use Rattle.milter_protocol.specs.Commands.{is_message_end, is_refused_data, is_shown}
use Rattle.milter_protocol.specs.Exchanges.{Exchange}
use Rattle.milter_protocol.specs.Faults.{fault_of}
use Rattle.milter_protocol.specs.FilterEnds.{FilterEnd, Received, after, answer_by, exchange_at, fault_at, next, replies, replies_at, start, step, step_by}
use Rattle.milter_protocol.specs.Transcripts.{negotiated_in, last_rank, rank_from, shown}
use Rattle.milter_protocol.specs.OrderStates.{OrderState, Part, fresh, fresh_in, order_state_after, order_state_replies, order_step, order_step_in, shown_after}
use Rattle.milter_protocol.specs.Steps.{Step, silent}
use Rattle.milter_protocol.specs.Verdicts.{has_verdict, is_refusal}
use Rattle.milter_protocol.proofs.Lenient.{added, alone, eased-state, eased_of, end_after, kept_with, orders-replies, orders-state, step-alone}
use Rattle.milter_protocol.proofs.OrderStates.{going_on}

-- ---- a greeting or a sender within a message is out of order

within-fault : (negotiated : Option Negotiated) (last amount : ℕ) (command : Command) (stage : Stage) → stage_of command ≡ Some stage → is_within_message negotiated last (Ok command) ≡ true
    → fault_of negotiated last amount command ≡ Some OutOfOrder
within-fault None last amount command stage at is = absurd (true≢false (sym is))
within-fault (Some negotiated) last amount (commands.Helo name) stage at is =
    let over : 2 < last = ltb-true 2 last is in
    ap (λ (k : Bool). if not k then Some OutOfOrder else if is_shown (commands.Helo name) && nat_lt WEIGHT_MAX amount then Some TooMuch else None) (lt-leb last 2 over)
within-fault (Some negotiated) last amount (commands.Mail sender) stage at is =
    let over : 2 < last = ltb-true 2 last is in
    ap (λ (k : Bool). if not k then Some OutOfOrder else if is_shown (commands.Mail sender) && nat_lt WEIGHT_MAX amount then Some TooMuch else None) (le-ltb last 3 over)
within-fault (Some negotiated) last amount (commands.Macro command pairs) stage at is = absurd cc
within-fault (Some negotiated) last amount other stage at is = absurd (true≢false (sym is))

pub out_of_order : (b : Behavior) (transcript : List Exchange) (command : Command) (stage : Stage) → stage_of command ≡ Some stage
    → is_within_message (negotiated_in b transcript) (last_rank transcript) (Ok command) ≡ true
    → fault_at b transcript (Ok command) ≡ Some OutOfOrder
out_of_order b transcript command stage at is =
    within-fault (negotiated_in b transcript) (last_rank transcript) (bytes_of (command ∷ shown transcript)) command stage at is

-- ---- commands taken alike

-- after all but DATA that was refused
pub in-turn : {b : Behavior} {c : FilterEnd} {received : Received} → is_within_message (negotiated_in b c.transcript) (last_rank c.transcript) received ≡ false
    → is_after_refused_data c.transcript ≡ false → IsTakenAlike b c received
in-turn none other = record { none_within = none; leaves = λ refused. absurd (true≢false (sym refused ∙ other)) }

-- and after that
pub left-by : {b : Behavior} {c : FilterEnd} {received : Received} → is_within_message (negotiated_in b c.transcript) (last_rank c.transcript) received ≡ false
    → leaves_message received ≡ true → IsTakenAlike b c received
left-by none leaves = record { none_within = none; leaves = λ refused. leaves }

-- ---- DATA that is undone

and-first : (x y : Bool) → (x && y) ≡ true → x ≡ true
and-first true y is = refl
and-first false y is = is

and-second : (x y : Bool) → (x && y) ≡ true → y ≡ true
and-second true y is = is
and-second false y is = absurd (true≢false (sym is))

ends-refused : (answer : Option Answer) → has_verdict is_refusal answer ≡ true → is_message_end commands.DataCmd answer ≡ true
ends-refused None is = absurd (true≢false (sym is))
ends-refused (Some answer) is = by_verdict answer.verdict is
  where
    by_verdict : (verdict : Verdict) → is_refusal verdict ≡ true → has_verdict (λ v. is_message_end commands.DataCmd (Some (record answer { verdict = v }))) (Some (record answer { verdict = verdict })) ≡ true
    by_verdict verdicts.Reject is = refl
    by_verdict verdicts.Tempfail is = refl
    by_verdict (verdicts.Code text) is = refl
    by_verdict other is = absurd (true≢false (sym is))

or-false : (x : Bool) → (x || false || false || false) ≡ true → x ≡ true
or-false true is = refl
or-false false is = is

none-is : {A : Type 0} (found : Option A) → is_none found ≡ true → found ≡ None
none-is None is = refl
none-is (Some x) is = absurd (true≢false (sym is))

-- commands that leave a message are never undone
stays : (b : Behavior) (c : FilterEnd) (received : Received) → leaves_message received ≡ true → is_undone_at b c received ≡ false
stays b c (Err fault) leaves = refl
stays b c (Ok commands.DataCmd) leaves = absurd (true≢false (sym leaves))
stays b c (Ok other) leaves = refl

-- a lenient end within a message
abbrev within : Negotiated → ℕ → Part → Part → OrderState
within negotiated rank shown connection =
    record {
      order = Lenient;
      negotiated = Some negotiated;
      last_rank = rank;
      shown = shown;
      connection = connection;
      state = Serving;
    }

-- What a lenient end keeps where a strict one is this: the same; or what it is when the message is left, where DATA was
-- undone. After Quit it may be anything.
data Ends (b : Behavior) (c : FilterEnd) (t : OrderState) : Type 0 where
  Alike : t ≡ eased_of b c → Ends b c t
  Undone : (negotiated : Negotiated) (rank : ℕ) (shown connection : Part) → t ≡ within negotiated rank shown connection → is_in_message rank ≡ true
      → eased_of b c ≡ within negotiated (min 2 rank) connection connection → is_after_refused_data c.transcript ≡ true → Ends b c t
  HaveQuit : c.state ≡ Quit → t.state ≡ Quit → Ends b c t

-- one command more
record GoOn (b : Behavior) (c : FilterEnd) (received : Received) (x : Step OrderState) : Type 0 where
  ends : Ends b (next b c received) x.after
  replies : x.replies ≡ replies_at b c received

module _ (b : Behavior) where
  goes : (c : FilterEnd) (received : Received) (x : Step OrderState) → x ≡ kept_with b (next b c received) (replies_at b c received) → GoOn b c received x
  goes c received x is = record { ends = Alike (ap (λ (y : Step OrderState). y.after) is); replies = ap (λ (y : Step OrderState). y.replies) is }

  -- ---- from where both keep the same

  -- a DATA command that is refused within a message
  data-undone : (transcript : List Exchange) (negotiated : Option Negotiated) → negotiated_in b transcript ≡ negotiated
      → let e : Exchange = exchange_at b transcript commands.DataCmd in
      has_verdict is_refusal e.answer ≡ true → is_in_message (last_rank transcript) ≡ true → Ends b (going_on (e ∷ transcript)) (eased_of b (going_on transcript))
  data-undone transcript None none refused in_message =
      absurd (true≢false (sym refused ∙ ap (λ (g : Option Negotiated). has_verdict is_refusal (answer_by b g (shown transcript) commands.DataCmd)) none))
  data-undone transcript (Some negotiated) some refused in_message =
      let e : Exchange = exchange_at b transcript commands.DataCmd in
      let s = eased_of b (going_on transcript) in
      let over : 2 < last_rank transcript = ltb-true 2 (last_rank transcript) in_message in
      let rank : 2 ≡ min 2 (last_rank transcript) = omega (arith, over) in
      let t = λ (g : Option Negotiated). record s { negotiated = g } in
      let ended = λ (ends : Bool). let u : OrderState = record s { last_rank = rank_from ends 5; shown = shown_after ends s.connection s.shown commands.DataCmd } in u in
      Undone negotiated (last_rank transcript) s.shown s.connection (ap t some) in_message
      (sym (added b transcript e)
      ∙ ap ended (ends-refused e.answer refused)
      ∙ (λ i. record s { last_rank = rank i; shown = s.connection; negotiated = some i }))
      refused

  from-undone : (transcript : List Exchange) (command : Command) (fault : Option FilterFault) → fault_at b transcript (Ok command) ≡ fault
      → (is_undone Lenient (last_rank transcript) command (exchange_at b transcript command).answer && is_none fault) ≡ true
      → Ends b (step_by b transcript (Ok command) fault).after (eased_of b (going_on transcript))
  from-undone transcript command (Some fault) is undone =
      absurd (true≢false (sym (and-second (is_undone Lenient (last_rank transcript) command (exchange_at b transcript command).answer) false undone)))
  from-undone transcript commands.DataCmd None is undone =
      let refused = is_refused_data commands.DataCmd (exchange_at b transcript commands.DataCmd).answer in
      let in_message = is_in_message (last_rank transcript) in
      let both : (refused && in_message) ≡ true = and-first (refused && in_message) true undone in
      data-undone transcript (negotiated_in b transcript) refl (and-first refused in_message both) (and-second refused in_message both)
  from-undone transcript other None is undone = absurd (true≢false (sym undone))

  undone-ends : (c : FilterEnd) (received : Received) → is_undone_at b c received ≡ true → Ends b (next b c received) (eased_of b c)
  undone-ends c received undone = by_state c.transcript c.state received undone
    where
      Goal : List Exchange → FilterState → Received → Type 0
      Goal transcript state received =
          let c : FilterEnd = record { transcript = transcript; state = state } in
          is_undone_at b c received ≡ true → Ends b (next b c received) (eased_of b c)

      by_state : (transcript : List Exchange) (state : FilterState) (received : Received) → Goal transcript state received
      by_state transcript Serving (Err fault) undone = absurd (true≢false (sym undone))
      by_state transcript Serving (Ok command) undone = from-undone transcript command (fault_at b transcript (Ok command)) refl undone
      by_state transcript Quit received undone = Alike refl
      by_state transcript (Failed fault) received undone = Alike refl

  from-alike : (c : FilterEnd) (received : Received) → IsTakenAlike b c received → GoOn b c received (order_step b (eased_of b c) received)
  from-alike c received alike = by_undone (is_undone_at b c received) refl
    where
      is : order_step b (eased_of b c) received ≡ kept_with b (end_after b (is_undone_at b c received) c (next b c received)) (replies_at b c received)
      is = step-alone b c received alike.none_within

      by_undone : (undone : Bool) → is_undone_at b c received ≡ undone → GoOn b c received (order_step b (eased_of b c) received)
      by_undone true undone =
          let to = is ∙ ap (λ (u : Bool). kept_with b (end_after b u c (next b c received)) (replies_at b c received)) undone in
          record {
            ends = subst (Ends b (next b c received)) (sym (ap (λ (y : Step OrderState). y.after) to)) (undone-ends c received undone);
            replies = ap (λ (y : Step OrderState). y.replies) to;
          }
      by_undone false undone =
          goes c received (order_step b (eased_of b c) received)
          (is ∙ ap (λ (u : Bool). kept_with b (end_after b u c (next b c received)) (replies_at b c received)) undone)

  -- ---- from where DATA was undone

  module _ (negotiated : Negotiated) (rank : ℕ) (shown connection : Part) where
    abbrev t : OrderState
    t = within negotiated rank shown connection

    abbrev left : OrderState
    left = within negotiated (min 2 rank) connection connection

    greets : (command : Command) → is_in_message rank ≡ true → is_greeting_or_sender command ≡ true → order_step b t (Ok command) ≡ order_step_in b left (Ok command) Serving
    greets command in_message greeting =
        ap (λ (g : Bool). let s = if g && is_in_message rank then left else t in order_step_in b s (Ok command) s.state) greeting
        ∙ ap (λ (in_it : Bool). let s = if in_it then left else t in order_step_in b s (Ok command) s.state) in_message

    -- what comes after commands that leave the message, but for Quit
    leaves-to : (received : Received) → is_in_message rank ≡ true → leaves_message received ≡ true → (received ≡ Ok commands.Quit → ⊥) → order_step b t received ≡ order_step_in b left received Serving
    leaves-to (Err fault) in_message leaves other = refl
    leaves-to (Ok (commands.Helo name)) in_message leaves other = greets (commands.Helo name) in_message refl
    leaves-to (Ok (commands.Mail sender)) in_message leaves other = greets (commands.Mail sender) in_message refl
    leaves-to (Ok (commands.Macro command pairs)) in_message leaves other =
        greets (commands.Macro command pairs) in_message (or-false (is_greeting_or_sender (commands.Macro command pairs)) leaves)
    leaves-to (Ok commands.Abort) in_message leaves other =
        let same : min 2 rank ≡ min 2 (min 2 rank) = omega arith in
        λ i. record { after = within negotiated (same i) connection connection; replies = [] }
    leaves-to (Ok commands.QuitNew) in_message leaves other = refl
    leaves-to (Ok commands.Quit) in_message leaves other = absurd (other refl)
    leaves-to (Ok command) in_message leaves other = absurd (true≢false (sym leaves))

    quit : (c : FilterEnd) → order_step_in b left (Ok commands.Quit) Serving ≡ kept_with b (next b c (Ok commands.Quit)) (replies_at b c (Ok commands.Quit)) → GoOn b c (Ok commands.Quit) (order_step b t (Ok commands.Quit))
    quit c is =
        let x = order_step_in b left (Ok commands.Quit) Serving in
        record {
          ends = HaveQuit (sym (eased-state b (next b c (Ok commands.Quit))) ∙ sym (ap (λ (y : Step OrderState). y.after.state) is)) refl;
          replies = ap (λ (y : Step OrderState). y.replies) is;
        }

    is-quit : (received : Received) → (received ≡ Ok commands.Quit → ⊥) ⊎ (received ≡ Ok commands.Quit)
    is-quit (Ok commands.Quit) = inr refl
    is-quit (Ok command) = inl (λ same. cc)
    is-quit (Err fault) = inl (λ same. cc)

    from-left : (c : FilterEnd) (received : Received) → eased_of b c ≡ left → is_in_message rank ≡ true → leaves_message received ≡ true → GoOn b c received (order_step b t received)
    from-left c received to in_message leaves = by_quit (is-quit received)
      where
        is : order_step_in b left received Serving ≡ kept_with b (next b c received) (replies_at b c received)
        is =
            ap (λ (s : OrderState). order_step_in b s received s.state) (sym to)
            ∙ alone b c received
            ∙ ap (λ (u : Bool). kept_with b (end_after b u c (next b c received)) (replies_at b c received)) (stays b c received leaves)

        by_quit : (received ≡ Ok commands.Quit → ⊥) ⊎ (received ≡ Ok commands.Quit) → GoOn b c received (order_step b t received)
        by_quit (inl other) = goes c received (order_step b t received) (leaves-to received in_message leaves other ∙ is)
        by_quit (inr quits) =
            let quit_is = subst (λ (r : Received). order_step_in b left r Serving ≡ kept_with b (next b c r) (replies_at b c r)) quits is in
            subst (λ (r : Received). GoOn b c r (order_step b t r)) (sym quits) (quit c quit_is)

  -- ---- after Quit

  quit-next : (c : FilterEnd) (received : Received) → c.state ≡ Quit → step b c received ≡ silent c
  quit-next c received quits =
      let at = λ (state : FilterState). let d : FilterEnd = record { transcript = c.transcript; state = state } in d in
      ap (λ (state : FilterState). step b (at state) received) quits ∙ ap (λ (state : FilterState). silent (at state)) (sym quits)

  quit-step : (s : OrderState) (received : Received) → s.state ≡ Quit → order_step b s received ≡ silent s
  quit-step s received quits =
      let at = λ (state : FilterState). record s { state = state } in
      ap (λ (state : FilterState). order_step b (at state) received) quits
      ∙ by_abort (needs_abort s.order s.negotiated s.last_rank received)
      ∙ ap (λ (state : FilterState). silent (at state)) (sym quits)
    where
      by_abort : (aborts : Bool) → let q = record s { state = Quit } in (let ready = if aborts then q else q in order_step_in b ready received ready.state) ≡ silent q
      by_abort true = refl
      by_abort false = refl

  -- ---- all commands

  go-on : (c : FilterEnd) (s : OrderState) (received : Received) → Ends b c s → IsTakenAlike b c received → GoOn b c received (order_step b s received)
  go-on c s received (Alike is) alike = subst (λ (u : OrderState). GoOn b c received (order_step b u received)) (sym is) (from-alike c received alike)
  go-on c s received (Undone negotiated rank shown connection is in_message to refused) alike =
      subst (λ (u : OrderState). GoOn b c received (order_step b u received)) (sym is)
      (from-left negotiated rank shown connection c received to in_message (alike.leaves refused))
  go-on c s received (HaveQuit quits too) alike =
      record {
        ends = HaveQuit (ap (λ (y : Step FilterEnd). y.after.state) (quit-next c received quits) ∙ quits)
            (ap (λ (y : Step OrderState). y.after.state) (quit-step s received too) ∙ too);
        replies = ap (λ (y : Step OrderState). y.replies) (quit-step s received too) ∙ sym (ap (λ (y : Step FilterEnd). y.replies) (quit-next c received quits));
      }

  -- they come to the same
  record Same (c : FilterEnd) (s : OrderState) (received : List Received) : Type 0 where
    state : (order_state_after b s received).state ≡ (after b c received).state
    replies : order_state_replies b s received ≡ replies b c received

  same-state : (c : FilterEnd) (s : OrderState) → Ends b c s → s.state ≡ c.state
  same-state c s (Alike is) = ap (λ (u : OrderState). u.state) is ∙ eased-state b c
  same-state c s (Undone negotiated rank shown connection is in_message to refused) =
      ap (λ (u : OrderState). u.state) is ∙ sym (ap (λ (u : OrderState). u.state) to) ∙ eased-state b c
  same-state c s (HaveQuit quits too) = too ∙ sym quits

  same : (c : FilterEnd) (s : OrderState) (received : List Received) → Ends b c s → AreTakenAlike b c received → Same c s received
  same c s [] ends alike = record { state = same-state c s ends; replies = refl }
  same c s (first ∷ more) ends alike =
      let one = go-on c s first ends alike.0 in
      let rest = same (next b c first) (order_step b s first).after more one.ends alike.1 in
      record {
        state = rest.state;
        replies = ap (λ (rs : List Reply). rs ++ order_state_replies b (order_step b s first).after more) one.replies
            ∙ ap (λ (rs : List Reply). replies_at b c first ++ rs) rest.replies;
      }

  pub state-is : (order : CommandOrder) (received : List Received) → AreTakenAlike b start received
      → (order_state_after b (fresh_in order) received).state ≡ (order_state_after b fresh received).state
  state-is Strict received alike = refl
  state-is Lenient received alike = (same start (fresh_in Lenient) received (Alike refl) alike).state ∙ sym (orders-state b Strict received)

  pub replies-are : (order : CommandOrder) (received : List Received) → AreTakenAlike b start received
      → order_state_replies b (fresh_in order) received ≡ order_state_replies b fresh received
  replies-are Strict received alike = refl
  replies-are Lenient received alike = (same start (fresh_in Lenient) received (Alike refl) alike).replies ∙ sym (orders-replies b Strict received)

  pub alike-beginning : (c : FilterEnd) (first second : List Received) → AreTakenAlike b c (first ++ second) → AreTakenAlike b c first
  alike-beginning c [] second alike = tt
  alike-beginning c (received ∷ first) second alike = (alike.0, alike-beginning (next b c received) first second alike.1)
