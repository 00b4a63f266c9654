-- What is kept of a connection goes on as the connection does.
use Rattle.std.proofs.Common.{◌≡◌, ◌+◌, Bool, true, false, List, [], ◌∷◌, length, Option, None, Some, Ok, Err, refl, ◌∙◌, ap, if◌then◌else◌}
use Rattle.std.specs.Option.{option_or}
use Rattle.std.proofs.lemmas.List.Sums.{sum_by-cons}
use Rattle.milter_wire.specs.declared.negotiation.Negotiated.{Negotiated}
use Rattle.milter_wire.specs.declared.command.Command.{Command}
use Rattle.milter_wire.specs.Negotiation.{is_asked}
use Rattle.milter_wire.specs.Command.{bytes_of, encoding}
use Rattle.milter_wire.specs.Stages.{stage_of}
use Rattle.milter_protocol.specs.declared.stage_order.CommandOrder.TheVariants.{Strict}
use Rattle.milter_protocol.specs.Behavior.{Behavior, answer_to}
use Rattle.milter_protocol.specs.Exchanges.{Exchange}
use Rattle.milter_protocol.proofs.SeenCommands.{seen-with}
use Rattle.milter_protocol.specs.declared.filter_fault.FilterFault.{FilterFault}
use Rattle.milter_protocol.specs.declared.filter_fault.FilterState.{FilterState}
use Rattle.milter_protocol.specs.declared.filter_fault.FilterState.TheVariants.{Failed, Quit, Serving}
use Rattle.milter_protocol.specs.Commands.{is_quit, is_of_connection, is_quit_new, is_shown}
use Rattle.milter_protocol.specs.FilterEnds.{FilterEnd, Received, after, answer_by, exchange_at, fault_at, next, replies, state_after, step, step_by, step_in}
use Rattle.milter_protocol.specs.Faults.{fault_of}
use Rattle.milter_protocol.specs.Transcripts.{negotiated_by, negotiated_in, ends_message, has_leading_space_in, last_rank, of_connection, shown}
use Rattle.milter_protocol.specs.Replies.{replies_to}
use Rattle.milter_protocol.specs.OrderStates.{OrderState, connection_after, kept_of, part_of, shown_after, order_state_after, order_state_answer, order_state_at, order_state_fault, order_state_of, order_state_replies, order_state_with, order_step, order_step_by, with_negotiated, with_command, with_if}
use Rattle.milter_protocol.specs.Steps.{Step, joined, steps}
use Rattle.milter_protocol.proofs.TranscriptParts.{negotiated_in-cons, connection-cons, last_rank-cons, shown-cons}

-- ---- parts

bytes_of-cons : (c : Command) (cs : List Command) → bytes_of (c ∷ cs) ≡ length (encoding c) + bytes_of cs
bytes_of-cons c cs = sum_by-cons (λ (command : Command). length (encoding command)) c cs

part-with : (ls : Bool) (c : Command) (cs : List Command) → part_of ls (c ∷ cs) ≡ with_command (part_of ls cs) c
part-with ls c cs =
    let seen_is = seen-with ls c cs in
    let bytes_are = bytes_of-cons c cs in
    λ i. record { seen = seen_is i; bytes = bytes_are i }

part-with_if : (ls test : Bool) (c : Command) (cs : List Command) → part_of ls (if test then c ∷ cs else cs) ≡ with_if test (part_of ls cs) c
part-with_if ls true c cs = part-with ls c cs
part-with_if ls false c cs = refl

part-negotiated : (found negotiated : Option Negotiated) (cs : List Command)
    → part_of (has_leading_space_in (option_or found negotiated)) cs ≡ with_negotiated found (part_of (has_leading_space_in negotiated) cs)
part-negotiated None negotiated cs = refl
part-negotiated (Some g) negotiated cs = refl

connection-part : (ls : Bool) (e : Exchange) (before : List Exchange)
    → part_of ls (of_connection (e ∷ before)) ≡ connection_after (is_quit_new e.command) (part_of ls (of_connection before)) e.command
connection-part ls e before = rw (connection-cons e before) (by_anew (is_quit_new e.command))
  where
    by_anew : (anew : Bool)
        → part_of ls (if anew then [] else if is_of_connection e.command then e.command ∷ of_connection before else of_connection before)
        ≡ connection_after anew (part_of ls (of_connection before)) e.command
    by_anew true = refl
    by_anew false = part-with_if ls (is_of_connection e.command) e.command (of_connection before)

shown-part : (ls : Bool) (e : Exchange) (before : List Exchange)
    → part_of ls (shown (e ∷ before))
    ≡ shown_after (ends_message e) (connection_after (is_quit_new e.command) (part_of ls (of_connection before)) e.command) (part_of ls (shown before)) e.command
shown-part ls e before = rw (shown-cons e before) (by_end (ends_message e))
  where
    by_end : (ends : Bool)
        → part_of ls (if ends then of_connection (e ∷ before) else if is_shown e.command then e.command ∷ shown before else shown before)
        ≡ shown_after ends (connection_after (is_quit_new e.command) (part_of ls (of_connection before)) e.command) (part_of ls (shown before)) e.command
    by_end true = connection-part ls e before
    by_end false = part-with_if ls (is_shown e.command) e.command (shown before)

-- ---- one command

-- the same replies, and what is kept of the state
abbrev pub kept : {S T : Type 0} → (S → T) → Step S → Step T
kept of x = record { after = of x.after; replies = x.replies }

abbrev pub going_on : List Exchange → FilterEnd
going_on transcript = record { transcript = transcript; state = Serving }

module _ (b : Behavior) where
  state-at : (transcript : List Exchange) (c : Command) (quits : Bool) → is_quit c ≡ quits
      → order_state_at b transcript (state_after c) ≡ kept_of b transcript (state_after c)
  state-at transcript c true is = rw is refl
  state-at transcript c false is = rw is refl

  pub with-exchange : (e : Exchange) (before : List Exchange)
      → order_state_of b (record { transcript = e ∷ before; state = state_after e.command })
      ≡ order_state_with b (order_state_of b (going_on before)) e.command e.answer
  with-exchange e before =
      state-at (e ∷ before) e.command (is_quit e.command) refl ∙
      let ls = has_leading_space_in (negotiated_in b before) in
      let found = negotiated_by b e.command in
      let negotiated = negotiated_in-cons b e before in
      let rank = last_rank-cons e before in
      let shown_is = part-negotiated found (negotiated_in b before) (shown (e ∷ before)) ∙ ap (with_negotiated found) (shown-part ls e before) in
      let connection_is = part-negotiated found (negotiated_in b before) (of_connection (e ∷ before)) ∙ ap (with_negotiated found) (connection-part ls e before) in
      ap (λ g. record {
        order = Strict;
        negotiated = g;
        last_rank = last_rank (e ∷ before);
        shown = part_of (has_leading_space_in g) (shown (e ∷ before));
        connection = part_of (has_leading_space_in g) (of_connection (e ∷ before));
        state = state_after e.command;
      }) negotiated
      ∙ (λ i. record {
        order = Strict;
        negotiated = option_or found (negotiated_in b before);
        last_rank = rank i;
        shown = shown_is i;
        connection = connection_is i;
        state = state_after e.command;
      })

  pub answer-is : (negotiated : Option Negotiated) (before : List Command) (c : Command)
      → answer_by b negotiated before c ≡ order_state_answer b negotiated (part_of (has_leading_space_in negotiated) before) c
  answer-is None before c = refl
  answer-is (Some negotiated) before c =
      ap (λ s. answer_to b negotiated (stage_of c) (is_asked negotiated c) s) (seen-with (has_leading_space_in (Some negotiated)) c before)

  pub fault-is : (transcript : List Exchange) (received : Received) → fault_at b transcript received ≡ order_state_fault (order_state_of b (going_on transcript)) received
  fault-is transcript (Err fault) = refl
  fault-is transcript (Ok c) = ap (λ n. fault_of (negotiated_in b transcript) (last_rank transcript) n c) (bytes_of-cons c (shown transcript))

  step-by : (transcript : List Exchange) (received : Received) (fault : Option FilterFault)
      → kept (order_state_of b) (step_by b transcript received fault) ≡ order_step_by b (order_state_of b (going_on transcript)) received fault
  step-by transcript received (Some fault) = refl
  step-by transcript (Err fault) None = refl
  step-by transcript (Ok c) None =
      let e = exchange_at b transcript c in
      ap (λ (s : OrderState). record { after = s; replies = replies_to b (negotiated_in b transcript) c e.answer }) (with-exchange e transcript)
      ∙ ap (λ answer. record { after = order_state_with b (order_state_of b (going_on transcript)) c answer; replies = replies_to b (negotiated_in b transcript) c answer })
      (answer-is (negotiated_in b transcript) (shown transcript) c)

  pub step-in : (transcript : List Exchange) (state : FilterState) (received : Received)
      → kept (order_state_of b) (step_in b transcript received state)
      ≡ order_step b (order_state_of b (record { transcript = transcript; state = state })) received
  step-in transcript Serving received =
      step-by transcript received (fault_at b transcript received)
      ∙ ap (order_step_by b (order_state_of b (going_on transcript)) received) (fault-is transcript received)
  step-in transcript Quit received = refl
  step-in transcript (Failed fault) received = refl

  -- ---- all commands

  pub steps-kept : (c : FilterEnd) (received : List Received) → kept (order_state_of b) (steps (step b) c received) ≡ steps (order_step b) (order_state_of b c) received
  steps-kept c [] = refl
  steps-kept c (first ∷ more) =
      ap (joined (kept (order_state_of b) (step b c first))) (steps-kept (next b c first) more)
      ∙ ap (λ (x : Step OrderState). joined x (steps (order_step b) x.after more)) (step-in c.transcript c.state first)

  pub order_state-after : (c : FilterEnd) (received : List Received) → order_state_of b (after b c received) ≡ order_state_after b (order_state_of b c) received
  order_state-after c received = ap (λ (x : Step OrderState). x.after) (steps-kept c received)

  pub order_state-replies : (c : FilterEnd) (received : List Received) → replies b c received ≡ order_state_replies b (order_state_of b c) received
  order_state-replies c received = ap (λ (x : Step OrderState). x.replies) (steps-kept c received)
