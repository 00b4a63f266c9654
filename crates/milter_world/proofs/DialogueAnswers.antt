-- What a filter replies to the commands of a dialogue is the dialogue.
use Rattle.std.proofs.Common.{◌≡◌, ℕ, ◌+◌, ◌≤◌, min, Bool, true, false, if◌then◌else◌, cond, not, ◌&&◌, ◌||◌, nat_lt, List, [], ◌∷◌, map, Option, None, Some, Ok, refl, sym, ◌∙◌, ap, subst, arith, length}
use Rattle.std.specs.List.{filter, flat_map}
use Rattle.std.specs.Option.{option_or}
use Rattle.std.proofs.lemmas.List.Elements.{All-head, All-tail}
use Rattle.std.proofs.lemmas.List.Sums.{sum_by-cons}
use Rattle.std.proofs.lemmas.Bool.{le-ltb, leb-true, true≢false}
use Rattle.milter_wire.specs.declared.negotiation.Negotiated.{Negotiated}
use Rattle.milter_wire.specs.declared.command.Command.{Command}
use Rattle.milter_wire.specs.declared.command.Command.TheVariants as commands
use Rattle.milter_wire.specs.declared.stage.Stage.{Stage}
use Rattle.milter_wire.specs.declared.stage.Stage.TheVariants as stages
use Rattle.milter_wire.specs.declared.verdict.Verdict.{Verdict}
use Rattle.milter_wire.specs.declared.verdict.Verdict.TheVariants as verdicts
use Rattle.milter_wire.specs.Command.{Fits, bytes_of, encoding}
use Rattle.milter_wire.specs.Reply as replied
use Rattle.milter_wire.specs.Stages.{stage_of}
use Rattle.milter_message.specs.declared.message.TheConstants.{WEIGHT_MAX}
use Rattle.milter_mail.specs.MailSession.{MailSession}
use Rattle.milter_mail.specs.Plan.{opening}
use Rattle.milter_protocol.specs.declared.answer.Answer.{Answer}
use Rattle.milter_protocol.specs.declared.filter_fault.FilterFault.TheVariants.{OutOfOrder, TooMuch}
use Rattle.milter_protocol.specs.declared.filter_fault.FilterState.TheVariants.{Quit, Serving}
use Rattle.milter_protocol.specs.Behavior.{Behavior, exchange_of}
use Rattle.milter_protocol.specs.Aborts.{IsTakenAlike, is_within_message}
use Rattle.milter_protocol.specs.Commands.{is_end_at, is_of_connection, is_quit, is_quit_new, is_refused_data, is_shown}
use Rattle.milter_protocol.specs.FilterEnds.{FilterEnd, answer_by, exchange_at, fault_at, next, replies_at, state_after, step, step_by}
use Rattle.milter_protocol.specs.Steps.{Step}
use Rattle.milter_protocol.specs.Exchanges.{Exchange, commands_of, onto}
use Rattle.milter_protocol.specs.Faults.{fault_in_message, fault_of, is_in_order}
use Rattle.milter_protocol.specs.Transcripts.{negotiated_by, negotiated_in, ends_message, last_rank, of_connection, rank_from, shown}
use Rattle.milter_protocol.specs.Replies.{replies_of_answer, replies_to}
use Rattle.milter_protocol.specs.OrderStates.{rank_by}
use Rattle.milter_protocol.specs.Dialogue.{has_end, is_body, is_closed, is_end_command, is_final, is_final_answer, is_left_out, dialogue_with}
use Rattle.milter_protocol.specs.Verdicts.{is_final_at, is_refusal}
use Rattle.milter_protocol.proofs.Sendable.{end_left}
use Rattle.milter_protocol.proofs.TranscriptParts.{negotiated_in-cons, connection-cons, last_rank-cons, shown-cons}
use Rattle.milter_mta.specs.Lines.{line_of}
use Rattle.milter_mta.specs.Settled.{ends_with_message}
use Rattle.milter_mta.specs.Dialogues.{opening_of}
use Rattle.milter_mta_outcome.specs.PlanOrder.{AreInTurn}
use Rattle.milter_mta_outcome.proofs.PlanOrders.{turn-higher}
use Rattle.milter_world.specs.FilterTranscript.{IsAt, IsOver, NoneWithin}
use Rattle.milter_world.specs.Answered.{IsReplied, Replies}
use Rattle.milter_world.proofs.PlanAborts.{none-higher}

-- ---- truth values

pub or-false-left : (x y : Bool) → (x || y) ≡ false → x ≡ false
or-false-left true y e = absurd (true≢false e)
or-false-left false y e = refl

pub and-true : (x y : Bool) → (x && y) ≡ true → x ≡ true
and-true true y e = refl
and-true false y e = absurd (true≢false (sym e))

-- ---- commands

pub record IsPlain (command : Command) : Type 0 where
  pub no_offer : (b : Behavior) → negotiated_by b command ≡ None
  pub no_fault : (negotiated : Negotiated) (last amount : ℕ) → fault_of (Some negotiated) last amount command ≡ fault_in_message last amount command
  pub replies : (b : Behavior) (negotiated : Option Negotiated) (answer : Option Answer) → replies_to b negotiated command answer ≡ replies_of_answer answer
  pub no_quit : is_quit command ≡ false
  pub no_anew : is_quit_new command ≡ false

pub plain : (command : Command) → is_shown command ≡ true → IsPlain command
plain (commands.Options o) is = absurd (true≢false (sym is))
plain (commands.Unknown text) is = absurd (true≢false (sym is))
plain commands.Abort is = absurd (true≢false (sym is))
plain commands.Quit is = absurd (true≢false (sym is))
plain commands.QuitNew is = absurd (true≢false (sym is))
plain other is =
    record { no_offer = λ b. refl; no_fault = λ negotiated last amount. refl; replies = λ b negotiated answer. refl; no_quit = refl; no_anew = refl }

-- a message that goes on for the dialogue goes on for the filter
no_end-stage : (stage : Stage) (answer : Option Answer) → is_final_answer (Some stage) answer ≡ false → is_end_at (Some stage) answer ≡ false
no_end-stage stage None e = refl
no_end-stage stages.Connect (Some answer) e = refl
no_end-stage stages.Helo (Some answer) e = refl
no_end-stage stages.Mail (Some answer) e = e
no_end-stage stages.Rcpt (Some answer) e = e
no_end-stage stages.DataCmd (Some answer) e = e
no_end-stage stages.Header (Some answer) e = e
no_end-stage stages.Eoh (Some answer) e = e
no_end-stage stages.Body (Some answer) e = e
no_end-stage stages.Eob (Some answer) e = e

no_end-at : (stage : Option Stage) (answer : Option Answer) → is_final_answer stage answer ≡ false → is_end_at stage answer ≡ false
no_end-at None answer e = refl
no_end-at (Some stage) answer e = no_end-stage stage answer e

goes_on : (e : Exchange) → is_shown e.command ≡ true → is_final e ≡ false → ends_message e ≡ false
goes_on e is on = by_command e.command refl is
  where
    by_command : (c : Command) → e.command ≡ c → is_shown c ≡ true → ends_message e ≡ false
    by_command commands.Abort f is = absurd (true≢false (sym is))
    by_command commands.QuitNew f is = absurd (true≢false (sym is))
    by_command other f is = rw f (no_end-at (stage_of other) e.answer (rw f at on))

-- DATA that goes on isn't refused
data-goes_on : (command : Command) (answer : Option Answer) → is_final_answer (stage_of command) answer ≡ false → is_refused_data command answer ≡ false
data-goes_on commands.DataCmd None on = refl
data-goes_on commands.DataCmd (Some answer) on = by_verdict answer.verdict on
  where
    by_verdict : (verdict : Verdict) → is_final_at stages.DataCmd verdict ≡ false → is_refusal verdict ≡ false
    by_verdict verdicts.Continue on = refl
    by_verdict verdicts.Skip on = refl
    by_verdict other on = absurd (true≢false on)
data-goes_on other answer on = refl

-- ---- order

in_order-rank : (last : ℕ) (command : Command) → is_body command ≡ true → is_in_order last (stage_of command) ≡ true → last ≤ rank_by last (stage_of command)
in_order-rank last (commands.Body bytes) body is = leb-true last 8 is
in_order-rank last other body is = absurd (true≢false (sym body))

body-inner : (command : Command) → is_body command ≡ true → is_of_connection command ≡ false
body-inner (commands.Body bytes) body = refl
body-inner other body = absurd (true≢false (sym body))

-- ---- bytes

pub bytes-cons : (command : Command) (left : List Command) → bytes_of (command ∷ left) ≡ length (encoding command) + bytes_of left
bytes-cons command left = sum_by-cons (λ c. length (encoding c)) command left

-- ---- the filter at a command

module _ (b : Behavior) (negotiated : Negotiated) (session : MailSession) where
  abbrev going : List Exchange → FilterEnd
  going transcript = record { transcript = transcript; state = Serving }

  abbrev pub next_of : List Exchange → Command → Exchange
  next_of dialogue command = exchange_of b negotiated (commands_of dialogue) command

  module _ (transcript dialogue : List Exchange) (command : Command) (left : List Command) (at : IsAt b negotiated session transcript dialogue (command ∷ left)) where
    abbrev e : Exchange
    e = next_of dialogue command

    p : IsPlain command
    p = plain command at.in_turn.0

    light : bytes_of (command ∷ shown transcript) ≤ WEIGHT_MAX
    light = let f = bytes-cons command (shown transcript) in let g = bytes-cons command left in let a = at.amount in omega arith

    no_fault : fault_at b transcript (Ok command) ≡ None
    no_fault =
        ap (λ (o : Option Negotiated). fault_of o (last_rank transcript) (bytes_of (command ∷ shown transcript)) command) at.negotiated_is
        ∙ p.no_fault negotiated (last_rank transcript) (bytes_of (command ∷ shown transcript))
        ∙ ap (λ (k : Bool). if not k then Some OutOfOrder else if is_shown command && nat_lt WEIGHT_MAX (bytes_of (command ∷ shown transcript)) then Some TooMuch else None) at.in_turn.1
        ∙ ap (λ (k : Bool). if is_shown command && k then Some TooMuch else None) (le-ltb WEIGHT_MAX (bytes_of (command ∷ shown transcript)) light)
        ∙ by_shown (is_shown command)
      where
        by_shown : (k : Bool) → (if k && false then Some TooMuch else None) ≡ None
        by_shown true = refl
        by_shown false = refl

    exchange-is : exchange_at b transcript command ≡ e
    exchange-is =
        ap (λ (o : Option Negotiated). record { command = command; answer = answer_by b o (shown transcript) command }) at.negotiated_is
        ∙ ap (λ (l : List Command). record { command = command; answer = (exchange_of b negotiated l command).answer }) at.shown_is

    abbrev step-with : Exchange → Step FilterEnd
    step-with x =
        record {
          after = record { transcript = x ∷ transcript; state = state_after command };
          replies = replies_to b (negotiated_in b transcript) command x.answer;
        }

    step-is : step b (going transcript) (Ok command) ≡ step-with e
    step-is = ap (step_by b transcript (Ok command)) no_fault ∙ ap step-with exchange-is

    next-is : next b (going transcript) (Ok command) ≡ going (e ∷ transcript)
    next-is =
        ap (λ (x : Step FilterEnd). x.after) step-is
        ∙ ap (λ (q : Bool). record { transcript = e ∷ transcript; state = if q then Quit else Serving }) p.no_quit

    replies-are : replies_at b (going transcript) (Ok command) ≡ replies_of_answer e.answer
    replies-are =
        ap (λ (x : Step FilterEnd). x.replies) step-is
        ∙ p.replies b (negotiated_in b transcript) e.answer

    alike : IsTakenAlike b (going transcript) (Ok command)
    alike =
        record {
          none_within = ap (λ (o : Option Negotiated). is_within_message o (last_rank transcript) (Ok command)) at.negotiated_is ∙ at.none_within.0;
          leaves = λ refused. absurd (true≢false (sym refused ∙ at.data_goes_on));
        }

    pub is-replied : IsReplied b (going transcript) (line_of e)
    is-replied =
        record {
          command = command;
          fits = All-head Fits command left at.fits;
          out_is = refl;
          serving = refl;
          no_fault = no_fault;
          alike = alike;
          back_is = ap (flat_map replied.encoding) (sym replies-are);
        }

    -- ---- what it has then

    negotiated-then : negotiated_in b (e ∷ transcript) ≡ Some negotiated
    negotiated-then = negotiated_in-cons b e transcript ∙ ap (λ (o : Option Negotiated). option_or o (negotiated_in b transcript)) (p.no_offer b) ∙ at.negotiated_is

    kept-then : of_connection (e ∷ transcript) ≡ commands_of (opening_of (e ∷ dialogue))
    kept-then =
        connection-cons e transcript
        ∙ ap (λ (k : Bool). if k then [] else if is_of_connection command then command ∷ of_connection transcript else of_connection transcript) p.no_anew
        ∙ ap (λ (l : List Command). if is_of_connection command then command ∷ l else l) at.kept_is
        ∙ by_client (is_of_connection command)
      where
        by_client : (k : Bool) → (if k then command ∷ commands_of (opening_of dialogue) else commands_of (opening_of dialogue)) ≡ commands_of (cond k (e ∷ opening_of dialogue) (opening_of dialogue))
        by_client true = refl
        by_client false = refl

    opened-then : bytes_of (of_connection (e ∷ transcript)) + bytes_of (filter is_of_connection left) ≤ bytes_of (opening negotiated session)
    opened-then =
        subst (λ (l : List Command). bytes_of l + bytes_of (filter is_of_connection left) ≤ bytes_of (opening negotiated session)) (sym here)
        (by_client (is_of_connection command) at.opened)
      where
        here : of_connection (e ∷ transcript) ≡ (if is_of_connection command then command ∷ of_connection transcript else of_connection transcript)
        here = connection-cons e transcript ∙ ap (λ (k : Bool). if k then [] else if is_of_connection command then command ∷ of_connection transcript else of_connection transcript) p.no_anew

        by_client : (k : Bool) → bytes_of (of_connection transcript) + bytes_of (cond k (command ∷ filter is_of_connection left) (filter is_of_connection left)) ≤ bytes_of (opening negotiated session)
            → bytes_of (if k then command ∷ of_connection transcript else of_connection transcript) + bytes_of (filter is_of_connection left) ≤ bytes_of (opening negotiated session)
        by_client true le = let f = bytes-cons command (of_connection transcript) in let g = bytes-cons command (filter is_of_connection left) in omega arith
        by_client false le = le

    pub over-then : IsOver b negotiated session (e ∷ transcript) (e ∷ dialogue)
    over-then =
        record {
          negotiated_is = negotiated-then;
          kept_is = kept-then;
          opened = let o = opened-then in omega arith;
          nothing_shown = λ end. shown-cons e transcript ∙ ap (λ (k : Bool). if k then of_connection (e ∷ transcript) else if is_shown command then command ∷ shown transcript else shown transcript) (ends-at end);
          low = λ end. subst (λ (n : ℕ). n ≤ 2) (sym (rank-at (ends-at end))) (omega arith);
          data_went_on = λ end. no-data command e.answer end;
        }
      where
        no-data : (c : Command) (answer : Option Answer) → is_end_command c ≡ true → is_refused_data c answer ≡ false
        no-data (commands.Eob bytes) answer end = refl
        no-data other answer end = absurd (true≢false (sym end))

        -- the end of a message has a verdict
        end-asked : (c : Command) → is_end_command c ≡ true → ends_message (next_of dialogue c) ≡ true
        end-asked (commands.Eob bytes) end = refl
        end-asked other end = absurd (true≢false (sym end))

        ends-at : ends_with_message (e ∷ dialogue) ≡ true → ends_message e ≡ true
        ends-at end = end-asked command end

        rank-at : ends_message e ≡ true → last_rank (e ∷ transcript) ≡ min 2 (rank_by (last_rank transcript) (stage_of command))
        rank-at ends =
            last_rank-cons e transcript
            ∙ ap (λ (k : Bool). if k then 0 else rank_from (ends_message e) (rank_by (last_rank transcript) (stage_of command))) p.no_anew
            ∙ ap (λ (k : Bool). rank_from k (rank_by (last_rank transcript) (stage_of command))) ends

    pub at-then : is_final e ≡ false → IsAt b negotiated session (e ∷ transcript) (e ∷ dialogue) left
    at-then on =
        let ends = goes_on e at.in_turn.0 on in
        let shown_now : shown (e ∷ transcript) ≡ command ∷ shown transcript =
        shown-cons e transcript
        ∙ ap (λ (k : Bool). if k then of_connection (e ∷ transcript) else if is_shown command then command ∷ shown transcript else shown transcript) ends
        ∙ ap (λ (k : Bool). if k then command ∷ shown transcript else shown transcript) at.in_turn.0 in
        let rank_now : last_rank (e ∷ transcript) ≡ rank_by (last_rank transcript) (stage_of command) =
        last_rank-cons e transcript
        ∙ ap (λ (k : Bool). if k then 0 else rank_from (ends_message e) (rank_by (last_rank transcript) (stage_of command))) p.no_anew
        ∙ ap (λ (k : Bool). rank_from k (rank_by (last_rank transcript) (stage_of command))) ends in
        record {
          negotiated_is = negotiated-then;
          shown_is = shown_now ∙ ap (λ (l : List Command). command ∷ l) at.shown_is;
          kept_is = kept-then;
          in_turn = subst (λ (n : ℕ). AreInTurn n left) (sym rank_now) at.in_turn.2;
          none_within = subst (λ (n : ℕ). NoneWithin n left) (sym rank_now) at.none_within.1;
          data_goes_on = data-goes_on command e.answer on;
          amount = subst (λ (l : List Command). bytes_of l + bytes_of left ≤ WEIGHT_MAX) (sym shown_now)
              (let f = bytes-cons command (shown transcript) in let g = bytes-cons command left in let a = at.amount in omega arith);
          opened = opened-then;
          fits = All-tail Fits command left at.fits;
          goes_on = no_end command on;
        }
      where
        no_end : (c : Command) → is_final (next_of dialogue c) ≡ false → is_end_command c ≡ false
        no_end (commands.Eob bytes) on = absurd (true≢false on)
        no_end other on = refl

    pub at-left_out : is_body command ≡ true → IsAt b negotiated session transcript dialogue left
    at-left_out body =
        record {
          negotiated_is = at.negotiated_is;
          shown_is = at.shown_is;
          kept_is = at.kept_is;
          in_turn = turn-higher _ _ left (in_order-rank (last_rank transcript) command body at.in_turn.1) at.in_turn.2;
          none_within = none-higher _ _ left (in_order-rank (last_rank transcript) command body at.in_turn.1) at.none_within.1;
          data_goes_on = at.data_goes_on;
          amount = let g = bytes-cons command left in let a = at.amount in omega arith;
          opened = subst (λ (k : Bool). bytes_of (of_connection transcript) + bytes_of (cond k (command ∷ filter is_of_connection left) (filter is_of_connection left)) ≤ bytes_of (opening negotiated session))
              (body-inner command body) at.opened;
          fits = All-tail Fits command left at.fits;
          goes_on = at.goes_on;
        }

  -- ---- the dialogue

  pub record Goes (transcript dialogue more : List Exchange) : Type 0 where
    pub replied : Replies b (going transcript) (map line_of more) (going (onto more transcript))
    pub over : IsOver b negotiated session (onto more transcript) (onto more dialogue)

  abbrev Joined : List Command → Type 0
  Joined left = (transcript dialogue : List Exchange) → IsAt b negotiated session transcript dialogue left → has_end left ≡ true → Goes transcript dialogue (dialogue_with b negotiated dialogue left)

  body-no_end : (command : Command) → is_body command ≡ true → is_end_command command ≡ false
  body-no_end (commands.Eob bytes) body = absurd (true≢false (sym body))
  body-no_end other body = refl

  final-end : (dialogue : List Exchange) (c : Command) → is_final (next_of dialogue c) ≡ false → is_end_command c ≡ false
  final-end dialogue (commands.Eob bytes) on = absurd (true≢false on)
  final-end dialogue other on = refl

  pub joined : (left : List Command) → Joined left
  unfolding dialogue_with is-replied
  joined [] transcript dialogue at end = absurd (true≢false (sym end))
  joined (command ∷ left) transcript dialogue at end = by_out (is_left_out dialogue command) refl (joined left)
    where
      by_closed : (closed : Bool) → is_closed (next_of dialogue command ∷ dialogue) left ≡ closed → Joined left
          → Goes transcript dialogue (next_of dialogue command ∷ (if closed then [] else dialogue_with b negotiated (next_of dialogue command ∷ dialogue) left))
      by_closed true f rest =
          record {
            replied = (is-replied transcript dialogue command left at, next-is transcript dialogue command left at);
            over = over-then transcript dialogue command left at;
          }
      by_closed false f rest =
          let on = or-false-left (is_final (next_of dialogue command)) _ f in
          let more = rest (next_of dialogue command ∷ transcript) (next_of dialogue command ∷ dialogue) (at-then transcript dialogue command left at on)
          (end_left command left (final-end dialogue command on) end) in
          record {
            replied = (
              is-replied transcript dialogue command left at,
              subst (λ (c : FilterEnd). Replies b c (map line_of (dialogue_with b negotiated (next_of dialogue command ∷ dialogue) left)) (going (onto (dialogue_with b negotiated (next_of dialogue command ∷ dialogue) left) (next_of dialogue command ∷ transcript))))
                  (sym (next-is transcript dialogue command left at)) more.replied,
            );
            over = more.over;
          }

      by_out : (out : Bool) → is_left_out dialogue command ≡ out → Joined left
          → Goes transcript dialogue
          (if out then dialogue_with b negotiated dialogue left
          else next_of dialogue command ∷ (if is_closed (next_of dialogue command ∷ dialogue) left then [] else dialogue_with b negotiated (next_of dialogue command ∷ dialogue) left))
      by_out true f rest =
          let body = and-true _ _ f in
          rest transcript dialogue (at-left_out transcript dialogue command left at body) (end_left command left (body-no_end command body) end)
      by_out false f rest = by_closed (is_closed (next_of dialogue command ∷ dialogue) left) refl rest
