-- What a filter replies to the packets of a whole session.
use Rattle.std.proofs.Common.{◌≡◌, ℕ, ◌+◌, ◌≤◌, Bool, true, false, if◌then◌else◌, cond, List, [], ◌∷◌, ◌++◌, map, Option, None, Some, Ok, refl, sym, ◌∙◌, ap, subst, arith, All, append-nil}
use Rattle.std.specs.List.{flat_map}
use Rattle.std.proofs.lemmas.Bool.{le-ltb, true≢false}
use Rattle.std.proofs.lemmas.List.Elements.{All-head, All-tail}
use Rattle.milter_wire.specs.declared.options.Options.{Options}
use Rattle.milter_wire.specs.declared.negotiation.Negotiated.{Negotiated}
use Rattle.milter_wire.specs.declared.command.Command.{Command}
use Rattle.milter_wire.specs.declared.command.Command.TheVariants as commands
use Rattle.milter_wire.specs.declared.reply.Reply.{Reply}
use Rattle.std.proofs.lemmas.List.Concat.{flat_map-cons}
use Rattle.milter_wire.specs.Negotiation.{negotiate}
use Rattle.milter_wire.specs.Command.{Fits, bytes_of}
use Rattle.milter_wire.specs.Reply as replied
use Rattle.milter_message.specs.declared.message.TheConstants.{WEIGHT_MAX}
use Rattle.milter_message.specs.MailObject.{MailObject}
use Rattle.milter_mail.specs.MailSession.{IsSendable, IsSession, MailSession}
use Rattle.milter_mail.specs.Plan.{macros_of, opening, plan}
use Rattle.milter_mail.specs.Steps.{message_steps}
use Rattle.milter_mail.proofs.MailLaws.{plan_fits, plan_weight}
use Rattle.milter_protocol.specs.declared.filter_fault.FilterFault.{FilterFault}
use Rattle.milter_protocol.specs.declared.filter_fault.FilterFault.TheVariants.{Version}
use Rattle.milter_protocol.specs.declared.filter_fault.FilterState.TheVariants.{Serving}
use Rattle.milter_protocol.specs.declared.permitted.TheConstants.{VERSION_MIN}
use Rattle.milter_protocol.specs.Behavior.{Behavior}
use Rattle.milter_protocol.specs.Aborts.{is_after_refused_data, is_within_message}
use Rattle.milter_protocol.specs.Commands.{is_of_connection}
use Rattle.milter_protocol.specs.FilterEnds.{FilterEnd, answer_by, exchange_at, fault_at, next, start, step, step_by}
use Rattle.milter_protocol.specs.Steps.{Step, silent}
use Rattle.milter_protocol.specs.Exchanges.{Exchange, commands_of, onto}
use Rattle.milter_protocol.specs.Faults.{fault_of}
use Rattle.milter_protocol.specs.Transcripts.{negotiated_in, last_rank, of_connection, shown}
use Rattle.milter_protocol.specs.Replies.{options_reply, replies_to}
use Rattle.milter_protocol.specs.Dialogue.{has_end, is_end_command, dialogue_with}
use Rattle.milter_protocol.proofs.TakenAlike.{in-turn, left-by}
use Rattle.milter_protocol.proofs.TranscriptParts.{negotiated_in-cons, connection-cons, last_rank-cons, shown-cons}
use Rattle.milter_mta.specs.Lines.{Line, abort_line, line_of, offer_line, quit_line}
use Rattle.milter_mta.specs.Sessions.{lines_after, lines_from, session_lines}
use Rattle.milter_mta.specs.Settled.{ends_with_client, ends_with_message}
use Rattle.milter_mta.specs.Dialogues.{opening_of}
use Rattle.milter_world.specs.FilterTranscript.{IsAt, IsOver}
use Rattle.milter_world.specs.Answered.{IsReplied, Replies}
use Rattle.milter_mta_outcome.proofs.PlanOrders.{message-of, plan-bytes, plan-of, plan-within, turn-higher, within-message}
use Rattle.milter_world.proofs.DialogueAnswers.{joined}
use Rattle.milter_world.proofs.PlanAborts.{none-higher, none-message, none-plan}

-- ---- lines one after the other

pub replies-append : (b : Behavior) (xs ys : List Line) (c mid new : FilterEnd) → Replies b c xs mid → Replies b mid ys new → Replies b c (xs ++ ys) new
replies-append b [] ys c mid new first more = subst (λ (z : FilterEnd). Replies b z ys new) (sym first) more
replies-append b (x ∷ xs) ys c mid new first more = (first.0, replies-append b xs ys (next b c (Ok first.0.command)) mid new first.1 more)

abbrev Ends : Behavior → FilterEnd → List Line → Type 0
Ends b c lines = (new : FilterEnd) × Replies b c lines new

-- ---- the parts of a dialogue about the client

again : (dialogue : List Exchange) → opening_of (opening_of dialogue) ≡ opening_of dialogue
again [] = refl
again (last ∷ before) = by_client (is_of_connection last.command) refl (again before)
  where
    by_client : (k : Bool) → is_of_connection last.command ≡ k → opening_of (opening_of before) ≡ opening_of before
        → opening_of (cond k (last ∷ opening_of before) (opening_of before)) ≡ cond k (last ∷ opening_of before) (opening_of before)
    by_client true e rest = ap (λ (k : Bool). cond k (last ∷ opening_of (opening_of before)) (opening_of (opening_of before))) e ∙ ap (λ (l : List Exchange). last ∷ l) rest
    by_client false e rest = rest

no_end-client : (c : Command) → is_of_connection c ≡ true → is_end_command c ≡ false
no_end-client (commands.Eob bytes) e = absurd (true≢false (sym e))
no_end-client other e = refl

no_message : (dialogue : List Exchange) → ends_with_message (opening_of dialogue) ≡ false
no_message [] = refl
no_message (last ∷ before) = by_client (is_of_connection last.command) refl (no_message before)
  where
    by_client : (k : Bool) → is_of_connection last.command ≡ k → ends_with_message (opening_of before) ≡ false
        → ends_with_message (cond k (last ∷ opening_of before) (opening_of before)) ≡ false
    by_client true e rest = no_end-client last.command e
    by_client false e rest = rest

-- the later ones of a list
all-last : (P : Command → Type 0) (xs ys : List Command) → All P (xs ++ ys) → All P ys
all-last P [] ys all = all
all-last P (x ∷ xs) ys all = all-last P xs ys (All-tail P x (xs ++ ys) all)

-- a message's commands go on to its end, and so does its plan
pub record GoToTheEnd : Type 0 where
  pub steps : (negotiated : Negotiated) (s : MailSession) (m : MailObject) → has_end (message_steps negotiated (macros_of negotiated s) m) ≡ true
  pub whole : (negotiated : Negotiated) (s : MailSession) (m : MailObject) → has_end (plan negotiated s m) ≡ true

module _ (to_end : GoToTheEnd) (b : Behavior) (negotiated : Negotiated) (s : MailSession) (is : IsSession s) where
  abbrev steps_of : MailObject → List Command
  steps_of m = message_steps negotiated (macros_of negotiated s) m

  abbrev IsGood : MailObject → Type 0
  IsGood m = IsSendable s.client s.helo s.macros m

  plan-light : (m : MailObject) → IsGood m → bytes_of (plan negotiated s m) ≤ WEIGHT_MAX
  plan-light m good = let w = plan_weight negotiated s m in let f = good.weight_fits in omega arith

  plan-fits : (m : MailObject) → IsGood m → All Fits (plan negotiated s m)
  plan-fits m good = plan_fits negotiated s m is.client_fits is.helo_fits is.macros_fit good

  abbrev going : List Exchange → FilterEnd
  going transcript = record { transcript = transcript; state = Serving }

  -- ---- between two messages

  record IsBetween (transcript dialogue : List Exchange) : Type 0 where
    negotiated_is : negotiated_in b transcript ≡ Some negotiated
    shown_is : shown transcript ≡ commands_of (opening_of dialogue)
    kept_is : of_connection transcript ≡ commands_of (opening_of dialogue)
    opened : bytes_of (of_connection transcript) ≤ bytes_of (opening negotiated s)
    low : last_rank transcript ≤ 2
    data_went_on : is_after_refused_data transcript ≡ false

  at-next : (transcript dialogue : List Exchange) → IsBetween transcript dialogue → (m : MailObject) → IsGood m → IsAt b negotiated s transcript (opening_of dialogue) (steps_of m)
  at-next transcript dialogue between m good =
      record {
        negotiated_is = between.negotiated_is;
        shown_is = between.shown_is;
        kept_is = between.kept_is ∙ ap commands_of (sym (again dialogue));
        in_turn = turn-higher (last_rank transcript) 2 (steps_of m) between.low (within-message negotiated (macros_of negotiated s) m).in_turn;
        none_within = none-higher (last_rank transcript) 2 (steps_of m) between.low (none-message negotiated (macros_of negotiated s) m);
        data_goes_on = between.data_went_on;
        amount = subst (λ (l : List Command). bytes_of l + bytes_of (steps_of m) ≤ WEIGHT_MAX) (between.kept_is ∙ sym between.shown_is)
            (let l = plan-light m good in let p = plan-bytes negotiated s m in let o = between.opened in omega arith);
        opened = subst (λ (l : List Command). bytes_of (of_connection transcript) + bytes_of l ≤ bytes_of (opening negotiated s)) (sym (message-of negotiated (macros_of negotiated s) m))
            (let o = between.opened in let z : bytes_of [] ≡ 0 = refl in omega arith);
        fits = all-last Fits (opening negotiated s) (steps_of m) (plan-fits m good);
        goes_on = no_message dialogue;
      }

  -- ---- packets without answers

  module _ (transcript : List Exchange) (has : negotiated_in b transcript ≡ Some negotiated) where
    quit-fault : fault_at b transcript (Ok commands.Quit) ≡ None
    quit-fault = ap (λ (o : Option Negotiated). fault_of o (last_rank transcript) (bytes_of (commands.Quit ∷ shown transcript)) commands.Quit) has

    quits : Ends b (going transcript) (quit_line ∷ [])
    quits = (
      next b (going transcript) (Ok commands.Quit),
      (
        record {
          command = commands.Quit;
          fits = record { fields = tt; payload = omega arith };
          out_is = refl;
          serving = refl;
          no_fault = quit-fault;
          alike = left-by (ap (λ (o : Option Negotiated). is_within_message o (last_rank transcript) (Ok commands.Quit)) has) refl;
          back_is = ap (flat_map replied.encoding) (sym (ap (λ (f : Option FilterFault). (step_by b transcript (Ok commands.Quit) f).replies) quit-fault ∙ quit-none));
        },
        refl,
      ),
    )
      where
        quit-none : replies_to b (negotiated_in b transcript) commands.Quit (exchange_at b transcript commands.Quit).answer ≡ []
        quit-none = ap (λ (o : Option Negotiated). replies_to b (negotiated_in b transcript) commands.Quit (answer_by b o (shown transcript) commands.Quit)) has

    abbrev aborted : Exchange
    aborted = record { command = commands.Abort; answer = None }

    abort-fault : fault_at b transcript (Ok commands.Abort) ≡ None
    abort-fault = ap (λ (o : Option Negotiated). fault_of o (last_rank transcript) (bytes_of (commands.Abort ∷ shown transcript)) commands.Abort) has

    abort-exchange : exchange_at b transcript commands.Abort ≡ aborted
    abort-exchange = ap (λ (o : Option Negotiated). record { command = commands.Abort; answer = answer_by b o (shown transcript) commands.Abort }) has

    abort-step : step b (going transcript) (Ok commands.Abort) ≡ silent (going (aborted ∷ transcript))
    abort-step =
        ap (step_by b transcript (Ok commands.Abort)) abort-fault
        ∙ ap (λ (x : Exchange). record { after = going (x ∷ transcript); replies = replies_to b (negotiated_in b transcript) commands.Abort x.answer }) abort-exchange

    abort-next : next b (going transcript) (Ok commands.Abort) ≡ going (aborted ∷ transcript)
    abort-next = ap (λ (x : Step FilterEnd). x.after) abort-step

    abort-replied : IsReplied b (going transcript) abort_line
    abort-replied =
        record {
          command = commands.Abort;
          fits = record { fields = tt; payload = omega arith };
          out_is = refl;
          serving = refl;
          no_fault = abort-fault;
          alike = left-by (ap (λ (o : Option Negotiated). is_within_message o (last_rank transcript) (Ok commands.Abort)) has) refl;
          back_is = ap (λ (x : Step FilterEnd). flat_map replied.encoding x.replies) (sym abort-step);
        }

  -- after a message that was not sent to its end
  between-aborted : (transcript dialogue : List Exchange) (over : IsOver b negotiated s transcript dialogue) → IsBetween (aborted transcript over.negotiated_is ∷ transcript) dialogue
  between-aborted transcript dialogue over =
      let gone = aborted transcript over.negotiated_is in
      let kept : of_connection (gone ∷ transcript) ≡ of_connection transcript = connection-cons gone transcript in
      record {
        negotiated_is = negotiated_in-cons b gone transcript ∙ over.negotiated_is;
        shown_is = shown-cons gone transcript ∙ kept ∙ over.kept_is;
        kept_is = kept ∙ over.kept_is;
        opened = subst (λ (l : List Command). bytes_of l ≤ bytes_of (opening negotiated s)) (sym kept) over.opened;
        low = subst (λ (n : ℕ). n ≤ 2) (sym (last_rank-cons gone transcript)) (omega arith);
        data_went_on = refl;
      }

  between-ended : (transcript dialogue : List Exchange) → IsOver b negotiated s transcript dialogue → ends_with_message dialogue ≡ true → IsBetween transcript dialogue
  between-ended transcript dialogue over end =
      record {
        negotiated_is = over.negotiated_is;
        shown_is = over.nothing_shown end ∙ over.kept_is;
        kept_is = over.kept_is;
        opened = over.opened;
        low = over.low end;
        data_went_on = over.data_went_on end;
      }

  -- ---- after a message

  module _ (transcript dialogue : List Exchange) (over : IsOver b negotiated s transcript dialogue) (lines : List Line) where
    ends-after : (negotiated_next : (h : List Exchange) → IsBetween h dialogue → Ends b (going h) lines) → Ends b (going transcript) (lines_after dialogue lines)
    unfolding abort-replied
    ends-after more = by_client (ends_with_client dialogue)
      where
        by_message : (over_all : Bool) → ends_with_message dialogue ≡ over_all → Ends b (going transcript) (if over_all then lines else abort_line ∷ lines)
        by_message true e = more transcript (between-ended transcript dialogue over e)
        by_message false e =
            let gone = aborted transcript over.negotiated_is in
            let rest = more (gone ∷ transcript) (between-aborted transcript dialogue over) in
            (rest.0, (abort-replied transcript over.negotiated_is, subst (λ (c : FilterEnd). Replies b c lines rest.0) (sym (abort-next transcript over.negotiated_is)) rest.1))

        by_client : (client : Bool) → Ends b (going transcript) (if client then quit_line ∷ [] else (if ends_with_message dialogue then lines else abort_line ∷ lines))
        by_client true = quits transcript over.negotiated_is
        by_client false = by_message (ends_with_message dialogue) refl

  -- ---- message after message

  pub each : (messages : List MailObject) → All IsGood messages → (transcript dialogue : List Exchange) (left : List Command) → IsAt b negotiated s transcript dialogue left → has_end left ≡ true
      → Ends b (going transcript) (lines_from b negotiated s messages dialogue left)
  each [] good transcript dialogue left at end =
      let goes = joined b negotiated s left transcript dialogue at end in
      let more = dialogue_with b negotiated dialogue left in
      let rest = ends-after (onto more transcript) (onto more dialogue) goes.over (quit_line ∷ []) (λ h between. quits h between.negotiated_is) in
      (rest.0, replies-append b (map line_of more) _ (going transcript) (going (onto more transcript)) rest.0 goes.replied rest.1)
  each (m ∷ messages) good transcript dialogue left at end =
      let goes = joined b negotiated s left transcript dialogue at end in
      let more = dialogue_with b negotiated dialogue left in
      let next_lines = lines_from b negotiated s messages (opening_of (onto more dialogue)) (steps_of m) in
      let rest = ends-after (onto more transcript) (onto more dialogue) goes.over next_lines
      (λ h between. each messages (All-tail IsGood m messages good) h (opening_of (onto more dialogue)) (steps_of m) (at-next h (onto more dialogue) between m (All-head IsGood m messages good)) (to_end.steps negotiated s m)) in
      (rest.0, replies-append b (map line_of more) _ (going transcript) (going (onto more transcript)) rest.0 goes.replied rest.1)

-- ---- the whole session

module _ (to_end : GoToTheEnd) (b : Behavior) (offer : Options) (s : MailSession) (is : IsSession s) (known : VERSION_MIN ≤ offer.version) (fits : Fits (commands.Options offer)) where
  abbrev g : Negotiated
  g = negotiate offer b.wants b.lists

  abbrev offered : Exchange
  offered = record { command = commands.Options offer; answer = None }

  offer-fault : fault_at b [] (Ok (commands.Options offer)) ≡ None
  offer-fault = ap (λ (k : Bool). if k then Some Version else None) (le-ltb offer.version VERSION_MIN known)

  offer-step : step b start (Ok (commands.Options offer)) ≡ record { after = record { transcript = offered ∷ []; state = Serving }; replies = options_reply g ∷ [] }
  offer-step = ap (step_by b [] (Ok (commands.Options offer))) offer-fault

  offer-next : next b start (Ok (commands.Options offer)) ≡ record { transcript = offered ∷ []; state = Serving }
  offer-next = ap (λ (x : Step FilterEnd). x.after) offer-step

  offer-replied : IsReplied b start (offer_line offer g)
  offer-replied =
      record {
        command = commands.Options offer;
        fits = fits;
        out_is = refl;
        serving = refl;
        no_fault = offer-fault;
        alike = in-turn refl refl;
        back_is = sym (ap (λ (x : Step FilterEnd). flat_map replied.encoding x.replies) offer-step ∙ one (options_reply g));
      }
    where
      one : (r : Reply) → flat_map replied.encoding (r ∷ []) ≡ replied.encoding r
      one r = flat_map-cons replied.encoding r [] ∙ append-nil (replied.encoding r)

  at-first : (m : MailObject) → IsSendable s.client s.helo s.macros m → IsAt b g s (offered ∷ []) [] (plan g s m)
  at-first m good =
      let z : bytes_of [] ≡ 0 = refl in
      record {
        negotiated_is = refl;
        shown_is = refl;
        kept_is = refl;
        in_turn = (plan-within g s m).in_turn;
        none_within = none-plan g s m;
        data_goes_on = refl;
        amount = let l = plan-light to_end b g s is m good in omega arith;
        opened = subst (λ (l : List Command). bytes_of [] + bytes_of l ≤ bytes_of (opening g s)) (sym (plan-of g s m)) (omega arith);
        fits = plan-fits to_end b g s is m good;
        goes_on = refl;
      }

  pub session : (messages : List MailObject) → All (IsSendable s.client s.helo s.macros) messages → Ends b start (session_lines b offer s messages)
  unfolding offer-replied
  session [] good = (start, refl)
  session (m ∷ messages) good =
      let rest = each to_end b g s is messages (All-tail (IsSendable s.client s.helo s.macros) m messages good) (offered ∷ []) [] (plan g s m)
      (at-first m (All-head (IsSendable s.client s.helo s.macros) m messages good)) (to_end.whole g s m) in
      (rest.0, (offer-replied, subst (λ (c : FilterEnd). Replies b c (lines_from b g s messages [] (plan g s m)) rest.0) (sym offer-next) rest.1))
