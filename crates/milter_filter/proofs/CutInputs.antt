-- A core goes on by pieces as by the whole.
use Rattle.std.proofs.Common.{◌≡◌, ◌≢◌, ℕ, List, [], ◌++◌, take, drop, map, Option, None, Some, refl, sym, ◌∙◌, ap, subst, append_assoc, append-nil, flat_map, take-append-drop}
use Rattle.std.proofs.lemmas.Grind.{flat_map-append}
use Rattle.milter_fields.specs.declared.fault.WireFault.{WireFault}
use Rattle.milter_fields.specs.Stream.{Division, IsUnfinished, divide, length_fault}
use Rattle.milter_fields.proofs.StreamLaws.{divide-append, divide-fault, divide-unfinished, length_fault-fed, length_fault-unfinished}
use Rattle.milter_wire.specs.Frames.{frame_command}
use Rattle.milter_wire.specs.Reply.{encoding}
use Rattle.milter_protocol.specs.Behavior.{Behavior}
use Rattle.milter_protocol.specs.declared.stage_order.CommandOrder.{CommandOrder}
use Rattle.milter_protocol.specs.declared.filter_fault.FilterFault.{FilterFault}
use Rattle.milter_protocol.specs.declared.filter_fault.FilterState.{FilterState}
use Rattle.milter_protocol.specs.declared.filter_fault.FilterState.TheVariants.{Failed, Quit, Serving}
use Rattle.milter_protocol.specs.FilterEnds.{Received}
use Rattle.milter_protocol.specs.OrderStates.{OrderState, fresh_in, order_state_after, order_state_replies, order_step}
use Rattle.milter_protocol.proofs.FilterStates.{failed_quit, failed_serving, quit_serving, same_fault}
use Rattle.milter_protocol.proofs.Lenient.{orders-replies, orders-state}
use Rattle.milter_protocol.proofs.StepSequences.{after-append, replies-append}
use Rattle.milter_filter.specs.Cores.{Core, GivesUp, GoesOn, Takes, fresh_core_in, given_up}
use Rattle.milter_filter_stream.specs.Conversations.{unread_after}
use Rattle.milter_filter_stream.specs.Streams.{filter_end_of, fault_after, read_in, received_in, reply_bytes}
use Rattle.milter_filter.proofs.EndedStates.{ended-stays}
use Rattle.milter_filter_stream.proofs.Progress.{read-append}

-- ---- the packets of a stream that goes on

received-append : (x y : List ℕ) → received_in (x ++ y) ≡ read_in x ++ received_in ((divide x).rest ++ y)
received-append x y =
    let rest = (divide x).rest ++ y in
    ap (λ rs. rs ++ fault_after (length_fault (divide (x ++ y)).rest)) (read-append x y)
    ∙ ap (λ (d : Division). (read_in x ++ read_in rest) ++ fault_after (length_fault d.rest)) (divide-append x y)
    ∙ append_assoc (read_in x) (read_in rest) _

received-quiet : (x : List ℕ) → length_fault (divide x).rest ≡ None → received_in x ≡ read_in x
received-quiet x none = ap (λ f. read_in x ++ fault_after f) none ∙ append-nil (read_in x)

-- after a length field at fault all stays unread
received-fault : (rest y : List ℕ) (f : WireFault) → length_fault rest ≡ Some f → received_in (rest ++ y) ≡ fault_after (Some f)
received-fault rest y f is =
    let at : length_fault (rest ++ take 0 y) ≡ Some f = ap length_fault (append-nil rest) ∙ is in
    ap (λ (d : Division). map frame_command d.frames ++ fault_after (length_fault d.rest)) (divide-fault rest y (rest ++ take 0 y) 0 f refl at)
    ∙ ap fault_after (length_fault-fed rest y (rest ++ take 0 y) 0 f refl at)

pub joined : (x y unread : List ℕ) → unread ≡ (divide x).rest → length_fault unread ≡ None → received_in (x ++ y) ≡ received_in x ++ received_in (unread ++ y)
joined x y unread is none =
    received-append x y
    ∙ ap (λ rs. rs ++ received_in ((divide x).rest ++ y)) (sym (received-quiet x (ap length_fault (sym is) ∙ none)))
    ∙ ap (λ us. received_in x ++ received_in (us ++ y)) (sym is)

pub received-begin : (x y : List ℕ) → (more : List Received) × (received_in (x ++ y) ≡ received_in x ++ more)
received-begin x y = by_fault (length_fault (divide x).rest) refl
  where
    by_fault : (f : Option WireFault) → length_fault (divide x).rest ≡ f → (more : List Received) × (received_in (x ++ y) ≡ received_in x ++ more)
    by_fault None none = (received_in ((divide x).rest ++ y), joined x y (divide x).rest refl none)
    by_fault (Some f) is = (
      [],
      received-append x y
          ∙ ap (λ rs. read_in x ++ rs) (received-fault (divide x).rest y f is)
          ∙ ap (λ g. read_in x ++ fault_after g) (sym is)
          ∙ sym (append-nil (received_in x)),
    )

-- ---- one step

abbrev bytes_of : Behavior → OrderState → List Received → List ℕ
bytes_of b s received = flat_map encoding (order_state_replies b s received)

bytes-append : (b : Behavior) (s : OrderState) (first second : List Received) → bytes_of b s (first ++ second) ≡ bytes_of b s first ++ bytes_of b (order_state_after b s first) second
bytes-append b s first second =
    ap (flat_map encoding) (replies-append (order_step b) s first second)
    ∙ flat_map-append encoding (order_state_replies b s first) (order_state_replies b (order_state_after b s first) second)

pub replies-add : (b : Behavior) (order : CommandOrder) (input more : List ℕ) → (others : List ℕ) × (reply_bytes order b (input ++ more) ≡ reply_bytes order b input ++ others)
replies-add b order input more =
    let begin = received-begin input more in
    let s = fresh_in order in
    let of = λ (received : List Received). ap (flat_map encoding) (orders-replies b order received) in (
      bytes_of b (order_state_after b s (received_in input)) begin.0,
      sym (of (received_in (input ++ more)))
          ∙ ap (bytes_of b s) begin.1
          ∙ bytes-append b s (received_in input) begin.0
          ∙ ap (λ xs. xs ++ bytes_of b (order_state_after b s (received_in input)) begin.0) (of (received_in input)),
    )

-- a fault in the length field comes only after the end
settled : (b : Behavior) (s : OrderState) (f : Option WireFault) → (s.state ≡ Serving → f ≡ None) → (order_state_after b s (fault_after f) ≡ s) × (bytes_of b s (fault_after f) ≡ [])
settled b s None quiet = (refl, refl)
settled b s (Some f) quiet =
    let ended : s.state ≢ Serving = λ serving. some_fault f (quiet serving) in
    let stays = ended-stays b s (fault_after (Some f)) ended in (stays.0, ap (flat_map encoding) stays.1)
  where
    some_fault : (g : WireFault) → Some g ≡ None → ⊥
    some_fault g e = absurd cc

-- ---- a connection that stays, and one that has ended

module _ {P : Type 0} (b : Behavior) where
  pub stays : (core : Core P) → IsUnfinished core.unread → core.order_state.state ≡ Serving → GoesOn b core [] [] core
  stays core unfinished serving =
      let d = ap divide (append-nil core.unread) ∙ divide-unfinished core.unread unfinished in
      let none : received_in (core.unread ++ []) ≡ [] =
      ap (λ (x : Division). map frame_command x.frames ++ fault_after (length_fault x.rest)) d ∙ ap fault_after (length_fault-unfinished core.unread unfinished) in
      record {
        policy = refl;
        order_state = ap (order_state_after b core.order_state) (sym none);
        replied = sym (append-nil core.pending) ∙ ap (λ rs. core.pending ++ bytes_of b core.order_state rs) (sym none);
        unread = λ still. ap (λ (x : Division). x.rest) (sym d);
        unfinished = λ still. unfinished;
        nothing_unread = λ quit. absurd (quit_serving (sym quit ∙ serving));
        at_fault = λ fault failed. absurd (failed_serving fault (sym failed ∙ serving));
      }

  pub fresh-begins : (order : CommandOrder) (policy : P) → GoesOn b (fresh_core_in order policy) [] [] (fresh_core_in order policy)
  fresh-begins order policy = stays (fresh_core_in order policy) tt refl

  ended-step : (core : Core P) (more : List ℕ) → core.order_state.state ≢ Serving → (core.order_state.state ≡ Quit → core.unread ≡ [])
      → ((fault : FilterFault) → core.order_state.state ≡ Failed fault → core.unread ≡ unread_after fault) → GoesOn b core more [] core
  ended-step core more ended nothing at_fault =
      let rs = received_in (core.unread ++ more) in
      let still = ended-stays b core.order_state rs ended in
      record {
        policy = refl;
        order_state = sym still.0;
        replied = sym (append-nil core.pending) ∙ ap (λ xs. core.pending ++ flat_map encoding xs) (sym still.1);
        unread = λ serving. absurd (ended serving);
        unfinished = λ serving. absurd (ended serving);
        nothing_unread = nothing;
        at_fault = at_fault;
      }

  -- whatever it came by, it goes on to itself by nothing
  pub goes_on-stays : (old core : Core P) (input sent : List ℕ) → GoesOn b old input sent core → GoesOn b core [] [] core
  goes_on-stays old core input sent p = by_state core.order_state.state refl
    where
      by_state : (state : FilterState) → core.order_state.state ≡ state → GoesOn b core [] [] core
      by_state Serving serving = stays core (p.unfinished serving) serving
      by_state Quit quit = ended-step core [] (λ serving. quit_serving (sym quit ∙ serving)) p.nothing_unread p.at_fault
      by_state (Failed fault) failed = ended-step core [] (λ serving. failed_serving fault (sym failed ∙ serving)) p.nothing_unread p.at_fault

  -- ---- from the beginning

  pub replies-from : (order : CommandOrder) (policy : P) (core : Core P) (input sent : List ℕ) → GoesOn b (fresh_core_in order policy) input sent core → sent ++ core.pending ≡ reply_bytes order b input
  replies-from order policy core input sent p = p.replied ∙ ap (flat_map encoding) (orders-replies b order (received_in input))

  pub state-from : (order : CommandOrder) (policy : P) (core : Core P) (input sent : List ℕ) → GoesOn b (fresh_core_in order policy) input sent core → (filter_end_of order b input).state ≡ core.order_state.state
  state-from order policy core input sent p = sym (orders-state b order (received_in input)) ∙ ap (λ (s : OrderState). s.state) (sym p.order_state)

  takes-step : (old new : Core P) (piece : List ℕ) (n : ℕ) → old.pending ≡ [] → Takes b old piece n new → GoesOn b old (take n piece) [] new
  takes-step old new piece n none t =
      let bytes = old.unread ++ take n piece in
      let f = length_fault (divide bytes).rest in
      let quiet : new.order_state.state ≡ Serving → f ≡ None = λ serving. ap length_fault (sym (t.unread serving)) ∙ length_fault-unfinished new.unread t.unfinished in
      let end = settled b new.order_state f quiet in
      record {
        policy = t.policy;
        order_state =
            sym end.0
            ∙ ap (λ s. order_state_after b s (fault_after f)) t.order_state
            ∙ sym (after-append (order_step b) old.order_state (read_in bytes) (fault_after f));
        replied =
            t.pending
            ∙ sym (append-nil (bytes_of b old.order_state (read_in bytes)))
            ∙ ap (λ rs. bytes_of b old.order_state (read_in bytes) ++ rs) (sym end.1 ∙ ap (λ s. bytes_of b s (fault_after f)) t.order_state)
            ∙ sym (bytes-append b old.order_state (read_in bytes) (fault_after f))
            ∙ ap (λ ps. ps ++ bytes_of b old.order_state (received_in bytes)) (sym none);
        unread = t.unread;
        unfinished = λ still. t.unfinished;
        nothing_unread = λ quit. t.nothing_unread (λ serving. quit_serving (sym quit ∙ serving));
        at_fault = λ fault failed. absurd (t.going fault failed);
      }

  gives_up-step : (core : Core P) (piece : List ℕ) (fault : FilterFault) → core.pending ≡ [] → GivesUp b core.order_state (received_in (core.unread ++ piece)) fault
      → GoesOn b core piece [] (given_up core fault)
  gives_up-step core piece fault none g = record {
    policy = refl;
    order_state = sym g.failed;
    replied = ap (flat_map encoding) (sym g.silent) ∙ ap (λ ps. ps ++ bytes_of b core.order_state (received_in (core.unread ++ piece))) (sym none);
    unread = λ serving. absurd (failed_serving fault serving);
    unfinished = λ serving. absurd (failed_serving fault serving);
    nothing_unread = λ quit. absurd (failed_quit fault quit);
    at_fault = λ other is. ap unread_after (same_fault fault other is);
  }

  -- ---- one step after the other

  module _ (old mid new : Core P) (input sent more sent_then : List ℕ) (p : GoesOn b old input sent mid) (q : GoesOn b mid more sent_then new) where
    abbrev bytes : List ℕ
    bytes = old.unread ++ input

    abbrev then : List Received
    then = received_in (mid.unread ++ more)

    with-more : (rs : List Received) → received_in (bytes ++ more) ≡ received_in bytes ++ rs → order_state_after b mid.order_state then ≡ order_state_after b mid.order_state rs
        → bytes_of b mid.order_state then ≡ bytes_of b mid.order_state rs → (new.order_state.state ≡ Serving → new.unread ≡ (divide (bytes ++ more)).rest) → GoesOn b old (input ++ more) (sent ++ sent_then) new
    with-more rs is same_order_state same_bytes rest =
        let all : received_in (old.unread ++ (input ++ more)) ≡ received_in bytes ++ rs = ap received_in (sym (append_assoc old.unread input more)) ∙ is in
        record {
          policy = q.policy ∙ p.policy;
          order_state =
              q.order_state ∙ same_order_state
              ∙ ap (λ s. order_state_after b s rs) p.order_state
              ∙ sym (after-append (order_step b) old.order_state (received_in bytes) rs)
              ∙ ap (order_state_after b old.order_state) (sym all);
          replied =
              append_assoc sent sent_then new.pending
              ∙ ap (λ xs. sent ++ xs) (q.replied ∙ ap (λ xs. mid.pending ++ xs) (same_bytes ∙ ap (λ s. bytes_of b s rs) p.order_state))
              ∙ sym (append_assoc sent mid.pending _)
              ∙ ap (λ xs. xs ++ bytes_of b (order_state_after b old.order_state (received_in bytes)) rs) p.replied
              ∙ append_assoc old.pending _ _
              ∙ ap (λ xs. old.pending ++ xs) (sym (bytes-append b old.order_state (received_in bytes) rs) ∙ ap (bytes_of b old.order_state) (sym all));
          unread = λ serving. rest serving ∙ ap (λ xs. (divide xs).rest) (append_assoc old.unread input more);
          unfinished = q.unfinished;
          nothing_unread = q.nothing_unread;
          at_fault = q.at_fault;
        }

    after-end : mid.order_state.state ≢ Serving → GoesOn b old (input ++ more) (sent ++ sent_then) new
    after-end ended =
        let begin = received-begin bytes more in
        let still = ended-stays b mid.order_state then ended in
        let same = ended-stays b mid.order_state begin.0 ended in
        with-more begin.0 begin.1 (still.0 ∙ sym same.0) (ap (flat_map encoding) (still.1 ∙ sym same.1))
        (λ serving. absurd (ended (ap (λ (s : OrderState). s.state) (sym (q.order_state ∙ still.0)) ∙ serving)))

    pub goes_on-joins : GoesOn b old (input ++ more) (sent ++ sent_then) new
    goes_on-joins = by_state mid.order_state.state refl
      where
        by_state : (state : FilterState) → mid.order_state.state ≡ state → GoesOn b old (input ++ more) (sent ++ sent_then) new
        by_state Serving serving =
            with-more then (joined bytes more mid.unread (p.unread serving) (length_fault-unfinished mid.unread (p.unfinished serving))) refl refl
            (λ still. q.unread still ∙ ap (λ us. (divide (us ++ more)).rest) (p.unread serving) ∙ ap (λ (x : Division). x.rest) (sym (divide-append bytes more)))
        by_state Quit quit = after-end (λ serving. quit_serving (sym quit ∙ serving))
        by_state (Failed fault) failed = after-end (λ serving. failed_serving fault (sym failed ∙ serving))

  module _ (old core : Core P) (input sent : List ℕ) (p : GoesOn b old input sent core) where
    silently : (new : Core P) (more : List ℕ) → GoesOn b core more [] new → GoesOn b old (input ++ more) sent new
    silently new more q = subst (λ xs. GoesOn b old (input ++ more) xs new) (append-nil sent) (goes_on-joins old core new input sent more [] p q)

    pub goes_on-takes : (new : Core P) (piece : List ℕ) (n : ℕ) → core.pending ≡ [] → Takes b core piece n new → GoesOn b old (input ++ take n piece) sent new
    goes_on-takes new piece n none t = silently new (take n piece) (takes-step core new piece n none t)

    pub goes_on-gives_up : (piece : List ℕ) (fault : FilterFault) → core.pending ≡ [] → GivesUp b core.order_state (received_in (core.unread ++ piece)) fault
        → GoesOn b old (input ++ piece) sent (given_up core fault)
    goes_on-gives_up piece fault none g = silently (given_up core fault) piece (gives_up-step core piece fault none g)

    pub goes_on-ended : (more : List ℕ) → core.order_state.state ≢ Serving → GoesOn b old (input ++ more) sent core
    goes_on-ended more ended = silently core more (ended-step core more ended p.nothing_unread p.at_fault)

    pub goes_on-sends : (n : ℕ) → GoesOn b old input (sent ++ take n core.pending) (record core { pending = drop n core.pending })
    goes_on-sends n = record {
      policy = p.policy;
      order_state = p.order_state;
      replied = append_assoc sent (take n core.pending) (drop n core.pending) ∙ ap (λ xs. sent ++ xs) (take-append-drop n core.pending) ∙ p.replied;
      unread = p.unread;
      unfinished = p.unfinished;
      nothing_unread = p.nothing_unread;
      at_fault = p.at_fault;
    }
