-- A piece of the bytes on their way moves between both ends.
use Rattle.std.proofs.Common.{◌≡◌, ◌≢◌, inl, inr, ℕ, zero, suc, ◌+◌, ◌-◌, ◌≤◌, ◌<◌, List, [], ◌∷◌, ◌++◌, refl, sym, ◌∙◌, ap, subst, arith, length, take, drop, append_assoc, length-append, length-drop, length-take-le, take-take, take-append-drop, take_all}
use Rattle.std.specs.List.{fold, flat_map}
use Rattle.std.proofs.lemmas.List.{append_cancel_left}
use Rattle.std.proofs.Math.Seq.{take-add, take-append_seam}
use Rattle.milter_wire.specs.Reply.{encoding}
use Rattle.milter_protocol.specs.declared.stage_order.CommandOrder.{CommandOrder}
use Rattle.milter_protocol.specs.Behavior.{Behavior}
use Rattle.milter_protocol.specs.declared.filter_fault.FilterFault.{FilterFault as Fault}
use Rattle.milter_protocol.specs.declared.filter_fault.FilterState.TheVariants.{Failed, Serving}
use Rattle.milter_protocol.specs.OrderStates.{OrderState, fresh_in, order_state_after, order_state_replies}
use Rattle.milter_mta.specs.Mta.{Mta}
use Rattle.milter_mta.specs.Replies.{After, goes_on, received, received_byte}
use Rattle.milter_mta.specs.Output.{advanced, pending, sent}
use Rattle.milter_mta.specs.Lines.{Line}
use Rattle.milter_filter.specs.Cores.{Core, GivesUp, GoesOn, Takes, fresh_core_in, given_up}
use Rattle.milter_filter_stream.specs.Streams.{received_in}
use Rattle.milter_world.specs.ByteCounts.{due, owed, packet_end, to_filter, to_mta}
use Rattle.milter_world.specs.FollowedLines.{SendsLines, after_at}
use Rattle.milter_world.specs.Answered.{AnswersLines}
use Rattle.milter_world.specs.Rounds.{AreCounts}
use Rattle.milter_world.specs.Ends.{IsFilterAt}
use Rattle.milter_world.specs.FollowedLines.{IsMtaAt}
use Rattle.milter_world.specs.declared.state.Counts.{Counts}
use Rattle.milter_world.proofs.CountedBytes.{due-le, due-mono, owed-due, owed-le, owed-mono, packet_end-due, packet_end-more}
use Rattle.milter_world.proofs.FollowedPieces.{AddsUp, goes-on, receives_bytes, not_lost, pends, sends}
use Rattle.milter_world.proofs.Steps.{advanced-again, sent-nothing}

-- ---- a beginning that goes on by a piece

pub record IsCut (xs piece : List ℕ) (from to : ℕ) : Type 0 where
  pub goes : take (from + length piece) xs ≡ take from xs ++ piece
  pub within : from + length piece ≤ to
  pub is : piece ≡ take (length piece) (drop from xs)

pub cut-at : (xs piece rest : List ℕ) (from to : ℕ) → from ≤ to → to ≤ length xs → take from xs ++ (piece ++ rest) ≡ take to xs → IsCut xs piece from to
cut-at xs piece rest from to le within e =
    let a = length-take-le from xs (omega arith) in
    let b = length-take-le to xs within in
    let c = ap length e in
    let d = length-append (take from xs) (piece ++ rest) in
    let f = length-append piece rest in
    let g = length-append (take from xs) piece in
    let less : from + length piece ≤ to = omega arith in
    let n : length (take from xs ++ piece) ≡ from + length piece = omega arith in
    let s = take-append_seam (take from xs ++ piece) rest in
    let whole : (take from xs ++ piece) ++ rest ≡ take to xs = append_assoc (take from xs) piece rest ∙ e in
    let t : take (from + length piece) (take to xs) ≡ take (from + length piece) xs = take-take (from + length piece) to xs less in
    let goes : take (from + length piece) xs ≡ take from xs ++ piece = sym t ∙ rw (← whole, ← n) s in
    record {
      goes = goes;
      within = less;
      is = append_cancel_left (take from xs) piece (take (length piece) (drop from xs)) (sym goes ∙ take-add from (length piece) xs);
    }

-- what is left of it
pub rest-at : (xs piece rest : List ℕ) (from to : ℕ) → IsCut xs piece from to → take from xs ++ (piece ++ rest) ≡ take to xs
    → take (from + length piece) xs ++ rest ≡ take to xs
rest-at xs piece rest from to cut e =
    ap (λ (l : List ℕ). l ++ rest) cut.goes ∙ append_assoc (take from xs) piece rest ∙ e

nothing-left : (xs pipe : List ℕ) (from to : ℕ) → from ≤ to → to ≤ length xs → take from xs ++ pipe ≡ take to xs → from + length pipe ≡ to
nothing-left xs pipe from to le within e =
    let a = length-take-le from xs (omega arith) in
    let b = length-take-le to xs within in
    let c = ap length e in
    let d = length-append (take from xs) pipe in
    omega arith

empty : (xs : List ℕ) → length xs ≤ 0 → xs ≡ []
empty [] h = refl
empty (y ∷ ys) h = absurd (let g : suc (length ys) ≤ 0 = h in omega arith)

-- ---- a piece reaches the filter

abbrev pub CoresTake : Type 0 → Type 0
CoresTake P = (b : Behavior) (old core new : Core P) (input sent piece : List ℕ) (n : ℕ) →
    GoesOn b old input sent core → core.pending ≡ [] → Takes b core piece n new → GoesOn b old (input ++ take n piece) sent new

abbrev pub CoresGiveUp : Type 0 → Type 0
CoresGiveUp P = (b : Behavior) (old core : Core P) (input sent piece : List ℕ) (fault : Fault) →
    GoesOn b old input sent core → core.pending ≡ [] → GivesUp b core.order_state (received_in (core.unread ++ piece)) fault →
    GoesOn b old (input ++ piece) sent (given_up core fault)

module _ {P : Type 0} (b : Behavior) (order : CommandOrder) (policy : P) (lines : List Line) (answers : AnswersLines order b lines) (c : Counts) (counts : AreCounts lines c)
    (core : Core P) (pipe : List ℕ) (is : IsFilterAt b order policy lines c core pipe) where
  out_le : c.sent ≤ length (to_filter lines)
  out_le = let a = counts.sent in let d = due-le lines c.received in omega arith

  pub pending-is : take c.answered (to_mta lines) ++ core.pending ≡ take (owed lines c.taken) (to_mta lines)
  pending-is = is.goes_on.replied ∙ answers.replied c.taken

  pub serving : core.order_state.state ≡ Serving
  serving =
      ap (λ (s : OrderState). s.state) is.goes_on.order_state
      ∙ answers.serves c.taken (let a = counts.not_over in let d = counts.taken in omega arith)

  pub pending-len : c.answered + length core.pending ≡ owed lines c.taken
  pending-len = nothing-left (to_mta lines) core.pending c.answered (owed lines c.taken) counts.answered (owed-le lines c.taken) pending-is

  pub pipe-len : c.taken + length pipe ≡ c.sent
  pipe-len = nothing-left (to_filter lines) pipe c.taken c.sent counts.taken out_le is.on_way

  -- a filter with bytes to answer has taken all that was sent
  pub none_on_way : core.pending ≢ [] → pipe ≡ []
  none_on_way some =
      empty pipe
      (let n = pending-len in
      let l = pipe-len in
      let h = counts.received in
      let s = counts.sent in
      let k : 0 < length core.pending = positive core.pending some in
      let d = owed-due lines c.received c.taken (omega arith) in
      omega arith)
    where
      positive : (xs : List ℕ) → xs ≢ [] → 0 < length xs
      positive [] full = absurd (full refl)
      positive (x ∷ xs) full = omega arith

  module _ (piece rest : List ℕ) (cut : piece ++ rest ≡ pipe) where
    abbrev now : Counts
    now = record c { taken = c.taken + length piece }

    here : IsCut (to_filter lines) piece c.taken c.sent
    here =
        cut-at (to_filter lines) piece rest c.taken c.sent counts.taken out_le
        (ap (λ (l : List ℕ). take c.taken (to_filter lines) ++ l) cut ∙ is.on_way)

    left-is : take (c.taken + length piece) (to_filter lines) ++ rest ≡ take c.sent (to_filter lines)
    left-is =
        rest-at (to_filter lines) piece rest c.taken c.sent here
        (ap (λ (l : List ℕ). take c.taken (to_filter lines) ++ l) cut ∙ is.on_way)

    pub counts-now : AreCounts lines now
    counts-now =
        let m = owed-mono lines c.taken (c.taken + length piece) (omega arith) in
        record {
          not_over = counts.not_over;
          taken = here.within;
          sent = counts.sent;
          received = counts.received;
          answered = let a = counts.answered in omega arith;
        }

    -- it can't fail
    pub fails-not : CoresGiveUp P → core.pending ≡ [] → (fault : Fault)
        → GivesUp b core.order_state (received_in (core.unread ++ piece)) fault → ⊥
    fails-not laws none fault gives =
        let new = laws b (fresh_core_in order policy) core (take c.taken (to_filter lines)) (take c.answered (to_mta lines)) piece fault is.goes_on none gives in
        let over = counts.not_over in
        let w = here.within in
        let state : Failed fault ≡ Serving =
        ap (λ (s : OrderState). s.state) new.order_state
        ∙ ap (λ (l : List ℕ). (order_state_of l).state) (sym here.goes)
        ∙ answers.serves (c.taken + length piece) (omega arith) in
        absurd cc
      where
        order_state_of : List ℕ → OrderState
        order_state_of l = order_state_after b (fresh_in order) (received_in l)

    -- it takes all of the piece
    module _ (laws : CoresTake P) (none : core.pending ≡ []) (n : ℕ) (new : Core P) (takes : Takes b core piece n new) where
      goes-now : GoesOn b (fresh_core_in order policy) (take c.taken (to_filter lines) ++ take n piece) (take c.answered (to_mta lines)) new
      goes-now = laws b (fresh_core_in order policy) core new (take c.taken (to_filter lines)) (take c.answered (to_mta lines)) piece n is.goes_on none takes

      part-is : take (c.taken + n) (to_filter lines) ≡ take c.taken (to_filter lines) ++ take n piece
      part-is =
          let l = length-take-le n piece takes.within in
          let e : c.taken + length (take n piece) ≡ c.taken + n = omega arith in
          let w = takes.within in
          sym (ap (λ (k : ℕ). take k (to_filter lines)) e)
          ∙ (cut-at (to_filter lines) (take n piece) (drop n piece) c.taken (c.taken + length piece) (omega arith)
          (let h = here.within in let o = out_le in omega arith)
          (ap (λ (l : List ℕ). take c.taken (to_filter lines) ++ l) (take-append-drop n piece) ∙ sym here.goes)).goes

      pub all-taken : n ≡ length piece
      all-taken = by_pending new.pending refl
        where
          by_pending : (p : List ℕ) → new.pending ≡ p → n ≡ length piece
          by_pending [] e = takes.all e
          by_pending (byte ∷ bytes) e =
              let p = goes-now.replied ∙ ap (λ (l : List ℕ). flat_map encoding (order_state_replies b (fresh_in order) (received_in l))) (sym part-is) ∙ answers.replied (c.taken + n) in
              let m = owed-mono lines c.taken (c.taken + n) (omega arith) in
              let a = counts.answered in
              let len = nothing-left (to_mta lines) new.pending c.answered (owed lines (c.taken + n)) (omega arith) (owed-le lines (c.taken + n)) p in
              let some = ap length e in
              let h = counts.received in
              let d = owed-due lines c.received (c.taken + n) (omega arith) in
              let s = counts.sent in
              let w = here.within in
              let t = takes.within in
              omega arith

      pub takes-piece : IsFilterAt b order policy lines now new rest
      takes-piece =
          let e = all-taken in
          let same : take n piece ≡ piece = ap (λ (k : ℕ). take k piece) e ∙ take_all (length piece) piece (omega arith) in
          record {
            goes_on = subst (λ (l : List ℕ). GoesOn b (fresh_core_in order policy) l (take c.answered (to_mta lines)) new)
                (ap (λ (l : List ℕ). take c.taken (to_filter lines) ++ l) same ∙ sym here.goes) goes-now;
            on_way = left-is;
          }

-- ---- a piece is answered

abbrev pub CoresSend : Type 0 → Type 0
CoresSend P = (b : Behavior) (old core : Core P) (input sent : List ℕ) (n : ℕ) → GoesOn b old input sent core →
    GoesOn b old input (sent ++ take n core.pending) (record core { pending = drop n core.pending })

module _ {P : Type 0} (b : Behavior) (order : CommandOrder) (policy : P) (lines : List Line) (answers : AnswersLines order b lines) (c : Counts) (counts : AreCounts lines c)
    (core : Core P) (pipe : List ℕ) (is : IsFilterAt b order policy lines c core pipe) (laws : CoresSend P) (n : ℕ) where
  abbrev answered_now : Counts
  answered_now = record c { answered = c.answered + length (take n core.pending) }

  answer-cut : IsCut (to_mta lines) (take n core.pending) c.answered (owed lines c.taken)
  answer-cut =
      cut-at (to_mta lines) (take n core.pending) (drop n core.pending) c.answered (owed lines c.taken) counts.answered (owed-le lines c.taken)
      (ap (λ (l : List ℕ). take c.answered (to_mta lines) ++ l) (take-append-drop n core.pending) ∙ pending-is b order policy lines answers c counts core pipe is)

  pub answers-piece : IsFilterAt b order policy lines answered_now (record core { pending = drop n core.pending }) pipe
  answers-piece =
      record {
        goes_on = subst (λ (l : List ℕ). GoesOn b (fresh_core_in order policy) (take c.taken (to_filter lines)) l (record core { pending = drop n core.pending }))
            (sym answer-cut.goes) (laws b (fresh_core_in order policy) core (take c.taken (to_filter lines)) (take c.answered (to_mta lines)) n is.goes_on);
        on_way = is.on_way;
      }

  pub answered-way : (back : List ℕ) → take c.received (to_mta lines) ++ back ≡ take c.answered (to_mta lines)
      → take c.received (to_mta lines) ++ (back ++ take n core.pending) ≡ take (c.answered + length (take n core.pending)) (to_mta lines)
  answered-way back on_way =
      sym (append_assoc (take c.received (to_mta lines)) back (take n core.pending))
      ∙ ap (λ (l : List ℕ). l ++ take n core.pending) on_way ∙ sym answer-cut.goes

  pub answered-counts : AreCounts lines answered_now
  answered-counts =
      record {
        not_over = counts.not_over;
        taken = counts.taken;
        sent = counts.sent;
        received = let h = counts.received in omega arith;
        answered = answer-cut.within;
      }

-- ---- a piece reaches the mail server

module _ (opened : Mta) (lines : List Line) (follows : SendsLines opened lines) (c : Counts) (counts : AreCounts lines c) (m : Mta)
    (is : IsMtaAt opened lines c m) where
  abbrev here_mta : Mta
  here_mta = (after_at opened lines c.sent c.received).mta

  here-after : after_at opened lines c.sent c.received ≡ goes_on here_mta
  here-after = goes-on (after_at opened lines c.sent c.received) (not_lost lines opened c.sent c.received follows)

  owed_le : c.answered ≤ owed lines c.sent
  owed_le = let a = counts.answered in let e = owed-mono lines c.taken c.sent counts.taken in omega arith

  pub is-owed : c.received ≤ owed lines c.sent
  is-owed = let h = counts.received in let o = owed_le in omega arith

  module _ (back piece rest : List ℕ) (on_way : take c.received (to_mta lines) ++ back ≡ take c.answered (to_mta lines)) (cut : piece ++ rest ≡ back) where
    abbrev received_now : Counts
    received_now = record c { received = c.received + length piece }

    received-cut : IsCut (to_mta lines) piece c.received c.answered
    received-cut =
        cut-at (to_mta lines) piece rest c.received c.answered counts.received (let h = counts.answered in let k = owed-le lines c.taken in omega arith)
        (ap (λ (l : List ℕ). take c.received (to_mta lines) ++ l) cut ∙ on_way)

    pub received-way : take (c.received + length piece) (to_mta lines) ++ rest ≡ take c.answered (to_mta lines)
    received-way =
        rest-at (to_mta lines) piece rest c.received c.answered received-cut
        (ap (λ (l : List ℕ). take c.received (to_mta lines) ++ l) cut ∙ on_way)

    pub received-counts : AreCounts lines received_now
    received-counts =
        record {
          not_over = counts.not_over;
          taken = counts.taken;
          sent = let h = counts.sent in let k = due-mono lines c.received (c.received + length piece) (omega arith) in omega arith;
          received = received-cut.within;
          answered = counts.answered;
        }

    -- what the mail server's end makes of the piece, and that nothing is lost
    pub record IsReceived (after : After) : Type 0 where
      pub goes_on : after ≡ goes_on after.mta
      pub is_at : IsMtaAt opened lines received_now after.mta

    pub receives_bytes-piece : IsReceived (received m piece)
    receives_bytes-piece = by_place is piece received-cut refl
      where
        by_place : IsMtaAt opened lines c m → (bytes : List ℕ) → IsCut (to_mta lines) bytes c.received c.answered → piece ≡ bytes → IsReceived (received m piece)
        by_place (inl e) bytes k same =
            let all : received m piece ≡ after_at opened lines c.sent (c.received + length piece) =
            ap (λ (x : Mta). received x piece) e
            ∙ sym (ap (λ (a : After). fold received_byte a piece) here-after)
            ∙ ap (fold received_byte (after_at opened lines c.sent c.received)) received-cut.is
            ∙ receives_bytes lines opened c.sent c.received (length piece) follows counts.sent (let o = owed_le in let w = received-cut.within in omega arith) in
            record {
              goes_on = goes-on (received m piece) (ap (λ (a : After). a.loss) all ∙ not_lost lines opened c.sent (c.received + length piece) follows);
              is_at = inl (ap (λ (a : After). a.mta) all);
            }
        by_place (inr e) [] k same =
            let nothing : received m piece ≡ goes_on m = ap (received m) same in
            let zero_more : c.received ≡ c.received + length piece = let n = ap length same in omega arith in
            record {
              goes_on = goes-on (received m piece) (ap (λ (a : After). a.loss) nothing);
              is_at = subst (λ (x : Mta). IsMtaAt opened lines received_now x) (sym (ap (λ (a : After). a.mta) nothing))
                  (subst (λ (h : ℕ). IsMtaAt opened lines (record c { received = h }) m) zero_more (inr e));
            }
        by_place (inr e) (byte ∷ bytes) k same =
            absurd (let o = owed_le in let w = k.within in let d = owed-due lines c.received c.sent (omega arith) in let g = e.0 in let f : c.sent < c.sent = omega arith in omega arith)

  -- ---- a piece is sent

  abbrev made_here : Mta
  made_here = advanced here_mta

  pub made-now : advanced m ≡ made_here
  made-now = by_place is
    where
      by_place : IsMtaAt opened lines c m → advanced m ≡ made_here
      by_place (inl e) = ap advanced e
      by_place (inr e) = ap advanced e.1 ∙ advanced-again here_mta

  module _ (adds : AddsUp) (early : c.sent < due lines c.received) where
    pub pending-now : pending (advanced m) ≡ take (packet_end lines c.sent - c.sent) (drop c.sent (to_filter lines))
    pending-now = ap pending made-now ∙ pends adds lines opened c.sent c.received follows early is-owed

    end_le : packet_end lines c.sent ≤ length (to_filter lines)
    end_le = let d = packet_end-due lines c.sent c.received early is-owed in let f = due-le lines c.received in omega arith

    pub pending-length : c.sent + length (pending (advanced m)) ≡ packet_end lines c.sent
    pending-length =
        let p = ap length pending-now in
        let n = packet_end-more lines c.sent c.received early is-owed in
        let l = length-drop c.sent (to_filter lines) in
        let o = end_le in
        let t = length-take-le (packet_end lines c.sent - c.sent) (drop c.sent (to_filter lines)) (omega arith) in
        omega arith

    module _ (k : ℕ) (le : k ≤ length (pending (advanced m))) where
      abbrev sent_now : Counts
      sent_now = record c { sent = c.sent + k }

      within : c.sent + k ≤ packet_end lines c.sent
      within = let p = pending-length in omega arith

      pub sends-piece : IsMtaAt opened lines sent_now (sent k (advanced m))
      sends-piece = by_count k refl
        where
          by_count : (j : ℕ) → k ≡ j → IsMtaAt opened lines sent_now (sent k (advanced m))
          by_count zero e =
              let same : c.sent ≡ c.sent + k = omega arith in
              subst (λ (x : Mta). IsMtaAt opened lines sent_now x) (sym (ap (λ (j : ℕ). sent j (advanced m)) e ∙ sent-nothing (advanced m) ∙ made-now))
              (subst (λ (s : ℕ). IsMtaAt opened lines (record c { sent = s }) made_here) same (inr (early, refl)))
          by_count (suc j) e =
              inl (ap (sent k) made-now ∙ ap (λ (a : After). a.mta) (sends adds lines opened c.sent c.received k follows early is-owed (omega arith) within))

      -- on its way to the filter
      pub sent-way : (pipe : List ℕ) → take c.taken (to_filter lines) ++ pipe ≡ take c.sent (to_filter lines)
          → take c.taken (to_filter lines) ++ (pipe ++ take k (pending (advanced m))) ≡ take (c.sent + k) (to_filter lines)
      sent-way pipe on_way =
          let p = pending-length in
          let piece : take k (pending (advanced m)) ≡ take k (drop c.sent (to_filter lines)) =
          ap (take k) pending-now ∙ take-take k (packet_end lines c.sent - c.sent) (drop c.sent (to_filter lines)) (omega arith) in
          sym (append_assoc (take c.taken (to_filter lines)) pipe (take k (pending (advanced m))))
          ∙ ap (λ (l : List ℕ). l ++ take k (pending (advanced m))) on_way
          ∙ ap (λ (l : List ℕ). take c.sent (to_filter lines) ++ l) piece
          ∙ sym (take-add c.sent k (to_filter lines))

      pub sent-counts : c.sent + k < length (to_filter lines) → AreCounts lines sent_now
      sent-counts more =
          let d = packet_end-due lines c.sent c.received early is-owed in
          let w = within in
          record {
            not_over = more;
            taken = let t = counts.taken in omega arith;
            sent = omega arith;
            received = counts.received;
            answered = counts.answered;
          }
