-- What serving a connection does, piece by piece.
use Rattle.std.proofs.Common.{◌≡◌, ◌≢◌, ℕ, List, [], ◌++◌, length, take, Option, refl, sym, ◌∙◌, ap, subst, append_assoc, append-nil}
use Rattle.std.specs.Io.KnownBytes.{Appends, Consumes, IsAtEnd, Keeps}
use Rattle.std.proofs.KnownBytes.{Appends-nil, Appends-trans, Consumes-kept, Consumes-nil, Consumes-trans}
use Rattle.milter_fields.specs.Stream.{IsUnfinished, divide}
use Rattle.milter_protocol.specs.Behavior.{Behavior}
use Rattle.milter_protocol.specs.declared.stage_order.CommandOrder.{CommandOrder}
use Rattle.milter_protocol.specs.declared.filter_fault.FilterFault.{FilterFault}
use Rattle.milter_protocol.specs.declared.filter_fault.FilterState.{FilterState}
use Rattle.milter_protocol.specs.declared.filter_fault.FilterState.TheVariants.{Failed, Quit, Serving}
use Rattle.milter_protocol.specs.OrderStates.{OrderState}
use Rattle.milter_protocol.proofs.FilterStates.{quit_serving}
use Rattle.milter_filter.specs.declared.turn.Served.{Served}
use Rattle.milter_filter.specs.declared.turn.Served.TheVariants as ends
use Rattle.milter_filter.specs.Cores.{Core, GivesUp, GoesOn, Takes, fresh_core_in, given_up}
use Rattle.milter_filter.specs.ServedPieces.{CutOff, Goes, PieceCut, PieceServed, Writes}
use Rattle.milter_filter.specs.ServedConnections.{RepliedAs, RepliedInPart, RepliedToPart, Serves}
use Rattle.milter_filter_stream.specs.Streams.{filter_end_of, received_in, reply_bytes}
use Rattle.milter_filter.proofs.CutInputs.{goes_on-gives_up, goes_on-joins, goes_on-takes, replies-add, replies-from, state-from, stays}

-- ---- the states of a connection

pub serving-or-quit : (s : OrderState) → ((fault : FilterFault) → s.state ≢ Failed fault) → s.state ≢ Quit → s.state ≡ Serving
serving-or-quit s going on = by_state s.state refl
  where
    by_state : (state : FilterState) → s.state ≡ state → s.state ≡ Serving
    by_state Serving is = is
    by_state Quit is = absurd (on is)
    by_state (Failed fault) is = absurd (going fault is)

module _ {P : Type 0} where
  -- ---- a part of a piece after the other

  -- what was written is off what waits
  pub goes_on-written : (b : Behavior) (old core new : Core P) (input sent part : List ℕ) → GoesOn b old input sent core → new ≡ record core { pending = new.pending }
      → part ++ new.pending ≡ core.pending → GoesOn b old input (sent ++ part) new
  goes_on-written b old core new input sent part p is whole = subst (GoesOn b old input (sent ++ part)) (sym is) (record {
    policy = p.policy;
    order_state = p.order_state;
    replied = append_assoc sent part new.pending ∙ ap (λ xs. sent ++ xs) whole ∙ p.replied;
    unread = p.unread;
    unfinished = p.unfinished;
    nothing_unread = p.nothing_unread;
    at_fault = p.at_fault;
  })

  pub goes-none : (b : Behavior) (core : Core P) (a : Option (List ℕ)) → IsUnfinished core.unread → core.order_state.state ≡ Serving → Goes b core [] core a a
  goes-none b core a unfinished serving = record {
    sent = [];
    goes_on = stays b core unfinished serving;
    was_written = Appends-nil a;
  }

  pub goes-joins : (b : Behavior) (old mid new : Core P) (input more : List ℕ) (w v u : Option (List ℕ)) → Goes b old input mid w v → Goes b mid more new v u
      → Goes b old (input ++ more) new w u
  goes-joins b old mid new input more w v u p q = record {
    sent = p.sent ++ q.sent;
    goes_on = goes_on-joins b old mid new input p.sent more q.sent p.goes_on q.goes_on;
    was_written = Appends-trans w v u _ _ p.was_written q.was_written;
  }

  module _ (b : Behavior) (old core : Core P) (taken : List ℕ) (w v : Option (List ℕ)) (p : Goes b old taken core w v) (none : core.pending ≡ []) where
    pub goes-step : (mid new : Core P) (rest : List ℕ) (n : ℕ) (u : Option (List ℕ)) → Takes b core rest n mid → new ≡ record mid { pending = new.pending } → Writes mid.pending new.pending v u
        → Goes b old (taken ++ take n rest) new w u
    goes-step mid new rest n u t is s = record {
      sent = p.sent ++ s.sent;
      goes_on = goes_on-written b old mid new (taken ++ take n rest) p.sent s.sent (goes_on-takes b old core taken p.sent p.goes_on mid rest n none t) is s.whole;
      was_written = Appends-trans w v u _ _ p.was_written s.was_written;
    }

    pub goes-failed : (rest : List ℕ) (fault : FilterFault) → GivesUp b core.order_state (received_in (core.unread ++ rest)) fault → Goes b old (taken ++ rest) (given_up old fault) w v
    goes-failed rest fault g = record {
      sent = p.sent;
      goes_on =
          subst (λ policy. GoesOn b old (taken ++ rest) p.sent (record (given_up core fault) { policy = policy })) p.goes_on.policy
          (goes_on-gives_up b old core taken p.sent p.goes_on rest fault none g);
      was_written = p.was_written;
    }

  -- before the end of a piece the mail server has not quit
  pub still-serving : (b : Behavior) (core mid : Core P) (rest : List ℕ) (n : ℕ) → Takes b core rest n mid → n ≢ length rest → mid.order_state.state ≡ Serving
  still-serving b core mid rest n t within = by_state mid.order_state.state refl
    where
      by_state : (state : FilterState) → mid.order_state.state ≡ state → mid.order_state.state ≡ Serving
      by_state Serving is = is
      by_state Quit is = absurd (within (t.quit (λ serving. quit_serving (sym is ∙ serving))))
      by_state (Failed fault) is = absurd (t.going fault is)

  -- ---- what was served so far

  -- these bytes were read, and all replies to them are written
  pub record ServedSoFar (order : CommandOrder) (b : Behavior) (policy : P) (new : Core P) (unread left written all : Option (List ℕ)) : Type 0 where
    pub input : List ℕ
    pub was_read : Consumes unread left input
    pub goes : Goes b (fresh_core_in order policy) input new written all
    pub nothing_pending : new.pending ≡ []
    pub serving : new.order_state.state ≡ Serving

  pub served-none : (order : CommandOrder) (b : Behavior) (policy : P) (a w : Option (List ℕ)) → ServedSoFar order b policy (fresh_core_in order policy) a a w w
  served-none order b policy a w = record {
    input = [];
    was_read = Consumes-nil a;
    goes = goes-none b (fresh_core_in order policy) w tt refl;
    nothing_pending = refl;
    serving = refl;
  }

  pub served-more : (order : CommandOrder) (b : Behavior) (policy : P) (core new : Core P) (a c d w v u : Option (List ℕ)) (piece : List ℕ) → ServedSoFar order b policy core a c w v → Consumes c d piece
      → PieceServed b core piece new v u → new.order_state.state ≢ Quit → ServedSoFar order b policy new a d w u
  served-more order b policy core new a c d w v u piece s read p on = record {
    input = s.input ++ piece;
    was_read = Consumes-trans a c d _ _ s.was_read read;
    goes = goes-joins b (fresh_core_in order policy) core new s.input piece w v u s.goes p.goes;
    nothing_pending = p.nothing_pending;
    serving = serving-or-quit new.order_state p.going on;
  }

  -- ---- what it comes to

  module _ (order : CommandOrder) (b : Behavior) (policy : P) (input : List ℕ) (core : Core P) (w v : Option (List ℕ)) (p : Goes b (fresh_core_in order policy) input core w v) where
    pub state-is : (filter_end_of order b input).state ≡ core.order_state.state
    state-is = state-from b order policy core input p.sent p.goes_on

    pub replies-are : p.sent ++ core.pending ≡ reply_bytes order b input
    replies-are = replies-from b order policy core input p.sent p.goes_on

    pub all-written : core.pending ≡ [] → Appends w v (reply_bytes order b input)
    all-written none = subst (Appends w v) (sym (append-nil p.sent) ∙ ap (λ xs. p.sent ++ xs) (sym none) ∙ replies-are) p.was_written

    pub replied-as : (a c : Option (List ℕ)) (state : FilterState) → Consumes a c input → core.pending ≡ [] → core.order_state.state ≡ state → RepliedAs state order b a c w v
    replied-as a c state read none is = (record { input = input; was_read = read; was_written = all-written none }, state-is ∙ is)

    pub replied-in_part : (a c : Option (List ℕ)) (others : List ℕ) → Consumes a c (input ++ others) → RepliedInPart order b a c w v
    replied-in_part a c others read =
        let added = replies-add b order input others in
        record {
          input = input ++ others;
          sent = p.sent;
          unsent = core.pending ++ added.0;
          was_read = read;
          was_written = p.was_written;
          prefix = sym (append_assoc p.sent core.pending added.0) ∙ ap (λ xs. xs ++ added.0) replies-are ∙ sym added.1;
        }

    pub replied-to_part : (a c : Option (List ℕ)) (others all : List ℕ) → Consumes a c all → core.pending ≡ [] → input ++ others ≡ all → RepliedToPart order b a c w v
    replied-to_part a c others all read none is =
        record { input = all; answered = input; others = others; was_read = read; was_written = all-written none; prefix = is }

  module _ (order : CommandOrder) (b : Behavior) (policy : P) (core : Core P) (a c w v : Option (List ℕ)) (s : ServedSoFar order b policy core a c w v) where
    -- no more was read
    pub served-kept : (d : Option (List ℕ)) → Keeps c d → RepliedAs Serving order b a d w v
    served-kept d kept = replied-as order b policy s.input core w v s.goes a d Serving (Consumes-kept a c d _ s.was_read kept) s.nothing_pending s.serving

    pub served-end : (d : Option (List ℕ)) (count : ℕ) → Consumes c d [] → IsAtEnd d → count ≡ length core.unread
        → (x : RepliedAs Serving order b a d w v) × (length (divide x.0.input).rest ≡ count) × IsAtEnd d
    unfolding replied-as
    served-end d count none end is =
        let read = subst (Consumes a d) (append-nil s.input) (Consumes-trans a c d _ _ s.was_read none) in (
          replied-as order b policy s.input core w v s.goes a d Serving read s.nothing_pending s.serving,
          ap length (sym (s.goes.goes_on.unread s.serving)) ∙ sym is,
          end,
        )

    module _ (d u : Option (List ℕ)) (piece : List ℕ) (read : Consumes c d piece) where
      all-read : Consumes a d (s.input ++ piece)
      all-read = Consumes-trans a c d _ _ s.was_read read

      pub served-quit : (new : Core P) → PieceServed b core piece new v u → new.order_state.state ≡ Quit → RepliedAs Quit order b a d w u
      served-quit new p quit =
          let goes = goes-joins b (fresh_core_in order policy) core new s.input piece w v u s.goes p.goes in
          replied-as order b policy (s.input ++ piece) new w u goes a d Quit all-read p.nothing_pending quit

      served-failed : (fault : FilterFault) → Goes b core piece (given_up core fault) v u → RepliedAs (Failed fault) order b a d w u
      served-failed fault p =
          let goes = goes-joins b (fresh_core_in order policy) core (given_up core fault) s.input piece w v u s.goes p in
          replied-as order b policy (s.input ++ piece) (given_up core fault) w u goes a d (Failed fault) all-read refl refl

      served-refused : (new : Core P) → PieceCut b core piece new v u → new.pending ≡ [] → RepliedToPart order b a d w u
      served-refused new p none =
          let goes = goes-joins b (fresh_core_in order policy) core new s.input p.taken w v u s.goes p.goes in
          replied-to_part order b policy (s.input ++ p.taken) new w u goes a d p.others (s.input ++ piece) all-read none
          (append_assoc s.input p.taken p.others ∙ ap (λ xs. s.input ++ xs) p.piece_is)

      served-stuck : (new : Core P) → PieceCut b core piece new v u → RepliedInPart order b a d w u
      served-stuck new p =
          let goes = goes-joins b (fresh_core_in order policy) core new s.input p.taken w v u s.goes p.goes in
          let all = append_assoc s.input p.taken p.others ∙ ap (λ xs. s.input ++ xs) p.piece_is in
          replied-in_part order b policy (s.input ++ p.taken) new w u goes a d p.others (subst (Consumes a d) (sym all) all-read)

      pub served-cut : (end : Served) → CutOff b core piece v u end → Serves order b a d w u end
      served-cut (ends.Failed fault) cut = (
        λ other. served-failed fault (cut.0 other),
        λ refused. let x = cut.1 refused in served-refused x.0 x.1 x.2,
      )
      served-cut ends.WriteFault cut = served-stuck cut.0 cut.1
      served-cut ends.Quit cut = absurd cut
      served-cut (ends.Ended count) cut = absurd cut
      served-cut ends.ReadFault cut = absurd cut
      served-cut ends.TurnLimit cut = absurd cut

  -- memory was refused before anything was read
  pub refused-first : (order : CommandOrder) (b : Behavior) (policy : P) (a w : Option (List ℕ)) → RepliedToPart order b a a w w
  unfolding goes-none
  refused-first order b policy a w = record {
    input = [];
    answered = [];
    others = [];
    was_read = Consumes-nil a;
    was_written = subst (Appends w w) (sym nothing) (Appends-nil w);
    prefix = refl;
  }
    where
      nothing : reply_bytes order b [] ≡ []
      nothing = sym (replies-are order b policy [] (fresh_core_in order policy) w w (goes-none b (fresh_core_in order policy) w tt refl))
