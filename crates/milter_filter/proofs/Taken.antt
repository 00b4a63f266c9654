-- What is taken of a piece, and where the conversation stands then.
use Rattle.std.proofs.Common.{◌≡◌, ◌≢◌, ℕ, List, [], ◌∷◌, ◌++◌, take, drop, Option, None, Some, map, refl, sym, ◌∙◌, ap, subst, append-nil, take-append-drop, arith}
use Rattle.std.proofs.lemmas.List.{drop_all}
use Rattle.std.proofs.KnownBytes.{Appends-nil, Consumes-nil}
use Rattle.milter_fields.specs.Stream.{IsUnfinished}
use Rattle.milter_wire.specs.declared.stage.Stage.{Stage}
use Rattle.milter_protocol.specs.declared.filter_fault.FilterFault.{FilterFault}
use Rattle.milter_protocol.specs.declared.filter_fault.FilterFault.TheVariants as faults
use Rattle.milter_protocol.specs.declared.filter_fault.FilterState.{FilterState}
use Rattle.milter_protocol.specs.declared.filter_fault.FilterState.TheVariants.{Failed, Quit, Serving}
use Rattle.milter_protocol.specs.Questions.{Came, Event, IsTaking}
use Rattle.milter_filter_stream.specs.declared.filter_stream.NextStep.TheVariants.{Feed}
use Rattle.milter_filter_stream.specs.Conversations.{Conversation, GivesUpIn, TakesIn, given_up_in, next_step}
use Rattle.milter_filter_stream.specs.Streams.{received_in}
use Rattle.milter_filter.specs.declared.turn.Served.TheVariants as ends
use Rattle.milter_filter.specs.declared.turn.Turn.{Turn}
use Rattle.milter_filter.specs.declared.turn.Turn.TheVariants as turns
use Rattle.milter_filter.specs.ServedPieces.{Writes}
use Rattle.milter_filter.specs.Connections.{Connected, EndsBy, GoesBy, GoesFrom, GoesIn, IsOpen, IsOver, IsServing, StandsAt, Stops, TurnsBy, connected}
use Rattle.milter_protocol.proofs.FilterStates.{failed_serving, quit_serving}
use Rattle.milter_filter.proofs.ConversationInputs.{goes_on-gives_up, goes_on-stays, goes_on-takes}
use Rattle.milter_filter.proofs.Turns.{goes_on-written, nothing-goes, serving-goes, serving-opens}

-- ---- what comes next

pub step-feed : (pending : List ℕ) (asked : Option Stage) (state : FilterState) → next_step pending asked state ≡ Feed → (pending ≡ []) × (asked ≡ None) × (state ≡ Serving)
step-feed (byte ∷ pending) asked state e = absurd cc
step-feed [] (Some stage) state e = absurd cc
step-feed [] None Serving e = (refl, refl, refl)
step-feed [] None Quit e = absurd cc
step-feed [] None (Failed fault) e = absurd cc

feeds : (c : Conversation) → c.pending ≡ [] → c.state.asked ≡ None → c.state.order_state.state ≡ Serving → next_step c.pending c.state.asked c.state.order_state.state ≡ Feed
feeds c none unasked serving = λ i. next_step (none i) (unasked i) (serving i)

none-left : (sent pending : List ℕ) → sent ++ pending ≡ [] → pending ≡ []
none-left [] pending e = e
none-left (x ∷ xs) pending e = absurd cc

some_none : (stage : Stage) (asked : Option Stage) → asked ≡ Some stage → asked ≡ None → ⊥
some_none stage asked is none = let no : Some stage ≡ None = sym is ∙ none in absurd cc

-- ---- where it stands

-- it serves and isn't fed
pub waits-stops : (c : Conversation) (waiting : List ℕ) → c.state.order_state.state ≡ Serving → next_step c.pending c.state.asked c.state.order_state.state ≢ Feed → Stops c waiting
waits-stops c waiting serving other = record {
  whole = λ none unasked. absurd (other (feeds c none unasked serving));
  going = λ fault failed. failed_serving fault (sym failed ∙ serving);
  replies = λ some. serving;
  asks = λ some. serving;
}

-- it took the first bytes of a piece, and isn't fed
module _ (c mid new : Conversation) (piece : List ℕ) (n : ℕ) (w v : Option (List ℕ)) (t : TakesIn c piece n mid) (is : new ≡ record mid { pending = new.pending }) (writes : Writes mid.pending new.pending w v) where
  same : new.state ≡ mid.state
  same = ap (λ (x : Conversation). x.state) is

  serving-now : mid.state.order_state.state ≡ Serving → new.state.order_state.state ≡ Serving
  serving-now is = ap (λ s. s.order_state.state) same ∙ is

  pub taken-stops : next_step new.pending new.state.asked new.state.order_state.state ≢ Feed → Stops new (drop n piece)
  taken-stops other = record {
    whole = λ none unasked. by_whole none unasked mid.state.order_state.state refl;
    going = λ fault failed. t.going fault (ap (λ s. s.order_state.state) (sym same) ∙ failed);
    replies = λ some. by_replies some mid.state.order_state.state refl;
    asks = λ some. serving-now (t.asks_alone (λ none. some (ap (λ s. s.asked) same ∙ none))).0;
  }
    where
      by_whole : new.pending ≡ [] → new.state.asked ≡ None → (state : FilterState) → mid.state.order_state.state ≡ state → drop n piece ≡ []
      by_whole none unasked Serving is = absurd (other (feeds new none unasked (serving-now is)))
      by_whole none unasked Quit ended = drop_all n piece (let all = t.quit (λ serving. quit_serving (sym ended ∙ serving)) in omega (arith, all))
      by_whole none unasked (Failed fault) is = absurd (t.going fault is)

      by_replies : new.pending ≢ [] → (state : FilterState) → mid.state.order_state.state ≡ state → new.state.order_state.state ≡ Serving
      by_replies some Serving is = serving-now is
      by_replies some Quit ended =
          absurd (some (none-left writes.sent new.pending (writes.whole ∙ t.silent (λ serving. quit_serving (sym ended ∙ serving)))))
      by_replies some (Failed fault) is = absurd (t.going fault is)

  pub taken-serves : new.state.order_state.state ≡ Serving → IsServing new
  taken-serves serving = record { serving = serving; unfinished = subst (λ (x : Conversation). IsUnfinished x.unread) (sym is) t.unfinished }

-- ---- what was taken

-- of a piece that waited
pub piece-by : (c new : Conversation) (events : List Event) (taken others piece : List ℕ) (rest w v : Option (List ℕ)) → taken ++ others ≡ piece → GoesIn c events taken new w v → GoesFrom (connected c piece) events rest rest w v (connected new others)
piece-by c new events taken others piece rest w v parts g =
    record { input = []; taken = taken; was_read = Consumes-nil rest; taken_is = parts ∙ sym (append-nil piece); goes = g }

nothing-from : (c : Conversation) (piece : List ℕ) (rest w : Option (List ℕ)) → IsServing c → GoesFrom (connected c piece) [] rest rest w w (connected c piece)
nothing-from c piece rest w s = piece-by c c [] [] piece piece rest w w refl (nothing-goes c w s)

pub nothing-by : (c : Conversation) (piece : List ℕ) (rest w : Option (List ℕ)) → IsServing c → GoesBy (connected c piece) rest rest w w (connected c piece)
nothing-by c piece rest w s = ([], nothing-from c piece rest w s)

module _ (c : Conversation) (piece : List ℕ) (rest : Option (List ℕ)) (s : IsServing c) (taking : IsTaking c.state) (none : c.pending ≡ []) where
  pub taken-by : (mid new : Conversation) (n : ℕ) (w v : Option (List ℕ)) → TakesIn c piece n mid → new ≡ record mid { pending = new.pending } → Writes mid.pending new.pending w v → GoesBy (connected c piece) rest rest w v (connected new (drop n piece))
  taken-by mid new n w v t is writes =
      let received = received_in (c.unread ++ take n piece) in
      let takes = goes_on-takes c c [] [] [] (goes_on-stays c s.serving s.unfinished) mid piece n taking none t in (
        received,
        piece-by c new (map Came received) (take n piece) (drop n piece) piece rest w v (take-append-drop n piece) (record {
          sent = writes.sent;
          goes_on = goes_on-written c mid new (map Came received) (take n piece) [] writes.sent takes is writes.whole;
          was_written = writes.was_written;
        }),
      )

  pub given_up-by : (fault : FilterFault) (w : Option (List ℕ)) → (fault ≢ faults.NoMemory → GivesUpIn c.wanted c.state (received_in (c.unread ++ piece)) fault) → EndsBy (connected c piece) rest rest w w (ends.Failed fault)
  given_up-by fault w cause = by_fault fault cause
    where
      known : (f : FilterFault) → f ≢ faults.NoMemory → GivesUpIn c.wanted c.state (received_in (c.unread ++ piece)) f → EndsBy (connected c piece) rest rest w w (ends.Failed f)
      known f other g =
          let received = received_in (c.unread ++ piece) in (
            received,
            (
              λ same. record {
                new = connected (given_up_in c f) [];
                completes = record {
                  goes =
                      piece-by c (given_up_in c f) (map Came received) piece [] piece rest w w (append-nil piece)
                      (record { sent = []; goes_on = goes_on-gives_up c c [] [] [] (goes_on-stays c s.serving s.unfinished) piece f taking none g; was_written = Appends-nil w });
                  done = record { nothing_pending = refl; nothing_waiting = refl; no_question = refl };
                };
                state_is = refl;
              },
              λ refused. absurd (other refused),
            ),
          )

      by_fault : (f : FilterFault) → (f ≢ faults.NoMemory → GivesUpIn c.wanted c.state (received_in (c.unread ++ piece)) f) → EndsBy (connected c piece) rest rest w w (ends.Failed f)
      by_fault faults.NoMemory cause = ([], (λ other. absurd (other refl), λ refused. (connected c piece, nothing-from c piece rest w s)))
      by_fault faults.NotNegotiated cause = let other : faults.NotNegotiated ≢ faults.NoMemory = λ e. absurd cc in known faults.NotNegotiated other (cause other)
      by_fault faults.Version cause = let other : faults.Version ≢ faults.NoMemory = λ e. absurd cc in known faults.Version other (cause other)
      by_fault faults.OutOfOrder cause = let other : faults.OutOfOrder ≢ faults.NoMemory = λ e. absurd cc in known faults.OutOfOrder other (cause other)
      by_fault faults.TooMuch cause = let other : faults.TooMuch ≢ faults.NoMemory = λ e. absurd cc in known faults.TooMuch other (cause other)
      by_fault (faults.Wire f) cause = let other : faults.Wire f ≢ faults.NoMemory = λ e. absurd cc in known (faults.Wire f) other (cause other)
      by_fault faults.NegotiatedTwice cause = let other : faults.NegotiatedTwice ≢ faults.NoMemory = λ e. absurd cc in known faults.NegotiatedTwice other (cause other)

-- ---- how a turn goes on

-- while a question is open a turn reads nothing
pub stands-asked : (c : Conversation) (stage : Stage) (turn : Turn) → StandsAt c turn → c.state.asked ≡ Some stage → turn ≢ turns.Again
stands-asked c stage turn at is again =
    let taking = (subst (StandsAt c) again at).1 in
    some_none stage c.state.asked is taking.unasked

module _ (old : Connected) (c : Conversation) (waiting : List ℕ) (unread left w v : Option (List ℕ)) (g : GoesBy old unread left w v (connected c waiting)) (stops : Stops c waiting) where
  opens : c.state.order_state.state ≡ Serving → IsOpen (connected c waiting)
  opens serving = serving-opens c waiting (serving-goes old.conversation c (map Came g.0) g.1.taken w v g.1.goes serving)

  pub stands-turns : (turn : Turn) → StandsAt c turn → TurnsBy old unread left w v (connected c waiting) turn
  stands-turns turns.Again at = (
    g.0,
    (
      record { goes = g.1; done = record { nothing_pending = at.0; nothing_waiting = stops.whole at.0 at.1.unasked; no_question = at.1.unasked } },
      opens at.1.serving,
    ),
  )
  stands-turns turns.AwaitsInput at = absurd at
  stands-turns turns.AwaitsOutput at = (g.0, (g.1, at, opens (stops.replies at)))
  stands-turns (turns.AwaitsAnswer stage) at = (g.0, (g.1, at, opens (stops.asks (some_none stage c.state.asked at.question))))
  stands-turns (turns.Ended end) at = absurd at

  pub over-ends : IsOver c → EndsBy old unread left w v ends.Quit
  over-ends over = (
    g.0,
    record {
      new = connected c waiting;
      completes = record {
        goes = g.1;
        done = record { nothing_pending = over.nothing_pending; nothing_waiting = stops.whole over.nothing_pending over.no_question; no_question = over.no_question };
      };
      state_is = by_state c.state.order_state.state refl;
    },
  )
    where
      by_state : (state : FilterState) → c.state.order_state.state ≡ state → c.state.order_state.state ≡ Quit
      by_state Serving is = absurd (over.ended is)
      by_state Quit is = is
      by_state (Failed fault) is = absurd (stops.going fault is)
