-- What the parts of a turn come to, one after the other.
use Rattle.std.proofs.Common.{◌≡◌, ℕ, List, [], ◌++◌, Option, map, Result, Ok, Err, IfOk, IfErr, refl, sym, ◌∙◌, ap, subst, append_assoc, append-nil}
use Rattle.std.proofs.lemmas.List.{map-append}
use Rattle.std.specs.Io.KnownBytes.{Consumes}
use Rattle.std.proofs.KnownBytes.{Appends-nil, Appends-trans, Consumes-nil, Consumes-trans}
use Rattle.milter_protocol.specs.declared.filter_fault.FilterState.{FilterState}
use Rattle.milter_protocol.specs.declared.filter_fault.FilterState.TheVariants as states
use Rattle.milter_protocol.specs.Questions.{Came, Event}
use Rattle.milter_filter_stream.specs.Conversations.{Conversation, GoesOnIn}
use Rattle.milter_filter.specs.declared.turn.Served.{Served}
use Rattle.milter_filter.specs.declared.turn.Served.TheVariants.{Quit, Ended, Failed, ReadFault, WriteFault, TurnLimit}
use Rattle.milter_filter.specs.declared.turn.Turn.{Turn}
use Rattle.milter_filter.specs.declared.turn.Turn.TheVariants as turns
use Rattle.milter_filter.specs.ServedPieces.{Writes}
use Rattle.milter_filter.specs.Connections.{Completes, CompletesAs, Connected, EndsAs, EndsBy, GoesBy, GoesIn, GoesFrom, IsDone, IsOpen, IsServing, Turns, TurnsBy, connected}
use Rattle.milter_filter.proofs.ConversationInputs.{goes_on-joins, goes_on-stays}

-- ---- a conversation

pub serving-goes : (old new : Conversation) (events : List Event) (input : List ℕ) (w v : Option (List ℕ)) → GoesIn old events input new w v → new.state.order_state.state ≡ states.Serving → IsServing new
serving-goes old new events input w v g serving = record { serving = serving; unfinished = g.goes_on.unfinished serving }

pub nothing-goes : (c : Conversation) (w : Option (List ℕ)) → IsServing c → GoesIn c [] [] c w w
nothing-goes c w s = record { sent = []; goes_on = goes_on-stays c s.serving s.unfinished; was_written = Appends-nil w }

pub goes-joins : (old mid new : Conversation) (events these : List Event) (input more : List ℕ) (w v u : Option (List ℕ)) → GoesIn old events input mid w v → mid.state.order_state.state ≡ states.Serving → GoesIn mid these more new v u
    → GoesIn old (events ++ these) (input ++ more) new w u
goes-joins old mid new events these input more w v u p serving q = record {
  sent = p.sent ++ q.sent;
  goes_on = goes_on-joins old mid new events these input p.sent more q.sent p.goes_on q.goes_on serving;
  was_written = Appends-trans w v u _ _ p.was_written q.was_written;
}

-- what was written is off what is pending
pub goes_on-written : (old mid new : Conversation) (events : List Event) (input sent part : List ℕ) → GoesOnIn old events input sent mid → new ≡ record mid { pending = new.pending } → part ++ new.pending ≡ mid.pending
    → GoesOnIn old events input (sent ++ part) new
goes_on-written old mid new events input sent part p is whole = subst (GoesOnIn old events input (sent ++ part)) (sym is) (record {
  wanted = p.wanted;
  commands = p.commands;
  in_turn = p.in_turn;
  state = p.state;
  replied = append_assoc sent part new.pending ∙ ap (λ xs. sent ++ xs) whole ∙ p.replied;
  unread = p.unread;
  unfinished = p.unfinished;
  nothing_unread = p.nothing_unread;
  at_fault = p.at_fault;
})

pub sent-goes : (c new : Conversation) (w v : Option (List ℕ)) → IsServing c → new ≡ record c { pending = new.pending } → Writes c.pending new.pending w v → GoesIn c [] [] new w v
sent-goes c new w v s is writes = record {
  sent = writes.sent;
  goes_on = goes_on-written c c new [] [] [] writes.sent (goes_on-stays c s.serving s.unfinished) is writes.whole;
  was_written = writes.was_written;
}

pub sent-serves : (c new : Conversation) → IsServing c → new ≡ record c { pending = new.pending } → IsServing new
sent-serves c new s is = subst IsServing (sym is) (record { serving = s.serving; unfinished = s.unfinished })

-- ---- a connection

pub from-joins : (old between new : Connected) (events these : List Event) (unread rest left w v u : Option (List ℕ)) → GoesFrom old events unread rest w v between → between.conversation.state.order_state.state ≡ states.Serving
    → GoesFrom between these rest left v u new → GoesFrom old (events ++ these) unread left w u new
from-joins old between new events these unread rest left w v u p serving q = record {
  input = p.input ++ q.input;
  taken = p.taken ++ q.taken;
  was_read = Consumes-trans unread rest left _ _ p.was_read q.was_read;
  taken_is =
      append_assoc p.taken q.taken new.waiting
      ∙ ap (λ xs. p.taken ++ xs) q.taken_is
      ∙ sym (append_assoc p.taken between.waiting q.input)
      ∙ ap (λ xs. xs ++ q.input) p.taken_is
      ∙ append_assoc old.waiting p.input q.input;
  goes = goes-joins old.conversation between.conversation new.conversation events these p.taken q.taken w v u p.goes serving q.goes;
}

module _ (old between : Connected) (events these : List Event) (unread rest left w v u : Option (List ℕ)) (p : GoesFrom old events unread rest w v between) (serving : between.conversation.state.order_state.state ≡ states.Serving) where
  completes-joins : (new : Connected) → Completes between these rest left v u new → Completes old (events ++ these) unread left w u new
  completes-joins new q = record { goes = from-joins old between new events these unread rest left w v u p serving q.goes; done = q.done }

  as-joins : (state : FilterState) → CompletesAs state between these rest left v u → CompletesAs state old (events ++ these) unread left w u
  as-joins state q = record { new = q.new; completes = completes-joins q.new q.completes; state_is = q.state_is }

  pub ends-join : (end : Served) → EndsAs between these rest left v u end → EndsAs old (events ++ these) unread left w u end
  unfolding as-joins
  ends-join Quit e = as-joins states.Quit e
  ends-join (Ended count) e = (as-joins states.Serving e.0, e.1, e.2)
  ends-join (Failed fault) e = (
    λ other. as-joins (states.Failed fault) (e.0 other),
    λ refused. let x = e.1 refused in (x.0, from-joins old between x.0 events these unread rest left w v u p serving x.1),
  )
  ends-join ReadFault e = as-joins states.Serving e
  ends-join WriteFault e = (e.0, from-joins old between e.0 events these unread rest left w v u p serving e.1)
  ends-join TurnLimit e = absurd e

  pub turns-join : (new : Connected) (turn : Turn) → Turns between these rest left v u new turn → Turns old (events ++ these) unread left w u new turn
  turns-join new turns.Again t = (completes-joins new t.0, t.1)
  turns-join new turns.AwaitsInput t = (completes-joins new t.0, t.1)
  turns-join new turns.AwaitsOutput t = (from-joins old between new events these unread rest left w v u p serving t.0, t.1, t.2)
  turns-join new (turns.AwaitsAnswer stage) t = (from-joins old between new events these unread rest left w v u p serving t.0, t.1, t.2)
  turns-join new (turns.Ended end) t = (ends-join end t.0, t.1)

-- ---- by the commands that come

module _ (old between : Connected) (unread rest left w v u : Option (List ℕ)) (p : GoesBy old unread rest w v between) (serving : between.conversation.state.order_state.state ≡ states.Serving) where
  pub by-joins : (new : Connected) → GoesBy between rest left v u new → GoesBy old unread left w u new
  by-joins new q = (
    p.0 ++ q.0,
    subst (λ events. GoesFrom old events unread left w u new) (sym (map-append Came p.0 q.0))
        (from-joins old between new (map Came p.0) (map Came q.0) unread rest left w v u p.1 serving q.1),
  )

  pub ends-by : (end : Served) → EndsBy between rest left v u end → EndsBy old unread left w u end
  ends-by end q = (
    p.0 ++ q.0,
    subst (λ events. EndsAs old events unread left w u end) (sym (map-append Came p.0 q.0))
        (ends-join old between (map Came p.0) (map Came q.0) unread rest left w v u p.1 serving end q.1),
  )

  pub turns-by : (new : Connected) (turn : Turn) → TurnsBy between rest left v u new turn → TurnsBy old unread left w u new turn
  turns-by new turn q = (
    p.0 ++ q.0,
    subst (λ events. Turns old events unread left w u new turn) (sym (map-append Came p.0 q.0))
        (turns-join old between (map Came p.0) (map Came q.0) unread rest left w v u p.1 serving new turn q.1),
  )

-- ---- nothing is taken

-- what was pending was written
pub sent-by : (c new : Conversation) (waiting : List ℕ) (rest w v : Option (List ℕ)) → IsServing c → new ≡ record c { pending = new.pending } → Writes c.pending new.pending w v → GoesBy (connected c waiting) rest rest w v (connected new waiting)
sent-by c new waiting rest w v s is writes =
    ([], record { input = []; taken = []; was_read = Consumes-nil rest; taken_is = sym (append-nil waiting); goes = sent-goes c new w v s is writes })

-- a piece was read
pub read-by : (c : Conversation) (waiting piece : List ℕ) (unread left w : Option (List ℕ)) → IsServing c → waiting ≡ [] → Consumes unread left piece → GoesBy (connected c waiting) unread left w w (connected c piece)
read-by c waiting piece unread left w s none read =
    ([], record { input = piece; taken = []; was_read = read; taken_is = ap (λ xs. xs ++ piece) (sym none); goes = nothing-goes c w s })

-- nothing was read, where all is done
pub idle-completes : (c : Conversation) (waiting : List ℕ) (unread left w : Option (List ℕ)) → IsServing c → IsDone (connected c waiting) → Consumes unread left [] → Completes (connected c waiting) [] unread left w w (connected c waiting)
idle-completes c waiting unread left w s done read = record {
  goes = record { input = []; taken = []; was_read = read; taken_is = sym (append-nil waiting); goes = nothing-goes c w s };
  done = done;
}

pub serving-opens : (c : Conversation) (waiting : List ℕ) → IsServing c → IsOpen (connected c waiting)
serving-opens c waiting s = record { not_ended = refl; serving = s }

-- ---- results

pub if-ok : {T E : Type 0} (r : Result T E) (f g : T → Type 0) → ((t : T) → f t → g t) → IfOk r f → IfOk r g
if-ok (Ok t) f g m x = m t x
if-ok (Err e) f g m x = tt

pub if-err : {T E : Type 0} (r : Result T E) (f g : E → Type 0) → ((e : E) → f e → g e) → IfErr r f → IfErr r g
if-err (Ok t) f g m x = tt
if-err (Err e) f g m x = m e x
