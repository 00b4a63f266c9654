-- What a connection comes to from its beginning.
use Rattle.std.proofs.Common.{◌≡◌, ℕ, List, ◌++◌, length, Option, sym, ◌∙◌, ap, append-nil}
use Rattle.milter_fields.specs.Stream.{divide}
use Rattle.milter_protocol.specs.declared.stage_order.CommandOrder.{CommandOrder}
use Rattle.milter_protocol.specs.declared.filter_fault.FilterState.{FilterState}
use Rattle.milter_protocol.specs.declared.filter_fault.FilterState.TheVariants as states
use Rattle.milter_protocol.specs.Questions.{AskState, Event, Wanted}
use Rattle.milter_filter.specs.declared.turn.Served.{Served}
use Rattle.milter_filter.specs.declared.turn.Served.TheVariants.{Quit, Ended, Failed, ReadFault, WriteFault, TurnLimit}
use Rattle.milter_filter.specs.Connections.{CompletesAs, Connected, ConversesAs, EndsAs, GoesFrom, RepliesTo, RepliesToAll, fresh_connected}

module _ (order : CommandOrder) (wanted : Wanted) (events : List Event) (unread left w v : Option (List ℕ)) where
  replies-to : (c : Connected) → GoesFrom (fresh_connected order wanted) events unread left w v c → RepliesTo order wanted events unread left w v c.waiting c.conversation.pending
  replies-to c g = record {
    input = g.input;
    taken = g.taken;
    sent = g.goes.sent;
    was_read = g.was_read;
    taken_is = g.taken_is;
    commands = g.goes.goes_on.commands;
    in_turn = g.goes.goes_on.in_turn;
    was_written = g.goes.was_written;
    replied = g.goes.goes_on.replied;
  }

  module _ (state : FilterState) (x : CompletesAs state (fresh_connected order wanted) events unread left w v) where
    abbrev g : GoesFrom (fresh_connected order wanted) events unread left w v x.new
    g = x.completes.goes

    abbrev replies-all : RepliesToAll state order wanted events unread left w v
    replies-all = record {
      replies = record {
        input = g.input;
        taken = g.taken;
        sent = g.goes.sent;
        was_read = g.was_read;
        taken_is = ap (λ xs. g.taken ++ xs) (sym x.completes.done.nothing_waiting) ∙ g.taken_is;
        commands = g.goes.goes_on.commands;
        in_turn = g.goes.goes_on.in_turn;
        was_written = g.goes.was_written;
        replied = ap (λ xs. g.goes.sent ++ xs) (sym x.completes.done.nothing_pending) ∙ g.goes.goes_on.replied;
      };
      no_question = ap (λ (s : AskState). s.asked) (sym g.goes.goes_on.state) ∙ x.completes.done.no_question;
      state_is = ap (λ (s : AskState). s.order_state.state) (sym g.goes.goes_on.state) ∙ x.state_is;
    }

    all-taken : g.taken ≡ g.input
    all-taken = sym (append-nil g.taken) ∙ ap (λ xs. g.taken ++ xs) (sym x.completes.done.nothing_waiting) ∙ g.taken_is

  pub replied-ends : (end : Served) → EndsAs (fresh_connected order wanted) events unread left w v end → ConversesAs order wanted events unread left w v end
  replied-ends Quit e = replies-all states.Quit e
  replied-ends (Ended count) e = (
    replies-all states.Serving e.0,
    ap (λ xs. length (divide xs).rest) (sym (all-taken states.Serving e.0))
        ∙ ap length (sym (e.0.completes.goes.goes.goes_on.unread e.0.state_is))
        ∙ e.1,
    e.2,
  )
  replied-ends (Failed fault) e = (
    λ other. replies-all (states.Failed fault) (e.0 other),
    λ refused. let x = e.1 refused in (x.0.waiting, x.0.conversation.pending, replies-to x.0 x.1),
  )
  replied-ends ReadFault e = replies-all states.Serving e
  replied-ends WriteFault e = (e.0.waiting, e.0.conversation.pending, replies-to e.0 e.1)
  replied-ends TurnLimit e = absurd e
