-- What the contracts of a connection's methods say, as calls.
use Rattle.std.proofs.Common.{◌≡◌, ◌≢◌, ℕ, List, [], Option, None, Some, refl, sym, ap, ◌∙◌, subst}
use Rattle.milter_wire.specs.declared.command.Command.{Command}
use Rattle.milter_wire.specs.declared.stage.Stage.{Stage}
use Rattle.milter_wire.specs.Stages.{stage_of}
use Rattle.milter_fields.specs.declared.pair.Pair.{Pair}
use Rattle.milter_mta_outcome.specs.declared.loss.Loss.{Loss}
use Rattle.milter_mta_outcome.specs.declared.loss.Loss.TheVariants.{Fault, Memory, Reset, Timeout}
use Rattle.milter_mta_connection.specs.declared.channel_state.ExpectedReply.TheVariants as expects
use Rattle.milter_mta_connection.specs.declared.filter_event.Fed.{Fed}
use Rattle.milter_mta_connection.specs.declared.filter_event.FilterEvent.{FilterEvent}
use Rattle.milter_mta_connection.specs.declared.filter_event.FilterEvent.TheVariants as events
use Rattle.milter_mta_connection.specs.Channel.{Channel}
use Rattle.milter_mta_connection.specs.ChannelParts.{ReceivesBy}
use Rattle.milter_mta_connection.specs.Received.{After, goes_on, received}
use Rattle.milter_mta_connection.specs.declared.call_outcome.CallFault.{CallFault}
use Rattle.milter_mta_connection.specs.Calls.{after, called_at, fed_by, unless}
use Rattle.milter_mta_connection.specs.Calls.Call.{Abort, Feed, StageCommand}
use Rattle.milter_mta_connection.specs.Connection.{Connection, after_abort, after_command, after_event, after_fed, any_fault, closed_by, fault_at, pairs_for}
use Rattle.milter_mta_connection.specs.Conversations.{fed_of}
use Rattle.milter_mta_connection.specs.Losses.{IsLost}
use Rattle.milter_mta_connection.proofs.LostConnections.{event_channel, kept_all, kept_on}

pub command-called : (stage : Stage) (command : Command) (pairs : List Pair) (old new : Connection) → stage_of command ≡ Some stage → fault_at stage old ≡ None
    → new ≡ after_command stage command (pairs_for old stage pairs) old → new ≡ after (StageCommand command pairs) old
command-called stage command pairs old new at_stage taken is =
    is
    ∙ sym (ap (λ (f : Option CallFault). unless f (after_command stage command (pairs_for old stage pairs) old) old) taken)
    ∙ sym (ap (λ (s : Option Stage). called_at s command pairs old) at_stage)

pub abort-called : (old new : Connection) → any_fault old ≡ None → new ≡ after_abort old → new ≡ after Abort old
abort-called old new taken is = is ∙ sym (ap (λ (f : Option CallFault). unless f (after_abort old) old) taken)

-- but where memory was refused
received-is : (loss : Option Loss) (old new : Channel) (piece : List ℕ) (event : FilterEvent) → loss ≢ Some Memory → ReceivesBy loss old piece new event
    → received old piece ≡ record { channel = new; event = event; loss = loss }
received-is None old new piece event some is = is
received-is (Some Memory) old new piece event some is = absurd (some refl)
received-is (Some Reset) old new piece event some is = is
received-is (Some Timeout) old new piece event some is = is
received-is (Some (Fault fault)) old new piece event some is = is

pub feed-called : (old : Connection) (piece : List ℕ) (new : Channel) (fed : Fed) → fed.loss ≢ Some Memory → ReceivesBy fed.loss old.channel piece new fed.event
    → after_fed fed new old ≡ after (Feed piece) old
feed-called old piece new fed some is = sym (ap (λ (a : After). fed_by a old) (received-is fed.loss old.channel new piece fed.event some is))

pub feed-given : (old : Connection) (piece : List ℕ) (new : Channel) (fed : Fed) → fed.loss ≢ Some Memory → ReceivesBy fed.loss old.channel piece new fed.event
    → fed ≡ fed_of (received old.channel piece)
feed-given old piece new fed some is = sym (ap fed_of (received-is fed.loss old.channel new piece fed.event some is))

-- ---- a loss

cleared-lost : (old : Connection) (new : Channel) (fed : Fed) (loss : Loss) → fed.loss ≡ Some loss → new.expected ≡ expects.Nothing → new.pending ≡ []
    → IsLost (after_fed fed new old)
cleared-lost old new fed loss lost none_expected none_pending =
    let here : Connection = after_event old.channel.expected fed.event (record old { channel = new }) in
    let same : here.channel ≡ new = event_channel old.channel.expected fed.event (record old { channel = new }) in
    subst (λ (l : Option Loss). IsLost (closed_by l here)) (sym lost)
    (record {
      closed = refl;
      none_expected = ap (λ (k : Channel). k.expected) same ∙ none_expected;
      none_pending = ap (λ (k : Channel). k.pending) same ∙ none_pending;
    })

whole-lost : (old : Connection) (piece : List ℕ) (new : Channel) (fed : Fed) (loss : Loss) → fed.loss ≡ Some loss
    → received old.channel piece ≡ record { channel = new; event = fed.event; loss = fed.loss } → IsLost (after_fed fed new old)
whole-lost old piece new fed loss lost is =
    let kept = kept_all piece (goes_on events.Nothing old.channel) (kept_on events.Nothing old.channel) loss (ap (λ (a : After). a.loss) is ∙ lost) in
    cleared-lost old new fed loss lost
    (ap (λ (a : After). a.channel.expected) (sym is) ∙ kept.0) (ap (λ (a : After). a.channel.pending) (sym is) ∙ kept.1)

pub feed-lost : (old : Connection) (piece : List ℕ) (new : Channel) (fed : Fed) (loss : Loss) → fed.loss ≡ Some loss → ReceivesBy fed.loss old.channel piece new fed.event
    → IsLost (after_fed fed new old)
feed-lost old piece new fed loss lost is = by_loss loss lost (subst (λ (l : Option Loss). ReceivesBy l old.channel piece new fed.event) lost is)
  where
    known : (loss : Loss) → fed.loss ≡ Some loss → received old.channel piece ≡ record { channel = new; event = fed.event; loss = Some loss } → IsLost (after_fed fed new old)
    known loss lost is = whole-lost old piece new fed loss lost (is ∙ ap (λ (l : Option Loss). record { channel = new; event = fed.event; loss = l }) (sym lost))

    by_loss : (loss : Loss) → fed.loss ≡ Some loss → ReceivesBy (Some loss) old.channel piece new fed.event → IsLost (after_fed fed new old)
    by_loss Memory lost is = cleared-lost old new fed Memory lost (ap (λ (k : Channel). k.expected) is.lost_then) (ap (λ (k : Channel). k.pending) is.lost_then)
    by_loss Reset lost is = known Reset lost is
    by_loss Timeout lost is = known Timeout lost is
    by_loss (Fault fault) lost is = known (Fault fault) lost is
