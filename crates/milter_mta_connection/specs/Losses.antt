-- A connection whose filter was lost.
use Rattle.std.specs.Prelude.{◌≡◌, ◌⊎◌, List, [], ◌∷◌}
use Rattle.milter_mta_connection.specs.declared.channel_state.ExpectedReply.TheVariants as expects
use Rattle.milter_mta_connection.specs.declared.filter_event.FilterEvent.{FilterEvent}
use Rattle.milter_mta_connection.specs.declared.filter_event.FilterEvent.TheVariants as events
use Rattle.milter_mta_connection.specs.Received.{received}
use Rattle.milter_mta_connection.specs.declared.phase.Phase.TheVariants.{Closed}
use Rattle.milter_mta_connection.specs.Calls.{Call, after, queued_by}
use Rattle.milter_mta_connection.specs.Calls.Call.{Feed}
use Rattle.milter_mta_connection.specs.Connection.{Connection}

-- nothing is pending, and no reply is expected any more
pub record IsLost (c : Connection) : Type 0 where
  pub closed : c.phase ≡ Closed
  pub none_expected : c.channel.expected ≡ expects.Nothing
  pub none_pending : c.channel.pending ≡ []

abbrev pub event_of : Call → Connection → FilterEvent
event_of (Feed bytes) c = (received c.channel bytes).event
event_of call c = events.Nothing

-- whatever is called: it stays lost, nothing is queued, no event comes, and the edits stay or are dropped
pub record StaysLost (call : Call) (c : Connection) : Type 0 where
  pub lost : IsLost (after call c)
  pub none_queued : queued_by call c ≡ []
  pub no_event : event_of call c ≡ events.Nothing
  pub no_new_edits : ((after call c).channel.edits ≡ c.channel.edits) ⊎ ((after call c).channel.edits ≡ [])

-- so is each of these calls, one after the other
abbrev pub AllStayLost : List Call → Connection → Type 0
AllStayLost [] c = Unit {0}
AllStayLost (call ∷ calls) c = StaysLost call c × AllStayLost calls (after call c)
