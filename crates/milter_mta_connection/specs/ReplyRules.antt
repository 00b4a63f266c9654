-- What holds of every verdict and every edit that comes, whatever the filter sends.
use Rattle.std.specs.Prelude.{◌≡◌, ◌≢◌, true, List, [], All, Option, None, Some}
use Rattle.milter_wire.specs.declared.negotiation.Negotiated.{Negotiated}
use Rattle.milter_wire.specs.declared.stage.Stage.{Stage}
use Rattle.milter_wire.specs.declared.verdict.Verdict.{Verdict}
use Rattle.milter_message.specs.declared.edit.Edit.{Edit}
use Rattle.milter_protocol.specs.Permitted.{is_permitted}
use Rattle.milter_mta_outcome.specs.ReceivedReplies.{is_given}
use Rattle.milter_mta_connection.specs.declared.channel_state.ExpectedReply.TheVariants as expects
use Rattle.milter_mta_connection.specs.declared.filter_event.FilterEvent.{FilterEvent}
use Rattle.milter_mta_connection.specs.declared.filter_event.FilterEvent.TheVariants as events
use Rattle.milter_mta_connection.specs.Channel.{Channel, verdict_stage}

-- ---- verdicts

-- the command that is answered was sent whole, and this verdict may be given on it
pub record IsAnswered (c : Channel) (verdict : Verdict) : Type 0 where
  pub stage : Stage
  pub negotiated : Negotiated
  pub expected_is : verdict_stage c.expected ≡ Some stage
  pub sent_whole : c.pending ≡ []
  pub negotiated_is : c.negotiated ≡ Some negotiated
  pub given : is_given negotiated stage verdict ≡ true

-- neither a verdict nor the options came last: what was expected still is
abbrev pub IsWaiting : FilterEvent → Type 0
IsWaiting events.Nothing = Unit {0}
IsWaiting events.InProgress = Unit {0}
IsWaiting other = ⊥

-- ---- what is left of a channel

-- after this event, without a loss
abbrev pub IsLeftBy : FilterEvent → Channel → Channel → Type 0
IsLeftBy events.Nothing old new = new ≡ record old { unread = new.unread }
IsLeftBy events.InProgress old new =
    (old.expected ≢ expects.Options) × (new ≡ record old { edits = new.edits; unread = new.unread })
IsLeftBy events.Negotiated old new =
    (negotiated : Negotiated) × (old.expected ≡ expects.Options)
    × (new ≡ record old { negotiated = Some negotiated; expected = expects.Nothing; unread = [] })
IsLeftBy (events.Verdict verdict) old new =
    new ≡ record old { expected = expects.Nothing; edits = new.edits; unread = [] }

-- ---- edits

-- the action that each edit needs was negotiated
abbrev pub ArePermittedBy : Option Negotiated → List Edit → Type 0
ArePermittedBy None edits = edits ≡ []
ArePermittedBy (Some negotiated) edits = All (λ edit. is_permitted negotiated edit ≡ true) edits

-- before the reply to the offer there is none
pub record ArePermitted (c : Channel) : Type 0 where
  pub permitted : ArePermittedBy c.negotiated c.edits
  pub none_offered : c.expected ≡ expects.Options → c.edits ≡ []
