-- What is owed on a mail server's channel, and which event of a piece comes of it.
use Rattle.std.proofs.Common.{◌≡◌, inl, inr, ℕ, Bool, true, false, ◌&&◌, List, [], ◌∷◌, Option, None, Some, length, take, ◌<◌, refl, sym, ap, subst, ◌∙◌}
use Rattle.std.specs.Prelude.{if◌then◌else◌}
use Rattle.std.proofs.lemmas.Option.{same_Some}
use Rattle.milter_wire.specs.declared.options.Options.{Options}
use Rattle.milter_wire.specs.declared.negotiation.Negotiated.{Negotiated}
use Rattle.milter_wire.specs.declared.stage.Stage.{Stage}
use Rattle.milter_wire.specs.declared.verdict.Verdict.{Verdict}
use Rattle.milter_wire.specs.Negotiation.{is_answered}
use Rattle.milter_wire.specs.Verdicts.{given_at}
use Rattle.milter_message.specs.declared.edit.Edit.{Edit}
use Rattle.milter_mta_connection.specs.declared.channel_state.ExpectedReply.{ExpectedReply}
use Rattle.milter_mta_connection.specs.declared.channel_state.ExpectedReply.TheVariants as expects
use Rattle.milter_mta_connection.specs.declared.filter_event.Fed.{Fed}
use Rattle.milter_mta_connection.specs.declared.filter_event.FilterEvent.{FilterEvent}
use Rattle.milter_mta_connection.specs.declared.filter_event.FilterEvent.TheVariants as events
use Rattle.milter_mta_connection.specs.Channel.{Channel, is_expecting, is_owed, is_owed_by, verdict_stage}
use Rattle.milter_mta_connection.specs.ChannelParts.{IsLostAfter as IsLostAfterChannel, Receives, ReceivesBy}
use Rattle.milter_mta_connection.specs.Received.{ended, goes_on, received as received_on_channel}
use Rattle.milter_mta_connection.specs.ReplyRules.{IsAnswered, IsLeftBy, IsWaiting}
use Rattle.milter_mta_outcome.specs.declared.loss.Loss.{Loss}
use Rattle.milter_mta_outcome.specs.declared.loss.Loss.TheVariants.{Fault, Memory, Reset, Timeout}
use Rattle.milter_mta_outcome.specs.Transactions.{left_of, stage_first}
use Rattle.milter_mta.specs.declared.state.Position.{Position as PositionParts}
use Rattle.milter_mta.specs.declared.state.Position.TheVariants as parts
use Rattle.milter_mta.specs.declared.state.FilterConnection.{FilterConnection as Connected}
use Rattle.milter_mta.specs.declared.state.SessionState.{SessionState}
use Rattle.milter_mta.specs.CoreParts.{IsTaken, mta_at, mta_of, only, position_of, unconnected}
use Rattle.milter_mta.specs.Cores.{IsCore, IsLostAfter, ReceivesBytes}
use Rattle.milter_mta.specs.Dispositions.{acted_at, lost}
use Rattle.milter_mta.specs.Driven.{ExpectsAt, HasEditsAt, IsInStep, IsNegotiatedAt, IsWithMessage, driven, edits_by, expected_by, expected_first, negotiated_by, owed_channel, owing, result_of}
use Rattle.milter_mta.specs.Mta.{Mta, Position, at_packet}
use Rattle.milter_mta.specs.Mta.Position.{Offering, Sending, Quitting, Ended}
use Rattle.milter_mta.specs.Replies as mta
use Rattle.milter_mta.proofs.DrivenBytes.{fed-any}
use Rattle.milter_mta.proofs.UnreadReplies.{lost-over}

-- ---- what is owed

owed-pending : (expected : ExpectedReply) (pending : List ℕ) → is_owed_by expected pending ≡ true → pending ≡ []
owed-pending expected [] owed = refl
owed-pending expected (x ∷ pending) owed = absurd cc

owed-expecting : (expected : ExpectedReply) (pending : List ℕ) → is_owed_by expected pending ≡ true → is_expecting expected ≡ true
owed-expecting expected [] owed = owed
owed-expecting expected (x ∷ pending) owed = absurd cc

pub nothing-expected : (expected : ExpectedReply) → expected ≡ expects.Nothing → is_expecting expected ≡ true → ⊥
nothing-expected expected is e = no (subst (λ (x : ExpectedReply). is_expecting x ≡ true) is e)
  where
    no : is_expecting expects.Nothing ≡ true → ⊥
    no e = absurd cc

owed-abort : (aborts : Bool) (expected : ExpectedReply) → (aborts ≡ true → expected ≡ expects.Nothing) → is_expecting expected ≡ true → aborts ≡ false
owed-abort true expected none e = absurd (nothing-expected expected (none refl) e)
owed-abort false expected none e = refl

owed-by : (position : Position) (pending : List ℕ) (expected : ExpectedReply) → ExpectsAt position pending expected → is_expecting expected ≡ true → expected ≡ expected_by position
owed-by position [] expected (inl none) e = absurd (nothing-expected expected none e)
owed-by position [] expected (inr is) e = is
owed-by position (x ∷ pending) expected is e = is

owed-negotiated : (position : Position) (negotiated : Option Negotiated) → IsNegotiatedAt position negotiated → is_expecting (expected_by position) ≡ true → negotiated ≡ negotiated_by position
owed-negotiated Offering negotiated is e = is
owed-negotiated (Sending n acted edits left) negotiated is e = is
owed-negotiated Quitting negotiated is e = absurd cc
owed-negotiated Ended negotiated is e = absurd cc

module _ (state : SessionState) (f : Connected) (k : Channel) (core : IsCore state (Some f) k) (owed : is_owed k ≡ true) where
  abbrev pub place : Position
  place = position_of state.client_info k.edits f.position

  abbrev step : IsInStep f.aborts place k
  step = core.in_step

  pub expecting_now : is_expecting k.expected ≡ true
  expecting_now = owed-expecting k.expected k.pending owed

  pub no_abort : f.aborts ≡ false
  no_abort = owed-abort f.aborts k.expected step.aborting expecting_now

  pub pending_is : k.pending ≡ []
  pending_is = owed-pending k.expected k.pending owed

  pub expected_is : k.expected ≡ expected_by place
  expected_is = owed-by place k.pending k.expected (step.expecting no_abort) expecting_now

  expecting_at : is_expecting (expected_by place) ≡ true
  expecting_at = subst (λ (e : ExpectedReply). is_expecting e ≡ true) expected_is expecting_now

  edits-same : (next : PositionParts) → HasEditsAt (position_of state.client_info k.edits next) k.edits → is_expecting (expected_by (position_of state.client_info k.edits next)) ≡ true
      → k.edits ≡ edits_by (position_of state.client_info k.edits next)
  edits-same parts.Offering has e = has
  edits-same (parts.Sending transaction) has e = refl
  edits-same parts.Quitting has e = absurd cc
  edits-same parts.Ended has e = absurd cc

  channel_is : k ≡ owed_channel state.config.offer place k.unread
  channel_is =
      ap (λ (o : Options). record k { offer = o }) core.offer
      ∙ ap (λ (n : Option Negotiated). record k { offer = state.config.offer; negotiated = n }) (owed-negotiated place k.negotiated step.negotiated expecting_at)
      ∙ ap (λ (e : ExpectedReply). record k { offer = state.config.offer; negotiated = negotiated_by place; expected = e }) expected_is
      ∙ ap (λ (es : List Edit). record k { offer = state.config.offer; negotiated = negotiated_by place; expected = expected_by place; edits = es }) (edits-same f.position step.edits expecting_at)
      ∙ ap (λ (p : List ℕ). record k { offer = state.config.offer; negotiated = negotiated_by place; expected = expected_by place; edits = edits_by place; pending = p }) pending_is

  abbrev pub m : Mta
  m = mta_at state (only f.position)

  value_is : mta_of state (Some f) k ≡ mta.at (owing place k.unread) m
  value_is =
      ap (λ (a : Bool). record m { filter_connection = Some (record { aborts = a; position = place; pending = k.pending; owed = is_owed k; unread = k.unread }) }) no_abort
      ∙ ap (λ (p : List ℕ). record m { filter_connection = Some (record { aborts = false; position = place; pending = p; owed = is_owed k; unread = k.unread }) }) pending_is
      ∙ ap (λ (o : Bool). record m { filter_connection = Some (record { aborts = false; position = place; pending = []; owed = o; unread = k.unread }) }) owed

  with_message : (next : PositionParts) → IsWithMessage (position_of state.client_info k.edits next) (mta_at state (only next))
  with_message parts.Offering = tt
  with_message (parts.Sending transaction) = λ none. absurd cc
  with_message parts.Quitting = tt
  with_message parts.Ended = tt

  -- by what the plan makes of the event
  pub fed-is : ((c : Channel) (bytes : List ℕ) → is_owed (received_on_channel c bytes).channel ≡ true → IsWaiting (received_on_channel c bytes).event)
      → (piece : List ℕ) (new : Channel) (fed : Fed) → Receives k piece new fed
      → ReceivesBytes (mta_of state (Some f) k) piece (driven place m (record { channel = new; event = fed.event; loss = fed.loss })).mta (result_of fed.loss)
  fed-is once piece new fed receives =
      subst (λ (v : Mta). ReceivesBytes v piece (driven place m (record { channel = new; event = fed.event; loss = fed.loss })).mta (result_of fed.loss)) (sym value_is)
      (fed-any once m place k.unread piece (with_message f.position) expecting_at new fed (subst (λ (c : Channel). Receives c piece new fed) channel_is receives))

  -- memory was refused before anything came of the piece
  pub refused-is : (piece : List ℕ) (new : SessionState) → 0 < length piece → unconnected new [] ≡ lost Memory m
      → IsLostAfter (mta_of state (Some f) k) piece (unconnected new [])
  refused-is piece new some is = record {
    count = 0;
    before = mta_of state (Some f) k;
    within = some;
    received_before = refl;
    owed_before = owed;
    lost_then = is ∙ lost-over (at_packet (position_of state.client_info [] f.position)) (record { aborts = f.aborts; position = place; pending = k.pending; owed = is_owed k; unread = k.unread }) m (acted-same f.position) Memory;
  }
    where
      acted-same : (next : PositionParts) → acted_at (position_of state.client_info [] next) ≡ acted_at (position_of state.client_info k.edits next)
      acted-same parts.Offering = refl
      acted-same (parts.Sending transaction) = refl
      acted-same parts.Quitting = refl
      acted-same parts.Ended = refl

  -- ---- the event is one that comes here

  both : (a b : Bool) → (a && b) ≡ true → a ≡ true
  both true b e = refl
  both false b e = absurd cc

  verdict_first : (negotiated : Negotiated) (first : Option Stage) (stage : Stage) → verdict_stage (expected_first negotiated first) ≡ Some stage → first ≡ Some stage
  verdict_first negotiated None stage e = absurd cc
  verdict_first negotiated (Some at) stage e = by_answered (is_answered negotiated at) e
    where
      by_answered : (answered : Bool) → verdict_stage (if answered then expects.Verdict at else expects.Nothing) ≡ Some stage → Some at ≡ Some stage
      by_answered true e = e
      by_answered false e = absurd cc

  taken-verdict : (next : PositionParts) (expected : ExpectedReply) (verdict : Verdict) (stage : Stage) (channel : Channel)
      → expected ≡ expected_by (position_of state.client_info k.edits next) → verdict_stage expected ≡ Some stage → given_at verdict stage ≡ true
      → IsTaken state.client_info next expected (events.Verdict verdict) channel
  taken-verdict next expects.Nothing verdict stage channel is at given = absurd cc
  taken-verdict next expects.Options verdict stage channel is at given = absurd cc
  taken-verdict parts.Offering (expects.Verdict s) verdict stage channel is at given = absurd cc
  taken-verdict (parts.Sending transaction) (expects.Verdict s) verdict stage channel is at given =
      let same : s ≡ stage = same_Some s stage at in
      (verdict_first transaction.negotiated (stage_first (left_of state.client_info transaction)) s (ap verdict_stage (sym is)), ap (given_at verdict) same ∙ given)
  taken-verdict parts.Quitting (expects.Verdict s) verdict stage channel is at given = absurd cc
  taken-verdict parts.Ended (expects.Verdict s) verdict stage channel is at given = absurd cc
  taken-verdict parts.Offering expects.Unknown verdict stage channel is at given = absurd cc
  taken-verdict (parts.Sending transaction) expects.Unknown verdict stage channel is at given =
      absurd (never transaction.negotiated (stage_first (left_of state.client_info transaction)) is)
    where
      never : (negotiated : Negotiated) (first : Option Stage) → expects.Unknown ≡ expected_first negotiated first → ⊥
      never negotiated None e = absurd cc
      never negotiated (Some at) e = by_answered (is_answered negotiated at) e
        where
          by_answered : (answered : Bool) → expects.Unknown ≡ (if answered then expects.Verdict at else expects.Nothing) → ⊥
          by_answered true e = absurd cc
          by_answered false e = absurd cc
  taken-verdict parts.Quitting expects.Unknown verdict stage channel is at given = absurd cc
  taken-verdict parts.Ended expects.Unknown verdict stage channel is at given = absurd cc

  pub taken-answered : (verdict : Verdict) (channel : Channel) → IsAnswered k verdict → IsTaken state.client_info f.position k.expected (events.Verdict verdict) channel
  taken-answered verdict channel a = taken-verdict f.position k.expected verdict a.stage channel expected_is a.expected_is (both (given_at verdict a.stage) _ a.given)

  offer_first : (next : PositionParts) → expected_by (position_of state.client_info k.edits next) ≡ expects.Options → next ≡ parts.Offering
  offer_first parts.Offering e = refl
  offer_first (parts.Sending transaction) e = absurd (never transaction.negotiated (stage_first (left_of state.client_info transaction)) e)
    where
      never : (negotiated : Negotiated) (first : Option Stage) → expected_first negotiated first ≡ expects.Options → ⊥
      never negotiated None e = absurd cc
      never negotiated (Some at) e = by_answered (is_answered negotiated at) e
        where
          by_answered : (answered : Bool) → (if answered then expects.Verdict at else expects.Nothing) ≡ expects.Options → ⊥
          by_answered true e = absurd cc
          by_answered false e = absurd cc
  offer_first parts.Quitting e = absurd cc
  offer_first parts.Ended e = absurd cc

  pub is_offer : k.expected ≡ expects.Options → f.position ≡ parts.Offering
  is_offer e = offer_first f.position (sym expected_is ∙ e)

  taken-negotiated : (expected : ExpectedReply) (channel : Channel) → k.expected ≡ expected → k.expected ≡ expects.Options → (negotiated : Negotiated) → channel.negotiated ≡ Some negotiated
      → IsTaken state.client_info f.position expected events.Negotiated channel
  taken-negotiated expects.Options channel same e negotiated by = (is_offer e, negotiated, by)
  taken-negotiated expects.Nothing channel same e negotiated by = absurd (let o : expects.Nothing ≡ expects.Options = sym same ∙ e in cc)
  taken-negotiated (expects.Verdict s) channel same e negotiated by = absurd (let o : expects.Verdict s ≡ expects.Options = sym same ∙ e in cc)
  taken-negotiated expects.Unknown channel same e negotiated by = absurd (let o : expects.Unknown ≡ expects.Options = sym same ∙ e in cc)

  taken-waiting : (expected : ExpectedReply) (h : FilterEvent) (channel : Channel) → IsWaiting h → IsTaken state.client_info f.position expected h channel
  taken-waiting expected events.Negotiated channel w = absurd w
  taken-waiting expected (events.Verdict verdict) channel w = absurd w
  taken-waiting expects.Nothing events.Nothing channel w = tt
  taken-waiting expects.Options events.Nothing channel w = tt
  taken-waiting (expects.Verdict s) events.Nothing channel w = tt
  taken-waiting expects.Unknown events.Nothing channel w = tt
  taken-waiting expects.Nothing events.InProgress channel w = tt
  taken-waiting expects.Options events.InProgress channel w = tt
  taken-waiting (expects.Verdict s) events.InProgress channel w = tt
  taken-waiting expects.Unknown events.InProgress channel w = tt

  module _ (answered : (c : Channel) (bytes : List ℕ) (verdict : Verdict) → (received_on_channel c bytes).event ≡ events.Verdict verdict → IsAnswered c verdict)
      (once : (c : Channel) (bytes : List ℕ) → is_owed (received_on_channel c bytes).channel ≡ true → IsWaiting (received_on_channel c bytes).event)
      (left : (c : Channel) (bytes : List ℕ) → (received_on_channel c bytes).loss ≡ None → IsLeftBy (received_on_channel c bytes).event c (received_on_channel c bytes).channel)
      (lost_left : (c : Channel) (bytes : List ℕ) (loss : Loss) → (received_on_channel c bytes).loss ≡ Some loss
      → (before : Channel) × IsLeftBy (received_on_channel c bytes).event c before × ((received_on_channel c bytes).channel ≡ ended (received_on_channel c bytes).event before))
      (piece : List ℕ) where
    -- the channel before a loss
    pub record IsLeft (h : FilterEvent) (new : Channel) : Type 0 where
      pub before : Channel
      pub left_before : IsLeftBy h k before
      pub same_negotiated : new.negotiated ≡ before.negotiated
      pub same_offer : new.offer ≡ before.offer

    refused-left : (new : Channel) (h : FilterEvent) → IsLostAfterChannel k piece new h → IsLeft h new
    refused-left new h l =
        let came : received_on_channel k (take l.count piece) ≡ goes_on h l.before = l.received_before in
        record {
          before = l.before;
          left_before = subst (λ (a : _). IsLeftBy a.event k a.channel) came (left k (take l.count piece) (ap (λ (a : _). a.loss) came));
          same_negotiated = ap (λ (c : Channel). c.negotiated) l.lost_then;
          same_offer = ap (λ (c : Channel). c.offer) l.lost_then;
        }

    lost-by : (loss : Loss) (new : Channel) (h : FilterEvent) → received_on_channel k piece ≡ record { channel = new; event = h; loss = Some loss } → IsLeft h new
    lost-by loss new h is =
        let b = lost_left k piece loss (ap (λ (a : _). a.loss) is) in
        let new_is : new ≡ ended h b.0 = subst (λ (a : _). a.channel ≡ ended a.event b.0) is b.2 in
        record {
          before = b.0;
          left_before = subst (λ (a : _). IsLeftBy a.event k b.0) is b.1;
          same_negotiated = ap (λ (c : Channel). c.negotiated) new_is;
          same_offer = ap (λ (c : Channel). c.offer) new_is;
        }

    pub left-after : (loss : Option Loss) (new : Channel) (h : FilterEvent) → ReceivesBy loss k piece new h → IsLeft h new
    left-after None new h is = record {
      before = new;
      left_before = subst (λ (a : _). IsLeftBy a.event k a.channel) is (left k piece (ap (λ (a : _). a.loss) is));
      same_negotiated = refl;
      same_offer = refl;
    }
    left-after (Some Memory) new h l = refused-left new h l
    left-after (Some Reset) new h is = lost-by Reset new h is
    left-after (Some Timeout) new h is = lost-by Timeout new h is
    left-after (Some (Fault fault)) new h is = lost-by (Fault fault) new h is

    pub left-now : (new : Channel) (h : FilterEvent) → ReceivesBy None k piece new h → IsLeftBy h k new
    left-now new h is = subst (λ (a : _). IsLeftBy a.event k a.channel) is (left k piece (ap (λ (a : _). a.loss) is))

    answered-by : (loss : Option Loss) (new : Channel) (verdict : Verdict) → ReceivesBy loss k piece new (events.Verdict verdict) → IsAnswered k verdict
    answered-by None new verdict is = answered k piece verdict (ap (λ (a : _). a.event) is)
    answered-by (Some Memory) new verdict l = answered k (take l.count piece) verdict (ap (λ (a : _). a.event) l.received_before)
    answered-by (Some Reset) new verdict is = answered k piece verdict (ap (λ (a : _). a.event) is)
    answered-by (Some Timeout) new verdict is = answered k piece verdict (ap (λ (a : _). a.event) is)
    answered-by (Some (Fault fault)) new verdict is = answered k piece verdict (ap (λ (a : _). a.event) is)

    pub taken-is : (loss : Option Loss) (new : Channel) (h : FilterEvent) → ReceivesBy loss k piece new h → IsTaken state.client_info f.position k.expected h new
    taken-is loss new (events.Verdict verdict) r = taken-answered verdict new (answered-by loss new verdict r)
    taken-is loss new events.Nothing r = taken-waiting k.expected events.Nothing new tt
    taken-is loss new events.InProgress r = taken-waiting k.expected events.InProgress new tt
    taken-is loss new events.Negotiated r =
        let l = left-after loss new events.Negotiated r in
        taken-negotiated k.expected new refl l.left_before.1 l.left_before.0 (l.same_negotiated ∙ ap (λ (c : Channel). c.negotiated) l.left_before.2)
