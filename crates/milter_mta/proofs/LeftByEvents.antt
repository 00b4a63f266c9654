-- What each event of a piece leaves of a mail server's end.
use Rattle.std.proofs.Common.{◌≡◌, ◌≢◌, inl, inr, ℕ, Bool, true, false, List, [], ◌∷◌, Option, None, Some, drop, refl, sym, ap, subst, ◌∙◌}
use Rattle.std.specs.Prelude.{if◌then◌else◌}
use Rattle.milter_wire.specs.declared.command.Command.{Command}
use Rattle.milter_wire.specs.declared.negotiation.Negotiated.{Negotiated}
use Rattle.milter_wire.specs.declared.stage.Stage.{Stage}
use Rattle.milter_wire.specs.declared.verdict.Verdict.{Verdict}
use Rattle.milter_message.specs.declared.edit.Edit.{Edit}
use Rattle.milter_message.specs.MailObject.{MailObject}
use Rattle.milter_mail.specs.MailSession.{MailSession}
use Rattle.milter_mta_connection.specs.declared.channel_state.ExpectedReply.{ExpectedReply}
use Rattle.milter_mta_connection.specs.declared.channel_state.ExpectedReply.TheVariants as expects
use Rattle.milter_mta_connection.specs.declared.filter_event.FilterEvent.{FilterEvent}
use Rattle.milter_mta_connection.specs.declared.filter_event.FilterEvent.TheVariants as events
use Rattle.milter_mta_connection.specs.Channel.{Channel, is_owed, is_owed_by}
use Rattle.milter_mta_connection.specs.ReplyRules.{IsLeftBy, IsWaiting}
use Rattle.milter_mta_outcome.specs.declared.acted_verdicts.Acted.{Acted}
use Rattle.milter_mta_outcome.specs.declared.loss.Loss.{Loss}
use Rattle.milter_mta_outcome.specs.Transactions.{left_of, stage_first}
use Rattle.milter_mta_outcome.specs.TransactionVerdicts.{ends_dialogue, is_of_connection, left_after, on_connection, with_verdict}
use Rattle.milter_mta.specs.declared.state.Position.{Position as PositionParts}
use Rattle.milter_mta.specs.declared.state.Position.TheVariants as parts
use Rattle.milter_mta.specs.declared.state.FilterConnection.{FilterConnection as Connected}
use Rattle.milter_mta.specs.declared.state.SessionState.{SessionState}
use Rattle.milter_mta.specs.CoreParts.{Follows, IsCommand, IsConsistent, IsTaken, messages_at, mta_at, mta_of, only, position_of, unconnected}
use Rattle.milter_mta.specs.Cores.{IsCore}
use Rattle.milter_mta.specs.Dispositions.{acted_at, lost, next_message, settled_all, settled_in}
use Rattle.milter_mta.specs.Driven.{ExpectsAt, HasEditsAt, IsNegotiatedAt, driven_by, expected_by, opened_by, owing, ruled_at, ruled_in, with_edits}
use Rattle.milter_mta.specs.Mta.{Configuration, FilterConnection, Mta, Position, at_packet}
use Rattle.milter_mta.specs.Mta.Position.{Sending}
use Rattle.milter_mta.specs.Replies as mta
use Rattle.milter_mta.specs.Replies.{opening_position}
use Rattle.milter_mta.proofs.UnreadReplies.{lost-over}
use Rattle.milter_mta.proofs.TakenEvents as events_taken

module _ (state : SessionState) (f : Connected) (k : Channel) (core : IsCore state (Some f) k) (owed : is_owed k ≡ true) where
  abbrev place : Position
  place = events_taken.place state f k core owed

  abbrev m : Mta
  m = events_taken.m state f k core owed

  -- ---- what the plan makes of it

  ruled-edits : (next : PositionParts) (l r edits : List Edit) (verdict : Verdict) (v : Mta)
      → ruled_in (position_of state.client_info l next) verdict edits v ≡ ruled_in (position_of state.client_info r next) verdict edits v
  ruled-edits parts.Offering l r edits verdict v = refl
  ruled-edits (parts.Sending transaction) l r edits verdict v = refl
  ruled-edits parts.Quitting l r edits verdict v = refl
  ruled-edits parts.Ended l r edits verdict v = refl

  with-edits : (next : PositionParts) (l r : List Edit) → with_edits r (position_of state.client_info l next) ≡ position_of state.client_info r next
  with-edits parts.Offering l r = refl
  with-edits (parts.Sending transaction) l r = refl
  with-edits parts.Quitting l r = refl
  with-edits parts.Ended l r = refl

  acted-edits : (next : PositionParts) (l r : List Edit) → acted_at (position_of state.client_info l next) ≡ acted_at (position_of state.client_info r next)
  acted-edits parts.Offering l r = refl
  acted-edits (parts.Sending transaction) l r = refl
  acted-edits parts.Quitting l r = refl
  acted-edits parts.Ended l r = refl

  -- while it waits
  module _ (new : Channel) (same : new ≡ record k { edits = new.edits; unread = new.unread }) where
    still_owed : is_owed new ≡ true
    still_owed = ap is_owed same ∙ owed

    still_none : new.pending ≡ []
    still_none = ap (λ (c : Channel). c.pending) same ∙ events_taken.pending_is state f k core owed

    waiting-is : mta.at (owing (with_edits new.edits place) new.unread) m ≡ mta_of state (Some f) new
    waiting-is =
        ap (λ (p : Position). mta.at (owing p new.unread) m) (with-edits f.position k.edits new.edits)
        ∙ sym (ap (λ (a : Bool). record m { filter_connection = Some (record { aborts = a; position = position_of state.client_info new.edits f.position; pending = new.pending; owed = is_owed new; unread = new.unread }) }) (events_taken.no_abort state f k core owed)
        ∙ ap (λ (p : List ℕ). record m { filter_connection = Some (record { aborts = false; position = position_of state.client_info new.edits f.position; pending = p; owed = is_owed new; unread = new.unread }) }) still_none
        ∙ ap (λ (o : Bool). record m { filter_connection = Some (record { aborts = false; position = position_of state.client_info new.edits f.position; pending = []; owed = o; unread = new.unread }) }) still_owed)

    expected_then : new.expected ≡ k.expected
    expected_then = ap (λ (c : Channel). c.expected) same

    negotiated_then : (next : PositionParts) → IsNegotiatedAt (position_of state.client_info k.edits next) k.negotiated → IsNegotiatedAt (position_of state.client_info new.edits next) new.negotiated
    negotiated_then parts.Offering is = ap (λ (c : Channel). c.negotiated) same ∙ is
    negotiated_then (parts.Sending transaction) is = ap (λ (c : Channel). c.negotiated) same ∙ is
    negotiated_then parts.Quitting is = tt
    negotiated_then parts.Ended is = tt

    edits_then : (next : PositionParts) → (next ≡ parts.Offering → new.edits ≡ []) → HasEditsAt (position_of state.client_info new.edits next) new.edits
    edits_then parts.Offering none = none refl
    edits_then (parts.Sending transaction) none = tt
    edits_then parts.Quitting none = tt
    edits_then parts.Ended none = tt

    by_edits : (next : PositionParts) → expected_by (position_of state.client_info k.edits next) ≡ expected_by (position_of state.client_info new.edits next)
    by_edits parts.Offering = refl
    by_edits (parts.Sending transaction) = refl
    by_edits parts.Quitting = refl
    by_edits parts.Ended = refl

    waiting-core : (f.position ≡ parts.Offering → new.edits ≡ []) → IsCore state (Some f) new
    waiting-core none = record {
      consistent = core.consistent;
      offer = ap (λ (c : Channel). c.offer) same ∙ core.offer;
      in_step = record {
        negotiated = negotiated_then f.position core.in_step.negotiated;
        edits = edits_then f.position none;
        aborting = λ e. absurd (events_taken.nothing-expected k.expected (core.in_step.aborting e) (events_taken.expecting_now state f k core owed));
        expecting = λ e. subst (λ (p : List ℕ). ExpectsAt (position_of state.client_info new.edits f.position) p new.expected) (sym still_none) (inr (expected_then ∙ events_taken.expected_is state f k core owed ∙ by_edits f.position));
      };
    }

  -- ---- after a verdict or the options

  -- a connection that begins: nothing is expected, pending or unread, and there are no edits
  module _ (s1 : SessionState) (f1 : Connected) (k1 : Channel) (nothing : k1.expected ≡ expects.Nothing) (none : k1.pending ≡ []) (no_unread : k1.unread ≡ []) (no_edits : k1.edits ≡ []) where
    begun-is : mta_at s1 f1 ≡ mta_of s1 (Some f1) k1
    begun-is =
        sym (ap (λ (es : List Edit). record (unconnected s1 (messages_at f1.position)) { filter_connection = Some (record { aborts = f1.aborts; position = position_of s1.client_info es f1.position; pending = k1.pending; owed = is_owed k1; unread = k1.unread }) }) no_edits
        ∙ ap (λ (p : List ℕ). record (unconnected s1 (messages_at f1.position)) { filter_connection = Some (record { aborts = f1.aborts; position = position_of s1.client_info [] f1.position; pending = p; owed = is_owed_by k1.expected p; unread = k1.unread }) }) none
        ∙ ap (λ (e : ExpectedReply). record (unconnected s1 (messages_at f1.position)) { filter_connection = Some (record { aborts = f1.aborts; position = position_of s1.client_info [] f1.position; pending = []; owed = is_owed_by e []; unread = k1.unread }) }) nothing
        ∙ ap (λ (u : List ℕ). record (unconnected s1 (messages_at f1.position)) { filter_connection = Some (record { aborts = f1.aborts; position = position_of s1.client_info [] f1.position; pending = []; owed = false; unread = u }) }) no_unread)

    begun-edits : (next : PositionParts) → HasEditsAt (position_of s1.client_info k1.edits next) k1.edits
    begun-edits parts.Offering = no_edits
    begun-edits (parts.Sending transaction) = tt
    begun-edits parts.Quitting = tt
    begun-edits parts.Ended = tt

    begun-negotiated : (next : PositionParts) (n : Option Negotiated) → IsNegotiatedAt (position_of s1.client_info [] next) n → IsNegotiatedAt (position_of s1.client_info k1.edits next) n
    begun-negotiated parts.Offering n is = is
    begun-negotiated (parts.Sending transaction) n is = is
    begun-negotiated parts.Quitting n is = tt
    begun-negotiated parts.Ended n is = tt

    begun-core : IsConsistent s1 (Some f1) → k1.offer ≡ s1.config.offer → IsNegotiatedAt (position_of s1.client_info [] f1.position) k1.negotiated → IsCore s1 (Some f1) k1
    begun-core consistent offer negotiated = record {
      consistent = consistent;
      offer = offer;
      in_step = record {
        negotiated = begun-negotiated f1.position k1.negotiated negotiated;
        edits = begun-edits f1.position;
        aborting = λ e. nothing;
        expecting = λ e. subst (λ (p : List ℕ). ExpectsAt (position_of s1.client_info k1.edits f1.position) p k1.expected) (sym none) (inl nothing);
      };
    }

  -- what was negotiated is so for the next message too
  abbrev IsNegotiatedIn : Option FilterConnection → Option Negotiated → Type 0
  IsNegotiatedIn None n = Unit {0}
  IsNegotiatedIn (Some c) n = IsNegotiatedAt c.position n

  next-negotiated : (negotiated : Negotiated) (opened : List Acted) (session : MailSession) (messages : List MailObject) → IsNegotiatedAt (next_message negotiated opened session messages) (Some negotiated)
  next-negotiated negotiated opened session [] = tt
  next-negotiated negotiated opened session (message ∷ messages) = refl

  opening-negotiated : (negotiated : Negotiated) (session : MailSession) (messages : List MailObject) → IsNegotiatedAt (opening_position negotiated session messages) (Some negotiated)
  opening-negotiated negotiated session [] = tt
  opening-negotiated negotiated session (message ∷ messages) = refl

  settled-negotiated : (negotiated : Negotiated) (stage : Stage) (edits : List Edit) (verdict : Verdict) (acted : List Acted) (messages : List MailObject) (v : Mta) → messages ≢ []
      → IsNegotiatedIn (settled_in negotiated stage edits verdict acted messages v).filter_connection (Some negotiated)
  settled-negotiated negotiated stage edits verdict acted [] v some = absurd (some refl)
  settled-negotiated negotiated stage edits verdict acted (message ∷ messages) v some = next-negotiated negotiated (on_connection acted) (record v.session { messages = drop 1 v.session.messages }) (drop 1 v.session.messages)

  settled-config : (negotiated : Negotiated) (stage : Stage) (edits : List Edit) (verdict : Verdict) (acted : List Acted) (messages : List MailObject) (v : Mta)
      → (settled_in negotiated stage edits verdict acted messages v).config ≡ v.config
  settled-config negotiated stage edits verdict acted [] v = refl
  settled-config negotiated stage edits verdict acted (message ∷ messages) v = refl

  record HasConfig (v : Mta) (n : Option Negotiated) : Type 0 where
    config : v.config ≡ state.config
    negotiated : IsNegotiatedIn v.filter_connection n

  ruled-has : (ends of_client : Bool) (negotiated : Negotiated) (stage : Stage) (acted : List Acted) (edits : List Edit) (left : List Command) (verdict : Verdict) (v : Mta) → v.config ≡ state.config → v.session.messages ≢ []
      → HasConfig (if ends then (if of_client then settled_all verdict acted v else settled_in negotiated stage edits verdict acted v.session.messages v)
      else mta.at (at_packet (Sending negotiated acted [] (left_after verdict left))) v) (Some negotiated)
  ruled-has true true negotiated stage acted edits left verdict v config some = record { config = config; negotiated = tt }
  ruled-has true false negotiated stage acted edits left verdict v config some = record { config = settled-config negotiated stage edits verdict acted v.session.messages v ∙ config; negotiated = settled-negotiated negotiated stage edits verdict acted v.session.messages v some }
  ruled-has false of_client negotiated stage acted edits left verdict v config some = record { config = config; negotiated = refl }

  verdict-has : (next : PositionParts) (l edits : List Edit) (verdict : Verdict) (n : Option Negotiated) (stage : Stage) → IsCommand state.client_info stage next → IsNegotiatedAt (position_of state.client_info l next) n
      → HasConfig (ruled_in (position_of state.client_info l next) verdict edits (mta_at state (only next))) n
  verdict-has parts.Offering l edits verdict n stage is by = absurd is
  verdict-has (parts.Sending transaction) l edits verdict n stage is by =
      let left = left_of state.client_info transaction in
      let v : Mta = mta_at state (only (parts.Sending transaction)) in
      let acted = with_verdict stage verdict transaction.acted in
      subst (λ (o : Option Negotiated). HasConfig (ruled_at transaction.negotiated (stage_first left) transaction.acted edits left verdict v) o) (sym by)
      (subst (λ (s : Option Stage). HasConfig (ruled_at transaction.negotiated s transaction.acted edits left verdict v) (Some transaction.negotiated)) (sym is)
      (ruled-has (ends_dialogue stage verdict acted (drop 1 left)) (is_of_connection stage) transaction.negotiated stage acted edits (drop 1 left) verdict v refl (λ none. absurd cc)))
  verdict-has parts.Quitting l edits verdict n stage is by = absurd is
  verdict-has parts.Ended l edits verdict n stage is by = absurd is

  -- the last verdicts don't matter for how a loss settles a message that has begun
  lost-at : (s1 : SessionState) (f1 : Connected) (loss : Loss) → lost loss (mta_at s1 (only f1.position)) ≡ lost loss (mta_at s1 f1)
  lost-at s1 f1 loss = lost-over (at_packet (position_of s1.client_info [] f1.position)) (record (at_packet (position_of s1.client_info [] f1.position)) { aborts = f1.aborts }) (unconnected s1 (messages_at f1.position)) refl loss

  -- ---- all of it

  -- what an event leaves, and what the plan makes of it
  pub record Leaves (h : FilterEvent) (new : Channel) (s1 : SessionState) (f1 : Connected) (k1 : Channel) : Type 0 where
    pub config : s1.config ≡ state.config
    pub lost_is : (loss : Loss) → lost loss (mta_at s1 (only f1.position)) ≡ lost loss (driven_by place h new m)
    pub now_is : IsLeftBy h k new → driven_by place h new m ≡ mta_of s1 (Some f1) k1
    pub core_is : IsLeftBy h k new → IsCore s1 (Some f1) k1

  lost-waiting : (new : Channel) (loss : Loss) → lost loss m ≡ lost loss (mta.at (owing (with_edits new.edits place) new.unread) m)
  lost-waiting new loss =
      lost-over (at_packet (position_of state.client_info [] f.position)) (owing (with_edits new.edits place) new.unread) m
      (acted-edits f.position [] new.edits ∙ ap acted_at (sym (with-edits f.position k.edits new.edits))) loss

  offer_edits : f.position ≡ parts.Offering → k.edits ≡ []
  offer_edits is = subst (λ (next : PositionParts). HasEditsAt (position_of state.client_info k.edits next) k.edits) is core.in_step.edits

  -- no edit came where the options are expected
  no_edit : (h : FilterEvent) (new : Channel) → IsWaiting h → IsLeftBy h k new → f.position ≡ parts.Offering → new.edits ≡ []
  no_edit events.Nothing new w left is = ap (λ (c : Channel). c.edits) left ∙ offer_edits is
  no_edit events.InProgress new w left is =
      absurd (left.0 (events_taken.expected_is state f k core owed ∙ ap (λ (next : PositionParts). expected_by (position_of state.client_info k.edits next)) is))
  no_edit events.Negotiated new w left is = absurd w
  no_edit (events.Verdict verdict) new w left is = absurd w

  left-same : (h : FilterEvent) (new : Channel) → IsWaiting h → IsLeftBy h k new → new ≡ record k { edits = new.edits; unread = new.unread }
  left-same events.Nothing new w left = left ∙ ap (λ (es : List Edit). record k { edits = es; unread = new.unread }) (sym (ap (λ (c : Channel). c.edits) left))
  left-same events.InProgress new w left = left.1
  left-same events.Negotiated new w left = absurd w
  left-same (events.Verdict verdict) new w left = absurd w

  leaves-waiting : (h : FilterEvent) (new : Channel) → IsWaiting h → Leaves h new state f new
  leaves-waiting events.Nothing new w = record {
    config = refl;
    lost_is = lost-waiting new;
    now_is = λ left. waiting-is new (left-same events.Nothing new tt left);
    core_is = λ left. waiting-core new (left-same events.Nothing new tt left) (no_edit events.Nothing new tt left);
  }
  leaves-waiting events.InProgress new w = record {
    config = refl;
    lost_is = lost-waiting new;
    now_is = λ left. waiting-is new (left-same events.InProgress new tt left);
    core_is = λ left. waiting-core new (left-same events.InProgress new tt left) (no_edit events.InProgress new tt left);
  }
  leaves-waiting events.Negotiated new w = absurd w
  leaves-waiting (events.Verdict verdict) new w = absurd w

  -- a connection that begins, by its value
  module _ (new : Channel) (s1 : SessionState) (f1 : Connected) (k1 : Channel) (value : Mta) (is : mta_at s1 f1 ≡ value) (n : Option Negotiated) (has : HasConfig value n) where
    config-is : s1.config ≡ state.config
    config-is = ap (λ (v : Mta). v.config) is ∙ has.config

    negotiated-is : IsNegotiatedAt (position_of s1.client_info [] f1.position) n
    negotiated-is = subst (λ (c : Option FilterConnection). IsNegotiatedIn c n) (sym (ap (λ (v : Mta). v.filter_connection) is)) has.negotiated

  leaves-verdict : (verdict : Verdict) (stage : Stage) (new : Channel) (s1 : SessionState) (f1 : Connected) (k1 : Channel) → IsCommand state.client_info stage f.position
      → mta_at s1 f1 ≡ ruled_in (position_of state.client_info [] f.position) verdict new.edits m → k1 ≡ record new { edits = [] } → IsConsistent s1 (Some f1)
      → Leaves (events.Verdict verdict) new s1 f1 k1
  leaves-verdict verdict stage new s1 f1 k1 command is channel consistent =
      let value : Mta = ruled_in place verdict new.edits m in
      let at_place : mta_at s1 f1 ≡ value = is ∙ ruled-edits f.position [] k.edits new.edits verdict m in
      let has : HasConfig value k.negotiated = verdict-has f.position k.edits new.edits verdict k.negotiated stage command core.in_step.negotiated in
      let config = config-is new s1 f1 k1 value at_place k.negotiated has in
      record {
        config = config;
        lost_is = λ loss. lost-at s1 f1 loss ∙ ap (λ (v : Mta). lost loss v) at_place;
        now_is = λ left.
            let none = ap (λ (c : Channel). c.pending) channel ∙ ap (λ (c : Channel). c.pending) left ∙ events_taken.pending_is state f k core owed in
            let nothing = ap (λ (c : Channel). c.expected) channel ∙ ap (λ (c : Channel). c.expected) left in
            let no_unread = ap (λ (c : Channel). c.unread) channel ∙ ap (λ (c : Channel). c.unread) left in
            sym at_place ∙ begun-is s1 f1 k1 nothing none no_unread (ap (λ (c : Channel). c.edits) channel);
        core_is = λ left.
            let none = ap (λ (c : Channel). c.pending) channel ∙ ap (λ (c : Channel). c.pending) left ∙ events_taken.pending_is state f k core owed in
            let nothing = ap (λ (c : Channel). c.expected) channel ∙ ap (λ (c : Channel). c.expected) left in
            let no_unread = ap (λ (c : Channel). c.unread) channel ∙ ap (λ (c : Channel). c.unread) left in
            let offer = ap (λ (c : Channel). c.offer) channel ∙ ap (λ (c : Channel). c.offer) left ∙ core.offer ∙ ap (λ (g : Configuration). g.offer) (sym config) in
            let same_n : k1.negotiated ≡ k.negotiated = ap (λ (c : Channel). c.negotiated) channel ∙ ap (λ (c : Channel). c.negotiated) left in
            begun-core s1 f1 k1 nothing none no_unread (ap (λ (c : Channel). c.edits) channel) consistent offer
            (subst (λ (o : Option Negotiated). IsNegotiatedAt (position_of s1.client_info [] f1.position) o) (sym same_n) (negotiated-is new s1 f1 k1 value at_place k.negotiated has));
      }

  leaves-negotiated : (new : Channel) (s1 : SessionState) (f1 : Connected) (k1 : Channel) (negotiated : Negotiated) → new.negotiated ≡ Some negotiated → f.position ≡ parts.Offering
      → mta_at s1 f1 ≡ opened_by new.negotiated m → k1 ≡ new → IsConsistent s1 (Some f1) → Leaves events.Negotiated new s1 f1 k1
  leaves-negotiated new s1 f1 k1 negotiated by offered is channel consistent =
      let value : Mta = opened_by new.negotiated m in
      let has : HasConfig value (Some negotiated) =
      subst (λ (o : Option Negotiated). HasConfig (opened_by o m) (Some negotiated)) (sym by) (record { config = refl; negotiated = opening-negotiated negotiated m.session m.session.messages }) in
      let config = config-is new s1 f1 k1 value is (Some negotiated) has in
      record {
        config = config;
        lost_is = λ loss. lost-at s1 f1 loss ∙ ap (λ (v : Mta). lost loss v) is;
        now_is = λ left.
            let none = ap (λ (c : Channel). c.pending) channel ∙ ap (λ (c : Channel). c.pending) left.2 ∙ events_taken.pending_is state f k core owed in
            let nothing = ap (λ (c : Channel). c.expected) channel ∙ ap (λ (c : Channel). c.expected) left.2 in
            let no_unread = ap (λ (c : Channel). c.unread) channel ∙ ap (λ (c : Channel). c.unread) left.2 in
            let no_edits = ap (λ (c : Channel). c.edits) channel ∙ ap (λ (c : Channel). c.edits) left.2 ∙ offer_edits offered in
            sym is ∙ begun-is s1 f1 k1 nothing none no_unread no_edits;
        core_is = λ left.
            let none = ap (λ (c : Channel). c.pending) channel ∙ ap (λ (c : Channel). c.pending) left.2 ∙ events_taken.pending_is state f k core owed in
            let nothing = ap (λ (c : Channel). c.expected) channel ∙ ap (λ (c : Channel). c.expected) left.2 in
            let no_unread = ap (λ (c : Channel). c.unread) channel ∙ ap (λ (c : Channel). c.unread) left.2 in
            let no_edits = ap (λ (c : Channel). c.edits) channel ∙ ap (λ (c : Channel). c.edits) left.2 ∙ offer_edits offered in
            let offer = ap (λ (c : Channel). c.offer) channel ∙ ap (λ (c : Channel). c.offer) left.2 ∙ core.offer ∙ ap (λ (g : Configuration). g.offer) (sym config) in
            begun-core s1 f1 k1 nothing none no_unread no_edits consistent offer
            (subst (λ (o : Option Negotiated). IsNegotiatedAt (position_of s1.client_info [] f1.position) o) (sym (ap (λ (c : Channel). c.negotiated) channel ∙ by)) (negotiated-is new s1 f1 k1 value is (Some negotiated) has));
      }

  same-leaves : (h : FilterEvent) (new : Channel) (s1 : SessionState) (f1 : Connected) (k1 : Channel) → s1 ≡ state → f1 ≡ f → k1 ≡ new → Leaves h new state f new → Leaves h new s1 f1 k1
  same-leaves h new s1 f1 k1 a b c l =
      subst (λ (s : SessionState). Leaves h new s f1 k1) (sym a) (subst (λ (g : Connected). Leaves h new state g k1) (sym b) (subst (λ (d : Channel). Leaves h new state f d) (sym c) l))

  follows-verdict : (expected : ExpectedReply) (verdict : Verdict) (new : Channel) (s1 : SessionState) (f1 : Connected) (k1 : Channel) → IsTaken state.client_info f.position expected (events.Verdict verdict) new
      → Follows (events.Verdict verdict) state f new s1 f1 k1 → IsConsistent s1 (Some f1) → Leaves (events.Verdict verdict) new s1 f1 k1
  follows-verdict (expects.Verdict stage) verdict new s1 f1 k1 taken follows consistent = leaves-verdict verdict stage new s1 f1 k1 taken.0 follows.0 follows.1 consistent
  follows-verdict expects.Nothing verdict new s1 f1 k1 taken follows consistent = absurd taken
  follows-verdict expects.Options verdict new s1 f1 k1 taken follows consistent = absurd taken
  follows-verdict expects.Unknown verdict new s1 f1 k1 taken follows consistent = absurd taken

  follows-negotiated : (expected : ExpectedReply) (new : Channel) (s1 : SessionState) (f1 : Connected) (k1 : Channel) → IsTaken state.client_info f.position expected events.Negotiated new
      → Follows events.Negotiated state f new s1 f1 k1 → IsConsistent s1 (Some f1) → Leaves events.Negotiated new s1 f1 k1
  follows-negotiated expects.Nothing new s1 f1 k1 taken follows consistent = leaves-negotiated new s1 f1 k1 taken.1 taken.2 taken.0 follows.0 follows.1 consistent
  follows-negotiated expects.Options new s1 f1 k1 taken follows consistent = leaves-negotiated new s1 f1 k1 taken.1 taken.2 taken.0 follows.0 follows.1 consistent
  follows-negotiated (expects.Verdict stage) new s1 f1 k1 taken follows consistent = leaves-negotiated new s1 f1 k1 taken.1 taken.2 taken.0 follows.0 follows.1 consistent
  follows-negotiated expects.Unknown new s1 f1 k1 taken follows consistent = leaves-negotiated new s1 f1 k1 taken.1 taken.2 taken.0 follows.0 follows.1 consistent

  pub leaves-any : (h : FilterEvent) (new : Channel) (s1 : SessionState) (f1 : Connected) (k1 : Channel) → IsTaken state.client_info f.position k.expected h new
      → Follows h state f new s1 f1 k1 → IsConsistent s1 (Some f1) → Leaves h new s1 f1 k1
  leaves-any (events.Verdict verdict) new s1 f1 k1 taken follows consistent = follows-verdict k.expected verdict new s1 f1 k1 taken follows consistent
  leaves-any events.Negotiated new s1 f1 k1 taken follows consistent = follows-negotiated k.expected new s1 f1 k1 taken follows consistent
  leaves-any events.Nothing new s1 f1 k1 taken follows consistent = same-leaves events.Nothing new s1 f1 k1 follows.0 follows.1 follows.2 (leaves-waiting events.Nothing new tt)
  leaves-any events.InProgress new s1 f1 k1 taken follows consistent = same-leaves events.InProgress new s1 f1 k1 follows.0 follows.1 follows.2 (leaves-waiting events.InProgress new tt)
