-- What a piece leaves of a mail server's end, with a loss or without one.
use Rattle.std.proofs.Common.{◌≡◌, ℕ, true, List, [], ◌∷◌, Option, None, Some, Ok, Err, refl, sym, ap, subst, ◌∙◌}
use Rattle.milter_wire.specs.declared.verdict.Verdict.{Verdict}
use Rattle.milter_message.specs.MailObject.{MailObject}
use Rattle.milter_mta_connection.specs.declared.filter_event.FilterEvent.{FilterEvent}
use Rattle.milter_mta_connection.specs.declared.filter_event.FilterEvent.TheVariants as events
use Rattle.milter_mta_connection.specs.Channel.{Channel, is_owed}
use Rattle.milter_mta_connection.specs.ChannelParts.{ReceivesBy}
use Rattle.milter_mta_connection.specs.Received.{ended, received as received_on_channel}
use Rattle.milter_mta_connection.specs.ReplyRules.{IsAnswered, IsLeftBy, IsWaiting}
use Rattle.milter_mta_outcome.specs.declared.acted_verdicts.Acted.{Acted}
use Rattle.milter_mta_outcome.specs.declared.loss.Loss.{Loss}
use Rattle.milter_mta.specs.declared.state.FilterConnection.{FilterConnection as Connected}
use Rattle.milter_mta.specs.declared.state.SessionState.{SessionState}
use Rattle.milter_mta.specs.CoreParts.{Follows, IsConsistent, IsTaken, mta_at, mta_of, only, unconnected}
use Rattle.milter_mta.specs.Cores.{IsCore, ReceivesBytes}
use Rattle.milter_mta.specs.Dispositions.{defaulted, lost}
use Rattle.milter_mta.specs.Driven.{driven, result_of}
use Rattle.milter_mta.specs.Mta.{Mta, Position}
use Rattle.milter_mta.specs.Replies as mta
use Rattle.milter_mta.proofs.TakenEvents as events_taken
use Rattle.milter_mta.proofs.LeftByEvents as events_left

module _ (state : SessionState) (f : Connected) (k : Channel) (core : IsCore state (Some f) k) (owed : is_owed k ≡ true) where
  abbrev place : Position
  place = events_taken.place state f k core owed

  abbrev m : Mta
  m = events_taken.m state f k core owed

  -- the piece leaves this, without a loss
  pub now-is : (piece : List ℕ) (new : Channel) (h : FilterEvent) (s1 : SessionState) (f1 : Connected) (k1 : Channel) → IsTaken state.client_info f.position k.expected h new
      → Follows h state f new s1 f1 k1 → IsConsistent s1 (Some f1) → IsLeftBy h k new
      → ReceivesBytes (mta_of state (Some f) k) piece (driven place m (record { channel = new; event = h; loss = None })).mta (Ok tt)
      → mta.received (mta_of state (Some f) k) piece ≡ mta.goes_on (mta_of s1 (Some f1) k1)
  now-is piece new h s1 f1 k1 taken follows consistent left receives =
      let l = events_left.leaves-any state f k core owed h new s1 f1 k1 taken follows consistent in
      receives ∙ ap mta.goes_on (l.now_is left)

  pub now-core : (new : Channel) (h : FilterEvent) (s1 : SessionState) (f1 : Connected) (k1 : Channel) → IsTaken state.client_info f.position k.expected h new
      → Follows h state f new s1 f1 k1 → IsConsistent s1 (Some f1) → IsLeftBy h k new → IsCore s1 (Some f1) k1
  now-core new h s1 f1 k1 taken follows consistent left = let l = events_left.leaves-any state f k core owed h new s1 f1 k1 taken follows consistent in l.core_is left

  -- and this where the filter is lost then
  pub then-lost : (piece : List ℕ) (new : Channel) (h : FilterEvent) (loss : Loss) (s1 s2 : SessionState) (f1 : Connected) (k1 : Channel) → IsTaken state.client_info f.position k.expected h new
      → Follows h state f new s1 f1 k1 → IsConsistent s1 (Some f1) → unconnected s2 [] ≡ lost loss (mta_at s1 (only f1.position))
      → ReceivesBytes (mta_of state (Some f) k) piece (driven place m (record { channel = new; event = h; loss = Some loss })).mta (Err loss)
      → ReceivesBytes (mta_of state (Some f) k) piece (unconnected s2 []) (Err loss)
  then-lost piece new h loss s1 s2 f1 k1 taken follows consistent is receives =
      let l = events_left.leaves-any state f k core owed h new s1 f1 k1 taken follows consistent in
      subst (λ (v : Mta). ReceivesBytes (mta_of state (Some f) k) piece v (Err loss)) (sym (is ∙ l.lost_is loss)) receives

  lost-config : (loss : Loss) (acted : List Acted) (messages : List MailObject) (v : Mta) → (defaulted loss acted messages v).config ≡ v.config
  lost-config loss acted [] v = refl
  lost-config loss acted (message ∷ messages) v = refl

  pub config-lost : (loss : Loss) (s1 s2 : SessionState) (f1 : Connected) → unconnected s2 [] ≡ lost loss (mta_at s1 (only f1.position)) → s2.config ≡ s1.config
  config-lost loss s1 s2 f1 is = ap (λ (v : Mta). v.config) is ∙ lost-config loss _ (mta_at s1 (only f1.position)).session.messages (mta_at s1 (only f1.position))

  pub then-config : (new : Channel) (h : FilterEvent) (loss : Loss) (s1 s2 : SessionState) (f1 : Connected) (k1 : Channel) → IsTaken state.client_info f.position k.expected h new
      → Follows h state f new s1 f1 k1 → IsConsistent s1 (Some f1) → unconnected s2 [] ≡ lost loss (mta_at s1 (only f1.position)) → s2.config ≡ state.config
  then-config new h loss s1 s2 f1 k1 taken follows consistent is =
      let l = events_left.leaves-any state f k core owed h new s1 f1 k1 taken follows consistent in
      config-lost loss s1 s2 f1 is ∙ l.config

  pub left-offer : (h : FilterEvent) (before : Channel) → IsLeftBy h k before → before.offer ≡ k.offer
  left-offer events.Nothing before left = ap (λ (c : Channel). c.offer) left
  left-offer events.InProgress before left = ap (λ (c : Channel). c.offer) left.1
  left-offer events.Negotiated before left = ap (λ (c : Channel). c.offer) left.2
  left-offer (events.Verdict verdict) before left = ap (λ (c : Channel). c.offer) left

  module _ (answered : (c : Channel) (bytes : List ℕ) (verdict : Verdict) → (received_on_channel c bytes).event ≡ events.Verdict verdict → IsAnswered c verdict)
      (once : (c : Channel) (bytes : List ℕ) → is_owed (received_on_channel c bytes).channel ≡ true → IsWaiting (received_on_channel c bytes).event)
      (left : (c : Channel) (bytes : List ℕ) → (received_on_channel c bytes).loss ≡ None → IsLeftBy (received_on_channel c bytes).event c (received_on_channel c bytes).channel)
      (lost_left : (c : Channel) (bytes : List ℕ) (loss : Loss) → (received_on_channel c bytes).loss ≡ Some loss
      → (before : Channel) × IsLeftBy (received_on_channel c bytes).event c before × ((received_on_channel c bytes).channel ≡ ended (received_on_channel c bytes).event before))
      (piece : List ℕ) (new : Channel) (h : FilterEvent) (loss : Option Loss) (receives : ReceivesBy loss k piece new h) where
    -- the offer stays
    pub offer-is : new.offer ≡ k.offer
    offer-is =
        let l = events_taken.left-after state f k core owed answered once left lost_left piece loss new h receives in
        l.same_offer ∙ left-offer h l.before l.left_before

    taken-now : IsTaken state.client_info f.position k.expected h new
    taken-now = events_taken.taken-is state f k core owed answered once left lost_left piece loss new h receives

    fed-now : ReceivesBytes (mta_of state (Some f) k) piece (driven place m (record { channel = new; event = h; loss = loss })).mta (result_of loss)
    fed-now = events_taken.fed-is state f k core owed once piece new (record { event = h; loss = loss }) receives

    left-then : loss ≡ None → IsLeftBy h k new
    left-then is = events_taken.left-now state f k core owed answered once left lost_left piece new h (subst (λ (l : Option Loss). ReceivesBy l k piece new h) is receives)

    module _ (s1 : SessionState) (f1 : Connected) (k1 : Channel) (follows : Follows h state f new s1 f1 k1) (consistent : IsConsistent s1 (Some f1)) where
      pub received-is : loss ≡ None → mta.received (mta_of state (Some f) k) piece ≡ mta.goes_on (mta_of s1 (Some f1) k1)
      received-is is =
          now-is piece new h s1 f1 k1 taken-now follows consistent (left-then is)
          (subst (λ (l : Option Loss). ReceivesBytes (mta_of state (Some f) k) piece (driven place m (record { channel = new; event = h; loss = l })).mta (result_of l)) is fed-now)

      pub received-core : loss ≡ None → IsCore s1 (Some f1) k1
      received-core is = now-core new h s1 f1 k1 taken-now follows consistent (left-then is)

      pub lost-receives : (by : Loss) (s2 : SessionState) → loss ≡ Some by → unconnected s2 [] ≡ lost by (mta_at s1 (only f1.position))
          → ReceivesBytes (mta_of state (Some f) k) piece (unconnected s2 []) (Err by)
      lost-receives by s2 is lost_is =
          then-lost piece new h by s1 s2 f1 k1 taken-now follows consistent lost_is
          (subst (λ (l : Option Loss). ReceivesBytes (mta_of state (Some f) k) piece (driven place m (record { channel = new; event = h; loss = l })).mta (result_of l)) is fed-now)

      pub lost-config-is : (by : Loss) (s2 : SessionState) → unconnected s2 [] ≡ lost by (mta_at s1 (only f1.position)) → s2.config ≡ state.config
      lost-config-is by s2 lost_is = then-config new h by s1 s2 f1 k1 taken-now follows consistent lost_is
