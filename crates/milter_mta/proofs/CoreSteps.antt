-- What queuing and sending a packet leaves of a mail server's end.
use Rattle.std.proofs.Common.{◌≡◌, ◌≤◌, ◌+◌, ◌==◌, inl, inr, ℕ, Bool, true, false, not, List, [], ◌∷◌, ◌++◌, drop, length, Option, None, Some, refl, sym, ap, subst, ◌∙◌, suc, arith}
use Rattle.std.specs.Prelude.{if◌then◌else◌}
use Rattle.std.proofs.lemmas.Bool.Decides.{nat_tests}
use Rattle.milter_fields.specs.Number.{number}
use Rattle.milter_wire.specs.declared.options.Options.{Options}
use Rattle.milter_wire.specs.declared.command.Command.{Command}
use Rattle.milter_wire.specs.declared.negotiation.Negotiated.{Negotiated}
use Rattle.milter_wire.specs.declared.stage.Stage.{Stage}
use Rattle.milter_wire.specs.Command.{encoding}
use Rattle.milter_wire.specs.Negotiation.{is_answered, is_asked_at}
use Rattle.milter_wire.specs.Stages.{stage_of}
use Rattle.milter_message.specs.declared.edit.Edit.{Edit}
use Rattle.milter_message.specs.MailObject.{MailObject}
use Rattle.milter_mta_connection.specs.declared.channel_state.ExpectedReply.{ExpectedReply}
use Rattle.milter_mta_connection.specs.declared.channel_state.ExpectedReply.TheVariants as expects
use Rattle.milter_mta_connection.specs.Channel.{Channel, is_expecting, is_owed, is_owed_by, sent}
use Rattle.milter_mta_outcome.specs.Transactions.{asks_first, stage_first}
use denote.Enum.Bare.{sameb}
use Rattle.milter_mta.specs.declared.mta_core.Want.{Want}
use Rattle.milter_mta.specs.declared.mta_core.Want.TheVariants as wants
use Rattle.milter_mta.specs.contracts.mta_core.Want.{the_type}
use Rattle.milter_mta.specs.declared.state.FilterConnection.{FilterConnection as Connected}
use Rattle.milter_mta.specs.declared.state.SessionState.{SessionState}
use Rattle.milter_mta.specs.CoreParts.{CanSend, IsConsistent, IsSamePlace, connection_of, messages_at, mta_of, only, position_of, unconnected}
use Rattle.milter_mta.specs.Cores.{IsCore}
use Rattle.milter_mta.specs.Driven.{ExpectsAt, HasEditsAt, IsInStep, IsNegotiatedAt, expected_after, expected_by, expected_first, queued}
use Rattle.milter_mta.specs.Mta.{FilterConnection, Mta, Position}
use Rattle.milter_mta.specs.Mta.Position.{Offering, Sending, Quitting, Ended}
use Rattle.milter_mta.specs.Output as output
use Rattle.milter_mta.specs.Output.{advanced, after_packet, asks_at, command_at, finished, made, want, want_at}

-- ---- what is owed

-- nothing is owed where the next packet is wanted
not_owed : (aborts : Bool) (position : Position) (owed : Bool) → want_at aborts position owed ≡ wants.Send → owed ≡ false
not_owed aborts position false e = refl
not_owed true position true e = absurd cc
not_owed false Offering true e = absurd cc
not_owed false (Sending negotiated acted edits left) true e = absurd cc
not_owed false Quitting true e = absurd cc
not_owed false Ended true e = absurd cc

asks_at_stage : (negotiated : Negotiated) (stage : Option Stage) → is_asked_at negotiated stage ≡ is_expecting (expected_first negotiated stage)
asks_at_stage negotiated None = refl
asks_at_stage negotiated (Some stage) = by_answered (is_answered negotiated stage)
  where
    by_answered : (answered : Bool) → answered ≡ is_expecting (if answered then expects.Verdict stage else expects.Nothing)
    by_answered true = refl
    by_answered false = refl

asks_left : (negotiated : Negotiated) (left : List Command) → asks_first negotiated left ≡ is_expecting (expected_first negotiated (stage_first left))
asks_left negotiated [] = refl
asks_left negotiated (command ∷ left) = asks_at_stage negotiated (stage_of command)

-- the packet has a reply where one is expected
asks-expecting : (position : Position) → asks_at position ≡ is_expecting (expected_by position)
asks-expecting Offering = refl
asks-expecting (Sending negotiated acted edits left) = asks_left negotiated left
asks-expecting Quitting = refl
asks-expecting Ended = refl

-- ---- the next packet is queued

module _ (state : SessionState) (f new : Connected) (k : Channel) (same : IsSamePlace state.client_info f new) where
  abbrev position : Position
  position = position_of state.client_info k.edits f.position

  abbrev at : List ℕ → Bool → Bool → Position → List MailObject → Mta
  at pending owed aborts p messages = record (unconnected state messages) {
    filter_connection = Some (record { aborts = aborts; position = p; pending = pending; owed = owed; unread = k.unread });
  }

  -- the same place is no other end
  moved : (pending : List ℕ) (owed : Bool) → at pending owed new.aborts (position_of state.client_info k.edits new.position) (messages_at new.position)
      ≡ at pending owed f.aborts position (messages_at f.position)
  moved pending owed =
      ap (λ (ms : List MailObject). at pending owed new.aborts (position_of state.client_info k.edits new.position) ms) same.messages
      ∙ ap (λ (p : Position). at pending owed new.aborts p (messages_at f.position)) (same.position k.edits)
      ∙ ap (λ (a : Bool). at pending owed a position (messages_at f.position)) same.aborts

  module _ (none : k.pending ≡ []) (owed : is_owed k ≡ false) where
    abbrev made_by : Option Command → Mta
    made_by command = record (mta_of state (Some f) k) { filter_connection = Some (record (connection_of state.client_info f k) { pending = output.pending_or k.pending command }) }

    by_command : (command : Option Command) (expected : ExpectedReply) → mta_of state (Some new) (queued command expected k) ≡ made_by command
    unfolding number
    by_command None expected =
        ap (λ (p : List ℕ). at p (is_owed_by k.expected p) new.aborts (position_of state.client_info k.edits new.position) (messages_at new.position)) none
        ∙ moved [] (is_owed_by k.expected [])
        ∙ ap (λ (p : List ℕ). at [] (is_owed_by k.expected p) f.aborts position (messages_at f.position)) (sym none)
        ∙ ap (λ (p : List ℕ). at (output.pending_or p None) (is_owed k) f.aborts position (messages_at f.position)) (sym none)
    by_command (Some command) expected =
        ap (λ (p : List ℕ). at (p ++ encoding command) (is_owed_by expected (p ++ encoding command)) new.aborts (position_of state.client_info k.edits new.position) (messages_at new.position)) none
        ∙ moved (encoding command) false
        ∙ ap (λ (o : Bool). at (encoding command) o f.aborts position (messages_at f.position)) (sym owed)
        ∙ ap (λ (p : List ℕ). at (output.pending_or p (Some command)) (is_owed k) f.aborts position (messages_at f.position)) (sym none)

  pub advanced-is : (after : Channel) → k.offer ≡ state.config.offer → k.pending ≡ [] → want (mta_of state (Some f) k) ≡ wants.Send
      → after ≡ queued (command_at k.offer f.aborts position) (expected_after f.aborts position) k
      → mta_of state (Some new) after ≡ advanced (mta_of state (Some f) k)
  advanced-is after offer none wanted is =
      let owed = not_owed f.aborts position (is_owed k) wanted in
      let is_made : mta_of state (Some new) after ≡ made_by none owed (command_at state.config.offer f.aborts position) =
      ap (λ (c : Channel). mta_of state (Some new) c) is
      ∙ by_command none owed (command_at k.offer f.aborts position) (expected_after f.aborts position)
      ∙ ap (λ (o : Options). made_by none owed (command_at o f.aborts position)) offer in
      rw wanted is_made

  -- the channel is in step still
  in_step_by : (aborts : Bool) (p : Position) (command : Option Command) → k.pending ≡ [] → IsInStep aborts p k
      → IsInStep aborts p (queued command (expected_after aborts p) k)
  unfolding number
  in_step_by aborts p None none s = s
  in_step_by aborts p (Some command) none s = record {
    negotiated = s.negotiated;
    edits = s.edits;
    aborting = λ e. by_abort aborts e;
    expecting = λ e. subst (λ (l : List ℕ). ExpectsAt p (l ++ encoding command) (expected_after aborts p)) (sym none) (by_none aborts e);
  }
    where
      by_abort : (a : Bool) → a ≡ true → expected_after a p ≡ expects.Nothing
      by_abort true e = refl
      by_abort false e = absurd cc

      by_none : (a : Bool) → a ≡ false → ExpectsAt p (encoding command) (expected_after a p)
      by_none true e = absurd cc
      by_none false e = refl

  pub queued-in_step : (after : Channel) → k.pending ≡ [] → IsInStep f.aborts position k
      → after ≡ queued (command_at k.offer f.aborts position) (expected_after f.aborts position) k
      → IsInStep new.aborts (position_of state.client_info after.edits new.position) after
  queued-in_step after none s is =
      subst (λ (c : Channel). IsInStep new.aborts (position_of state.client_info c.edits new.position) c) (sym is)
      (subst (λ (e : List Edit). IsInStep new.aborts (position_of state.client_info e new.position) (queued (command_at k.offer f.aborts position) (expected_after f.aborts position) k)) (edits_same (command_at k.offer f.aborts position))
      (subst (λ (p : Position). IsInStep new.aborts p (queued (command_at k.offer f.aborts position) (expected_after f.aborts position) k)) (sym (same.position k.edits))
      (subst (λ (a : Bool). IsInStep a position (queued (command_at k.offer f.aborts position) (expected_after f.aborts position) k)) (sym same.aborts)
      (in_step_by f.aborts position (command_at k.offer f.aborts position) none s))))
    where
      edits_same : (command : Option Command) → k.edits ≡ (queued command (expected_after f.aborts position) k).edits
      edits_same None = refl
      edits_same (Some command) = refl

-- ---- bytes are sent

-- a list with no bytes, or with some
pub no_bytes : (l : List ℕ) (empty : Bool) → empty ≡ (length l == 0) → empty ≡ true → l ≡ []
no_bytes [] empty e is = refl
no_bytes (x ∷ l) empty e is = absurd (no (length l) (sym e ∙ is))
  where
    no : (n : ℕ) → (suc n == 0) ≡ true → ⊥
    no n e = grind (arith, nat_tests)

pub record HasBytes (l : List ℕ) : Type 0 where
  pub byte : ℕ
  pub bytes : List ℕ
  pub are : l ≡ byte ∷ bytes

pub some_bytes : (l : List ℕ) (empty : Bool) → empty ≡ (length l == 0) → empty ≡ false → HasBytes l
some_bytes [] empty e is = absurd (let f : true ≡ false = sym e ∙ is in cc)
some_bytes (x ∷ l) empty e is = record { byte = x; bytes = l; are = refl }

pub is_send : (w : Want) → false ≡ not (sameb the_type w wants.Send) → w ≡ wants.Send
is_send wants.Send e = refl
is_send wants.Dial e = absurd cc
is_send wants.Receive e = absurd cc
is_send wants.Done e = absurd cc

pub not_send : (c : FilterConnection) (w : Want) (m : Mta) → true ≡ not (sameb the_type w wants.Send) → output.advanced_in (Some c) w m ≡ m
not_send c wants.Send m e = absurd cc
not_send c wants.Dial m e = refl
not_send c wants.Receive m e = refl
not_send c wants.Done m e = refl

module _ (state : SessionState) (f : Connected) (k : Channel) where
  abbrev place : Position
  place = position_of state.client_info k.edits f.position

  abbrev here : Mta
  here = mta_of state (Some f) k

  abbrev with_connection : FilterConnection → Mta
  with_connection c = record (unconnected state (messages_at f.position)) { filter_connection = Some c }

  -- what is pending is not made again
  pub made-already : HasBytes k.pending → with_connection (made state.config (connection_of state.client_info f k)) ≡ here
  made-already some =
      ap (λ (l : List ℕ). with_connection (record (connection_of state.client_info f k) { pending = output.pending_or l (command_at state.config.offer f.aborts place); owed = is_owed_by k.expected l })) some.are
      ∙ ap (λ (l : List ℕ). with_connection (record (connection_of state.client_info f k) { pending = l; owed = is_owed_by k.expected l })) (sym some.are)

  module _ (count : ℕ) (some : HasBytes k.pending) (s : IsInStep f.aborts place k) where
    abbrev before : FilterConnection
    before = connection_of state.client_info f k

    -- bytes are left, or none
    sent_by : (left : List ℕ) → drop count k.pending ≡ left
        → output.sent count here ≡ with_connection (output.sent_from before left)
    sent_by left is =
        ap (λ (l : List ℕ). with_connection (output.sent_of count l before)) some.are
        ∙ ap (λ (l : List ℕ). with_connection (output.sent_from before l)) (ap (drop count) (sym some.are) ∙ is)

    not_owed_before : is_owed k ≡ false
    not_owed_before = ap (is_owed_by k.expected) some.are

    pub left-is : HasBytes (drop count k.pending) → mta_of state (Some f) (sent count k) ≡ output.sent count here
    left-is left =
        ap (λ (l : List ℕ). with_connection (record before { pending = l; owed = is_owed_by k.expected l })) left.are
        ∙ ap (λ (o : Bool). with_connection (record before { pending = left.byte ∷ left.bytes; owed = o })) (sym not_owed_before)
        ∙ sym (sent_by (left.byte ∷ left.bytes) left.are)

    pub left-in_step : HasBytes (drop count k.pending) → IsInStep f.aborts place (sent count k)
    left-in_step left = record {
      negotiated = s.negotiated;
      edits = s.edits;
      aborting = s.aborting;
      expecting = λ e. subst (λ (l : List ℕ). ExpectsAt place l k.expected) (sym left.are) (subst (λ (l : List ℕ). ExpectsAt place l k.expected) some.are (s.expecting e));
    }

    expected-is : f.aborts ≡ false → k.expected ≡ expected_by place
    expected-is e = subst (λ (l : List ℕ). ExpectsAt place l k.expected) some.are (s.expecting e)

    no_abort : (aborts : Bool) → f.aborts ≡ aborts → is_expecting k.expected ≡ true → aborts ≡ false
    no_abort true is expecting = absurd (no (subst (λ (e : ExpectedReply). is_expecting e ≡ true) (s.aborting is) expecting))
      where
        no : is_expecting expects.Nothing ≡ true → ⊥
        no e = absurd cc
    no_abort false is expecting = refl

    finished-by : (aborts asks : Bool) → FilterConnection
    finished-by aborts asks =
        if aborts then record before { aborts = false; pending = []; owed = false }
        else if asks then record before { pending = []; owed = true }
        else record before { position = after_packet place; pending = []; owed = false }

    -- the packet was sent whole, and its reply is owed
    pub owed-is : drop count k.pending ≡ [] → is_owed (sent count k) ≡ true → mta_of state (Some f) (sent count k) ≡ output.sent count here
    owed-is none owed =
        let expecting : is_expecting k.expected ≡ true = sym (ap (is_owed_by k.expected) none) ∙ owed in
        let a : f.aborts ≡ false = no_abort f.aborts refl expecting in
        let asks : asks_at place ≡ true = asks-expecting place ∙ ap is_expecting (sym (expected-is a)) ∙ expecting in
        ap (λ (l : List ℕ). with_connection (record before { pending = l; owed = is_owed_by k.expected l })) none
        ∙ ap (λ (o : Bool). with_connection (record before { pending = []; owed = o })) expecting
        ∙ ap (λ (q : Bool). with_connection (if false then record before { aborts = false; pending = []; owed = false } else if q then record before { pending = []; owed = true } else record before { position = after_packet place; pending = []; owed = false })) (sym asks)
        ∙ ap (λ (b : Bool). with_connection (if b then record before { aborts = false; pending = []; owed = false } else if asks_at place then record before { pending = []; owed = true } else record before { position = after_packet place; pending = []; owed = false })) (sym a)
        ∙ sym (sent_by [] none)

    pub owed-in_step : drop count k.pending ≡ [] → IsInStep f.aborts place (sent count k)
    owed-in_step none = record {
      negotiated = s.negotiated;
      edits = s.edits;
      aborting = s.aborting;
      expecting = λ e. subst (λ (l : List ℕ). ExpectsAt place l k.expected) (sym none) (inr (expected-is e));
    }

    nothing : (expected : ExpectedReply) → is_expecting expected ≡ false → expected ≡ expects.Nothing
    nothing expects.Nothing e = refl
    nothing expects.Options e = absurd cc
    nothing (expects.Verdict stage) e = absurd cc
    nothing expects.Unknown e = absurd cc

    -- it was sent whole, and the next one follows
    module _ (new : Connected) (none : drop count k.pending ≡ []) (done : is_owed (sent count k) ≡ false)
        (aborted : f.aborts ≡ true → new ≡ only f.position)
        (after : f.aborts ≡ false → (edits : List Edit) → position_of state.client_info edits new.position ≡ after_packet (position_of state.client_info edits f.position))
        (aborts : new.aborts ≡ false) (messages : messages_at new.position ≡ messages_at f.position) where
      not_expecting : is_expecting k.expected ≡ false
      not_expecting = sym (ap (is_owed_by k.expected) none) ∙ done

      abbrev at_new : Bool → Position → List MailObject → List ℕ → Mta
      at_new a p ms l = record (unconnected state ms) { filter_connection = Some (record { aborts = a; position = p; pending = l; owed = is_owed_by k.expected l; unread = k.unread }) }

      by_abort : (a : Bool) → f.aborts ≡ a → mta_of state (Some new) (sent count k) ≡ with_connection (if a then record before { aborts = false; pending = []; owed = false }
          else if asks_at place then record before { pending = []; owed = true } else record before { position = after_packet place; pending = []; owed = false })
      by_abort true e =
          ap (λ (n : Connected). mta_of state (Some n) (sent count k)) (aborted e)
          ∙ ap (λ (l : List ℕ). at_new false place (messages_at f.position) l) none
          ∙ ap (λ (o : Bool). with_connection (record before { aborts = false; pending = []; owed = o })) not_expecting
      by_abort false e =
          let asks : asks_at place ≡ false = asks-expecting place ∙ ap is_expecting (sym (expected-is e)) ∙ not_expecting in
          ap (λ (l : List ℕ). at_new new.aborts (position_of state.client_info k.edits new.position) (messages_at new.position) l) none
          ∙ ap (λ (a : Bool). at_new a (position_of state.client_info k.edits new.position) (messages_at new.position) []) (aborts ∙ sym e)
          ∙ ap (λ (p : Position). at_new f.aborts p (messages_at new.position) []) (after e k.edits)
          ∙ ap (λ (ms : List MailObject). at_new f.aborts (after_packet place) ms []) messages
          ∙ ap (λ (o : Bool). with_connection (record before { position = after_packet place; pending = []; owed = o })) not_expecting
          ∙ ap (λ (q : Bool). with_connection (if q then record before { pending = []; owed = true } else record before { position = after_packet place; pending = []; owed = false })) (sym asks)

      pub next-is : mta_of state (Some new) (sent count k) ≡ output.sent count here
      next-is = by_abort f.aborts refl ∙ sym (sent_by [] none)

      after_negotiated : (p : Position) (n : _) → IsNegotiatedAt p n → IsNegotiatedAt (after_packet p) n
      after_negotiated Offering n is = is
      after_negotiated (Sending negotiated acted edits left) n is = is
      after_negotiated Quitting n is = tt
      after_negotiated Ended n is = tt

      after_edits : (p : Position) (edits : List Edit) → HasEditsAt p edits → HasEditsAt (after_packet p) edits
      after_edits Offering edits is = is
      after_edits (Sending negotiated acted before_ left) edits is = tt
      after_edits Quitting edits is = tt
      after_edits Ended edits is = tt

      step_from : (p : Position) → IsNegotiatedAt p k.negotiated → HasEditsAt p k.edits → IsInStep new.aborts p (sent count k)
      step_from p n d = record {
        negotiated = n;
        edits = d;
        aborting = λ e. nothing k.expected not_expecting;
        expecting = λ e. subst (λ (l : List ℕ). ExpectsAt p l k.expected) (sym none) (inl (nothing k.expected not_expecting));
      }

      step_by : (a : Bool) → f.aborts ≡ a → IsInStep new.aborts (position_of state.client_info k.edits new.position) (sent count k)
      step_by true e =
          subst (λ (n : Connected). IsInStep new.aborts (position_of state.client_info k.edits n.position) (sent count k)) (sym (aborted e)) (step_from place s.negotiated s.edits)
      step_by false e =
          subst (λ (p : Position). IsInStep new.aborts p (sent count k)) (sym (after e k.edits))
          (step_from (after_packet place) (after_negotiated place k.negotiated s.negotiated) (after_edits place k.edits s.edits))

      pub next-in_step : IsInStep new.aborts (position_of state.client_info k.edits new.position) (sent count k)
      next-in_step = step_by f.aborts refl

-- ---- what always holds of it

pub moved-consistent : (state : SessionState) (f new : Connected) → IsSamePlace state.client_info f new → IsConsistent state (Some f) → IsConsistent state (Some new)
moved-consistent state f new same i = record {
  whole = i.whole;
  room = subst (λ (ms : List MailObject). length ms + length state.queue.waiting ≤ state.queue.spare) (sym same.messages) i.room;
  can_send = same.can_send;
}

queued-offer : (command : Option Command) (expected : ExpectedReply) (k : Channel) → (queued command expected k).offer ≡ k.offer
queued-offer None expected k = refl
queued-offer (Some command) expected k = refl

pub queued-core : (state : SessionState) (f new : Connected) (k after : Channel) → IsSamePlace state.client_info f new → k.pending ≡ [] → IsCore state (Some f) k
    → after ≡ queued (command_at k.offer f.aborts (position_of state.client_info k.edits f.position)) (expected_after f.aborts (position_of state.client_info k.edits f.position)) k
    → IsCore state (Some new) after
queued-core state f new k after same none core is = record {
  consistent = moved-consistent state f new same core.consistent;
  offer = ap (λ (c : Channel). c.offer) is ∙ queued-offer _ _ k ∙ core.offer;
  in_step = queued-in_step state f new k same after none core.in_step is;
}

pub same-core : (state : SessionState) (f new : Connected) (k after : Channel) → IsSamePlace state.client_info f new → IsCore state (Some f) k → after ≡ k → IsCore state (Some new) after
same-core state f new k after same core is =
    let s : IsInStep f.aborts (position_of state.client_info k.edits f.position) k = core.in_step in
    subst (λ (c : Channel). IsCore state (Some new) c) (sym is) (record {
      consistent = moved-consistent state f new same core.consistent;
      offer = core.offer;
      in_step = subst (λ (a : Bool). IsInStep a (position_of state.client_info k.edits new.position) k) (sym same.aborts)
          (subst (λ (p : Position). IsInStep f.aborts p k) (sym (same.position k.edits)) s);
    })

pub stepped-consistent : (state : SessionState) (f new : Connected) → CanSend state.client_info new.position → messages_at new.position ≡ messages_at f.position → IsConsistent state (Some f) → IsConsistent state (Some new)
stepped-consistent state f new can_send messages i = record {
  whole = i.whole;
  room = subst (λ (ms : List MailObject). length ms + length state.queue.waiting ≤ state.queue.spare) (sym messages) i.room;
  can_send = can_send;
}
