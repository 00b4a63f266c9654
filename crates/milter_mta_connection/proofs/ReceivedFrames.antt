-- What is received of the bytes of a piece, up to the end of one packet.
use Rattle.std.proofs.Common.{◌≡◌, ℕ, true, false, List, [], ◌∷◌, ◌++◌, length, Option, None, Some, Result, Ok, Err, refl, sym, ◌∙◌, ap, subst, append_assoc, append-nil, arith, ◌<◌}
use Rattle.std.specs.List.{fold}
use Rattle.milter_fields.specs.declared.fault.WireFault.{WireFault}
use Rattle.milter_fields.specs.Stream.{Frame, IsFrame, IsUnfinished, first_frame, frame_bytes, length_fault}
use Rattle.milter_fields.proofs.StreamLaws.{length_fault-unfinished, prefix-unfinished}
use Rattle.milter_wire.specs.declared.negotiation.Negotiated.{Negotiated}
use Rattle.milter_wire.specs.declared.reply.Reply.{Reply}
use Rattle.milter_wire.specs.declared.stage.Stage.{Stage}
use Rattle.milter_wire.specs.declared.stage.Stage.TheVariants.{Rcpt}
use Rattle.milter_wire.specs.Frames.{frame_reply}
use Rattle.milter_protocol.specs.declared.answer.Action.{Action}
use Rattle.milter_protocol.specs.declared.answer.Action.TheVariants as actions
use Rattle.milter_mta_outcome.specs.declared.loss.Loss.{Loss}
use Rattle.milter_mta_outcome.specs.declared.loss.MtaFault.{MtaFault}
use Rattle.milter_mta_outcome.specs.declared.loss.MtaFault.TheVariants.{Wire, Early}
use Rattle.milter_mta_outcome.specs.ReceivedReplies.{options_received, reply_received}
use Rattle.milter_mta_connection.specs.declared.channel_state.ExpectedReply.{ExpectedReply}
use Rattle.milter_mta_connection.specs.declared.channel_state.ExpectedReply.TheVariants as expects
use Rattle.milter_mta_connection.specs.declared.filter_event.FilterEvent.{FilterEvent}
use Rattle.milter_mta_outcome.specs.EditWeights.{weight_of_all}
use Rattle.milter_mta_connection.specs.Channel.{Channel, is_owed}
use Rattle.milter_mta_connection.specs.Received.{After, ended, fails, framed, goes_on, negotiated_on, received_as, received_byte, replied, replied_at, unread_is}
use Rattle.milter_mta_connection.proofs.UnfinishedBytes.{first-packet, no_fault-packet, no_fault_there, no_frame-unfinished, unfinished-before, unfinished-no_packet}

-- ---- what is unread doesn't matter for a reply

abbrev pub with_unread : Channel → List ℕ → Channel
with_unread c unread = record c { unread = unread }

module _ (h : FilterEvent) (c : Channel) (l r : List ℕ) where
  fails-over : (fault : MtaFault) → fails fault h (with_unread c l) ≡ fails fault h (with_unread c r)
  fails-over fault = refl

  received_as-over : (received : Result Action MtaFault) → received_as received h (with_unread c l) ≡ received_as received h (with_unread c r)
  received_as-over (Err fault) = refl
  received_as-over (Ok (actions.Edit edit)) = refl
  received_as-over (Ok (actions.Verdict verdict)) = refl

  replied_at-over : (negotiated : Option Negotiated) (stage : Stage) (reply : Reply) → replied_at negotiated stage reply h (with_unread c l) ≡ replied_at negotiated stage reply h (with_unread c r)
  replied_at-over None stage reply = refl
  replied_at-over (Some negotiated) stage reply = received_as-over (reply_received negotiated stage (weight_of_all c.edits) reply)

  negotiated_on-over : (negotiated : Result Negotiated MtaFault) → negotiated_on negotiated h (with_unread c l) ≡ negotiated_on negotiated h (with_unread c r)
  negotiated_on-over (Err fault) = refl
  negotiated_on-over (Ok negotiated) = refl

  replied-over : (expected : ExpectedReply) (reply : Reply) → replied expected reply h (with_unread c l) ≡ replied expected reply h (with_unread c r)
  replied-over expects.Nothing reply = refl
  replied-over expects.Options reply = negotiated_on-over (options_received c.offer reply)
  replied-over (expects.Verdict stage) reply = replied_at-over c.negotiated stage reply
  replied-over expects.Unknown reply = replied_at-over c.negotiated Rcpt reply

  pub framed-over : (reply : Result Reply WireFault) → framed reply h (with_unread c l) ≡ framed reply h (with_unread c r)
  framed-over (Err fault) = refl
  framed-over (Ok reply) = replied-over c.expected reply

-- ---- one byte

one_byte : (h : FilterEvent) (c : Channel) (x : ℕ) → is_owed c ≡ true
    → received_byte (goes_on h c) x ≡ unread_is (c.unread ++ x ∷ []) (length_fault (c.unread ++ x ∷ [])) (first_frame (c.unread ++ x ∷ [])) h c
one_byte h c x owed = rw owed refl

unread_none : (h : FilterEvent) (c : Channel) (unread : List ℕ) (fault : Option WireFault) (first : Option (Frame × List ℕ)) → fault ≡ None → first ≡ None
    → unread_is unread fault first h c ≡ goes_on h (with_unread c unread)
unread_none h c unread fault first f g = rw (f, g) refl

unread_packet : (h : FilterEvent) (c : Channel) (unread : List ℕ) (fault : Option WireFault) (first : Option (Frame × List ℕ)) (packet : Frame) → fault ≡ None → first ≡ Some (packet, [])
    → unread_is unread fault first h c ≡ framed (frame_reply packet) h c
unread_packet h c unread fault first packet f g = rw (f, g) refl

unread_fault : (h : FilterEvent) (c : Channel) (unread : List ℕ) (fault : Option WireFault) (first : Option (Frame × List ℕ)) (is : WireFault) → fault ≡ Some is
    → unread_is unread fault first h c ≡ fails (Wire is) h c
unread_fault h c unread fault first is f = rw f refl

-- ---- more bytes

-- after a loss nothing more is received
pub lost-stays : (h : FilterEvent) (c : Channel) (loss : Loss) (bytes : List ℕ)
    → fold received_byte (record { channel = c; event = h; loss = Some loss }) bytes ≡ record { channel = c; event = h; loss = Some loss }
lost-stays h c loss [] = refl
lost-stays h c loss (x ∷ bytes) = lost-stays h c loss bytes

-- while no reply is owed
pub early : (h : FilterEvent) (c : Channel) (bytes : List ℕ) → is_owed c ≡ false → 0 < length bytes → fold received_byte (goes_on h c) bytes ≡ fails Early h c
early h c [] owed some = absurd (omega arith)
early h c (x ∷ bytes) owed some =
    let step : received_byte (goes_on h c) x ≡ fails Early h c = rw owed refl in
    ap (λ (a : After). fold received_byte a bytes) step ∙ lost-stays h (ended h c) _ bytes

-- bytes that begin with no packet are only kept
pub received-unfinished : (bytes unread : List ℕ) (h : FilterEvent) (c : Channel) → is_owed c ≡ true → IsUnfinished (unread ++ bytes)
    → fold received_byte (goes_on h (with_unread c unread)) bytes ≡ goes_on h (with_unread c (unread ++ bytes))
received-unfinished [] unread h c owed u = ap (λ (us : List ℕ). goes_on h (with_unread c us)) (sym (append-nil unread))
received-unfinished (x ∷ bytes) unread h c owed u =
    let whole : (unread ++ x ∷ []) ++ bytes ≡ unread ++ x ∷ bytes = append_assoc unread (x ∷ []) bytes in
    let all : IsUnfinished ((unread ++ x ∷ []) ++ bytes) = subst IsUnfinished (sym whole) u in
    let here = unfinished-before (unread ++ x ∷ []) bytes all in
    let step : received_byte (goes_on h (with_unread c unread)) x ≡ goes_on h (with_unread c (unread ++ x ∷ [])) =
    one_byte h (with_unread c unread) x owed
    ∙ unread_none h (with_unread c unread) (unread ++ x ∷ []) _ _ (length_fault-unfinished _ here) (no_frame-unfinished _ here) in
    ap (λ (after : After). fold received_byte after bytes) step
    ∙ received-unfinished bytes (unread ++ x ∷ []) h c owed all
    ∙ ap (λ (us : List ℕ). goes_on h (with_unread c us)) whole

-- the last byte of a packet is received after some unread bytes
pub received-packet : (bytes unread : List ℕ) (h : FilterEvent) (c : Channel) (f : Frame) → is_owed c ≡ true → IsUnfinished unread → IsFrame f → unread ++ bytes ≡ frame_bytes f
    → fold received_byte (goes_on h (with_unread c unread)) bytes ≡ framed (frame_reply f) h (with_unread c [])
received-packet [] unread h c f owed u fits is = absurd (unfinished-no_packet unread f fits u (sym (append-nil unread) ∙ is))
received-packet (x ∷ []) unread h c f owed u fits is =
    one_byte h (with_unread c unread) x owed
    ∙ unread_packet h (with_unread c unread) (unread ++ x ∷ []) _ _ f (no_fault-packet _ f fits is) (first-packet _ f fits is)
    ∙ framed-over h c unread [] (frame_reply f)
received-packet (x ∷ y ∷ bytes) unread h c f owed u fits is =
    let whole : (unread ++ x ∷ []) ++ y ∷ bytes ≡ unread ++ x ∷ y ∷ bytes = append_assoc unread (x ∷ []) (y ∷ bytes) in
    let here = prefix-unfinished (unread ++ x ∷ []) (y ∷ bytes) f fits (λ none. absurd cc) (whole ∙ is) in
    let step : received_byte (goes_on h (with_unread c unread)) x ≡ goes_on h (with_unread c (unread ++ x ∷ [])) =
    one_byte h (with_unread c unread) x owed
    ∙ unread_none h (with_unread c unread) (unread ++ x ∷ []) _ _ (length_fault-unfinished _ here) (no_frame-unfinished _ here) in
    ap (λ (after : After). fold received_byte after (y ∷ bytes)) step
    ∙ received-packet (y ∷ bytes) (unread ++ x ∷ []) h c f owed here fits (whole ∙ is)

-- the fault of a length is received with its field's last byte, and what follows is not
received-fault_here : (bytes unread : List ℕ) (x : ℕ) (h : FilterEvent) (c : Channel) (f : WireFault) → is_owed c ≡ true → length_fault (unread ++ x ∷ []) ≡ Some f
    → fold received_byte (goes_on h (with_unread c unread)) (x ∷ bytes) ≡ fails (Wire f) h c
received-fault_here bytes unread x h c f owed is =
    let step : received_byte (goes_on h (with_unread c unread)) x ≡ fails (Wire f) h (with_unread c unread) =
    one_byte h (with_unread c unread) x owed
    ∙ unread_fault h (with_unread c unread) (unread ++ x ∷ []) _ _ f is in
    ap (λ (after : After). fold received_byte after bytes) step ∙ lost-stays h (ended h c) _ bytes

pub received-fault : (bytes unread : List ℕ) (h : FilterEvent) (c : Channel) (f : WireFault) → is_owed c ≡ true → IsUnfinished unread → length_fault (unread ++ bytes) ≡ Some f
    → fold received_byte (goes_on h (with_unread c unread)) bytes ≡ fails (Wire f) h c
received-fault [] unread h c f owed u is =
    absurd (no_fault_there f (length_fault unread) (ap length_fault (sym (append-nil unread)) ∙ is) (length_fault-unfinished unread u))
received-fault (x ∷ bytes) (a ∷ b ∷ k ∷ d ∷ body) h c f owed u is = absurd (no_fault_there f (length_fault (a ∷ b ∷ k ∷ d ∷ body)) is u.0)
received-fault (x ∷ bytes) (a ∷ b ∷ k ∷ []) h c f owed u is = received-fault_here bytes (a ∷ b ∷ k ∷ []) x h c f owed is
received-fault (x ∷ bytes) [] h c f owed u is =
    let step = one_byte h (with_unread c []) x owed ∙ unread_none h (with_unread c []) (x ∷ []) _ _ refl (no_frame-unfinished (x ∷ []) tt) in
    ap (λ (after : After). fold received_byte after bytes) step ∙ received-fault bytes (x ∷ []) h c f owed tt is
received-fault (x ∷ bytes) (a ∷ []) h c f owed u is =
    let step = one_byte h (with_unread c (a ∷ [])) x owed ∙ unread_none h (with_unread c (a ∷ [])) (a ∷ x ∷ []) _ _ refl (no_frame-unfinished (a ∷ x ∷ []) tt) in
    ap (λ (after : After). fold received_byte after bytes) step ∙ received-fault bytes (a ∷ x ∷ []) h c f owed tt is
received-fault (x ∷ bytes) (a ∷ b ∷ []) h c f owed u is =
    let step = one_byte h (with_unread c (a ∷ b ∷ [])) x owed ∙ unread_none h (with_unread c (a ∷ b ∷ [])) (a ∷ b ∷ x ∷ []) _ _ refl (no_frame-unfinished (a ∷ b ∷ x ∷ []) tt) in
    ap (λ (after : After). fold received_byte after bytes) step ∙ received-fault bytes (a ∷ b ∷ x ∷ []) h c f owed tt is
