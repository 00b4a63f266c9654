use Rattle.std.proofs.Common.{◌≡◌, ◌+◌, ◌++◌, ℕ, List, [], Ok, Err, length, take, refl, sym, ◌∙◌, ap, subst, arith, rules}
use Rattle.std.proofs.lemmas.List.{nil_from_length}
use Rattle.milter_fields.specs.Splitter.{frame_of}
use Rattle.milter_fields.specs.Stream.{IsUnfinished, frame_bytes}
use Rattle.milter_mta_connection.specs.ChannelParts.{LeavesPrefix, channel_of}
use Rattle.milter_mta_connection.specs.Received.{goes_on}
use Rattle.milter_mta_connection.proofs.FedPieces.{leaves-fault, leaves-kept, leaves-lost, leaves-reply}
use Rattle.milter_mta_connection.proofs.channel_state.ChannelState.feed_prefix.Goals as goal

-- nothing was unread before the first bytes of a piece, which are a packet's
record IsFedAlone (unread piece packet : List ℕ) (n : ℕ) : Type 0 where
  none_unread : unread ≡ []
  fed : packet ≡ unread ++ take n piece

fed_alone : (unread piece packet : List ℕ) (n : ℕ) → length unread ≡ 0 → take n piece ≡ packet → IsFedAlone unread piece packet n
fed_alone unread piece packet n none is =
    let empty : unread ≡ [] = nil_from_length unread none in
    record { none_unread = empty; fed = rw empty (sym is) }

pub returns-in-Some-clause-leaves : goal.returns-in-Some-clause-leaves
returns-in-Some-clause-leaves c before =
    let f = frame_of c.in-Some.packet in
    let alone = fed_alone c.args.splitter.now c.args.piece.now (frame_bytes f) (length c.in-Some.packet.payload.now + 5)
    (omega (arith, c.unread.ensures.unread, c.if-unread-eq0.true)) c.in-Some.ensures.bytes in
    leaves-reply before c.args.self.now c.args.splitter.now c.args.piece.now _ _ c.requires.expecting alone.fed
    f c.receive_packet.new.self c.in_ok-event.event c.requires.unfinished c.in-Some.ensures.frame refl (c.in_ok-event.ensures.leaves before)
    ∙ ap (λ (unread : List ℕ). goes_on c.in_ok-event.event (channel_of c.receive_packet.new.self [] unread)) (sym alone.none_unread)

pub returns-in_err-event-clause-leaves : goal.returns-in_err-event-clause-leaves
returns-in_err-event-clause-leaves c before =
    let alone = fed_alone c.args.splitter.now c.args.piece.now (frame_bytes (frame_of c.in-Some.packet)) (length c.in-Some.packet.payload.now + 5)
    (omega (arith, c.unread.ensures.unread, c.if-unread-eq0.true)) c.in-Some.ensures.bytes in
    let leaves : LeavesPrefix before (channel_of c.args.self.now [] c.args.splitter.now) c.args.piece.now
    (channel_of c.receive_packet.new.self [] c.args.splitter.now) (Err c.in_err-event.field-0.0) =
    leaves-lost before c.args.self.now c.args.splitter.now c.args.piece.now _ _ c.requires.expecting alone.fed
    (frame_of c.in-Some.packet) c.receive_packet.new.self c.args.splitter.now c.in_err-event.field-0.0 c.requires.unfinished c.in-Some.ensures.frame refl
    (c.in_err-event.ensures.leaves before) in
    search rules

pub returns-in-Err-clause-leaves : goal.returns-in-Err-clause-leaves
returns-in-Err-clause-leaves c before =
    let is = (c.next.ensures.fault c.in-Err.fault).0 c.in-Err.is in
    leaves-fault before c.args.self.now c.args.splitter.now c.args.piece.now c.feed.new.self c.in-Ok.count c.requires.expecting c.in-Ok.ensures.taken
    c.in-Err.fault c.args.self.now [] c.loss_of.result c.requires.unfinished is c.loss_of.ensures

pub returns-in-Ok-None-clause-leaves : goal.returns-in-Ok-None-clause-leaves
returns-in-Ok-None-clause-leaves c before =
    let unfinished = (c.next.ensures.none).0 (c.in-Ok-None.is ∙ ap Ok c.in-Ok-None.field-0-is) in
    let left = rw (c.in-Ok-None.is, c.in-Ok-None.field-0-is) at c.next.follows.holds-at-none in
    leaves-kept before c.args.self.now c.args.splitter.now c.args.piece.now c.next.follows.lender-at-none c.in-Ok.count c.requires.expecting
    (left ∙ c.in-Ok.ensures.taken) (subst IsUnfinished (sym left) unfinished)

pub returns-in_ok-event-in-Ok-Some-clause-leaves : goal.returns-in_ok-event-in-Ok-Some-clause-leaves
returns-in_ok-event-in-Ok-Some-clause-leaves c before =
    let handed = rw c.in-Ok-Some.field-0-is at c.in-Ok-Some.ensures.packet in
    let left = rw (c.in-Ok-Some.is, c.in-Ok-Some.field-0-is) at c.next.follows.holds-at-none in
    leaves-reply before c.args.self.now c.args.splitter.now c.args.piece.now c.feed.new.self c.in-Ok.count c.requires.expecting c.in-Ok.ensures.taken
    (frame_of c.in-Ok-Some.packet) c.receive_packet-in-Ok-Some.new.self c.in_ok-event-in-Ok-Some.event c.requires.unfinished handed.0 handed.1
    (c.in_ok-event-in-Ok-Some.ensures.leaves before)
    ∙ ap (λ (unread : List ℕ). goes_on c.in_ok-event-in-Ok-Some.event (channel_of c.receive_packet-in-Ok-Some.new.self [] unread)) (sym left)

pub returns-in_err-event-in-Ok-Some-clause-leaves : goal.returns-in_err-event-in-Ok-Some-clause-leaves
returns-in_err-event-in-Ok-Some-clause-leaves c before =
    let handed = rw c.in-Ok-Some.field-0-is at c.in-Ok-Some.ensures.packet in
    let leaves : LeavesPrefix before (channel_of c.args.self.now [] c.args.splitter.now) c.args.piece.now
    (channel_of c.receive_packet-in-Ok-Some.new.self [] c.next.follows.lender-at-none) (Err c.in_err-event-in-Ok-Some.field-0.0) =
    leaves-lost before c.args.self.now c.args.splitter.now c.args.piece.now c.feed.new.self c.in-Ok.count c.requires.expecting c.in-Ok.ensures.taken
    (frame_of c.in-Ok-Some.packet) c.receive_packet-in-Ok-Some.new.self c.next.follows.lender-at-none c.in_err-event-in-Ok-Some.field-0.0 c.requires.unfinished handed.0 handed.1
    (c.in_err-event-in-Ok-Some.ensures.leaves before) in
    search rules
