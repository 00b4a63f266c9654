use Rattle.std.proofs.Common.{◌++◌, take, Ok, sym, ◌∙◌, ap, subst, arith}
use Rattle.milter_fields.specs.Splitter.{frame_of}
use Rattle.milter_fields.specs.Stream.{IsUnfinished}
use Rattle.milter_filter_stream.specs.Asking.{IsUnread}
use Rattle.milter_filter_stream.proofs.FirstReplies.{serves}
use Rattle.milter_filter_stream.proofs.LengthFaults.{fed-bytes, field-unread, no-bytes, piece-bytes}
use Rattle.milter_filter_stream.proofs.PieceStreams.{length-gives_up, one-packet, one-unfinished, packet-gives_up, replied-packet, replied-unfinished, rest-packet, rest-unfinished}
use Rattle.milter_filter_stream.proofs.pieces.feed_through_splitter.Goals as goal

pub returns-in-Err : goal.returns-in-Err
returns-in-Err c =
    let s = c.args.asker.now.state in
    let w = c.args.wants.now in
    let unread = c.args.splitter.now in
    let is = (c.next.ensures.fault c.in-Err.fault).0 c.in-Err.is in
    let piece = piece-bytes c.args.piece.now (λ i. omega (arith, c.type_inv.piece i)) in
    let bytes = fed-bytes unread c.args.piece.now c.feed_or_clear.new.splitter c.in_ok-taken.taken c.requires.unread.1 piece c.in_ok-taken.ensures.taken in
    let count = c.in_ok-taken.ensures.count in
    let left = rw c.in-Err.is at c.next.follows.holds-at-none in
    record {
      left_is = left ∙ field-unread unread c.args.piece.now c.feed_or_clear.new.splitter c.in_ok-taken.taken c.in-Err.fault c.requires.unread.0 bytes count c.in_ok-taken.ensures.taken is;
      cause = λ other. length-gives_up w s unread c.args.piece.now c.feed_or_clear.new.splitter c.in_ok-taken.taken c.in_ok-taken.ensures.taken c.in-Err.fault c.requires.taking is;
    }

pub returns-in-Ok-None : goal.returns-in-Ok-None
returns-in-Ok-None c =
    let w = c.args.wants.now in
    let bytes = c.args.splitter.now ++ take c.in_ok-taken.taken c.args.piece.now in
    let unfinished = (c.next.ensures.none).0 (c.in-Ok-None.is ∙ ap Ok c.in-Ok-None.field-0-is) in
    let whole = subst IsUnfinished c.in_ok-taken.ensures.taken unfinished in
    let left = rw (c.in-Ok-None.is, c.in-Ok-None.field-0-is) at c.next.follows.holds-at-none in
    let piece = piece-bytes c.args.piece.now (λ i. omega (arith, c.type_inv.piece i)) in (
      record {
        within = c.in_ok-taken.ensures.within;
        progress = c.in_ok-taken.ensures.progress c.requires.unread.0;
        replied = replied-unfinished w c.args.asker.now bytes whole;
        left_is = left ∙ c.in_ok-taken.ensures.taken ∙ rest-unfinished bytes whole;
        is_unread =
            subst IsUnread (sym left)
            (unfinished, fed-bytes c.args.splitter.now c.args.piece.now c.feed_or_clear.new.splitter c.in_ok-taken.taken c.requires.unread.1 piece c.in_ok-taken.ensures.taken);
        going = λ fault failed. serves fault (sym c.requires.taking.serving ∙ failed);
      },
      one-unfinished bytes whole,
    )

pub returns-in-Err-on_packet : goal.returns-in-Err-on_packet
returns-in-Err-on_packet c =
    let s = c.args.asker.now.state in
    let w = c.args.wants.now in
    let handed = rw c.in-Ok-Some.field-0-is at c.in-Ok-Some.ensures.packet in
    let left = rw (c.in-Ok-Some.is, c.in-Ok-Some.field-0-is) at c.next.follows.holds-at-none in
    let fails = c.in-Err-on_packet.ensures.fails in
    record {
      left_is = left ∙ sym fails.no_length;
      cause = λ other. packet-gives_up w s c.args.splitter.now c.args.piece.now c.feed_or_clear.new.splitter c.in_ok-taken.taken c.in_ok-taken.ensures.taken (frame_of c.in-Ok-Some.packet) c.in-Err-on_packet.fault
          handed.1 handed.0 (fails.failed other) (fails.silent other);
    }

pub returns-in_default : goal.returns-in_default
returns-in_default c =
    let w = c.args.wants.now in
    let f = frame_of c.in-Ok-Some.packet in
    let bytes = c.args.splitter.now ++ take c.in_ok-taken.taken c.args.piece.now in
    let handed = rw c.in-Ok-Some.field-0-is at c.in-Ok-Some.ensures.packet in
    let whole = sym c.in_ok-taken.ensures.taken ∙ handed.1 in
    let left = rw (c.in-Ok-Some.is, c.in-Ok-Some.field-0-is) at c.next.follows.holds-at-none in (
      record {
        within = c.in_ok-taken.ensures.within;
        progress = c.in_ok-taken.ensures.progress c.requires.unread.0;
        replied = replied-packet w c.args.asker.now f bytes c.on_packet.new.self handed.0 whole c.in_default.ensures.replied;
        left_is = left ∙ rest-packet f bytes handed.0 whole;
        is_unread = subst IsUnread (sym left) (tt, no-bytes);
        going = c.in_default.ensures.going;
      },
      one-packet f bytes handed.0 whole,
    )
