use Rattle.std.proofs.Common.{◌≡◌, ◌+◌, ◌++◌, [], length, take, refl, sym, ◌∙◌, arith}
use Rattle.std.proofs.lemmas.List.{nil_from_length}
use Rattle.milter_fields.specs.Splitter.{frame_of}
use Rattle.milter_fields.specs.Stream.{frame_bytes}
use Rattle.milter_filter_stream.proofs.PieceStreams.{one-packet, packet-gives_up, replied-packet, rest-packet}
use Rattle.milter_filter_stream.proofs.pieces.feed_packet.Goals as goal

pub returns-in-Err : goal.returns-in-Err
returns-in-Err c =
    let s = c.args.asker.now.state in
    let w = c.args.wants.now in
    let f = frame_of c.in-Some.packet in
    let n = length c.in-Some.packet.payload.now + 5 in
    let empty : c.args.splitter.now ≡ [] = nil_from_length c.args.splitter.now (omega (arith, c.unread.ensures.unread, c.if-unread-eq0.true)) in
    let fed : frame_bytes f ≡ c.args.splitter.now ++ take n c.args.piece.now = rw empty (sym c.in-Some.ensures.bytes) in
    let fails = c.in-Err.ensures.fails in
    record {
      left_is = empty ∙ sym fails.no_length;
      cause = λ other. packet-gives_up w s c.args.splitter.now c.args.piece.now (frame_bytes f) n fed f c.in-Err.fault refl c.in-Some.ensures.frame (fails.failed other) (fails.silent other);
    }

pub returns-in-Some : goal.returns-in-Some
returns-in-Some c =
    let w = c.args.wants.now in
    let f = frame_of c.in-Some.packet in
    let n = length c.in-Some.packet.payload.now + 5 in
    let bytes = c.args.splitter.now ++ take n c.args.piece.now in
    let fits = c.in-Some.ensures.frame in
    let empty : c.args.splitter.now ≡ [] = nil_from_length c.args.splitter.now (omega (arith, c.unread.ensures.unread, c.if-unread-eq0.true)) in
    let whole : bytes ≡ frame_bytes f = rw empty c.in-Some.ensures.bytes in (
      record {
        within = c.in-Some.ensures.within;
        progress = λ some. omega arith;
        replied = replied-packet w c.args.asker.now f bytes c.on_packet.new.self fits whole c.in_default-on_packet.ensures.replied;
        left_is = empty ∙ rest-packet f bytes fits whole;
        is_unread = c.requires.unread;
        going = c.in_default-on_packet.ensures.going;
      },
      one-packet f bytes fits whole,
    )
