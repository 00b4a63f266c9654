use Rattle.std.proofs.Common.{[], List, ℕ, Result, ap, refl, ◌∙◌}
use Rattle.milter_fields.specs.declared.fault.WireFault.{WireFault}
use Rattle.milter_wire.specs.declared.reply.Reply.{Reply}
use Rattle.milter_wire.specs.Frames.{frame_reply, reply_frame}
use Rattle.milter_wire.specs.Reply.{encoding}
use Rattle.milter_mta.specs.Replies.{at, framed, received}
use Rattle.milter_mta.proofs.UnreadReplies.{framed-over, message-left}
use Rattle.milter_mta.proofs.ReceivedFrames.{received-packet, with_unread}
use Rattle.milter_mta.proofs.laws.replies_are_received.Goals as goal

pub returns : goal.returns
returns c m filter_connection reply owed unread some fits =
    let found = received-packet (encoding reply) [] filter_connection m (reply_frame reply) owed tt fits.payload refl in
    ap (λ (us : List ℕ). received (at (record filter_connection { unread = us }) m) (encoding reply)) unread
    ∙ found.received_is
    ∙ framed-over (with_unread filter_connection found.before) filter_connection m refl filter_connection.position (frame_reply (reply_frame reply)) (message-left m.session.messages filter_connection.position some)
    ∙ ap (λ (r : Result Reply WireFault). framed filter_connection.position r (at filter_connection m)) (c.reply_frames.ensures.frame reply fits)
