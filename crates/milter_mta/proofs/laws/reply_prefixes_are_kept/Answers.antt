use Rattle.std.proofs.Common.{[], List, ℕ, ap, ◌∙◌}
use Rattle.milter_wire.specs.Frames.{reply_frame}
use Rattle.milter_mta.specs.Replies.{at, received}
use Rattle.milter_fields.proofs.StreamLaws.{prefix-unfinished}
use Rattle.milter_mta.proofs.ReceivedFrames.{received-unfinished}
use Rattle.milter_mta.proofs.laws.reply_prefixes_are_kept.Goals as goal

pub returns : goal.returns
returns c m filter_connection reply bytes more owed unread fits some is =
    ap (λ (us : List ℕ). received (at (record filter_connection { unread = us }) m) bytes) unread
    ∙ received-unfinished bytes [] filter_connection m owed (prefix-unfinished bytes more (reply_frame reply) fits.payload some is)
