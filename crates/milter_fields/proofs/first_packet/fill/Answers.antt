use Rattle.std.proofs.Common.{ap, ◌∙◌, ◌-◌, ℕ, min, length}
use Rattle.milter_fields.proofs.FirstPackets.{filled}
use Rattle.milter_fields.proofs.first_packet.fill.Goals as goal

pub returns-clause-buffer : goal.returns-clause-buffer
returns-clause-buffer c =
    filled c.args.len _ c.args.buffer.now _ c.args.piece.now c.requires
    (c.min-count.ensures ∙ ap (λ (n : ℕ). min (n - c.args.len) (length c.args.piece.now)) c.first_packet_end.ensures.end)
    c.put_after.ensures.room c.put_after.ensures.bytes
