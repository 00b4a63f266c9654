use Rattle.std.proofs.Common.{ℕ, min, length, ap, ◌∙◌}
use Rattle.milter_fields.proofs.FirstPackets.{first_filled}
use Rattle.milter_fields.proofs.first_packet.fill_first.Goals as goal

pub returns-clause-buffer : goal.returns-clause-buffer
returns-clause-buffer c =
    first_filled _ c.args.buffer.now _ c.args.piece.now c.requires
    (c.min-count.ensures ∙ ap (λ (n : ℕ). min n (length c.args.piece.now)) c.first_packet_end.ensures.end)
    c.put_after.ensures.room c.put_after.ensures.bytes
