use Rattle.std.proofs.Common.{ℕ, min, length, ap, ◌∙◌}
use Rattle.milter_fields.proofs.FirstPackets.{first_of_piece}
use Rattle.milter_fields.proofs.first_packet.first_bytes.Goals as goal

pub returns-clause-one_packet : goal.returns-clause-one_packet
returns-clause-one_packet c =
    first_of_piece c.args.piece.now _ (c.min-end.ensures ∙ ap (λ (n : ℕ). min n (length c.args.piece.now)) c.first_packet_end.ensures.end)
