-- The lines of packets after marks.
use Rattle.std.specs.Prelude.{ℕ, List, ◌++◌}
use Rattle.std.specs.List.{flat_map}
use Rattle.milter_replay.specs.declared.conversation.ReplyPacket.{ReplyPacket}

-- the line of each packet after the mark
abbrev pub marked : List ℕ → List ReplyPacket → List ℕ
marked mark replies = flat_map (λ reply. mark ++ reply.text.items) replies
