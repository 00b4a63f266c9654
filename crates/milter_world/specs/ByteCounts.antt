-- How far a connection has come, by counts of bytes over its lines.
use Rattle.std.specs.Prelude.{ℕ, ◌+◌, ◌-◌, nat_le, nat_lt, List, [], ◌∷◌, length, if◌then◌else◌}
use Rattle.std.specs.List.{flat_map}
use Rattle.milter_mta.specs.Lines.{Line}

-- the bytes to the filter, and those to the mail server
abbrev pub to_filter : List Line → List ℕ
to_filter lines = flat_map (λ line. line.out) lines

abbrev pub to_mta : List Line → List ℕ
to_mta lines = flat_map (λ line. line.back) lines

-- the end of the first packet whose answer does not end within so many bytes, or of all packets
abbrev pub due : List Line → ℕ → ℕ
due [] received = 0
due (line ∷ lines) received =
    if nat_le (length line.back) received then length line.out + due lines (received - length line.back)
    else length line.out

-- how many bytes answer the packets that end within so many bytes
abbrev pub owed : List Line → ℕ → ℕ
owed [] taken = 0
owed (line ∷ lines) taken =
    if nat_le (length line.out) taken then length line.back + owed lines (taken - length line.out) else 0

-- the end of the packet in which this byte is
abbrev pub packet_end : List Line → ℕ → ℕ
packet_end [] sent = 0
packet_end (line ∷ lines) sent =
    if nat_lt sent (length line.out) then length line.out
    else length line.out + packet_end lines (sent - length line.out)
