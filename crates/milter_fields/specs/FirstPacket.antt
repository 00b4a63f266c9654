-- The first packet of a stream, as far as it has come.
use Rattle.std.specs.Prelude.{ℕ, ◌+◌, ◌-◌, ◌≤◌, min, List, [], ◌∷◌, ◌++◌, length, is_some, unwrap_or, Result, Ok, Err, if◌then◌else◌}
use Rattle.milter_fields.specs.declared.fault.WireFault.{WireFault}
use Rattle.milter_fields.specs.declared.fault.WireFault.TheVariants.{Truncated}
use Rattle.milter_fields.specs.Number.{number_from_bytes}
use Rattle.milter_fields.specs.Stream.{fault_of, length_fault}

-- The index after the first packet of these bytes, or after the length field that no packet has; 4 while the length
-- field is incomplete.
unfoldable pub first_packet_end : List ℕ → ℕ
first_packet_end (a ∷ b ∷ c ∷ d ∷ body) =
    let stated = number_from_bytes a b c d in
    if is_some (fault_of stated) then 4 else stated + 4
first_packet_end _ = 4

-- no byte is beyond the first packet, or beyond a length field that no packet has
abbrev pub IsAtMostOnePacket : List ℕ → Type 0
IsAtMostOnePacket bytes = length bytes ≤ first_packet_end bytes

-- how many bytes of a piece are still of the first packet, or of its length field
abbrev pub fed_len : List ℕ → List ℕ → ℕ
fed_len unread piece = min (first_packet_end (unread ++ piece) - length unread) (length piece)

-- whether a stream may end after these unread bytes
abbrev pub end_result : List ℕ → Result Unit WireFault
end_result [] = Ok tt
end_result (byte ∷ rest) = Err (unwrap_or (length_fault (byte ∷ rest)) (Truncated (length (byte ∷ rest))))
