-- The number of bytes of a packet.
use Rattle.std.proofs.Common.{◌≡◌, ℕ, ◌+◌, List, ◌∷◌, length, arith, length-append}
use Rattle.milter_fields.specs.Number.{number}
use Rattle.milter_fields.specs.Packet.{packet}
use Rattle.milter_fields.proofs.Numbers.{length-number}

pub packet-len : (code : ℕ) (payload : List ℕ) → length (packet code payload) ≡ length payload + 5
packet-len code payload =
    let all = length-append (number (length payload + 1)) (code ∷ payload) in
    let head = length-number (length payload + 1) in
    omega arith
