-- The digits of a line, decoded.
use Rattle.std.specs.Prelude.{◌≡◌, ℕ, List, Result, Ok, Err, IsErr, Vec}
use Rattle.hex.specs.declared.error.FromHexError.{FromHexError}
use Rattle.std.specs.declared.alloc.Global.{Global}
use Rattle.milter_trace.specs.declared.fault.TraceFault.{TraceFault}
use Rattle.milter_trace.specs.declared.fault.TraceFault.TheVariants.{BadLine, Packet, Truncated, ReadFault, WriteFault, TurnLimit, NoMemory}

-- The bytes, or a bad line exactly where the digits encode none, unless memory was refused.
abbrev pub DecodesDigits : Result (List ℕ) FromHexError → ℕ → Result (Vec ℕ Global) TraceFault → Type 0
DecodesDigits read line (Ok v) = read ≡ Ok v.items
DecodesDigits read line (Err (BadLine n)) = (n ≡ line) × IsErr read
DecodesDigits read line (Err (Packet n d f)) = ⊥
DecodesDigits read line (Err (Truncated n m)) = ⊥
DecodesDigits read line (Err ReadFault) = ⊥
DecodesDigits read line (Err WriteFault) = ⊥
DecodesDigits read line (Err TurnLimit) = ⊥
DecodesDigits read line (Err NoMemory) = Unit {0}
