-- What a line of a trace is.
use Rattle.std.specs.Prelude.{ℕ, Bool, ◌==◌, nat_lt, List, ◌∷◌, length, Result, Ok, Err, if◌then◌else◌}
use Rattle.hex.specs.Hex.{decode_of}
use Rattle.hex.specs.declared.error.FromHexError.{FromHexError}
use Rattle.milter_text.specs.Lines.{Line, content, is_skipped}
use Rattle.milter_trace.specs.declared.direction.Direction.{Direction}
use Rattle.milter_trace.specs.declared.direction.Direction.TheVariants.{ToFilter, ToMta}
use Rattle.milter_trace.specs.declared.trace_line.TheConstants.{LINE_MAX}

-- A line is skipped, or is at fault, or carries bytes in a direction.
pub data ParsedLine : Type 0 where
  Skipped : ParsedLine
  Bad : ParsedLine
  Carries : Direction → List ℕ → ParsedLine

-- more bytes before its LF than a line has
abbrev pub is_too_long : Line → Bool
is_too_long line = nat_lt LINE_MAX (length line.bytes)

abbrev pub carried : Direction → Result (List ℕ) FromHexError → ParsedLine
carried direction (Ok bytes) = Carries direction bytes
carried direction (Err e) = Bad

-- `> ` or `< `, and then pairs of hexadecimal digits, or none
abbrev pub parsed_content : List ℕ → ParsedLine
parsed_content (direction ∷ blank ∷ digits) =
    if blank == 32 then
    (if direction == 62 then carried ToFilter (decode_of digits)
    else if direction == 60 then carried ToMta (decode_of digits)
    else Bad)
    else Bad
parsed_content _ = Bad

abbrev pub parsed_line : Line → ParsedLine
parsed_line line =
    if is_too_long line then Bad else if is_skipped (content line) then Skipped else parsed_content (content line)
