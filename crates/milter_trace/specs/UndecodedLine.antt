-- A line whose digits are not decoded yet.
use Rattle.hex.specs.Hex.{decode_of}
use Rattle.milter_trace.specs.declared.trace_line.UndecodedLine.{UndecodedLine}
use Rattle.milter_trace.specs.declared.trace_line.UndecodedLine.TheVariants as undecoded
use Rattle.milter_trace.specs.ParsedLine.{ParsedLine, Skipped, Bad, carried}

-- the line with its digits decoded
abbrev pub decoded_line : UndecodedLine → ParsedLine
decoded_line undecoded.Skipped = Skipped
decoded_line undecoded.Bad = Bad
decoded_line (undecoded.Digits direction digits) = carried direction (decode_of digits.now)
