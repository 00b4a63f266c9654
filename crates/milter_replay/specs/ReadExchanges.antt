-- The exchanges of a trace, while it is read.
use Rattle.std.specs.Prelude.{◌≡◌, ℕ, List, ◌++◌}
use Rattle.milter_fields.specs.Stream.{IsUnfinished}
use Rattle.milter_trace.specs.declared.direction.Direction.TheVariants.{ToFilter}
use Rattle.milter_trace.specs.Trace.{bytes_if, stream}
use Rattle.milter_text.specs.Lines.{lines_of}
use Rattle.milter_replay.specs.declared.exchange_reader.ExchangeReader.{ExchangeReader}
use Rattle.milter_replay.specs.declared.trace_reader.TraceReader.{TraceReader}
use Rattle.milter_replay.specs.Recordings.{AllFit, commands_bytes}

-- each command that was read has an encoding
abbrev pub HasFitting : ExchangeReader → Type 0
HasFitting r = AllFit r.exchanges.items

-- the packets of the commands that were read
abbrev pub read_bytes : ExchangeReader → List ℕ
read_bytes r = commands_bytes r.exchanges.items

-- what was read to the filter: the packets of the commands, and the bytes of one that isn't whole
abbrev pub bytes_so_far : TraceReader → List ℕ
bytes_so_far r = read_bytes r.exchanges ++ r.to_filter

-- between two lines no direction has a whole packet, and each command has an encoding
pub record IsBetweenLines (r : TraceReader) : Type 0 where
  pub to_filter : IsUnfinished r.to_filter
  pub to_mta : IsUnfinished r.to_mta
  pub fitting : HasFitting r.exchanges
