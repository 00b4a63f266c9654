use Rattle.std.proofs.Common.{◌≡◌, List, ℕ, ◌+◌, ◌++◌, ◌≤◌, arith, length, take, drop, true, sym, ap, ◌∙◌}
use Rattle.std.proofs.lemmas.List.{take_rest}
use Rattle.std.proofs.lemmas.Result.{IfOk-weaker}
use Rattle.milter_text.specs.Lines.{lines_of}
use Rattle.milter_trace.specs.declared.direction.Direction.TheVariants.{ToFilter}
use Rattle.milter_trace.specs.ParsedLine.{parsed_line}
use Rattle.milter_trace.specs.Trace.{line_bytes, stream}
use Rattle.milter_replay.specs.ReadExchanges.{bytes_so_far}
use Rattle.milter_replay.proofs.ReadLaws.{end_within, few_lines, first_line, last_bytes, line_read}
use Rattle.milter_replay.proofs.trace_reader.read_trace.Goals as goal

pub loop-end-preserved : goal.loop-end-preserved
loop-end-preserved c =
    let rest = c.loop-end.rest.now in
    let end : ℕ = c.in-Some.end in
    let found = sym c.line_end.ensures ∙ c.in-Some.is in
    rw take_rest (record {
      between = c.in_ok-read_line.ensures.between;
      few = few_lines c.loop-end.number end rest (length c.args.bytes.now) (end_within rest end found) c.loop-end.invariant.few;
      read =
          line_read (bytes_so_far c.loop-end.reader) (bytes_so_far c.read_line.new.reader)
          (line_bytes ToFilter (parsed_line (record { bytes = take end rest; ended = true })))
          (stream ToFilter (lines_of (drop (end + 1) rest))) (stream ToFilter (lines_of rest))
          (stream ToFilter (lines_of c.args.bytes.now)) c.in_ok-read_line.ensures.bytes (first_line rest end found)
          c.loop-end.invariant.read;
    })

pub returns-clause-commands : goal.returns-clause-commands
returns-clause-commands c =
    let rest = c.loop-end.rest.now in
    let last = last_bytes rest (sym c.line_end.ensures ∙ c.in_default.is) in
    let whole = c.in_ok-read_line-2.ensures.bytes
    ∙ ap (λ (x : List ℕ). bytes_so_far c.loop-end.reader ++ x) (sym last) ∙ c.loop-end.invariant.read in
    IfOk-weaker c.whole_recording.result _ _ (λ recording is. is ∙ whole) c.whole_recording.ensures.commands
