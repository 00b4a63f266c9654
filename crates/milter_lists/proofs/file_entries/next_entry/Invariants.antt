use Rattle.std.proofs.Common.{◌≡◌, ◌+◌, ◌≤◌, length}
use Rattle.milter_text.specs.LineCursor.{all_contents}
use Rattle.milter_lists.specs.ListFaults.{numbered_from}
use Rattle.milter_lists.proofs.file_entries.next_entry.Given as goal

-- the lines before `rest` are skipped, and each is counted
abbrev pub invariant-loop-content : goal.invariant-loop-content
invariant-loop-content l = record {
  same : numbered_from l.line (all_contents l.rest) ≡ numbered_from l.before (all_contents l.bytes);
  counted : l.line + length l.rest ≤ l.before + length l.bytes;
  within : length l.rest ≤ length l.bytes;
}

abbrev pub decreases-loop-content : goal.decreases-loop-content
decreases-loop-content l = length l.rest
