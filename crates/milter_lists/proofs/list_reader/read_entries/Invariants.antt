use Rattle.std.proofs.Common.{◌+◌, ◌≤◌, length}
use Rattle.milter_lists.proofs.FileReads.{HasRead}
use Rattle.milter_lists.proofs.list_reader.read_entries.Given as goal

-- the entries before `rest` were read, and each line counted
abbrev pub invariant-loop-next : goal.invariant-loop-next
invariant-loop-next l = record {
  read : HasRead l.kind l.bytes l.before l.rest l.builder;
  counted : l.before + length l.rest ≤ length l.bytes;
}

abbrev pub decreases-loop-next : goal.decreases-loop-next
decreases-loop-next l = length l.rest
