use Rattle.std.proofs.Common.{◌≤◌, length}
use Rattle.milter_mail.specs.WeightParts.{IsSendableWith}
use Rattle.milter_mail_file.proofs.MessageRuns.{MessagesSoFar}
use Rattle.milter_mail_file.proofs.session_messages.read_messages.Given as goal

-- the lines before those that are left are parsed as the messages so far
abbrev pub invariant-loop-alloc : goal.invariant-loop-alloc
invariant-loop-alloc l = record {
  read : MessagesSoFar (IsSendableWith l.overhead) l.fn.lines.lines l.messages.items l.lines.lines;
  end : l.lines.end ≤ l.fn.lines.end;
}

abbrev pub decreases-loop-alloc : goal.decreases-loop-alloc
decreases-loop-alloc l = length l.lines.lines
