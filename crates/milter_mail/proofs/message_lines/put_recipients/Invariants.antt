use Rattle.std.proofs.Common.{drop, codes}
use Rattle.std.specs.List.{flat_map}
use Rattle.milter_mail.specs.HeldText.{path_line}
use Rattle.milter_text.proofs.TextWriters.{Progress}
use Rattle.milter_mail.proofs.message_lines.put_recipients.Given as goal

abbrev pub invariant-loop-recipient : goal.invariant-loop-recipient
invariant-loop-recipient g l =
    Progress g.W.Write.contents l.initial.output l.output (flat_map (path_line (codes "recipient")) l.recipients) (flat_map (path_line (codes "recipient")) (drop l.recipient-index l.recipients))
