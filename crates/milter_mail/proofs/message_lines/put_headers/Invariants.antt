use Rattle.std.proofs.Common.{drop}
use Rattle.std.specs.List.{flat_map}
use Rattle.milter_mail.specs.HeldText.{header_line}
use Rattle.milter_text.proofs.TextWriters.{Progress}
use Rattle.milter_mail.proofs.message_lines.put_headers.Given as goal

abbrev pub invariant-loop-header : goal.invariant-loop-header
invariant-loop-header g l =
    Progress g.W.Write.contents l.initial.output l.output (flat_map header_line l.headers) (flat_map header_line (drop l.header-index l.headers))
