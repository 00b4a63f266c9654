use Rattle.std.proofs.Common.{drop}
use Rattle.std.specs.List.{flat_map}
use Rattle.milter_mta_client.specs.ReportsText.{acted_line}
use Rattle.milter_text.proofs.TextWriters.{Progress}
use Rattle.milter_mta_client.proofs.report_lines.put_acted_lines.Given as goal

abbrev pub invariant-loop-acted : goal.invariant-loop-acted
invariant-loop-acted g l =
    Progress g.W.Write.contents l.initial.output l.output (flat_map acted_line l.verdicts) (flat_map acted_line (drop l.acted-index l.verdicts))
