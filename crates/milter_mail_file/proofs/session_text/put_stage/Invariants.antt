use Rattle.std.proofs.Common.{drop}
use Rattle.std.specs.List.{flat_map}
use Rattle.milter_mail_file.specs.SessionText.{macro_line}
use Rattle.milter_text.proofs.TextWriters.{Progress}
use Rattle.milter_mail_file.proofs.session_text.put_stage.Given as goal

abbrev pub invariant-loop-pair : goal.invariant-loop-pair
invariant-loop-pair g l =
    Progress g.W.Write.contents l.initial.output l.output (flat_map (macro_line l.stage) l.pairs) (flat_map (macro_line l.stage) (drop l.pair-index l.pairs))
