use Rattle.std.proofs.Common.{drop}
use Rattle.std.specs.List.{flat_map}
use Rattle.milter_mail_file.specs.SessionText.{all_macro_lines, macro_lines}
use Rattle.milter_wire.specs.MacroStages.{macro_stages}
use Rattle.milter_text.proofs.TextWriters.{Progress}
use Rattle.milter_mail_file.proofs.session_text.put_macros.Given as goal

abbrev pub invariant-loop-stage : goal.invariant-loop-stage
invariant-loop-stage g l =
    Progress g.W.Write.contents l.initial.output l.output (all_macro_lines l.macros) (flat_map (macro_lines l.macros) (drop l.stage-index macro_stages))
