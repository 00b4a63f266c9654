use Rattle.std.proofs.Common.{length, sym, ◌∙◌}
use Rattle.std.proofs.lemmas.Bool.{eqb-false}
use Rattle.std.proofs.lemmas.List.{take_rest}
use Rattle.milter_text.proofs.FirstLine.{first_ended, first_last}
use Rattle.milter_lists.proofs.file_entries.first_line.Goals as goal

pub returns-in-Some-clause-line : goal.returns-in-Some-clause-line
returns-in-Some-clause-line c =
    rw (take_rest, c.line_content.ensures) (first_ended c.args.bytes.now c.in-Some.end (sym c.first_end.ensures ∙ c.in-Some.is))

pub returns-clause-line : goal.returns-clause-line
returns-clause-line c =
    first_last c.args.bytes.now (sym c.first_end.ensures ∙ c.in_default.is) (eqb-false (length c.args.bytes.now) 0 (sym c.is_empty.ensures ∙ c.if-is_empty.false))
