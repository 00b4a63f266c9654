use Rattle.std.proofs.Common.{eq-eqb, ◌∙◌}
use Rattle.std.proofs.lemmas.Bool.{ne_eqb}
use Rattle.milter_address.specs.Bytes.{is_dot}
use Rattle.milter_address.proofs.TrimmedBytes.{trimmed_before, trimmed_whole}
use Rattle.milter_address.proofs.trimmed.without_dots.Goals as goal

pub returns-then-last-ne46 : goal.returns-then-last-ne46
returns-then-last-ne46 c =
    trimmed_whole is_dot c.in-Some.before.now c.in-Some.last.now c.loop-last.rest.now c.in-Some.ensures.cases.0 (ne_eqb c.in-Some.last.now 46 c.if-last-ne46.true)
    ∙ c.loop-last.invariant

pub loop-last-preserved : goal.loop-last-preserved
loop-last-preserved c =
    trimmed_before is_dot c.in-Some.before.now c.in-Some.last.now c.loop-last.rest.now c.in-Some.ensures.cases.0 (eq-eqb c.in-Some.last.now 46 c.if-last-ne46.false)
    ∙ c.loop-last.invariant
