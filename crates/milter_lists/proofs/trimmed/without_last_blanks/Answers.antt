use Rattle.std.proofs.Common.{eq-eqb, ◌∙◌}
use Rattle.std.proofs.lemmas.Bool.{ne_eqb}
use Rattle.milter_address.proofs.TrimmedBytes.{trimmed_before, trimmed_whole}
use Rattle.milter_lists.specs.Listed.{is_blank}
use Rattle.milter_lists.proofs.trimmed.without_last_blanks.Goals as goal

pub returns-then-last-ne32 : goal.returns-then-last-ne32
returns-then-last-ne32 c =
    trimmed_whole is_blank c.in-Some.before.now c.in-Some.last.now c.loop-last.rest.now c.in-Some.ensures.cases.0 (ne_eqb c.in-Some.last.now 32 c.if-last-ne32.true)
    ∙ c.loop-last.invariant

pub loop-last-preserved : goal.loop-last-preserved
loop-last-preserved c =
    trimmed_before is_blank c.in-Some.before.now c.in-Some.last.now c.loop-last.rest.now c.in-Some.ensures.cases.0 (eq-eqb c.in-Some.last.now 32 c.if-last-ne32.false)
    ∙ c.loop-last.invariant
