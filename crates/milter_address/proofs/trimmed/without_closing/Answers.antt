use Rattle.std.proofs.Common.{sym, ◌∙◌}
use Rattle.milter_address.specs.Address.{closes}
use Rattle.milter_address.proofs.TrimmedBytes.{trimmed_before, trimmed_whole}
use Rattle.milter_address.proofs.trimmed.without_closing.Goals as goal

pub returns-then-not-closes : goal.returns-then-not-closes
returns-then-not-closes c =
    trimmed_whole closes c.in-Some.before.now c.in-Some.last.now c.loop-last.rest.now c.in-Some.ensures.cases.0 (sym c.closes.ensures ∙ c.if-not-closes.true)
    ∙ c.loop-last.invariant

pub loop-last-preserved : goal.loop-last-preserved
loop-last-preserved c =
    trimmed_before closes c.in-Some.before.now c.in-Some.last.now c.loop-last.rest.now c.in-Some.ensures.cases.0 (sym c.closes.ensures ∙ c.if-not-closes.false)
    ∙ c.loop-last.invariant
