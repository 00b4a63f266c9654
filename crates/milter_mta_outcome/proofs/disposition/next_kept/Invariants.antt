use Rattle.std.proofs.Common.{length, ◌-◌, ◌≡◌, drop}
use Rattle.milter_mta_outcome.specs.ActedVerdicts.{rcpt_verdicts}
use Rattle.milter_mta_outcome.proofs.disposition.next_kept.Given as goal

-- no recipient with a verdict was passed over
abbrev pub invariant-loop-position : goal.invariant-loop-position
invariant-loop-position l = rcpt_verdicts (drop l.position l.acted) ≡ rcpt_verdicts (drop l.from l.acted)

abbrev pub decreases-loop-position : goal.decreases-loop-position
decreases-loop-position l = length l.acted - l.position
