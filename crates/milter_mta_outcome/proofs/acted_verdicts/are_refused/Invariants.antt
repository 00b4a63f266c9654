use Rattle.std.proofs.Common.{◌≡◌, drop}
use Rattle.std.specs.List.{list_all}
use Rattle.milter_protocol.specs.Verdicts.{is_refusal}
use Rattle.milter_mta_outcome.specs.ActedVerdicts.{rcpt_verdicts}
use Rattle.milter_mta_outcome.proofs.acted_verdicts.are_refused.Given as goal

-- those so far decide nothing
abbrev pub invariant-loop-last : goal.invariant-loop-last
invariant-loop-last l =
    list_all is_refusal (rcpt_verdicts (drop l.last-index l.acted)) ≡ list_all is_refusal (rcpt_verdicts l.acted)
