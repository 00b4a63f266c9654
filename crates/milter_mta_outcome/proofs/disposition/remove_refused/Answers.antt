use Rattle.std.proofs.Common.{rules, drop}
use Rattle.milter_mta_outcome.specs.ActedVerdicts.{rcpt_verdicts}
use Rattle.milter_mta_outcome.proofs.KeptRecipients.{kept_from_retain}
use Rattle.milter_mta_outcome.proofs.disposition.remove_refused.Goals as goal

pub returns : goal.returns
returns c = kept_from_retain _ (λ f. rcpt_verdicts (drop f.1 f.0.now)) (λ p path b q r. search rules) _ _ _ c.retain.ensures.filtered
