use Rattle.milter_mta.proofs.KeptRecipients.{kept_none}
use Rattle.milter_mta.proofs.state.SessionState.refuse_kept.Goals as goal

pub returns-clause-state : goal.returns-clause-state
returns-clause-state c before last e =
    let without = c.without_last.ensures before last e in
    let same = kept_none c.args.kept in
    cc
