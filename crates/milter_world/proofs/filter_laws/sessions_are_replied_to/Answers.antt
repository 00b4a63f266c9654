use Rattle.std.proofs.Common.{[]}
use Rattle.milter_world.proofs.SessionAnswers.{GoToTheEnd, session}
use Rattle.milter_world.proofs.filter_laws.sessions_are_replied_to.Goals as goal

pub returns : goal.returns
returns c = λ b offer s messages is known fits good.
    let to_end : GoToTheEnd = record {
      steps = λ negotiated s m. (c.plans_are_sent.ensures.next negotiated [] s m (record { proper = tt; in_order = tt })).ends;
      whole = λ negotiated s m. (c.plans_are_sent.ensures.plan negotiated s m).ends;
    } in
    session to_end b offer s is known fits messages good
