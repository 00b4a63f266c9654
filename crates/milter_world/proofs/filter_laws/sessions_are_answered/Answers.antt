use Rattle.milter_mta.specs.Sessions.{session_lines}
use Rattle.milter_world.proofs.filter_laws.sessions_are_answered.Goals as goal

pub returns : goal.returns
returns c = λ order b offer s messages is known fits good.
    let ends = c.sessions_are_replied_to.ensures b offer s messages is known fits good in
    c.bytes_are_answered.ensures.answered order b (session_lines b offer s messages) ends.0 ends.1
