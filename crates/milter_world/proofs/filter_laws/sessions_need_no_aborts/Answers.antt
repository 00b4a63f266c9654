use Rattle.std.proofs.Common.{take}
use Rattle.milter_protocol.specs.declared.stage_order.CommandOrder.TheVariants.{Lenient}
use Rattle.milter_mta.specs.Sessions.{session_lines}
use Rattle.milter_world.specs.ByteCounts.{to_filter}
use Rattle.milter_world.proofs.filter_laws.sessions_need_no_aborts.Goals as goal

alike : goal.returns-clause-alike
alike c = λ b offer s messages taken is known fits good.
    let ends = c.sessions_are_replied_to.ensures b offer s messages is known fits good in
    c.bytes_are_answered.ensures.alike b (session_lines b offer s messages) ends.0 taken ends.1

pub returns-clause-alike : goal.returns-clause-alike
returns-clause-alike = alike

pub returns-clause-state : goal.returns-clause-state
returns-clause-state c = λ b offer s messages taken is known fits good.
    c.orders_reply_the_same_bytes.ensures.state b Lenient (take taken (to_filter (session_lines b offer s messages)))
    (alike c b offer s messages taken is known fits good)

pub returns-clause-replies : goal.returns-clause-replies
returns-clause-replies c = λ b offer s messages taken is known fits good.
    c.orders_reply_the_same_bytes.ensures.replies b Lenient (take taken (to_filter (session_lines b offer s messages)))
    (alike c b offer s messages taken is known fits good)
