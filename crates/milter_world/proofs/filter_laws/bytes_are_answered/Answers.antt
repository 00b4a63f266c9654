use Rattle.milter_protocol.specs.FilterEnds.{start}
use Rattle.milter_world.proofs.ByteAnswers.{answers, answers-lines}
use Rattle.milter_world.proofs.filter_laws.bytes_are_answered.Goals as goal

pub returns-clause-answered : goal.returns-clause-answered
returns-clause-answered c = λ order b lines new r.
    answers-lines c.command_frames.ensures.computed c.command_frames.ensures.frame b
    c.order_states_of_filter_ends.ensures.order_state c.order_states_of_filter_ends.ensures.replies (c.order_states_of_filter_ends.ensures.fresh b)
    (record { state = c.orders_reply_the_same.ensures.state b; replies = c.orders_reply_the_same.ensures.replies b }) order lines new r

pub returns-clause-alike : goal.returns-clause-alike
returns-clause-alike c = λ b lines new taken r.
    (answers c.command_frames.ensures.computed c.command_frames.ensures.frame b lines start new r taken).alike
