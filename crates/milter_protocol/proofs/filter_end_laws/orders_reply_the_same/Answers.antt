use Rattle.milter_protocol.proofs.TakenAlike.{alike-beginning, out_of_order, replies-are, state-is}
use Rattle.milter_protocol.proofs.filter_end_laws.orders_reply_the_same.Goals as goal

pub returns-clause-state : goal.returns-clause-state
returns-clause-state c = state-is

pub returns-clause-replies : goal.returns-clause-replies
returns-clause-replies c = replies-are

pub returns-clause-beginning : goal.returns-clause-beginning
returns-clause-beginning c = alike-beginning

pub returns-clause-out_of_order : goal.returns-clause-out_of_order
returns-clause-out_of_order c = out_of_order
