use Rattle.milter_filter.proofs.Answered.{given-serves}
use Rattle.milter_filter.proofs.connection.Connection.answer_by.Goals as goal

pub invariant_of-self : goal.invariant_of-self
invariant_of-self g c = λ unended.
    let old = c.self.inside.filter in
    given-serves old c.answer_by.new.self (λ stage. (g.P.Policy.behavior c.args.policy.now).decide stage old.state.order_state.shown.seen)
    (c.self.invariant unended) c.answer_by.ensures.not_asked c.answer_by.result c.answer_by.ensures.ok c.answer_by.ensures.err
