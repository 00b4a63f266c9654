use Rattle.std.proofs.Common.{◌≡◌}
use Rattle.milter_serve.proofs.rule_host.RuleHostHost.asked.Goals as goal

pub returns-clause-answered : goal.returns-clause-answered
returns-clause-answered g c =
    let is : c.deref.result.now ≡ c.args.session.now.value = c.deref.ensures in
    rw is at c.answer_by.ensures.ok
