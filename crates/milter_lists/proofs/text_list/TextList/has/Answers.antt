use Rattle.std.proofs.lemmas.Result.{IfOk-weaker}
use Rattle.milter_lists.proofs.ListAnswers.{has_answer}
use Rattle.milter_lists.proofs.text_list.TextList.has.Goals as goal

pub returns-in-Addresses : goal.returns-in-Addresses
returns-in-Addresses c = has_answer c.args.self.now _ c.args.value.now c.is_key.result c.in-Addresses.is c.is_key.ensures

pub returns-in_ok-domain-in-Domains : goal.returns-in_ok-domain-in-Domains
returns-in_ok-domain-in-Domains c =
    has_answer c.args.self.now _ c.args.value.now c.has_domain.result c.in-Domains.is
    (rw (c.as_slice.ensures.value, c.in_ok-domain-in-Domains.ensures) at c.has_domain.ensures)

pub returns-in-Networks : goal.returns-in-Networks
returns-in-Networks c =
    has_answer c.args.self.now _ c.args.value.now c.has_address_text.result c.in-Networks.is c.has_address_text.ensures

pub returns-in-Texts : goal.returns-in-Texts
returns-in-Texts c =
    IfOk-weaker c.has_text.result _ _ (λ found is. has_answer c.args.self.now _ c.args.value.now found c.in-Texts.is is)
    c.has_text.ensures
