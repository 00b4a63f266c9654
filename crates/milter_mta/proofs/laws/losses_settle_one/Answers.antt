use Rattle.std.proofs.Common.{List, None, ap, refl}
use Rattle.milter_message.specs.MailObject.{MailObject}
use Rattle.milter_mta.specs.Dispositions.{acted_in, defaulted}
use Rattle.milter_mta.proofs.laws.losses_settle_one.Goals as goal

pub returns-clause-one : goal.returns-clause-one
returns-clause-one c loss m message messages e = rw e (refl, refl)

pub returns-clause-none : goal.returns-clause-none
returns-clause-none c loss m e =
    ap (λ (ms : List MailObject). record (defaulted loss (acted_in m.filter_connection) ms m) { filter_connection = None }) e
