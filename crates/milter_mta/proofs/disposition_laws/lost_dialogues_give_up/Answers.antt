use Rattle.std.proofs.Common.{List, None, ap}
use Rattle.milter_message.specs.MailObject.{MailObject}
use Rattle.milter_mta_outcome.specs.Dialogues.{acted}
use Rattle.milter_mta.specs.Dispositions.{defaulted}
use Rattle.milter_mta.specs.Dialogues.{at_dialogue}
use Rattle.milter_mta.proofs.disposition_laws.lost_dialogues_give_up.Goals as goal

pub returns : goal.returns
returns c negotiated dialogue left m message messages loss e =
    ap (λ (ms : List MailObject). record (defaulted loss (acted dialogue) ms (record (at_dialogue negotiated dialogue left m) { session = record m.session { messages = ms } })) { filter_connection = None }) e
