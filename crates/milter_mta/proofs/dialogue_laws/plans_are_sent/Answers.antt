use Rattle.milter_protocol.specs.Exchanges.{commands_of}
use Rattle.milter_mail.specs.Plan.{macros_of}
use Rattle.milter_mta.specs.Dialogues.{opening_of}
use Rattle.milter_mta.proofs.Openings.{opening-proper, opening-reaches}
use Rattle.milter_mta.proofs.Ordered.{message-ends, message-ordered, plan-ends, plan-ordered}
use Rattle.milter_mta.proofs.dialogue_laws.plans_are_sent.Goals as goal

pub returns-clause-plan : goal.returns-clause-plan
returns-clause-plan c negotiated session message =
    record { proper = tt; in_order = plan-ordered negotiated session message; ends = plan-ends negotiated session message }

pub returns-clause-next : goal.returns-clause-next
returns-clause-next c negotiated dialogue session message is =
    record {
      proper = opening-proper negotiated dialogue is.proper;
      in_order = message-ordered negotiated session message (commands_of (opening_of dialogue)) (opening-reaches dialogue is.in_order);
      ends = message-ends negotiated (macros_of negotiated session) message;
    }
