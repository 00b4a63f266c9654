use Rattle.milter_filter_rules.specs.LeastWants.{least_wants}
use Rattle.milter_world.proofs.NegotiatedBits.{as_it_is, least}
use Rattle.milter_world.proofs.RulesLeaveOut.{decides, leaves}
use Rattle.milter_world.proofs.SettledAlike.{connection-alike, dispositions-alike}
use Rattle.milter_world.proofs.least_wants_laws.least_wants_settle_alike.Goals as goal

pub returns : goal.returns
returns c = λ case also_sent set offer session messages.
    record {
      messages_alike = dispositions-alike set.options (least_wants also_sent set) set.lists
          (decides case also_sent set offer)
          (as_it_is also_sent set offer) (least also_sent set offer) (leaves case also_sent set offer) session
          (λ message. (c.plans_are_sent.ensures.plan (as_it_is also_sent set offer) session message).ends)
          (λ dialogue left space message closed. c.closed_dialogues_rule.ensures.dialogue dialogue left space message closed)
          messages;
      connection_alike = connection-alike set.options (least_wants also_sent set) set.lists
          (decides case also_sent set offer)
          (as_it_is also_sent set offer) (least also_sent set offer) (leaves case also_sent set offer) session
          (λ message. (c.plans_are_sent.ensures.plan (as_it_is also_sent set offer) session message).ends)
          (λ dialogue left space message closed. c.closed_dialogues_rule.ensures.dialogue dialogue left space message closed)
          messages;
    }
