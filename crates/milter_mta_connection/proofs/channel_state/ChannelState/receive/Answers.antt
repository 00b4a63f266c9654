use Rattle.std.proofs.Common.{[], subst, sym}
use Rattle.milter_mta_connection.specs.declared.channel_state.ExpectedReply.{ExpectedReply}
use Rattle.milter_mta_connection.specs.ChannelParts.{Leaves, channel_of}
use Rattle.milter_mta_connection.specs.Received.{replied}
use Rattle.milter_mta_connection.proofs.channel_state.ChannelState.receive.Goals as goal

pub returns-in-Options-clause-leaves : goal.returns-in-Options-clause-leaves
returns-in-Options-clause-leaves c before =
    let old = channel_of c.args.self.now [] [] in
    subst (λ (a : ExpectedReply). Leaves before old (replied a c.args.reply before old) (channel_of c.receive_options.new.self [] []) c.receive_options.result)
    (sym c.in-Options.is) (c.receive_options.ensures.leaves before)

pub returns-in-Verdict-clause-leaves : goal.returns-in-Verdict-clause-leaves
returns-in-Verdict-clause-leaves c before =
    let old = channel_of c.args.self.now [] [] in
    subst (λ (a : ExpectedReply). Leaves before old (replied a c.args.reply before old) (channel_of c.receive_answer.new.self [] []) c.receive_answer.result)
    (sym c.in-Verdict.is) (c.receive_answer.ensures.leaves before)

pub returns-in-Unknown-clause-leaves : goal.returns-in-Unknown-clause-leaves
returns-in-Unknown-clause-leaves c before =
    let old = channel_of c.args.self.now [] [] in
    subst (λ (a : ExpectedReply). Leaves before old (replied a c.args.reply before old) (channel_of c.receive_answer-in-Unknown.new.self [] []) c.receive_answer-in-Unknown.result)
    (sym c.in-Unknown.is) (c.receive_answer-in-Unknown.ensures.leaves before)
