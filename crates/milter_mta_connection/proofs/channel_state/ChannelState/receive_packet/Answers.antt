use Rattle.std.proofs.Common.{[], Ok, Result, subst, sym}
use Rattle.milter_fields.specs.declared.fault.WireFault.{WireFault}
use Rattle.milter_fields.specs.Splitter.{frame_of}
use Rattle.milter_wire.specs.declared.reply.Reply.{Reply}
use Rattle.milter_wire.specs.Verdicts.{reply_of}
use Rattle.milter_mta_connection.specs.declared.channel_state.ExpectedReply.{ExpectedReply}
use Rattle.milter_mta_connection.specs.ChannelParts.{Leaves, channel_of}
use Rattle.milter_mta_connection.specs.Received.{framed, replied}
use Rattle.milter_mta_connection.proofs.channel_state.ChannelState.receive_packet.Goals as goal

pub returns-in-Some-clause-leaves : goal.returns-in-Some-clause-leaves
returns-in-Some-clause-leaves c before =
    let old = channel_of c.args.self.now [] [] in
    let reply : Result Reply WireFault = Ok (reply_of c.in-Some.verdict) in
    subst (λ (r : Result Reply WireFault). Leaves before old (framed r before old) (channel_of c.receive_verdict.new.self [] []) c.receive_verdict.result)
    (c.reply_frames.ensures.decoded (frame_of c.args.packet.now) reply (λ none. absurd cc) c.in-Some.ensures.reply)
    (subst (λ (a : ExpectedReply). Leaves before old (replied a (reply_of c.in-Some.verdict) before old) (channel_of c.receive_verdict.new.self [] []) c.receive_verdict.result)
    (sym c.in-Verdict.is) (c.receive_verdict.ensures.leaves before))

pub returns-in-Ok-clause-leaves : goal.returns-in-Ok-clause-leaves
returns-in-Ok-clause-leaves c before =
    let old = channel_of c.args.self.now [] [] in
    let reply : Result Reply WireFault = Ok c.in-Ok.reply in
    subst (λ (r : Result Reply WireFault). Leaves before old (framed r before old) (channel_of c.receive.new.self [] []) c.receive.result)
    (c.reply_frames.ensures.decoded (frame_of c.args.packet.now) reply (λ none. absurd cc) c.in-Ok.ensures.reading)
    (c.receive.ensures.leaves before)
