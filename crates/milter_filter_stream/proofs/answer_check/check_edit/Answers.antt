use Rattle.std.proofs.Common.{ap, length, arith}
use Rattle.milter_wire.specs.Reply.{code_of, payload_of}
use Rattle.milter_message.specs.EditReplies.{reply_of}
use Rattle.milter_filter_stream.proofs.PacketLengths.{packet-len}
use Rattle.milter_filter_stream.proofs.answer_check.check_edit.Goals as goal

pub returns-clause-weight : goal.returns-clause-weight
returns-clause-weight c =
    let r = reply_of c.args.edit.now in
    let bytes = ap length c.payload-payload.ensures.bytes in
    let long = packet-len (code_of r) (payload_of r) in
    omega (arith, c.weight.ensures, c.len.ensures, bytes, long)
