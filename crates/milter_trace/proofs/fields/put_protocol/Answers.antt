use Rattle.milter_wire.specs.Bits.{names_text, protocol_table}
use Rattle.milter_trace.proofs.FieldLaws.{named}
use Rattle.milter_trace.proofs.fields.put_protocol.Goals as goal

pub returns : goal.returns
returns c =
    named c.put_names.result c.args.form.names (names_text protocol_table c.args.protocol.0) c.args.text.now.items _ c.put_names.new.out.items c.if-not-form.false c.in_ok-push.ensures.items c.put_names.ensures.0
