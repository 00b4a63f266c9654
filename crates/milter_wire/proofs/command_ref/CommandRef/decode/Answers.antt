use Rattle.std.proofs.Common.{sym}
use Rattle.milter_wire.proofs.FrameLaws.{command-known, no-value, value-read}
use Rattle.milter_wire.proofs.command_ref.CommandRef.decode.Goals as goal

pub returns-in-Some : goal.returns-in-Some
returns-in-Some c =
    let read = sym c.in-Some.ensures in
    sym (value-read c.args.code _ _ _ (command-known c.args.code c.args.payload.now _ read) read)

pub returns-in-None : goal.returns-in-None
returns-in-None c = no-value c.args.code _ _ c.fault_of.result c.fault_of.ensures (sym c.in-None.ensures)
