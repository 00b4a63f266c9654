use Rattle.std.proofs.Common.{arith}
use Rattle.milter_filter_stream.proofs.PacketCommands.{found-encoded}
use Rattle.milter_filter_stream.proofs.asker.read_command.Goals as goal

pub returns-clause-encoded : goal.returns-clause-encoded
returns-clause-encoded c =
    found-encoded (record { code = c.args.code; payload = c.args.payload.now }) c.decode.result (λ i. omega (arith, c.type_inv.payload i)) c.requires c.decode.ensures
