use Rattle.std.proofs.Common.{arith}
use Rattle.std.proofs.lemmas.Grind.{common_steps}
use Rattle.milter_filter_stream.proofs.connection.Connection.set_negotiated.Goals as goal

pub returns : goal.returns
returns c = grind (arith, common_steps)
