use Rattle.std.proofs.Common.{arith}
use Rattle.milter_lists.proofs.Keys.{eight_bytes}
use Rattle.milter_lists.proofs.key.key_of.Goals as goal

pub returns : goal.returns
returns c = omega (arith, eight_bytes c.args.text.now)
