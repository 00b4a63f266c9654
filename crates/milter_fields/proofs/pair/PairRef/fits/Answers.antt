use Rattle.std.proofs.Common.{arith}
use Rattle.std.proofs.lemmas.Grind.{common_steps}
use Rattle.milter_fields.proofs.pair.PairRef.fits.Goals as goal

pub returns-then-has_no_nul : goal.returns-then-has_no_nul
returns-then-has_no_nul c = grind (arith, common_steps)
