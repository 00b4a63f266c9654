use Rattle.std.proofs.Common.{refl, arith}
use Rattle.std.proofs.lemmas.Grind.{common_steps}
use Rattle.milter_text.proofs.TextWriters.{Progress-all, Progress-none}
use Rattle.milter_mail.proofs.held_text.put_reason.Goals as goal

pub returns-in-None : goal.returns-in-None
returns-in-None g c = rw c.in-None.is (Progress-all Progress-none refl)

pub returns-in-Some : goal.returns-in-Some
returns-in-Some g c = grind (arith, common_steps)
