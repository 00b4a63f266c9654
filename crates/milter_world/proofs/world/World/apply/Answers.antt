use Rattle.std.proofs.Common.{refl, sym, subst, arith}
use Rattle.std.proofs.lemmas.Grind.{common_steps}
use Rattle.milter_world.specs.declared.event_line.Event.{Event}
use Rattle.milter_world.specs.declared.event_line.Event.TheVariants.{Lose, Timeout}
use Rattle.milter_world.specs.Ends.{Steps}
use Rattle.milter_world.proofs.world.World.apply.Goals as goal

pub returns-in-Lose : goal.returns-in-Lose
returns-in-Lose g c = λ p b is.
    subst (λ (e : Event). Steps p c.args.self.now e c.lose.new.self) (sym c.in-Lose.is) (c.lose.ensures p Lose b is refl)

pub returns-in-Timeout : goal.returns-in-Timeout
returns-in-Timeout g c = λ p b is.
    subst (λ (e : Event). Steps p c.args.self.now e c.lose-in-Timeout.new.self) (sym c.in-Timeout.is) (c.lose-in-Timeout.ensures p Timeout b is refl)

pub returns-in-ToMta : goal.returns-in-ToMta
returns-in-ToMta g c = grind (arith, common_steps)
