use Rattle.std.proofs.Common.{refl}
use Rattle.milter_fields.specs.Number.{number}
use Rattle.milter_protocol.proofs.TakenAlike.{in-turn}
use Rattle.milter_protocol.proofs.rows.lenient_aborts.Goals as goal

pub returns-clause-in_turn : goal.returns-clause-in_turn
unfolding number
returns-clause-in_turn c = (
  in-turn refl refl,
  (in-turn refl refl, (in-turn refl refl, (in-turn refl refl, (in-turn refl refl, (in-turn refl refl, (in-turn refl refl, (in-turn refl refl, (in-turn refl refl, (in-turn refl refl, tt))))))))),
)
