use Rattle.std.proofs.Common.{refl}
use Rattle.milter_fields.specs.Number.{number}
use Rattle.milter_protocol.proofs.TakenAlike.{in-turn, left-by}
use Rattle.milter_protocol.proofs.rows.refused_data.Goals as goal

pub returns-clause-in_turn : goal.returns-clause-in_turn
unfolding number
returns-clause-in_turn c = (
  in-turn refl refl,
  (in-turn refl refl, (in-turn refl refl, (in-turn refl refl, (left-by refl refl, (in-turn refl refl, (in-turn refl refl, (in-turn refl refl, (left-by refl refl, tt)))))))),
)
