use Rattle.milter_fields.proofs.Division.{divides}
use Rattle.milter_fields.proofs.laws.stream_divides.Goals as goal

pub returns : goal.returns
returns c = divides
