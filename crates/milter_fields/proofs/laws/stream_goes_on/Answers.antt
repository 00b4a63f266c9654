use Rattle.milter_fields.proofs.StreamLaws.{divide-append}
use Rattle.milter_fields.proofs.laws.stream_goes_on.Goals as goal

pub returns : goal.returns
returns c = divide-append
