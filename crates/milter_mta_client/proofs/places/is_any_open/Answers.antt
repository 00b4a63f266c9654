use Rattle.std.proofs.Common.{◌∙◌}
use Rattle.milter_mta_client.proofs.Open.{any_is_open}
use Rattle.milter_mta_client.proofs.places.is_any_open.Goals as goal

pub returns : goal.returns
returns c = c.contains.ensures.value ∙ any_is_open c.args.places.now
