use Rattle.milter_lists.proofs.KeySets.{contained_is_key}
use Rattle.milter_lists.proofs.key_set.is_key.Goals as goal

pub returns : goal.returns
returns c = contained_is_key c.args.keys.now c.args.key.now c.contains.result c.contains.ensures
