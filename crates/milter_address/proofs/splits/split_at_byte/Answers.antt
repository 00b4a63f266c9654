use Rattle.std.proofs.lemmas.List.Sums.{prefix_len-le-length}
use Rattle.milter_address.proofs.splits.split_at_byte.Goals as goal

pub split_at-requires : goal.split_at-requires
split_at-requires c = rw c.len_before.ensures (prefix_len-le-length _ c.args.text.now)
