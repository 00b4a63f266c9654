use Rattle.std.proofs.Common.{◌≡◌, length}
use Rattle.std.specs.List.{list_any}
use Rattle.milter_lists.specs.ListKeys.{dot_suffixes, is_key}
use Rattle.milter_lists.proofs.domain_keys.has_dot_suffix.Given as goal

abbrev pub invariant-loop-rest : goal.invariant-loop-rest
invariant-loop-rest l = list_any (is_key l.keys) (dot_suffixes l.rest) ≡ list_any (is_key l.keys) (dot_suffixes l.bytes)

abbrev pub decreases-loop-rest : goal.decreases-loop-rest
decreases-loop-rest l = length l.rest
