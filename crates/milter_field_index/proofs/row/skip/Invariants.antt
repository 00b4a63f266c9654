use Rattle.std.proofs.Common.{◌≡◌, ◌+◌, ◌*◌, take}
use Rattle.std.specs.List.{sum}
use Rattle.milter_field_index.proofs.row.skip.Given as goal

abbrev pub invariant-loop-chunk : goal.invariant-loop-chunk
invariant-loop-chunk l = sum (take (l.chunk * 64) l.row) + l.left ≡ l.number
