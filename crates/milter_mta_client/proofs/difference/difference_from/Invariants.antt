use Rattle.std.proofs.Common.{◌≡◌, ◌+◌, length, map, take}
use Rattle.milter_mta_client.specs.Patterns.{GoesOn}
use Rattle.milter_mta_client.proofs.Differences.{Follows}
use Rattle.milter_mta_client.proofs.difference.difference_from.Given as goal

abbrev pub invariant-loop-index : goal.invariant-loop-index
invariant-loop-index l = record {
  sizes : length l.places ≡ length l.expected + 1;
  -- the lines so far may go on, and by just the lines that the open places take
  follows : Follows l.places (map (λ line. line.now) l.expected) (map (λ line. line.now) l.found) l.index;
  before : GoesOn (map (λ line. line.now) l.expected) (take l.index (map (λ line. line.now) l.found));
}
