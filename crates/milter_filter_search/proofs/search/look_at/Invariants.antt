use Rattle.std.proofs.Common.{length, ◌-◌}
use Rattle.milter_filter_search.specs.Searches.{HasLooked}
use Rattle.milter_filter_search.proofs.search.look_at.Given as goal

-- what the search says of the items that it has looked at is so
abbrev pub invariant-loop-search : goal.invariant-loop-search
invariant-loop-search g l = HasLooked g.K.Lookup.finds l.items l.search

-- the items that are left
abbrev pub decreases-loop-search : goal.decreases-loop-search
decreases-loop-search g l = length l.items - l.search.looked
