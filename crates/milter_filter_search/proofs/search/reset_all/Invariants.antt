use Rattle.std.specs.List.{AllWithin}
use Rattle.milter_filter_search.specs.Searches.{IsUnlooked}
use Rattle.milter_filter_search.proofs.search.reset_all.Given as goal

-- those before this one
abbrev pub invariant-loop-search : goal.invariant-loop-search
invariant-loop-search g l = AllWithin IsUnlooked l.searches 0 l.search-index
