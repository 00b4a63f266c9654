use Rattle.std.specs.List.{AllWithin}
use Rattle.milter_filter_stream.specs.MacroSearches.{IsUnlooked}
use Rattle.milter_filter_stream.proofs.macro_search.reset_all.Given as goal

-- those before this one
abbrev pub invariant-loop-search : goal.invariant-loop-search
invariant-loop-search l = AllWithin IsUnlooked l.searches 0 l.search-index
