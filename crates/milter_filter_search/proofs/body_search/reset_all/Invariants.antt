use Rattle.std.specs.List.{AllWithin}
use Rattle.milter_filter_search.specs.Searches.{IsUnread}
use Rattle.milter_filter_search.proofs.body_search.reset_all.Given as goal

-- those before this one
abbrev pub invariant-loop-search : goal.invariant-loop-search
invariant-loop-search l = AllWithin IsUnread l.searches 0 l.search-index
