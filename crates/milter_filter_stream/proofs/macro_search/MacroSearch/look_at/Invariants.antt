use Rattle.std.proofs.Common.{◌≡◌, ◌-◌, length}
use Rattle.milter_filter_stream.specs.MacroSearches.{HasLooked}
use Rattle.milter_filter_stream.proofs.macro_search.MacroSearch.look_at.Given as goal

abbrev pub invariant-loop-self : goal.invariant-loop-self
invariant-loop-self l = HasLooked l.groups l.self × (l.self.name ≡ l.initial.self.name)

-- the packets that are left
abbrev pub decreases-loop-self : goal.decreases-loop-self
decreases-loop-self l = length l.groups - l.self.looked
