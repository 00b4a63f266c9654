use Rattle.std.proofs.Common.{◌+◌, ◌<◌, length, subst, sym}
use Rattle.milter_filter_stream.specs.MacroSearches.{HasLooked, IsLastIn, MacroSearch}
use Rattle.milter_filter_stream.specs.declared.macro_search.MacroSearch.TheInside.{Inside}
use Rattle.milter_filter_stream.specs.contracts.macro_search.MacroSearch.{the_view}
use Rattle.milter_filter_stream.proofs.MacroSearches.{looked_at_none, looked_at_some}
use Rattle.milter_filter_stream.proofs.macro_search.MacroSearch.look_at_next.Goals as goal
use Rattle.milter_filter_stream.proofs.macro_search.MacroSearch.look_at_next.Goals.{in-Some, in_default}

pub returns-clause-looked : goal.returns-clause-looked
returns-clause-looked c =
    let groups = c.args.groups.now in
    let s = the_view c.self.inside in
    let group = c.index-groups-group.result in
    let left : s.looked < length groups = subst (λ (t : MacroSearch). t.looked < length groups) (sym c.self.view_is) c.requires.left in
    let last : IsLastIn group.pairs s.name c.last_pair.result = rw (c.as_slice.ensures, c.as_slice-2.ensures, ← c.index-groups-group.is) at c.last_pair.ensures in
    let after = λ (t : Inside). HasLooked groups (record { name = t.name; looked = t.looked + 1; found = t.found }) in
    elim c.match-last_pair.branch [
      | in-Some w ↦ subst after (sym w.self-inside-is) (looked_at_some groups s group w.in-Some.pair left c.index-groups-group.is (rw w.in-Some.is at last))
      | in_default w ↦ subst after (sym w.self-inside-is) (looked_at_none groups s group left c.index-groups-group.is (subst (HasLooked groups) (sym c.self.view_is) c.requires.looked) (rw w.in_default.is at last))
    ]
