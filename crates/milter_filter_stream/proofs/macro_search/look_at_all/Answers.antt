use Rattle.std.proofs.Common.{subst, sym}
use Rattle.std.proofs.lemmas.List.Elements.{All-set}
use Rattle.milter_filter_stream.specs.MacroSearches.{HasLooked}
use Rattle.milter_filter_stream.proofs.MacroSearches.{is_within}
use Rattle.milter_filter_stream.proofs.macro_search.look_at_all.Goals as goal

pub look_at-requires : goal.look_at-requires
look_at-requires c =
    let within = is_within c.args.name.now c.begin.new.searches.items c.args.place (c.begin.ensures.there c.if-begin.true) in
    subst (HasLooked c.args.groups.now) (sym c.index_mut.ensures.value)
    (c.begin.ensures.looked c.args.groups.now c.requires c.args.place _ within)

pub returns-then-begin : goal.returns-then-begin
returns-then-begin c =
    All-set (HasLooked c.args.groups.now) c.begin.new.searches.items c.args.place c.look_at.new.self c.look_at.ensures.looked
    (c.begin.ensures.looked c.args.groups.now c.requires)

pub returns-else-begin : goal.returns-else-begin
returns-else-begin c = c.begin.ensures.looked c.args.groups.now c.requires
