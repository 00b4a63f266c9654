use Rattle.std.proofs.Common.{subst, sym}
use Rattle.std.proofs.lemmas.List.Elements.{All-set}
use Rattle.milter_filter_search.specs.Searches.{HasRead}
use Rattle.milter_filter_search.proofs.BodySearches.{read_all}
use Rattle.milter_filter_search.proofs.body_search.look_at_all.Goals as goal

pub look_at-requires : goal.look_at-requires
look_at-requires c =
    subst (HasRead c.args.bytes.now) (sym c.index_mut.ensures.value)
    (c.begin.ensures.looked c.args.bytes.now c.requires c.args.place _ (c.begin.ensures.there c.if-begin.true))

pub returns-then-begin : goal.returns-then-begin
returns-then-begin c =
    All-set (HasRead c.args.bytes.now) c.begin.new.searches.items c.args.place c.look_at.new.self
    (subst (HasRead c.args.bytes.now) (sym c.look_at.ensures) (read_all c.index_mut.result.now c.args.bytes.now))
    (c.begin.ensures.looked c.args.bytes.now c.requires)

pub returns-else-begin : goal.returns-else-begin
returns-else-begin c = c.begin.ensures.looked c.args.bytes.now c.requires
