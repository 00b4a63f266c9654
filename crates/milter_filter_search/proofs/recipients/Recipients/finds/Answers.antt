use Rattle.std.proofs.Common.{arith}
use Rattle.std.proofs.lemmas.Grind.{common_steps}
use Rattle.milter_filter_search.proofs.SearchedItems.{paths_found}
use Rattle.milter_filter_search.proofs.recipients.Recipients.finds.Goals as goal

pub returns-then-is_for : goal.returns-then-is_for
returns-then-is_for c =
    paths_found c.args.part c.args.needle.now c.args.self.now c.in-Some.search.now (grind (arith, common_steps)) (grind (arith, common_steps)) (c.is_for.ensures c.if-is_for.true)
