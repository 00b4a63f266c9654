use Rattle.std.proofs.Common.{rules}
use Rattle.milter_filter_search.proofs.needle.KeptNeedle.is_for.Goals as goal

pub returns-in-List-List : goal.returns-in-List-List
returns-in-List-List c = search rules
