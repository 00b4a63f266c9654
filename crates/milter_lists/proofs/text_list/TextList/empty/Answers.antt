use Rattle.std.proofs.Common.{[]}
use Rattle.milter_lists.proofs.ListAnswers.{has_entries}
use Rattle.milter_lists.proofs.text_list.TextList.empty.Goals as goal

pub returns-clause-has : goal.returns-clause-has
returns-clause-has c = has_entries c.args.kind [] c.new.result c.build.result c.build.ensures.kind c.build.ensures.has c.new.ensures
