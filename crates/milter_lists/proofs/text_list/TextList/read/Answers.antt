use Rattle.std.proofs.Common.{ap, rules, ◌∙◌}
use Rattle.milter_lists.specs.Collected.{len_by}
use Rattle.milter_lists.specs.ListValues.{collected_in}
use Rattle.milter_lists.specs.Listed.{entries_in}
use Rattle.milter_lists.proofs.CollectedEntries.{collected_len}
use Rattle.milter_lists.proofs.FileReads.{only_memory}
use Rattle.milter_lists.proofs.ListAnswers.{has_entries}
use Rattle.milter_lists.proofs.text_list.TextList.read.Goals as goal

pub returns-in_err-builder-clause-only : goal.returns-in_err-builder-clause-only
returns-in_err-builder-clause-only c = λ good small.
    let memory =
    only_memory c.args.kind c.args.bytes.now c.in_err-builder.field-0.0 c.in_err-builder.ensures.fault good small in
    search (rules, memory)

pub returns-clause-len : goal.returns-clause-len
returns-clause-len c =
    ap (λ k. len_by k (collected_in c.build.result)) c.build.ensures.kind ∙ c.build.ensures.len
    ∙ ap (len_by c.args.kind) c.in_ok-builder.ensures.entries
    ∙ collected_len c.args.kind (entries_in c.args.bytes.now) c.in_ok-builder.ensures.good

pub returns-clause-has : goal.returns-clause-has
returns-clause-has c =
    has_entries c.args.kind (entries_in c.args.bytes.now) c.in_ok-builder.builder c.build.result c.build.ensures.kind
    c.build.ensures.has c.in_ok-builder.ensures.entries
