use Rattle.std.proofs.Common.{ap, ◌∙◌}
use Rattle.std.specs.Str.{bytes_eq}
use Rattle.milter_filter_search.specs.Texts.{folded}
use Rattle.milter_filter_search.proofs.FoldedParts.{folded_start}
use Rattle.milter_filter_search.proofs.text_case.begins_with.Goals as goal

pub returns : goal.returns
returns c =
    let text = c.args.text.now in
    rw c.min-len.ensures at c.is_text.ensures
    ∙ ap (λ first. bytes_eq first (folded c.args.case text)) (folded_start c.args.case c.args.value.now text)
