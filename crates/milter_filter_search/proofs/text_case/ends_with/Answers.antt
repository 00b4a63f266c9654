use Rattle.std.proofs.Common.{ap, length, ◌∙◌, ◌-◌}
use Rattle.std.proofs.lemmas.List.{take_rest}
use Rattle.std.specs.Str.{bytes_eq}
use Rattle.milter_filter_search.specs.Texts.{folded}
use Rattle.milter_filter_search.proofs.FoldedParts.{folded_end}
use Rattle.milter_filter_search.proofs.text_case.ends_with.Goals as goal

pub returns : goal.returns
returns c =
    let text = c.args.text.now in
    let value = c.args.value.now in
    let last = rw (take_rest value (length value - length text)) at (rw c.saturating_sub-start.ensures at c.is_text.ensures) in
    last
    ∙ ap (λ bytes. bytes_eq bytes (folded c.args.case text)) (folded_end c.args.case value text)
