use Rattle.milter_filter_search.specs.Texts.{contains}
use Rattle.milter_filter_search.proofs.Occurrences.{contained_occurs, occurs_contained, same_test}
use Rattle.milter_filter_search.proofs.text_case.contains_exactly.Goals as goal

pub returns-in_default : goal.returns-in_default
returns-in_default c =
    let bytes = c.args.bytes.now in
    let text = c.args.text.now in
    same_test c.contains_str.result (contains bytes text)
    (λ found. contained_occurs bytes text (c.contains_str.ensures.0 found))
    (λ has. c.contains_str.ensures.1 (occurs_contained bytes text has))
