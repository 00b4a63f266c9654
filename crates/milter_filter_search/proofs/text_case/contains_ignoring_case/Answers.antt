use Rattle.std.proofs.Common.{sym, ◌∙◌}
use Rattle.std.specs.Str.{str_to_ascii_lowercase}
use Rattle.milter_filter_search.proofs.FoldedTexts.{contains_here}
use Rattle.milter_filter_search.proofs.text_case.contains_ignoring_case.Goals as goal

pub returns : goal.returns
returns c =
    let begins = sym c.begins_ignoring_case.ensures ∙ c.loop-rest-test.false in
    sym (contains_here (str_to_ascii_lowercase c.loop-rest.rest.now) (str_to_ascii_lowercase c.args.text.now) begins)
    ∙ c.loop-rest.invariant
