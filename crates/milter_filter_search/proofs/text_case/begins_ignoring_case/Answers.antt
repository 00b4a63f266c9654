use Rattle.std.proofs.Common.{ap, ◌∙◌}
use Rattle.std.specs.Str.{bytes_eq, str_to_ascii_lowercase}
use Rattle.milter_filter_search.proofs.FoldedTexts.{lower_take}
use Rattle.milter_filter_search.proofs.text_case.begins_ignoring_case.Goals as goal

pub returns : goal.returns
returns c =
    c.is_ignoring_case.ensures
    ∙ ap (λ first. bytes_eq first (str_to_ascii_lowercase c.args.text.now)) (lower_take c.args.bytes.now c.args.text.now)
