use Rattle.std.proofs.Common.{◌∙◌, ap, drop, sym}
use Rattle.std.proofs.lemmas.List.{take_rest}
use Rattle.milter_text.specs.Globs.{is_like}
use Rattle.milter_text.proofs.Segments.{last}
use Rattle.milter_text.proofs.glob.ends_with.Goals as goal

pub returns : goal.returns
returns c =
    let like = is_like c.args.case c.args.segment.now in
    let value = c.args.value.now in
    c.is_whole.ensures
    ∙ ap like (take_rest value c.saturating_sub-start.result)
    ∙ ap (λ start. like (drop start value)) c.saturating_sub-start.ensures
    ∙ sym (last c.args.case c.args.segment.now c.requires value)
