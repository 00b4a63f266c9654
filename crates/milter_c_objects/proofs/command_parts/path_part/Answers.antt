use Rattle.std.proofs.Common.{◌∙◌, ◌-◌, ap, slice_get, option_map, sym}
use Rattle.milter_c_objects.specs.Parts.{text_part}
use Rattle.milter_c_objects.proofs.Places.{after_first}
use Rattle.milter_c_objects.proofs.command_parts.path_part.Goals as goal

pub returns : goal.returns
returns c =
    c.param_part.ensures
    ∙ ap (λ params. option_map text_part (slice_get params (c.args.place - 1))) c.as_slice.ensures
    ∙ sym (after_first text_part (text_part c.args.path.now.address) c.args.path.now.params c.args.place c.if-place-eq0.false)
