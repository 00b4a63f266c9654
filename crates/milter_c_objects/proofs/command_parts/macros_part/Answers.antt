use Rattle.std.proofs.Common.{◌∙◌, sym}
use Rattle.milter_c_objects.specs.Parts.{number_part, pair_part}
use Rattle.milter_c_objects.proofs.Places.{after_first}
use Rattle.milter_c_objects.proofs.command_parts.macros_part.Goals as goal

pub returns : goal.returns
returns c =
    c.pair_part.ensures
    ∙ sym (after_first pair_part (number_part c.args.command) c.args.pairs.now c.args.place c.if-place-eq0.false)
