use Rattle.std.proofs.Common.{◌∙◌, sym}
use Rattle.milter_c_objects.specs.Parts.{symbols_part}
use Rattle.milter_c_objects.proofs.Places.{after_options}
use Rattle.milter_c_objects.proofs.reply_parts.wanted_part.Goals as goal

pub returns : goal.returns
returns c =
    c.symbols_part.ensures
    ∙ sym (after_options symbols_part c.args.options c.args.lists.now c.args.place c.if-place-lt-OPTIONS_PARTS.false)
