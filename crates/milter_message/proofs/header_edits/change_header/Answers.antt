use Rattle.std.proofs.Common.{sym, ◌∙◌}
use Rattle.milter_message.proofs.EditFolds.{occurrence_within}
use Rattle.milter_message.proofs.header_edits.change_header.Goals as goal

pub change_field-requires : goal.change_field-requires
change_field-requires c = occurrence_within c.args.index c.args.header.now.name c.args.headers.now.items c.in-Some.position (rw c.as_slice.ensures.value at (sym c.position_of.ensures) ∙ c.in-Some.is)
