use Rattle.milter_fields.proofs.StringFields.{tells_no_nul}
use Rattle.milter_fields.proofs.strings.has_no_nul.Goals as goal

pub returns : goal.returns
returns c = tells_no_nul c.args.text.now c.first_nul.result c.is_none.result c.first_nul.ensures c.is_none.ensures
