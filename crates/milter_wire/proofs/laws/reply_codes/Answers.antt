use Rattle.milter_wire.proofs.KnownCodes.{replies_known}
use Rattle.milter_wire.proofs.laws.reply_codes.Goals as goal

pub returns : goal.returns
returns c = replies_known
