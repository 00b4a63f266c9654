use Rattle.std.proofs.Common.{rules}
use Rattle.milter_serve.proofs.file_stamp.FileStamp.trusted_at.Goals as goal

pub returns-in_default-clause-young : goal.returns-in_default-clause-young
returns-in_default-clause-young c = search rules
