use Rattle.std.proofs.Common.{rules}
use Rattle.milter_serve.proofs.known_file.KnownFile.note.Goals as goal

pub returns-in-Err : goal.returns-in-Err
returns-in-Err c = search rules
