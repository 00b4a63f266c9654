use Rattle.milter_text.proofs.FoundByte.{first_feed}
use Rattle.milter_lists.proofs.file_entries.first_end.Goals as goal

pub returns : goal.returns
returns c = first_feed c.args.bytes.now c.memchr.result c.memchr.ensures
