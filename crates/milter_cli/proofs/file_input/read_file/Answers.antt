use Rattle.std.proofs.Common.{rules}
use Rattle.milter_cli.proofs.FileLaws.{whole_file}
use Rattle.milter_cli.proofs.file_input.read_file.Goals as goal

pub returns-in-Ok-clause-bytes : goal.returns-in-Ok-clause-bytes
returns-in-Ok-clause-bytes g c =
    let bytes = rw (c.take.ensures.limit, c.take.ensures.inner, c.new-bytes.ensures.items) at c.in-Ok.ensures.bytes in
    whole_file 134217729 (g.R.Read.remaining c.args.reader) c.read_to_end.new.buf.items bytes (search rules)
