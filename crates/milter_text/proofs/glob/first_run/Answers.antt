use Rattle.milter_text.proofs.Segments.{first_run_found}
use Rattle.milter_text.proofs.glob.first_run.Goals as goal

pub returns : goal.returns
returns c = first_run_found c.args.pattern.now c.memchr.result c.memchr.ensures
