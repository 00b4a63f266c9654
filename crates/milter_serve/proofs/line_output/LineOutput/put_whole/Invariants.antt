use Rattle.std.proofs.Common.{length}
use Rattle.milter_serve.proofs.line_output.LineOutput.put_whole.Given as goal

abbrev pub decreases-loop-rest : goal.decreases-loop-rest
decreases-loop-rest g l = length l.rest
