use Rattle.std.proofs.Common.{length}
use Rattle.milter_tests_driver.proofs.packets.read_stream.Given as goal

abbrev pub decreases-loop-rest : goal.decreases-loop-rest
decreases-loop-rest l = length l.rest
