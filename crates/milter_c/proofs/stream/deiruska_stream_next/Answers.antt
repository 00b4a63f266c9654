use Rattle.std.proofs.Common.{◌≡◌, Some, arith, rules}
use Rattle.std.proofs.lemmas.Grind.{common_steps}
use Rattle.milter_fields.specs.Stream.{length_fault}
use Rattle.milter_c.proofs.stream.deiruska_stream_next.Goals as goal

pub returns-in-Err-clause-fault : goal.returns-in-Err-clause-fault
returns-in-Err-clause-fault c =
    let found : length_fault c.in-Stream.splitter ≡ Some c.in-Err.fault =
    (c.next.ensures.fault c.in-Err.fault).0 (rw c.in-Err.is (search rules)) in
    grind (arith, common_steps)
