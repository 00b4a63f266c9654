use Rattle.std.proofs.Common.{arith}
use Rattle.std.proofs.lemmas.List.{take_more_same}
use Rattle.milter_lists.proofs.key.shared_len.Goals as goal

pub loop-shared-preserved : goal.loop-shared-preserved
loop-shared-preserved c = (
  omega arith,
  take_more_same c.args.a.now c.args.b.now c.loop-shared.shared 0 c.loop-shared-test.true c.if-shared-b.true
      c.loop-shared.invariant.1 c.if-a-shared.true,
)
