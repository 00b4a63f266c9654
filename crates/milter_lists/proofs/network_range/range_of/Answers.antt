use Rattle.milter_lists.proofs.NetworkBlocks.{sum_fits}
use Rattle.milter_lists.proofs.network_range.range_of.Goals as goal

pub overflow_add-result : goal.overflow_add-result
overflow_add-result c =
    record {
      fits = sum_fits c.args.number c.args.last_bits c.in-Some.size c.ranges.number.fits (c.in-Some.ensures).0
          (c.in-Some.ensures).1;
    }
