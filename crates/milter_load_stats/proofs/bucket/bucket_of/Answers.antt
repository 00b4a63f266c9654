use Rattle.std.proofs.Common.{arith, ap, ◌/◌, ◌^◌}
use Rattle.milter_load_stats.proofs.BucketValues.{place_low}
use Rattle.milter_load_stats.proofs.bucket.bucket_of.Goals as goal

pub returns-clause-within : goal.returns-clause-within
returns-clause-within c =
    let o = c.saturating_sub-octave.result in
    omega (
      arith,
      c.saturating_sub-octave.ensures,
      ap (λ n. c.args.value / 2 ^ n) c.saturating_sub-octave.ensures,
      place_low c.args.value c.ranges.value.fits,
    )
