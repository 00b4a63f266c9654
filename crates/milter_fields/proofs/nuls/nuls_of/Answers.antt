use Rattle.std.proofs.Common.{arith}
use Rattle.std.specs.Prelude.{◌==◌}
use Rattle.std.proofs.lemmas.Simd.{zip2_splat}
use Rattle.milter_fields.proofs.Lanes.{bits_of_mask}
use Rattle.milter_fields.proofs.nuls.nuls_of.Goals as goal

pub returns : goal.returns
returns g c =
    let v = c.args.bytes in
    bits_of_mask (λ byte. byte == 0) v (omega arith) (zip2_splat _ v g.row.N 0 c.fits-bytes.0)
