use Rattle.std.proofs.Common.{◌-◌, arith, length, ◌∙◌, ap, Some, ◌+◌}
use lib.Count.{count_trailing_zeros}
use Rattle.std.specs.Prelude.{◌==◌}
use Rattle.milter_fields.proofs.Lanes.{first_in_lanes, none_in_lanes, position_none}
use Rattle.milter_fields.proofs.nuls.first_nul_by.Goals as goal

pub loop-start-preserved : goal.loop-start-preserved
loop-start-preserved g c =
    let bytes = c.args.bytes.now in
    let nuls = c.nuls_of-nuls in
    none_in_lanes (λ byte. byte == 0) bytes c.loop-start.start g.row.N c.loop-start.invariant (omega arith) (omega (arith, nuls.ensures))

pub returns-then-nuls-ne0 : goal.returns-then-nuls-ne0
returns-then-nuls-ne0 g c =
    let bytes = c.args.bytes.now in
    let nuls = c.nuls_of-nuls in
    ap (λ n. Some (c.loop-start.start + count_trailing_zeros 64 n)) nuls.ensures
    ∙ first_in_lanes (λ byte. byte == 0) bytes c.loop-start.start g.row.N c.loop-start.invariant (omega arith) (omega arith) (omega (arith, nuls.ensures))

pub returns-then-nuls-eq0 : goal.returns-then-nuls-eq0
returns-then-nuls-eq0 g c =
    let bytes = c.args.bytes.now in
    let nuls = c.nuls_of-nuls-2 in
    let last = length bytes - g.row.N in
    position_none (λ byte. byte == 0) bytes
    (omega (arith, none_in_lanes (λ byte. byte == 0) bytes last g.row.N (omega (arith, c.loop-start.invariant)) (omega arith) (omega (arith, nuls.ensures))))

pub returns : goal.returns
returns g c =
    let bytes = c.args.bytes.now in
    let nuls = c.nuls_of-nuls-2 in
    let last = length bytes - g.row.N in
    ap (λ n. Some (last + count_trailing_zeros 64 n)) nuls.ensures
    ∙ first_in_lanes (λ byte. byte == 0) bytes last g.row.N (omega (arith, c.loop-start.invariant)) (omega arith) (omega arith) (omega (arith, nuls.ensures))
