use Rattle.std.proofs.Common.{arith}
use Rattle.milter_address.proofs.ByteSuffixes.{not_under, under_by_last, under_same, whole_of_suffix}
use Rattle.milter_address.proofs.domain.is_under.Goals as goal

pub returns-in-Some-empty : goal.returns-in-Some-empty
returns-in-Some-empty c =
    let found = c.in-Some-empty.ensures.cases in
    under_same c.args.domain.now c.args.parent.now c.in-Some-empty.field-0.now
    (whole_of_suffix c.args.domain.now c.args.parent.now c.in-Some-empty.field-0.now found.0 found.1) (omega arith)

pub returns-in-Some-len1-up : goal.returns-in-Some-len1-up
returns-in-Some-len1-up c =
    let found = c.in-Some-len1-up.ensures.cases in
    under_by_last c.args.domain.now c.args.parent.now c.in-Some-len1-up.field-0.now
    (whole_of_suffix c.args.domain.now c.args.parent.now c.in-Some-len1-up.field-0.now found.0 found.1) (omega arith)

pub returns-in-None : goal.returns-in-None
returns-in-None c = not_under c.args.domain.now c.args.parent.now c.in-None.ensures.cases
