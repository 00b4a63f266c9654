use Rattle.milter_message.proofs.NameNumbering.{numbered_next}
use Rattle.milter_message.proofs.name_numbers.name_numbers.Goals as goal

pub loop-name-preserved : goal.loop-name-preserved
loop-name-preserved c =
    rw (c.max-most.ensures, c.in_ok-push.ensures.items) (numbered_next c.args.names.now c.loop-name.name-index
    c.loop-name.most c.in_ok-next.field-0 c.in_ok-number.number c.name-item.result c.loop-name.numbers
    c.number_or_put.new.numbers c.loop-name.of_names.items c.loop-name-test.true c.name-item.is c.in_ok-next.ensures
    (rw c.as_slice.ensures at c.in_ok-number.ensures.number)
    (rw c.as_slice.ensures at c.in_ok-number.ensures.put) c.loop-name.invariant)
