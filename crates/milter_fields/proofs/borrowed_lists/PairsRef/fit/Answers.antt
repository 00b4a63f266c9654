use Rattle.milter_fields.proofs.BorrowedLists.{pairs_fit}
use Rattle.milter_fields.proofs.borrowed_lists.PairsRef.fit.Goals as goal

pub returns : goal.returns
returns c =
    let fit = pairs_fit c.self.inside.encoded.now c.self.inside.pairs.now c.self.invariant in
    rw (← c.self.view_is) (λ t. fit.0 (c.pairs_fit.ensures.0 t), λ all. c.pairs_fit.ensures.1 (fit.1 all))
