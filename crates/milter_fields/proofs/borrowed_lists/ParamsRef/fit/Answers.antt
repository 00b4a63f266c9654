use Rattle.milter_fields.proofs.BorrowedLists.{strings_fit}
use Rattle.milter_fields.proofs.borrowed_lists.ParamsRef.fit.Goals as goal

pub returns : goal.returns
returns c =
    let fit = strings_fit c.self.inside.encoded.now c.self.inside.texts.now c.self.invariant in
    rw (← c.self.view_is) (λ t. fit.0 (c.have_no_nul.ensures.0 t), λ all. c.have_no_nul.ensures.1 (fit.1 all))
