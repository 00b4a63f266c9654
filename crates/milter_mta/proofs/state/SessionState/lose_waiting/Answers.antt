use Rattle.std.proofs.Common.{None, ap, subst, sym, ◌∙◌, ◌∷◌}
use Rattle.milter_mta.specs.declared.state.SessionState.{SessionState}
use Rattle.milter_mta.specs.Accounts.{Accounts}
use Rattle.milter_mta.specs.CoreParts.{IsConsistent}
use Rattle.milter_mta.proofs.Consistency.{settled_stands}
use Rattle.milter_mta.proofs.state.SessionState.lose_waiting.Goals as goal

pub returns-in-Some-clause-consistent : goal.returns-in-Some-clause-consistent
returns-in-Some-clause-consistent c =
    subst (λ (s : SessionState). IsConsistent s None) (sym c.settle_by_default.ensures)
    (settled_stands c.args.self.now c.take_reserved.new.self c.in-Some.message _ c.requires
    (c.in-Some.ensures.some ∙ ap (λ (l : Accounts). c.in-Some.message ∷ l.waiting) (sym c.take_reserved.ensures.same))
    (ap (λ (l : Accounts). l.spare) c.take_reserved.ensures.same ∙ ap (λ (l : Accounts). l.spare) c.next_message.ensures.same))
