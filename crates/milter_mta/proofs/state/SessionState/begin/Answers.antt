use Rattle.std.proofs.Common.{ap, sym, ◌∙◌}
use Rattle.milter_mail.specs.ChosenMacros.{chosen_macros}
use Rattle.milter_mta_outcome.specs.declared.transaction.Transaction.{Transaction}
use Rattle.milter_mta.specs.Accounts.{Accounts}
use Rattle.milter_mta.proofs.Consistency.{begun_stands}
use Rattle.milter_mta.proofs.state.SessionState.begin.Goals as goal

pub returns-in-Some-clause-consistent : goal.returns-in-Some-clause-consistent
returns-in-Some-clause-consistent c =
    begun_stands c.args.self.now c.next_message.new.self c.in-Some.message c.new.result c.args.stage c.requires.consistent
    c.in-Some.ensures.some (ap (λ (l : Accounts). l.spare) c.next_message.ensures.same)
    (ap (λ (t : Transaction). t.message) c.new.ensures) (ap (λ (t : Transaction). t.macros) c.new.ensures ∙ c.requires.chosen ∙ sym (ap (λ (t : Transaction). chosen_macros t.negotiated.lists c.args.self.now.client_info.macros) c.new.ensures))
    (ap (λ (t : Transaction). t.cursor) c.new.ensures) c.requires.stage
