use Rattle.std.proofs.Common.{Some, ap, subst, sym, ◌∙◌}
use Rattle.milter_mta.specs.declared.state.FilterConnection.{FilterConnection as Connected}
use Rattle.milter_mta.specs.declared.state.SessionState.{SessionState}
use Rattle.milter_mta.specs.CoreParts.{IsConsistent, mta_at, with_state_report}
use Rattle.milter_mta.specs.Dispositions.{report}
use Rattle.milter_mta_outcome.specs.declared.loss.By.TheVariants.{Connection}
use Rattle.milter_mta_outcome.specs.Outcomes.{at_connection}
use Rattle.milter_mta.proofs.Reported.{all_settled, all_stand}
use Rattle.milter_mta.proofs.state.SessionState.settle_all.Goals as goal

pub returns-clause-settled : goal.returns-clause-settled
returns-clause-settled c =
    let one = c.report_at_connection.ensures
    ∙ ap (with_state_report (report c.args.transaction.acted (at_connection c.args.verdict c.args.transaction.message) Connection)) c.copies.ensures.same in
    let all = c.report_all.ensures c.args.transaction.acted c.in-Ok.ensures.equal in
    let state : SessionState = record c.report_all.new.self { connection = Some c.args.verdict } in
    ap (λ (l : Connected). mta_at state l) c.at.ensures
    ∙ all_settled c.args.self.now c.report_at_connection.new.self c.report_all.new.self c.args.transaction c.args.verdict one all

pub returns-clause-consistent : goal.returns-clause-consistent
returns-clause-consistent c =
    let one = c.report_at_connection.ensures
    ∙ ap (with_state_report (report c.args.transaction.acted (at_connection c.args.verdict c.args.transaction.message) Connection)) c.copies.ensures.same in
    let all = c.report_all.ensures c.args.transaction.acted c.in-Ok.ensures.equal in
    let state : SessionState = record c.report_all.new.self { connection = Some c.args.verdict } in
    subst (λ (l : Connected). IsConsistent state (Some l)) (sym c.at.ensures)
    (all_stand c.args.self.now c.report_at_connection.new.self c.report_all.new.self c.args.transaction c.args.verdict one all c.requires)
