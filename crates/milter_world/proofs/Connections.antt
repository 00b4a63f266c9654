-- The verdict on the connection, as it is reported.
use Rattle.std.proofs.Common.{◌≡◌, ◌≢◌, List, [], sym, ap, subst, ◌∙◌}
use Rattle.milter_mta_outcome.specs.declared.outcome.Report.{Report}
use Rattle.milter_mta.specs.Accounts.{Disposition}
use Rattle.milter_mta.specs.Mta.{Mta}
use Rattle.milter_mta.specs.AnyFilter.{ConnectionIsReported, HaveLastVerdict, client_reports}
use Rattle.milter_world.specs.Outcomes.{ConnectionIsGiven}

pub connection-given : (m : Mta) (s : Disposition) → s.connection ≡ m.connection → s.messages ≡ m.reports → ConnectionIsReported m → ConnectionIsGiven s
connection-given m s connection messages is =
    record {
      none = λ e. ap client_reports messages ∙ is.none (sym connection ∙ e);
      some = λ verdict e. (let x = is.some verdict (sym connection ∙ e) in
          subst (λ (rs : List Report). (client_reports rs ≢ []) × HaveLastVerdict verdict (client_reports rs)) (sym messages) (x.1, x.2));
    }
