-- What a log leaves of a report that it is shown.
use Rattle.std.specs.Prelude.{◌≡◌, ℕ, List, Option, None}
use Rattle.std.specs.Io.KnownBytes.{Appends}
use Rattle.milter_mta_outcome.specs.Losses.{is_by_client}
use Rattle.milter_mta_outcome.specs.declared.outcome.Report.{Report}
use Rattle.milter_mta_client.specs.ReportsText.{report_text}
use Rattle.milter_mta_client.specs.declared.report_log.ReportLog.{ReportLog}

-- the text of the message was written, and nothing else
pub record IsLogged {W : Type 0} (contents : W → Option (List ℕ)) (old : ReportLog W) (number : ℕ) (report : Report)
    (new : ReportLog W) : Type 0 where
  pub unbroken : old.fault ≡ None
  pub is_named : new.is_named ≡ is_by_client report.settled_by
  pub written : Appends (contents old.writer) (contents new.writer) (report_text old.is_named number report)

-- where no write has failed
abbrev pub LogNotes : {W : Type 0} → (W → Option (List ℕ)) → ReportLog W → ℕ → Report → ReportLog W → Type 0
LogNotes contents old number report new = new.fault ≡ None → IsLogged contents old number report new
