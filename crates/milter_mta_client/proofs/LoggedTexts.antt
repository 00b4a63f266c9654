-- What a log leaves of the reports that it is shown one after the other.
use Rattle.std.proofs.Common.{◌≡◌, ◌+◌, ℕ, suc, Bool, drop, length, List, [], ◌∷◌, ◌++◌, Option, None, refl, sym, ap, ◌∙◌, subst}
use Rattle.std.specs.Io.KnownBytes.{Appends}
use Rattle.std.proofs.KnownBytes.{Appends-nil, Appends-trans}
use Rattle.milter_mta_outcome.specs.declared.outcome.Report.{Report}
use Rattle.milter_mta_outcome.specs.Losses.{is_by_client}
use Rattle.milter_mta.specs.Mta.{Mta}
use Rattle.milter_mta.specs.AnyFilter.{IsOnDialogue}
use Rattle.milter_mta_client.specs.Observations.{NotesEach}
use Rattle.milter_mta_client.specs.ReportsText.{report_text, texts_from}
use Rattle.milter_mta_client.specs.declared.report_log.ReportLog.{ReportLog}
use Rattle.milter_mta_client.specs.LoggedReports.{IsLogged, LogNotes}

-- no write has failed, and the texts of the messages were written
pub record AreLogged {W : Type 0} (contents : W → Option (List ℕ)) (old : ReportLog W) (number : ℕ) (reports : List Report) (new : ReportLog W) : Type 0 where
  pub unbroken : old.fault ≡ None
  pub written : Appends (contents old.writer) (contents new.writer) (texts_from number old.is_named reports)

pub are-logged : {W : Type 0} (contents : W → Option (List ℕ)) (number : ℕ) (reports : List Report) (old new : ReportLog W)
    → NotesEach (LogNotes contents) number reports old new → new.fault ≡ None → AreLogged contents old number reports new
unfolding texts_from
are-logged contents number [] old new notes none = record {
  unbroken = subst (λ (l : ReportLog _). l.fault ≡ None) notes none;
  written = subst (λ (l : ReportLog _). Appends (contents old.writer) (contents l.writer) []) (sym notes) (Appends-nil (contents old.writer));
}
are-logged contents number (report ∷ reports) old new notes none =
    let rest = are-logged contents (suc number) reports notes.0 new notes.2 none in
    let first = notes.1 rest.unbroken in
    record {
      unbroken = first.unbroken;
      written =
          let others = subst (λ (named : Bool). Appends (contents notes.0.writer) (contents new.writer) (texts_from (suc number) named reports)) first.is_named rest.written in
          Appends-trans (contents old.writer) (contents notes.0.writer) (contents new.writer) (report_text old.is_named number report)
          (texts_from (suc number) (is_by_client report.settled_by) reports) first.written others;
    }

-- of a mail server's end without reports
pub all-are-logged : {W : Type 0} (contents : W → Option (List ℕ)) (m start : Mta) (reports : List Report) (old new : ReportLog W) → m ≡ start → start.reports ≡ []
    → (IsOnDialogue m → NotesEach (LogNotes contents) (length m.reports + 1) (drop (length m.reports) reports) old new) → IsOnDialogue start → new.fault ≡ None
    → Appends (contents old.writer) (contents new.writer) (texts_from 1 old.is_named reports)
all-are-logged contents m start reports old new is none notes on unbroken =
    let noted : NotesEach (LogNotes contents) 1 reports old new =
    subst (λ (l : List Report). NotesEach (LogNotes contents) (length l + 1) (drop (length l) reports) old new) none
    (subst (λ (x : Mta). IsOnDialogue x → NotesEach (LogNotes contents) (length x.reports + 1) (drop (length x.reports) reports) old new) is notes on) in
    (are-logged contents 1 reports old new noted unbroken).written
