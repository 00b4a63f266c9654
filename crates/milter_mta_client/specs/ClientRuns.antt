-- What becomes of a session that is played to filters over connections.
use Rattle.std.specs.Prelude.{◌≡◌, List, [], ◌∷◌, ◌++◌}
use Rattle.std.specs.List.{AllZip}
use Rattle.milter_mta_outcome.specs.declared.loss.Loss.TheVariants.{Reset}
use Rattle.milter_mta_outcome.specs.declared.outcome.Report.{Report}
use Rattle.milter_mta.specs.declared.mta_core.Want.{Want}
use Rattle.milter_mta.specs.declared.mta_core.Want.TheVariants as wants
use Rattle.milter_mta.specs.Accounts.{Disposition}
use Rattle.milter_mta.specs.Mta.{Mta}
use Rattle.milter_mta.specs.Output.{want}
use Rattle.milter_mta.specs.AnyFilter.{ConnectionIsReported, IsOnDialogue, IsReportByDialogue, without_messages}
use Rattle.milter_mta_client.specs.Events.{Event, Runs}
use Rattle.milter_mta_client.specs.Events.Event.{GaveUp}

-- a connection that was made before is given up first
abbrev pub first_events : Want → List Event
first_events wants.Send = GaveUp Reset ∷ []
first_events wants.Receive = GaveUp Reset ∷ []
first_events other = []

-- each message that was left is reported, after the reports that were there: as a dialogue through its plan that ended
-- rules, or by default after an open one
pub record ReportsEach (old : Mta) (s : Disposition) : Type 0 where
  pub added : List Report
  pub reports_are : s.messages ≡ old.reports ++ added
  pub by_dialogues : AllZip (IsReportByDialogue old.config (without_messages old.session)) old.session.messages added

pub record Converses (old : Mta) (s : Disposition) : Type 0 where
  -- what happened, each where it was wanted, and where it led
  pub events : List Event
  pub last : Mta
  pub runs : Runs old (first_events (want old) ++ events) last
  -- nothing is left to do then
  pub done : want last ≡ wants.Done
  pub disposition_is : s ≡ record { connection = last.connection; messages = last.reports }
  -- and so, of a mail server's end that was new or came from its calls:
  pub reports_each : IsOnDialogue old → ReportsEach old s
  pub connection_is : IsOnDialogue old → ConnectionIsReported old → ConnectionIsReported last
