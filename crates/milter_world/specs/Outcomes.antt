-- What the reports of a world say beside what its schedule has.
use Rattle.std.specs.Prelude.{◌≡◌, ◌≢◌, All, List, [], ◌++◌, None, Some}
use Rattle.std.specs.List.{AllZip}
use Rattle.milter_wire.specs.declared.verdict.Verdict.{Verdict}
use Rattle.milter_message.specs.MailObject.{MailObject}
use Rattle.milter_mta_outcome.specs.declared.outcome.Report.{Report}
use Rattle.milter_mta.specs.Accounts.{Disposition}
use Rattle.milter_mta.specs.AnyFilter.{HaveLastVerdict, client_reports}
use Rattle.milter_world.specs.Schedule.{Scenario}
use Rattle.milter_world.specs.DialogueReports.{WasGiven}

-- a verdict on the connection is there exactly where it settled messages, and is the last verdict of their reports
pub record ConnectionIsGiven (s : Disposition) : Type 0 where
  pub none : s.connection ≡ None → client_reports s.messages ≡ []
  pub some : (verdict : Verdict) → s.connection ≡ Some verdict →
      (client_reports s.messages ≢ []) × HaveLastVerdict verdict (client_reports s.messages)

-- the first of the messages are reported, and each verdict that was acted on is one that the filter gives at this step
-- of this message
pub record WereGiven (p : Scenario) (messages : List MailObject) (reports : List Report) : Type 0 where
  pub done : List MailObject
  pub rest : List MailObject
  pub messages_are : messages ≡ done ++ rest
  pub each : AllZip (λ message r. All (WasGiven p message) r.acted) done reports
