-- The messages of a session that are not settled, and the reports of those that are.
use Rattle.std.specs.Prelude.{ℕ, List, Option}
use Rattle.milter_wire.specs.declared.verdict.Verdict.{Verdict}
use Rattle.milter_message.specs.MailObject.{MailObject}
use Rattle.milter_mta_outcome.specs.declared.outcome.Report.{Report}

pub record Accounts : Type 0 where
  -- in order, without one that is under way
  pub waiting : List MailObject
  pub reports : List Report
  -- how many reports are added without more memory
  pub spare : ℕ

-- what became of a session's messages
pub record Disposition : Type 0 where
  -- the verdict that ended the client's connection
  pub connection : Option Verdict
  pub messages : List Report
