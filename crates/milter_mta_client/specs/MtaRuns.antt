-- What the playing of a session to filters leaves, where the bytes of its writer are known.
use Rattle.std.specs.Prelude.{ℕ, List, Option}
use Rattle.std.specs.Io.KnownBytes.{Appends}
use Rattle.milter_mail.specs.MailSession.{MailSession}
use Rattle.milter_mta.specs.Accounts.{Disposition}
use Rattle.milter_mta.specs.Mta.{Configuration, fresh}
use Rattle.milter_mta_client.specs.ClientRuns.{Converses}
use Rattle.milter_mta_client.specs.ReportsText.{reports_text}

-- the session was played by a new mail server's end, and its reports were written and nothing else
pub record PlaysSession (config : Configuration) (session : MailSession) (before after : Option (List ℕ)) : Type 0 where
  pub disposition : Disposition
  pub played : Converses (fresh config session) disposition
  pub written : Appends before after (reports_text disposition)
