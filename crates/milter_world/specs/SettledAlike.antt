-- Whether messages come to the same by two filters, each asked by a mail server that makes both the same offer.
use Rattle.std.specs.Prelude.{◌≡◌, List, map, Option, option_map}
use Rattle.milter_wire.specs.declared.options.Options.{Options}
use Rattle.milter_wire.specs.declared.negotiation.Negotiated.{Negotiated}
use Rattle.milter_wire.specs.declared.verdict.Verdict.{Verdict}
use Rattle.milter_wire.specs.Negotiation.{negotiate}
use Rattle.milter_message.specs.MailObject.{MailObject}
use Rattle.milter_mail.specs.MailSession.{MailSession}
use Rattle.milter_protocol.specs.Behavior.{Behavior}
use Rattle.milter_mta_outcome.specs.declared.loss.By.{By}
use Rattle.milter_mta_outcome.specs.declared.outcome.Outcome.{Outcome}
use Rattle.milter_mta_outcome.specs.declared.outcome.Report.{Report}
use Rattle.milter_mta.specs.Sessions.{connection_after, reports_by}

-- what became of a message, and what settled it: its report without the verdicts that were acted on
pub record Disposition : Type 0 where
  pub outcome : Outcome
  pub settled_by : By

abbrev pub disposition_of : Report → Disposition
disposition_of r = record { outcome = r.outcome; settled_by = r.settled_by }

-- what a mail server that makes this offer negotiates with the filter
abbrev pub negotiated_with : Behavior → Options → Negotiated
negotiated_with b offer = negotiate offer b.wants b.lists

-- what becomes of each of the messages, by its dialogue with the filter
abbrev pub dispositions_by : Behavior → Options → MailSession → List MailObject → List (Option Disposition)
dispositions_by b offer session messages =
    map (option_map disposition_of) (reports_by b (negotiated_with b offer) session messages)

-- Each message comes to the same by both, by the same cause, and so does the connection.
pub record SettlesAlike (one other : Behavior) (offer : Options) (session : MailSession)
    (messages : List MailObject) : Type 0 where
  pub messages_alike : dispositions_by one offer session messages ≡ dispositions_by other offer session messages
  pub connection_alike : (before : Option Verdict) →
      connection_after one (negotiated_with one offer) session messages before
      ≡ connection_after other (negotiated_with other offer) session messages before
