use Rattle.milter_mta.specs.Mta.{Mta}
use Rattle.milter_mta.specs.AnyFilter.{ConnectionIsReported, GoesOnDialogues, IsOnDialogue}
use Rattle.milter_mta_client.proofs.OnDialogue.{Keeps, runs-keeps}
use Rattle.milter_mta_client.proofs.laws.events_report_connections.Goals as goal

-- it stays on dialogues, and its verdict on the connection stays reported
abbrev Reports : Mta → Mta → Type 0
Reports m n = GoesOnDialogues m n × (ConnectionIsReported m → ConnectionIsReported n)

pub returns : goal.returns
returns c old new events on is_reported runs =
    let laws = c.messages_are_settled_by_dialogues.ensures in
    let reports = c.connections_are_reported.ensures in
    let keeps : Keeps Reports IsOnDialogue = record {
      dialled_is = λ m is. (laws.dialled m is, λ r. reports.dialled m r);
      advanced_is = λ m is. (laws.advanced m is, λ r. reports.advanced m r);
      sent_is = λ m count is. (laws.sent m count is, λ r. reports.sent m count r);
      received_is = λ m bytes is. (laws.received m bytes is, λ r. reports.received m bytes is r);
      lost_is = λ m loss is. (laws.lost m loss is, λ r. reports.lost m loss r);
      still_is = λ m is. (laws.stays m is, λ r. r);
      on = λ m n goes. goes.0.on_dialogue;
      goes_on_is = λ a b d first next. (laws.goes_on a b d first.0 next.0, λ r. next.1 (first.1 r));
    } in
    (runs-keeps Reports IsOnDialogue keeps events old new on runs).1 is_reported
