use Rattle.milter_mta.specs.AnyFilter.{GoesOnDialogues, IsOnDialogue}
use Rattle.milter_mta_client.proofs.OnDialogue.{Keeps, runs-keeps}
use Rattle.milter_mta_client.proofs.laws.events_keep_to_dialogues.Goals as goal

pub returns : goal.returns
returns c old new events on runs =
    let laws = c.messages_are_settled_by_dialogues.ensures in
    let keeps : Keeps GoesOnDialogues IsOnDialogue = record {
      dialled_is = λ m is. laws.dialled m is;
      advanced_is = λ m is. laws.advanced m is;
      sent_is = λ m count is. laws.sent m count is;
      received_is = λ m bytes is. laws.received m bytes is;
      lost_is = λ m loss is. laws.lost m loss is;
      still_is = λ m is. laws.stays m is;
      on = λ m n goes. goes.on_dialogue;
      goes_on_is = λ a b d first next. laws.goes_on a b d first next;
    } in
    runs-keeps GoesOnDialogues IsOnDialogue keeps events old new on runs
