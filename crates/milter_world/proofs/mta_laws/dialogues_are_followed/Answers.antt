use Rattle.std.proofs.Common.{refl}
use Rattle.milter_wire.specs.Negotiation.{has_leading_space}
use Rattle.milter_world.proofs.DialogueFollowed.{DialogueLaws, each}
use Rattle.milter_world.proofs.mta_laws.dialogues_are_followed.Goals as goal

pub returns : goal.returns
returns c = λ b negotiated session m message messages dialogue left lawful e is.
    let laws : DialogueLaws b negotiated =
    record {
      packet = λ m dialogue command left stays. c.exchanges_are_played.ensures.packet b negotiated m dialogue command left stays;
      answer = λ m dialogue command left some is stays. c.exchanges_are_played.ensures.answer b negotiated m dialogue command left lawful some is stays;
      left_out = λ m dialogue command left out. c.exchanges_are_played.ensures.left_out negotiated m dialogue command left out;
      open_dialogue = λ dialogue command left is open_on. c.dialogues_go_on.ensures.open_dialogue b negotiated dialogue command left lawful is open_on;
      dialogue_without = λ dialogue command left is out. c.dialogues_go_on.ensures.left_out negotiated dialogue command left is out;
      part = λ m dialogue command left answer bytes more some stays remains is e. c.part_answers_are_received.ensures.answer b negotiated m dialogue command left answer bytes more lawful some stays remains is e;
      waits = λ dialogue left m edits bytes after is. record {
        goes_on = c.part_answers_settle_nothing.ensures.goes_on negotiated dialogue left m edits bytes after is;
        waits = c.part_answers_settle_nothing.ensures.waits negotiated dialogue left m edits bytes after is;
        reports = c.part_answers_settle_nothing.ensures.reports negotiated dialogue left m edits bytes after is;
        settles = λ loss. c.part_answers_settle_nothing.ensures.losses negotiated dialogue left m edits bytes after loss is;
      };
      whole = λ m dialogue left some is. c.dialogues_are_played.ensures.dialogue b negotiated m dialogue left lawful some is;
      rules = λ dialogue left message end. c.closed_dialogues_rule.ensures.whole_dialogue b negotiated dialogue left (has_leading_space (negotiated)) message end;
      one = λ dialogue m message messages outcome all client e is. c.dialogues_settle_one.ensures negotiated dialogue m message messages outcome all client e is;
      all = λ dialogue m message messages outcome_of all client e is. c.dialogues_settle_all.ensures negotiated dialogue m message messages outcome_of all client e is;
      next = λ dialogue s message is. c.plans_are_sent.ensures.next negotiated dialogue s message is;
      abort = c.lines_without_answers.ensures.abort;
      quit = c.lines_without_answers.ensures.quit;
    } in
    each m.config.on_loss b negotiated laws session m.config refl messages message dialogue left m e refl is
