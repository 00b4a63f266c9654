use Rattle.milter_wire.specs.Negotiation.{negotiate, has_leading_space}
use Rattle.milter_world.proofs.Opened.{OfferLaws, opened-follows}
use Rattle.milter_world.proofs.DialogueFollowed.{DialogueLaws}
use Rattle.milter_world.proofs.mta_laws.entries_are_followed.Goals as goal

pub returns : goal.returns
returns c = λ b session config m message messages lawful from to unconnected same e.
    let laws : DialogueLaws b (negotiate config.offer b.wants b.lists) =
    record {
      packet = λ m dialogue command left stays. c.exchanges_are_played.ensures.packet b (negotiate config.offer b.wants b.lists) m dialogue command left stays;
      answer = λ m dialogue command left some is stays. c.exchanges_are_played.ensures.answer b (negotiate config.offer b.wants b.lists) m dialogue command left lawful some is stays;
      left_out = λ m dialogue command left out. c.exchanges_are_played.ensures.left_out (negotiate config.offer b.wants b.lists) m dialogue command left out;
      open_dialogue = λ dialogue command left is open_on. c.dialogues_go_on.ensures.open_dialogue b (negotiate config.offer b.wants b.lists) dialogue command left lawful is open_on;
      dialogue_without = λ dialogue command left is out. c.dialogues_go_on.ensures.left_out (negotiate config.offer b.wants b.lists) dialogue command left is out;
      part = λ m dialogue command left answer bytes more some stays remains is e. c.part_answers_are_received.ensures.answer b (negotiate config.offer b.wants b.lists) m dialogue command left answer bytes more lawful some stays remains is e;
      waits = λ dialogue left m edits bytes after is. record {
        goes_on = c.part_answers_settle_nothing.ensures.goes_on (negotiate config.offer b.wants b.lists) dialogue left m edits bytes after is;
        waits = c.part_answers_settle_nothing.ensures.waits (negotiate config.offer b.wants b.lists) dialogue left m edits bytes after is;
        reports = c.part_answers_settle_nothing.ensures.reports (negotiate config.offer b.wants b.lists) dialogue left m edits bytes after is;
        settles = λ loss. c.part_answers_settle_nothing.ensures.losses (negotiate config.offer b.wants b.lists) dialogue left m edits bytes after loss is;
      };
      whole = λ m dialogue left some is. c.dialogues_are_played.ensures.dialogue b (negotiate config.offer b.wants b.lists) m dialogue left lawful some is;
      rules = λ dialogue left message end. c.closed_dialogues_rule.ensures.whole_dialogue b (negotiate config.offer b.wants b.lists) dialogue left (has_leading_space ((negotiate config.offer b.wants b.lists))) message end;
      one = λ dialogue m message messages outcome all client e is. c.dialogues_settle_one.ensures (negotiate config.offer b.wants b.lists) dialogue m message messages outcome all client e is;
      all = λ dialogue m message messages outcome_of all client e is. c.dialogues_settle_all.ensures (negotiate config.offer b.wants b.lists) dialogue m message messages outcome_of all client e is;
      next = λ dialogue s message is. c.plans_are_sent.ensures.next (negotiate config.offer b.wants b.lists) dialogue s message is;
      abort = c.lines_without_answers.ensures.abort;
      quit = c.lines_without_answers.ensures.quit;
    } in
    let offers : OfferLaws b config (negotiate config.offer b.wants b.lists) = record {
      fits = c.lawful_filters_negotiate.ensures.fits config.offer b lawful from to;
      received_is = c.lawful_filters_negotiate.ensures.received config.offer b lawful from to;
      dialogue_so_far = λ s message. c.plans_are_sent.ensures.plan (negotiate config.offer b.wants b.lists) s message;
      dialled_is = c.offers_open_sessions.ensures.dialled;
      opened = λ m message messages e fits is. c.offers_open_sessions.ensures.opened m (negotiate config.offer b.wants b.lists) message messages e fits is;
      part = λ m bytes more fits some is. c.part_answers_are_received.ensures.offer m (negotiate config.offer b.wants b.lists) bytes more fits some is;
      losses = c.losses_depend_on_verdicts.ensures;
    } in
    opened-follows b session config laws offers m message messages unconnected same e
