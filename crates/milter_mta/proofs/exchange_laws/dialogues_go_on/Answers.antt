use Rattle.std.proofs.Common.{◌∷◌}
use Rattle.std.specs.List.{list_any}
use Rattle.milter_protocol.specs.Exchanges.{commands_of}
use Rattle.milter_protocol.specs.Dialogue.{is_skipping}
use Rattle.milter_protocol.proofs.Sendable.{end_left, no_end}
use Rattle.milter_protocol.proofs.WholeDialogues.{goes_no_further}
use Rattle.milter_mta.proofs.Ordered.{order-before, order-without}
use Rattle.milter_mta.proofs.Played.{proper}
use Rattle.milter_mta.proofs.exchange_laws.dialogues_go_on.Goals as goal

pub returns-clause-dialogue_so_far : goal.returns-clause-dialogue_so_far
returns-clause-dialogue_so_far c b negotiated dialogue command left lawful is =
    record { proper = (proper b lawful negotiated dialogue command, is.proper); in_order = order-before left (command ∷ commands_of dialogue) is.in_order }

pub returns-clause-open_dialogue : goal.returns-clause-open_dialogue
returns-clause-open_dialogue c b negotiated dialogue command left lawful is goes_on =
    record {
      proper = (proper b lawful negotiated dialogue command, is.proper);
      in_order = is.in_order;
      ends = end_left command left (goes_no_further b negotiated dialogue command left goes_on) is.ends;
    }

pub returns-clause-left_out : goal.returns-clause-left_out
returns-clause-left_out c negotiated dialogue command left is out =
    record {
      proper = is.proper;
      in_order = order-without left command (commands_of dialogue) is.in_order;
      ends = end_left command left (no_end command (list_any is_skipping dialogue) out) is.ends;
    }
