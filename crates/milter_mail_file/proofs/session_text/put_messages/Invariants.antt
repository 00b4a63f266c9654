use Rattle.std.proofs.Common.{drop}
use Rattle.std.specs.List.{flat_map}
use Rattle.milter_mail_file.specs.SessionText.{message_text}
use Rattle.milter_text.proofs.TextWriters.{Progress}
use Rattle.milter_mail_file.proofs.session_text.put_messages.Given as goal

abbrev pub invariant-loop-message : goal.invariant-loop-message
invariant-loop-message g l =
    Progress g.W.Write.contents l.initial.output l.output (flat_map message_text l.messages) (flat_map message_text (drop l.message-index l.messages))
