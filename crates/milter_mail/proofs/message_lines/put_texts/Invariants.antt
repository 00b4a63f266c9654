use Rattle.std.proofs.Common.{drop}
use Rattle.std.specs.List.{flat_map}
use Rattle.milter_mail.specs.HeldText.{text_of}
use Rattle.milter_text.proofs.TextWriters.{Progress}
use Rattle.milter_mail.proofs.message_lines.put_texts.Given as goal

abbrev pub invariant-loop-text : goal.invariant-loop-text
invariant-loop-text g l =
    Progress g.W.Write.contents l.initial.output l.output (flat_map text_of l.texts) (flat_map text_of (drop l.text-index l.texts))
