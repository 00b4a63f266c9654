use Rattle.std.proofs.Common.{◌≡◌, map, take}
use Rattle.milter_mail_file.proofs.line_values.copy_texts.Given as goal

abbrev pub invariant-loop-word : goal.invariant-loop-word
invariant-loop-word l = l.copies.items ≡ map (λ word. word.text) (take l.word-index l.words)
