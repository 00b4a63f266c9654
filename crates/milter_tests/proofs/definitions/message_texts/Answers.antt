use Rattle.std.proofs.Common.{rules}
use Rattle.milter_text.specs.QuotedText.{quoted}
use Rattle.milter_mail.specs.HeldText.{held_text, line_of}
use Rattle.milter_tests.proofs.definitions.message_texts.Goals as goal

pub returns : goal.returns
unfolding held_text line_of quoted
returns c = search rules
