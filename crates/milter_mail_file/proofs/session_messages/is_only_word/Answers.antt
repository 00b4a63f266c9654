use Rattle.std.proofs.Common.{sym, ◌∙◌}
use Rattle.milter_text.proofs.FirstWord.{first_is_keyword, one_word}
use Rattle.milter_mail_file.proofs.session_messages.is_only_word.Goals as goal

pub returns-in-len1 : goal.returns-in-len1
returns-in-len1 c = (
  λ yes. one_word c.args.text.now c.args.words.now c.word-item.result c.in-len1.len_at_least c.in-len1.len_below c.word-item.is (sym c.is_keyword.ensures ∙ yes),
  λ same. c.is_keyword.ensures ∙ first_is_keyword c.args.text.now c.args.words.now c.word-item.result c.word-item.is same,
)
