use Rattle.std.proofs.Common.{[], ◌∷◌, sym, ◌∙◌}
use Rattle.std.proofs.lemmas.Bool.{false≢true}
use Rattle.std.proofs.lemmas.Result.{err_from_is_err_and}
use Rattle.milter_text.specs.WordValues.{keyword}
use Rattle.milter_mail_file.proofs.LineRuns.{first_in_words, first_there, next_words}
use Rattle.milter_mail_file.proofs.session_messages.read_keyword.Goals as goal

pub returns-in_err-line-clause-only : goal.returns-in_err-line-clause-only
returns-in_err-line-clause-only c = λ line rest order has.
    let all = c.args.lines.now.lines in
    let p = err_from_is_err_and c.from_residual.result c.from_residual.ensures.1 in
    rw (p.1, p.2) (c.in_err-line.ensures.only (first_there all line rest order) (first_in_words all line rest (keyword c.args.text.now ∷ []) order has))

pub returns-then-not-is_only_word-clause-only : goal.returns-then-not-is_only_word-clause-only
returns-then-not-is_only_word-clause-only c = λ line rest order has.
    let words = c.in_ok-line.line.words.items in
    let next = next_words c.args.lines.now c.in_ok-line.line.number words c.next_line.new.lines line rest (keyword c.args.text.now ∷ []) c.in_ok-line.ensures.found order has in
    absurd (false≢true (sym c.if-not-is_only_word.true ∙ c.is_only_word.ensures.1 (c.as_slice.ensures.value ∙ next.same)))
