use Rattle.std.proofs.Common.{◌≡◌, Err, ap, sym, ◌∙◌, length, arith}
use Rattle.std.proofs.lemmas.Bool.{eqb-false, eqb-true}
use Rattle.std.proofs.lemmas.Result.{err_from_is_err_and}
use Rattle.milter_text.specs.declared.word.WordFault.TheVariants.{BadWord}
use Rattle.milter_text.proofs.WordBounds.{past_blanks-le-length}
use Rattle.milter_text.proofs.WordLaws.{begins-shorter, other_fault, read_all, read_bad, read_more, read_none, words_same}
use Rattle.milter_text.proofs.line_words.words.Goals as goal

pub loop-rest-init : goal.loop-rest-init
loop-rest-init c = rw (c.new-words.ensures.items, c.after_blanks-rest.ensures) (read_none c.args.line.now)

pub returns-in_err-word-clause-only : goal.returns-in_err-word-clause-only
returns-in_err-word-clause-only c = λ words h.
    let rest = c.loop-rest.rest.now in
    let p = err_from_is_err_and c.from_residual.result c.from_residual.ensures.1 in
    let some = eqb-false (length rest) 0 (sym c.is_empty.ensures ∙ c.loop-rest-test.true) in
    let no_word : ¬ (c.in_err-word.field-0.0 ≡ BadWord) = λ bad. read_bad c.args.line.now c.loop-rest.words.items rest c.loop-rest.invariant some (λ word after b. c.in_err-word.ensures.only word after b (ap Err bad)) words h in
    rw (p.1, p.2) (other_fault c.in_err-word.field-0.0 no_word)

pub loop-rest-smaller : goal.loop-rest-smaller
loop-rest-smaller c =
    let after = c.in_ok-word.after.now in
    rw c.after_blanks-rest-in-loop-rest.ensures (omega (arith, begins-shorter c.in_ok-word.word after c.loop-rest.rest.now c.in_ok-word.ensures.found, past_blanks-le-length after))

pub loop-rest-preserved : goal.loop-rest-preserved
loop-rest-preserved c =
    rw (c.in_ok-push.ensures.items, c.after_blanks-rest-in-loop-rest.ensures)
    (read_more c.args.line.now c.loop-rest.words.items c.loop-rest.rest.now c.in_ok-word.word c.in_ok-word.after.now c.loop-rest.invariant c.in_ok-word.ensures.found)

pub returns-clause-found : goal.returns-clause-found
returns-clause-found c =
    read_all c.args.line.now c.loop-rest.words.items c.loop-rest.rest.now c.loop-rest.invariant (eqb-true (length c.loop-rest.rest.now) 0 (sym c.is_empty.ensures ∙ c.loop-rest-test.false))

pub returns-clause-only : goal.returns-clause-only
returns-clause-only c = λ words h. words_same c.loop-rest.words.items words c.args.line.now (returns-clause-found c) h

pub returns-clause-none : goal.returns-clause-none
returns-clause-none c = λ none. absurd (none c.loop-rest.words.items (returns-clause-found c))
