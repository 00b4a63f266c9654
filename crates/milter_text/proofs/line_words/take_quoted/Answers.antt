use Rattle.std.proofs.Common.{◌≡◌, ◌++◌, ◌∷◌, [], drop, subst, sym, arith, ◌∙◌}
use Rattle.std.proofs.lemmas.Bool.{false≢true}
use Rattle.std.proofs.lemmas.List.{take_rest}
use Rattle.milter_text.proofs.RunLaws.{consumed_first}
use Rattle.milter_text.proofs.WordLaws.{Consumed, consumed_more, consumed_word, no_end_after_quote, no_quote_at_end, quote_found}
use Rattle.milter_text.proofs.line_words.take_quoted.Goals as goal
use Rattle.milter_text.proofs.line_words.take_quoted.Goals.{then-count-gt0+in_ok-extend_from_slice, else-count-gt0}

pub loop-byte-preserved : goal.loop-byte-preserved
loop-byte-preserved c =
    let after = c.in-Some.after.now in
    let count = c.bare_len-count.result in
    rw (take_rest after count)
    (elim c.if-count-gt0.branch [
      | then-count-gt0+in_ok-extend_from_slice w ↦
          rw (w.text-is, w.in_ok-extend_from_slice.ensures.items, c.in_ok-push.ensures.items)
          (consumed_first c.loop-byte.text.items c.loop-byte.rest.now c.args.body.now after c.in-Some.byte count c.loop-byte.invariant (sym c.in-Some.ensures) c.bare_len-count.ensures.bare)
      | else-count-gt0 w ↦
          let none : 0 ≡ count = omega (arith, w.if-count-gt0.false) in
          rw (w.text-is, c.in_ok-push.ensures.items)
          (subst (λ n. Consumed (c.loop-byte.text.items ++ c.in-Some.byte ∷ []) (drop n after) c.args.body.now) none
          (consumed_more c.loop-byte.text.items c.loop-byte.rest.now c.args.body.now after c.in-Some.byte c.loop-byte.invariant (sym c.in-Some.ensures)))
    ])

pub returns-in_default-after_quote-clause-only : goal.returns-in_default-after_quote-clause-only
returns-in_default-after_quote-clause-only c = λ word rest b _.
    no_quote_at_end word rest c.loop-byte.text.items c.loop-byte.rest.now c.args.body.now c.loop-byte.invariant c.in_default.ensures c.in_default-after_quote.ensures b

pub returns-then-not-is_after_word-clause-only : goal.returns-then-not-is_after_word-clause-only
returns-then-not-is_after_word-clause-only c = λ word rest b _.
    no_end_after_quote word rest c.loop-byte.text.items c.loop-byte.rest.now c.args.body.now c.in-Some-after_quote.after.now c.loop-byte.invariant c.in_default.ensures
    c.in-Some-after_quote.ensures (λ ends. false≢true (sym c.if-not-is_after_word.true ∙ c.is_after_word.ensures.1 ends)) b

pub returns-clause-found : goal.returns-clause-found
returns-clause-found c =
    let rest = c.loop-byte.rest.now in
    let after = c.in-Some-after_quote.after.now in
    let ends = c.is_after_word.ensures.0 c.if-not-is_after_word.false in
    rw c.new-text-2.ensures (consumed_word c.loop-byte.text.items rest c.args.body.now after c.loop-byte.invariant (quote_found rest after c.in-Some-after_quote.ensures) ends)
