use Rattle.std.proofs.Common.{length, ap, ◌∙◌, sym, unwrap_or}
use Rattle.std.proofs.lemmas.Bool.{eqb-false, eqb-true, false≢true}
use Rattle.milter_text.proofs.WordLaws.{plain_found, plain_split, plain_only}
use Rattle.milter_text.proofs.line_words.take_plain.Goals as goal
use Rattle.milter_text.proofs.line_words.take_plain.Goals.{then-is_empty-via-then-is_empty, then-is_empty-via-else-is_empty+then-not-are_plain}

pub returns-then-is_empty-clause-only : goal.returns-then-is_empty-clause-only
returns-then-is_empty-clause-only c = λ word rest plain b _.
    let bytes = c.args.bytes.now in
    let before = c.split_at.result.0.now in
    let end = c.unwrap_or-end.ensures ∙ ap (λ found. unwrap_or found (length bytes)) c.first_blank.ensures in
    let split = plain_split bytes before c.split_at.result.1.now c.unwrap_or-end.result end c.split_at.ensures.front c.split_at.ensures.back in
    let there = plain_only word rest bytes before c.split_at.result.1.now split plain b in
    elim c.then-is_empty.branch [
      | then-is_empty-via-then-is_empty w ↦ there.some (eqb-true (length before) 0 (sym c.is_empty.ensures ∙ w.if-is_empty.true))
      | then-is_empty-via-else-is_empty+then-not-are_plain w ↦ false≢true (sym w.if-not-are_plain.true ∙ w.are_plain.ensures ∙ there.all)
    ]

pub returns-clause-found : goal.returns-clause-found
returns-clause-found c =
    let bytes = c.args.bytes.now in
    let before = c.split_at.result.0.now in
    let end = c.unwrap_or-end.ensures ∙ ap (λ found. unwrap_or found (length bytes)) c.first_blank.ensures in
    let split = plain_split bytes before c.split_at.result.1.now c.unwrap_or-end.result end c.split_at.ensures.front c.split_at.ensures.back in
    let some = eqb-false (length before) 0 (sym c.is_empty.ensures ∙ c.if-is_empty.false) in
    let all = sym c.are_plain.ensures ∙ c.if-not-are_plain.false in
    plain_found bytes before c.split_at.result.1.now c.new-text.result split some all (c.new-text.ensures ∙ c.in_ok-from_slice.ensures.items)
