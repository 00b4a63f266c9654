use Rattle.std.proofs.Common.{◌∙◌, ◌+◌, ◌-◌, ◌&&◌, ap, drop, length, take, sym}
use Rattle.std.proofs.lemmas.List.{take_rest}
use Rattle.milter_text.specs.Globs.{is_like, some_suffix}
use Rattle.milter_text.proofs.Segments.{first_segment}
use Rattle.milter_text.proofs.glob.is_like.Goals as goal

pub returns-then-begins_with : goal.returns-then-begins_with
returns-then-begins_with c =
    let pattern = c.args.pattern.now in
    let value = c.args.value.now in
    let end = c.in-Some.end in
    c.some_suffix_is_like.ensures
    ∙ ap (λ rest. some_suffix (is_like c.args.case rest) (take (length value - end) (drop end value))) (take_rest pattern (end + 1))
    ∙ ap (some_suffix (is_like c.args.case (drop (end + 1) pattern))) (take_rest value end)
    ∙ ap (λ begins. begins && some_suffix (is_like c.args.case (drop (end + 1) pattern)) (drop end value))
    (sym (sym c.begins_with.ensures.begins ∙ c.if-begins_with.true))
    ∙ sym (first_segment c.args.case pattern end c.in-Some.ensures value)

pub returns-else-begins_with : goal.returns-else-begins_with
returns-else-begins_with c =
    let pattern = c.args.pattern.now in
    let value = c.args.value.now in
    let end = c.in-Some.end in
    c.if-begins_with.false
    ∙ ap (λ begins. begins && some_suffix (is_like c.args.case (drop (end + 1) pattern)) (drop end value))
    (sym (sym c.begins_with.ensures.begins ∙ c.if-begins_with.false))
    ∙ sym (first_segment c.args.case pattern end c.in-Some.ensures value)
