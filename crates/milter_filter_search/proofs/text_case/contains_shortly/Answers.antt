use Rattle.std.proofs.Common.{sym, ap, drop, ◌∙◌}
use Rattle.std.proofs.lemmas.List.{take_rest}
use Rattle.milter_filter_search.specs.Texts.{contains}
use Rattle.milter_filter_search.proofs.FirstBytes.{later, other_way}
use Rattle.milter_filter_search.proofs.text_case.contains_shortly.Goals as goal

pub loop-rest-preserved : goal.loop-rest-preserved
loop-rest-preserved c =
    let rest = c.loop-rest.rest.now in
    let text = c.args.text.now in
    let found = c.from_first-rest-in-len1-up in
    ap (contains found.result.now) c.requires ∙ found.ensures.same (drop 1 text) ∙ ap (contains _) (sym c.requires)
    ∙ ap (λ bytes. contains bytes text) (take_rest rest 1) ∙ later rest text (other_way rest text (sym c.loop-rest-test.ensures.value)) ∙ c.loop-rest.invariant
