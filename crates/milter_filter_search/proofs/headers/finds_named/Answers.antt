use Rattle.std.proofs.Common.{◌∙◌, ◌+◌, Bool, ap, drop, sym}
use Rattle.std.specs.Prelude.{◌||◌}
use Rattle.std.specs.List.{list_any}
use Rattle.milter_filter_search.specs.Needles.{matches}
use Rattle.milter_filter_search.specs.Texts.{values_named}
use Rattle.milter_filter_search.proofs.Values.{next_header}
use Rattle.milter_filter_search.proofs.headers.finds_named.Goals as goal

pub returns-then-branch : goal.returns-then-branch
returns-then-branch c =
    let f = matches c.args.needle.now in
    let name = c.args.name.now in
    let i = c.loop-header.header-index in
    let rest = list_any f (values_named name (drop (i + 1) c.args.fields.now)) in
    let found = sym c.if-branch.true ∙ c.in_ok-finds_in_header.ensures in
    ap (λ (b : Bool). b || rest) found
    ∙ sym (next_header name f c.args.fields.now i c.header-item.result c.loop-header-test.true c.header-item.is)
    ∙ c.loop-header.invariant

pub loop-header-preserved : goal.loop-header-preserved
loop-header-preserved c =
    let f = matches c.args.needle.now in
    let name = c.args.name.now in
    let i = c.loop-header.header-index in
    let rest = list_any f (values_named name (drop (i + 1) c.args.fields.now)) in
    let not_found = sym c.if-branch.false ∙ c.in_ok-finds_in_header.ensures in
    ap (λ (b : Bool). b || rest) not_found
    ∙ sym (next_header name f c.args.fields.now i c.header-item.result c.loop-header-test.true c.header-item.is)
    ∙ c.loop-header.invariant
