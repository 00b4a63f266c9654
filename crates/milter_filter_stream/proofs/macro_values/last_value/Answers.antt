use Rattle.std.proofs.Common.{reverse, sym, ◌∙◌, ap, option_map}
use Rattle.std.specs.Option.{option_or}
use Rattle.milter_protocol.specs.Seen.{value_in}
use Rattle.milter_filter_stream.proofs.MacroLists.{map-or, value-more_groups}
use Rattle.milter_filter_stream.proofs.macro_values.last_value.Goals as goal

pub loop-group-preserved : goal.loop-group-preserved
loop-group-preserved c =
    let item = c.group-item.result in
    let name = c.args.name.now in
    let more = value-more_groups c.args.groups.now c.loop-group.group-index item name c.loop-group-test.true c.group-item.is in
    let in_group = c.value_in_group.ensures ∙ ap (λ ps. value_in (reverse ps) name) c.as_slice.ensures in
    ap (option_map (λ v. v.now)) c.or-last.ensures
    ∙ map-or (λ v. v.now) c.value_in_group.result c.loop-group.last
    ∙ ap (λ found. option_or found (option_map (λ v. v.now) c.loop-group.last)) in_group
    ∙ ap (λ found. option_or (value_in (reverse item.pairs) name) found) c.loop-group.invariant
    ∙ sym more
