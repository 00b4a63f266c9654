use Rattle.std.proofs.Common.{◌≡◌, ◌+◌, ◌∙◌, Bool, Some, ap, if◌then◌else◌, option_map, reverse, subst, sym, take}
use Rattle.milter_protocol.specs.Seen.{value_in}
use Rattle.milter_filter_stream.specs.MacroSearches.{nth_value}
use Rattle.milter_filter_stream.proofs.MacroSearches.{last-more}
use Rattle.milter_filter_stream.proofs.macro_values.last_pair.Goals as goal
use Rattle.milter_filter_stream.proofs.macro_values.last_pair.Goals.{then-has_name, else-has_name}

pub loop-index-preserved : goal.loop-index-preserved
loop-index-preserved c =
    let pairs = c.args.pairs.now in
    let i = c.loop-index.index in
    let name = c.args.name.now in
    let last = c.loop-index.last in
    let more = last-more pairs i c.index-pairs-index.result name last c.loop-index-test.true c.index-pairs-index.is c.loop-index.invariant in
    let by_test : (named : Bool) → c.has_name.result ≡ named → option_map (nth_value pairs) (if named then Some i else last) ≡ option_map Some (value_in (reverse (take (i + 1) pairs)) name) =
    λ named is. subst (λ (b : Bool). option_map (nth_value pairs) (if b then Some i else last) ≡ option_map Some (value_in (reverse (take (i + 1) pairs)) name)) (sym c.has_name.ensures ∙ is) more in
    elim c.if-has_name.branch [
      | then-has_name w ↦ ap (option_map (nth_value pairs)) w.last-is ∙ by_test _ w.if-has_name.true
      | else-has_name w ↦ ap (option_map (nth_value pairs)) w.last-is ∙ by_test _ w.if-has_name.false
    ]
