use Rattle.std.proofs.lemmas.Map.Text.{btree_map_updates_str}
use Rattle.milter_mail.proofs.MacroChoice.{has_more}
use Rattle.milter_mail.proofs.chosen_macros.last_pairs.Goals as goal

pub loop-pair-preserved : goal.loop-pair-preserved
loop-pair-preserved c =
    let updated = btree_map_updates_str c.as_slice.result.now c.loop-pair.last c.insert.new.self _ c.in_ok-insert.ensures.updates in
    has_more c.loop-pair.last c.insert.new.self c.args.pairs.now c.loop-pair.pair-index _ c.loop-pair-test.true c.pair-item.is c.loop-pair.invariant (λ name. rw c.as_slice.ensures at (updated name))
