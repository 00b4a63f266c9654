use Rattle.std.proofs.Common.{◌+◌, ap, subst, sym, take}
use Rattle.std.proofs.lemmas.Map.Text.{btree_map_updates_str}
use Rattle.milter_message.specs.Deletions.{HasLastDeletions}
use Rattle.milter_message.proofs.KeptRecipients.{after_deletion, after_other}
use Rattle.milter_message.proofs.deletions.last_deletions.Goals as goal
use Rattle.milter_message.proofs.deletions.last_deletions.Goals.{in-DelRcpt+in_ok-insert, in_default}

pub loop-edit-preserved : goal.loop-edit-preserved
loop-edit-preserved c =
    let edits = c.args.edits.now in
    let place = c.loop-edit.edit-index in
    let has = HasLastDeletions (take (place + 1) edits) in
    record {
      last = elim c.match-edit.branch [
        | in-DelRcpt+in_ok-insert w ↦
            subst has (sym w.last-is)
            (after_deletion edits place c.loop-edit.index c.edit-item.result w.in-DelRcpt.address c.loop-edit.last
            w.insert.new.self c.loop-edit-test.true c.edit-item.is w.in-DelRcpt.is c.loop-edit.invariant.place
            (λ address. rw w.as_slice.ensures at
            (btree_map_updates_str w.as_slice.result.now c.loop-edit.last w.insert.new.self _ w.in_ok-insert.ensures.updates address))
            c.loop-edit.invariant.last)
        | in_default w ↦
            subst has (sym w.last-is)
            (after_other edits place c.edit-item.result c.loop-edit.last c.loop-edit-test.true c.edit-item.is
            w.in_default.not-DelRcpt c.loop-edit.invariant.last)
      ];
      place = ap (λ n. n + 1) c.loop-edit.invariant.place;
    }
