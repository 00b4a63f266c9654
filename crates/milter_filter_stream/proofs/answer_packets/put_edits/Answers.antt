use Rattle.std.proofs.Common.{rules, ◌++◌, sym, ◌∙◌, ap, subst}
use Rattle.std.proofs.lemmas.List.{map-id}
use Rattle.std.proofs.lemmas.Iterator.Adapters.{YieldsList-from_vec}
use Rattle.std.proofs.lemmas.Iterator.Consumers.{YieldsList-end, YieldsList-turn}
use Rattle.milter_wire.specs.Reply.{Fits}
use Rattle.milter_message.specs.EditReplies.{reply_of}
use Rattle.milter_filter_stream.proofs.EditPackets.{edit_bytes, put-more}
use Rattle.milter_filter_stream.proofs.answer_packets.put_edits.Goals as goal

pub loop-edit-preserved : goal.loop-edit-preserved
loop-edit-preserved c =
    put-more c.args.negotiated.now c.loop-edit.yielded c.in-Some.edit c.args.out.now.items c.loop-edit.out.items c.put_edit.new.out.items
    c.loop-edit.invariant c.in_ok-put_edit.ensures.ok

pub returns-clause-ok : goal.returns-clause-ok
returns-clause-ok c =
    let all = c.args.edits.items in
    let gives = YieldsList-from_vec {s = c.into_iter-edit-iterator.result} all (search rules) (search rules) in
    let t = YieldsList-end gives c.loop-edit.yielded c.loop-edit.edit-iterator c.loop-edit.yielded_by c.next.result c.next.new.self c.in-None.is c.next.ensures.steps in
    let same = sym (map-id c.loop-edit.yielded) ∙ t.0 in
    c.loop-edit.invariant ∙ ap (λ es. c.args.out.now.items ++ edit_bytes c.args.negotiated.now es) same

pub put_edit-requires : goal.put_edit-requires
put_edit-requires c =
    let all = c.args.edits.items in
    let gives = YieldsList-from_vec {s = c.into_iter-edit-iterator.result} all (search rules) (search rules) in
    let t = YieldsList-turn gives c.loop-edit.yielded c.loop-edit.edit-iterator c.loop-edit.yielded_by c.next.result c.next.new.self c.in-Some.edit c.in-Some.is c.next.ensures.steps in
    subst (λ edit. Fits (reply_of edit)) (sym t.1) (c.requires _ c.in-Some.edit t.0)
