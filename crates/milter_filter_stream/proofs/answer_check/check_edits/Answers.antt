use Rattle.std.proofs.Common.{◌<◌, length, ap, sym, subst, arith}
use Rattle.std.proofs.lemmas.List.Elements.{All-more}
use Rattle.std.proofs.lemmas.List.Sums.{sum_by_more}
use Rattle.milter_wire.specs.Reply.{Fits}
use Rattle.milter_message.specs.declared.edit.Edit.{Edit}
use Rattle.milter_message.specs.EditReplies.{reply_of, weight_of}
use Rattle.milter_filter_stream.proofs.answer_check.check_edits.Goals as goal

pub loop-edit-preserved : goal.loop-edit-preserved
loop-edit-preserved c =
    let xs = c.args.edits.now in
    let i = c.loop-edit.edit-index in
    let e = c.edit-item.result in
    let inv = c.loop-edit.invariant in
    let within : i < length xs = c.loop-edit-test.true in
    let more = sum_by_more weight_of xs i e within in
    let same = ap weight_of (sym c.edit-item.is) in
    record {
      fit = All-more (λ edit. Fits (reply_of edit)) xs i e within inv.fit (subst (λ (x : Edit). Fits (reply_of x)) c.edit-item.is c.in-Ok.ensures.fits);
      room = omega (arith, more, same, c.in-Ok.ensures.weight, inv.room, c.if-weight-room.false);
    }
