use Rattle.std.proofs.Common.{[]}
use Rattle.std.proofs.lemmas.Result.{IfOk-weaker}
use Rattle.milter_fields.proofs.FirstPackets.{fed, takes_some}
use Rattle.milter_fields.proofs.splitter.Splitter.feed.Goals as goal

pub returns-clause-count : goal.returns-clause-count
returns-clause-count c =
    let f = c.take_known-first.ensures in
    let s = c.take_known-second.ensures in
    (fed _ c.args.piece.now _ _ _ _ f.one_packet f.count f.taken s.count s.taken).count

pub returns-clause-taken : goal.returns-clause-taken
returns-clause-taken c =
    let f = c.take_known-first.ensures in
    let s = c.take_known-second.ensures in
    (fed _ c.args.piece.now _ _ _ _ f.one_packet f.count f.taken s.count s.taken).taken

pub returns-clause-progress : goal.returns-clause-progress
returns-clause-progress c = λ unfinished some.
    let f = c.take_known-first.ensures in
    let s = c.take_known-second.ensures in
    let count = (fed _ c.args.piece.now _ _ _ _ f.one_packet f.count f.taken s.count s.taken).count in
    takes_some _ c.args.piece.now _ unfinished some count

pub returns-then-unread-eq0-clause-progress : goal.returns-then-unread-eq0-clause-progress
returns-then-unread-eq0-clause-progress c = λ unfinished some. IfOk-weaker c.take_first.result _ _ (λ n e. takes_some [] c.args.piece.now n tt some e) c.take_first.ensures.count
