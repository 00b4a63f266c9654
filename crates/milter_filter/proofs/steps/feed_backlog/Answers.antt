use Rattle.std.proofs.Common.{List, Option, ℕ, drop, subst, sym}
use Rattle.milter_filter.specs.Connections.{EndsBy, GoesBy, Stops, connected}
use Rattle.milter_filter.proofs.Taken.{over-ends, stands-turns}
use Rattle.milter_filter.proofs.Turns.{if-err, if-ok}
use Rattle.milter_filter.proofs.steps.feed_backlog.Goals as goal

pub returns-in-Err-clause-ends : goal.returns-in-Err-clause-ends
returns-in-Err-clause-ends g c = λ rest.
    let filter = c.args.filter.now in
    let w = g.W.Write.contents c.args.writer.now in
    let v = g.W.Write.contents c.feed_piece.new.writer in
    subst (λ piece. EndsBy (connected filter piece) rest rest w v c.in-Err.end) c.as_slice.ensures (c.in-Err.ensures.ends rest)

pub returns-clause-turns : goal.returns-clause-turns
returns-clause-turns g c =
    let filter = c.args.filter.now in
    let new = c.feed_piece.new.filter in
    let n = c.in-Ok.taken in
    let left = c.advance.new.self in
    let w = g.W.Write.contents c.args.writer.now in
    let v = g.W.Write.contents c.feed_piece.new.writer in
    let old = connected filter c.args.backlog.now in
    let stops = subst (Stops new) (sym c.advance.ensures) (subst (λ piece. Stops new (drop n piece)) c.as_slice.ensures c.in-Ok.ensures.stops) in
    let goes : (rest : Option (List ℕ)) → GoesBy old rest rest w v (connected new left) =
    λ rest.
    subst (λ kept. GoesBy old rest rest w v (connected new kept)) (sym c.advance.ensures)
    (subst (λ piece. GoesBy (connected filter piece) rest rest w v (connected new (drop n piece))) c.as_slice.ensures (c.in-Ok.ensures.goes rest)) in
    if-ok c.turn_after.result _ _ (λ turn at rest. stands-turns old new left rest rest w v (goes rest) stops turn at) c.turn_after.ensures.stands

pub returns-clause-ends : goal.returns-clause-ends
returns-clause-ends g c =
    let filter = c.args.filter.now in
    let new = c.feed_piece.new.filter in
    let n = c.in-Ok.taken in
    let w = g.W.Write.contents c.args.writer.now in
    let v = g.W.Write.contents c.feed_piece.new.writer in
    let old = connected filter c.args.backlog.now in
    let left = drop n c.args.backlog.now in
    let stops = subst (λ piece. Stops new (drop n piece)) c.as_slice.ensures c.in-Ok.ensures.stops in
    let goes : (rest : Option (List ℕ)) → GoesBy old rest rest w v (connected new left) =
    λ rest. subst (λ piece. GoesBy (connected filter piece) rest rest w v (connected new (drop n piece))) c.as_slice.ensures (c.in-Ok.ensures.goes rest) in
    if-err c.turn_after.result _ _ (λ end over rest. subst (EndsBy old rest rest w v) (sym over.0) (over-ends old new left rest rest w v (goes rest) stops over.1)) c.turn_after.ensures.over
