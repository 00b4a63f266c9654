use Rattle.std.proofs.Common.{◌≡◌, ◌++◌, List, Option, ℕ, ap, drop, refl, subst, sym, ◌∙◌}
use Rattle.std.proofs.lemmas.List.{take_rest}
use Rattle.std.specs.Io.KnownBytes.{Consumes}
use Rattle.milter_filter.specs.Connections.{EndsBy, GoesBy, Stops, connected}
use Rattle.milter_filter.proofs.Taken.{over-ends, stands-turns}
use Rattle.milter_filter.proofs.Turns.{by-joins, ends-by, if-err, if-ok, read-by}
use Rattle.milter_filter.proofs.steps.feed_read.Goals as goal

pub returns-in-Err-clause-ends : goal.returns-in-Err-clause-ends
returns-in-Err-clause-ends g c = λ unread left read.
    let filter = c.args.filter.now in
    let piece = c.args.piece.now in
    let waiting = c.args.backlog.now in
    let w = g.W.Write.contents c.args.writer.now in
    let v = g.W.Write.contents c.feed_piece.new.writer in
    let from = read-by filter waiting piece unread left w c.requires.serving c.requires.done.nothing_waiting read in
    ends-by (connected filter waiting) (connected filter piece) unread left left w w v from c.requires.serving.serving c.in-Err.end (c.in-Err.ensures.ends left)

pub returns-in-Err-append-clause-ends : goal.returns-in-Err-append-clause-ends
returns-in-Err-append-clause-ends g c = λ unread left read.
    let filter = c.args.filter.now in
    let piece = c.args.piece.now in
    let waiting = c.args.backlog.now in
    let new = connected c.feed_piece.new.filter (drop c.in-Ok.taken piece) in
    let w = g.W.Write.contents c.args.writer.now in
    let v = g.W.Write.contents c.feed_piece.new.writer in
    let from = read-by filter waiting piece unread left w c.requires.serving c.requires.done.nothing_waiting read in
    let all = by-joins (connected filter waiting) (connected filter piece) unread left left w w v from c.requires.serving.serving new (c.in-Ok.ensures.goes left) in
    (all.0, (λ other. absurd (other refl), λ refused. (new, all.1)))

pub returns-clause-turns : goal.returns-clause-turns
returns-clause-turns g c =
    let filter = c.args.filter.now in
    let piece = c.args.piece.now in
    let waiting = c.args.backlog.now in
    let old = connected filter waiting in
    let new = c.feed_piece.new.filter in
    let n = c.in-Ok.taken in
    let kept = c.append.new.self in
    let w = g.W.Write.contents c.args.writer.now in
    let v = g.W.Write.contents c.feed_piece.new.writer in
    let added = rw (take_rest piece n) at c.in_default.ensures.ok in
    let is : kept ≡ drop n piece = added ∙ ap (λ xs. xs ++ drop n piece) c.requires.done.nothing_waiting in
    let stops = subst (Stops new) (sym is) c.in-Ok.ensures.stops in
    let goes : (unread left : Option (List ℕ)) → Consumes unread left piece → GoesBy old unread left w v (connected new kept) =
    λ unread left read.
    subst (λ xs. GoesBy old unread left w v (connected new xs)) (sym is)
    (by-joins old (connected filter piece) unread left left w w v
    (read-by filter waiting piece unread left w c.requires.serving c.requires.done.nothing_waiting read)
    c.requires.serving.serving (connected new (drop n piece)) (c.in-Ok.ensures.goes left)) in
    if-ok c.turn_after.result _ _ (λ turn at unread left read. stands-turns old new kept unread left w v (goes unread left read) stops turn at) c.turn_after.ensures.stands

pub returns-clause-ends : goal.returns-clause-ends
returns-clause-ends g c =
    let filter = c.args.filter.now in
    let piece = c.args.piece.now in
    let waiting = c.args.backlog.now in
    let old = connected filter waiting in
    let new = c.feed_piece.new.filter in
    let left_over = drop c.in-Ok.taken piece in
    let w = g.W.Write.contents c.args.writer.now in
    let v = g.W.Write.contents c.feed_piece.new.writer in
    let goes : (unread left : Option (List ℕ)) → Consumes unread left piece → GoesBy old unread left w v (connected new left_over) =
    λ unread left read.
    by-joins old (connected filter piece) unread left left w w v
    (read-by filter waiting piece unread left w c.requires.serving c.requires.done.nothing_waiting read)
    c.requires.serving.serving (connected new left_over) (c.in-Ok.ensures.goes left) in
    if-err c.turn_after.result _ _
    (λ end over unread left read. subst (EndsBy old unread left w v) (sym over.0) (over-ends old new left_over unread left w v (goes unread left read) c.in-Ok.ensures.stops over.1))
    c.turn_after.ensures.over
