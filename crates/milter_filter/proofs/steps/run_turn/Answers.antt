use Rattle.std.proofs.Common.{None, inr, subst}
use Rattle.milter_filter.specs.Connections.{GoesBy, TurnsBy, connected}
use Rattle.milter_filter.proofs.Turns.{ends-by, if-err, if-ok, turns-by}
use Rattle.milter_filter.proofs.steps.run_turn.Goals as goal

pub read_once-requires-clause-serving : goal.read_once-requires-clause-serving
read_once-requires-clause-serving g c =
    let old = connected c.args.filter.now c.args.backlog.now in
    let between = connected c.catch_up.new.filter c.catch_up.new.backlog in
    let w = g.W.Write.contents c.args.writer.now in
    let v = g.W.Write.contents c.catch_up.new.writer in
    let first = subst (TurnsBy old None None w v between) c.in-Ok-Again.field-0-is (c.in-Ok-Again.ensures.turns None) in
    first.1.1.serving

pub read_once-requires-clause-done : goal.read_once-requires-clause-done
read_once-requires-clause-done g c =
    let old = connected c.args.filter.now c.args.backlog.now in
    let between = connected c.catch_up.new.filter c.catch_up.new.backlog in
    let w = g.W.Write.contents c.args.writer.now in
    let v = g.W.Write.contents c.catch_up.new.writer in
    let first = subst (TurnsBy old None None w v between) c.in-Ok-Again.field-0-is (c.in-Ok-Again.ensures.turns None) in
    first.1.0.done

pub returns-in-Ok-Again : goal.returns-in-Ok-Again
returns-in-Ok-Again g c =
    let old = connected c.args.filter.now c.args.backlog.now in
    let between = connected c.catch_up.new.filter c.catch_up.new.backlog in
    let new = connected c.read_once.new.filter c.read_once.new.backlog in
    let unread = g.R.Read.remaining c.args.reader.now in
    let left = g.R.Read.remaining c.read_once.new.reader in
    let w = g.W.Write.contents c.args.writer.now in
    let v = g.W.Write.contents c.catch_up.new.writer in
    let u = g.W.Write.contents c.read_once.new.writer in
    let first = subst (TurnsBy old unread unread w v between) c.in-Ok-Again.field-0-is (c.in-Ok-Again.ensures.turns unread) in
    let goes : GoesBy old unread unread w v between = (first.0, first.1.0.goes) in
    let serving = first.1.1.serving.serving in
    record {
      turns = if-ok c.read_once.result _ _ (λ turn turns. turns-by old between unread unread left w v u goes serving new turn turns) c.read_once.ensures.turns;
      ends = if-err c.read_once.result _ _ (λ end ends. ends-by old between unread unread left w v u goes serving end ends) c.read_once.ensures.ends;
      reads = inr (between, v, goes, first.1.0.done);
      asked = λ stage is. absurd (c.in-Ok-Again.ensures.asked stage is c.in-Ok-Again.field-0-is);
    }
