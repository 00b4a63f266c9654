use Rattle.std.proofs.Common.{[], IsTrue, false, take, subst, sym, ◌≢◌, arith}
use Rattle.std.specs.Io.KnownBytes.{Consumes}
use Rattle.std.proofs.KnownBytes.{Keeps-refl}
use Rattle.milter_protocol.specs.declared.filter_fault.FilterState.TheVariants.{Quit}
use Rattle.milter_filter.specs.ServedPieces.{CutOff, PieceServed}
use Rattle.milter_filter.proofs.ServedBytes.{ServedSoFar, served-cut, served-end, served-kept, served-more, served-none, served-quit}
use Rattle.milter_filter.proofs.stream_server.serve_reads.Goals as goal

pub loop-init : goal.loop-init
loop-init g c =
    let policy = c.args.core.now.policy in
    let order = c.args.core.now.order_state.order in
    let b = g.P.Policy.behavior policy in
    let left = g.R.Read.remaining c.args.reader.now in
    let written = g.W.Write.contents c.args.writer.now in
    record {
      so_far = subst (λ core. ServedSoFar order b policy core left left written written) (sym c.requires.fresh) (served-none order b policy left written);
    }

pub returns-in_default : goal.returns-in_default
returns-in_default g c = served-kept _ _ _ _ _ _ _ _ c.loop.invariant.so_far _ c.in_default.ensures.bytes

pub returns-then-count-eq0 : goal.returns-then-count-eq0
returns-then-count-eq0 g c =
    let read = c.in-Ok.ensures.bytes in
    let none : Consumes (g.R.Read.remaining c.loop.reader) (g.R.Read.remaining c.read.new.self) [] = rw c.if-count-eq0.true at read.0 in
    let room = c.loop.auto.buffer in
    served-end _ _ _ _ _ _ _ _ c.loop.invariant.so_far _ _ none (read.1 c.if-count-eq0.true (omega (arith, c.requires.room, room))) c.unread.ensures

pub returns-in-Err : goal.returns-in-Err
returns-in-Err g c =
    let policy = c.args.core.now.policy in
    let so_far = c.loop.invariant.so_far in
    let piece = take c.in-Ok.count c.read.new.buf in
    let before = g.W.Write.contents c.loop.writer in
    let written = g.W.Write.contents c.serve_piece.new.writer in
    let cut = subst (λ p. CutOff (g.P.Policy.behavior p) c.loop.core piece before written c.in-Err.end) so_far.goes.goes_on.policy c.in-Err.ensures.cut_off in
    served-cut _ _ policy _ _ _ _ _ so_far _ _ piece c.in-Ok.ensures.bytes.0 c.in-Err.end cut

pub returns-then-has_quit : goal.returns-then-has_quit
returns-then-has_quit g c =
    let policy = c.args.core.now.policy in
    let so_far = c.loop.invariant.so_far in
    let piece = take c.in-Ok.count c.read.new.buf in
    let before = g.W.Write.contents c.loop.writer in
    let written = g.W.Write.contents c.serve_piece.new.writer in
    let new = c.serve_piece.new.core in
    let served = subst (λ p. PieceServed (g.P.Policy.behavior p) c.loop.core piece new before written) so_far.goes.goes_on.policy c.in_default-serve_piece.ensures.served in
    served-quit _ _ policy _ _ _ _ _ so_far _ _ piece c.in-Ok.ensures.bytes.0 new served (c.has_quit.ensures.0 c.if-has_quit.true)

pub loop-preserved : goal.loop-preserved
loop-preserved g c =
    let policy = c.args.core.now.policy in
    let so_far = c.loop.invariant.so_far in
    let piece = take c.in-Ok.count c.read.new.buf in
    let before = g.W.Write.contents c.loop.writer in
    let written = g.W.Write.contents c.serve_piece.new.writer in
    let new = c.serve_piece.new.core in
    let served = subst (λ p. PieceServed (g.P.Policy.behavior p) c.loop.core piece new before written) so_far.goes.goes_on.policy c.in_default-serve_piece.ensures.served in
    let on : new.order_state.state ≢ Quit = λ quit. let no : IsTrue false = subst IsTrue c.if-has_quit.false (c.has_quit.ensures.1 quit) in absurd cc in
    record { so_far = served-more _ _ policy _ _ _ _ _ _ _ _ piece so_far c.in-Ok.ensures.bytes.0 served on }

pub returns : goal.returns
returns g c = served-kept _ _ _ _ _ _ _ _ c.loop.invariant.so_far _ (Keeps-refl _)
