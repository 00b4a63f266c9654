use Rattle.std.proofs.Common.{◌++◌, ◌≢◌, append_assoc, take, drop, take-add, length-drop, arith, subst, sym, ◌∙◌, ap, take-append-drop}
use Rattle.std.proofs.lemmas.List.{take_rest}
use Rattle.milter_protocol.specs.declared.filter_fault.FilterFault.{FilterFault}
use Rattle.milter_protocol.specs.declared.filter_fault.FilterState.TheVariants.{Failed, Serving}
use Rattle.milter_filter.specs.Cores.{Core, GivesUp, Takes, given_up}
use Rattle.milter_filter.specs.ServedPieces.{Goes}
use Rattle.milter_filter_stream.specs.Streams.{received_in}
use Rattle.milter_filter.proofs.ServedBytes.{goes-failed, goes-none, goes-step, still-serving}
use Rattle.milter_filter.proofs.stream_server.serve_piece.Goals as goal

pub loop-taken-init : goal.loop-taken-init
loop-taken-init g c = record {
  within = omega arith;
  goes = goes-none _ _ _ c.requires.unfinished c.requires.serving;
  nothing_pending = c.requires.nothing_pending;
  going = λ fault failed. serves fault (sym c.requires.serving ∙ failed);
  serving = λ within. c.requires.serving;
}
  where
    serves : (fault : FilterFault) → Serving ≢ Failed fault
    serves fault e = absurd cc

pub returns-in-Err-clause-cut_off : goal.returns-in-Err-clause-cut_off
returns-in-Err-clause-cut_off g c =
    let i = c.loop-taken.taken in
    let piece = c.args.piece.now in
    let rest = drop i piece in
    let core = c.loop-taken.core in
    let inv = c.loop-taken.invariant in
    let b = g.P.Policy.behavior c.args.core.now.policy in
    let serving = inv.serving (omega arith) in (
      λ other.
          let found = rw (take_rest piece i) at (c.in-Err.ensures.cause serving inv.nothing_pending other) in
          let cause = subst (λ policy. GivesUp (g.P.Policy.behavior policy) core.order_state (received_in (core.unread ++ rest)) c.in-Err.fault) inv.goes.goes_on.policy found in
          let before = g.W.Write.contents c.args.writer.now in
          let written = g.W.Write.contents c.loop-taken.writer in
          subst (λ bytes. Goes b c.args.core.now bytes (given_up c.args.core.now c.in-Err.fault) before written) (take-append-drop i piece)
          (goes-failed b c.args.core.now core (take i piece) _ _ inv.goes inv.nothing_pending rest c.in-Err.fault cause),
      λ refused. (core, record { taken = take i piece; others = rest; piece_is = take-append-drop i piece; goes = inv.goes }, inv.nothing_pending),
    )

pub returns-then-not-write_pending-clause-cut_off : goal.returns-then-not-write_pending-clause-cut_off
returns-then-not-write_pending-clause-cut_off g c =
    let i = c.loop-taken.taken in
    let piece = c.args.piece.now in
    let rest = drop i piece in
    let core = c.loop-taken.core in
    let inv = c.loop-taken.invariant in
    let b = g.P.Policy.behavior c.args.core.now.policy in
    let serving = inv.serving (omega arith) in
    let n = c.in-Ok.count in
    let taken = rw (take_rest piece i) at (c.in-Ok.ensures.takes serving inv.nothing_pending) in
    let takes = subst (λ policy. Takes (g.P.Policy.behavior policy) core rest n c.feed.new.self) inv.goes.goes_on.policy taken in
    let goes = goes-step b c.args.core.now core (take i piece) _ _ inv.goes inv.nothing_pending _ _ rest n _ takes c.write_pending.ensures.rest c.write_pending.ensures.writes in (
      c.write_pending.new.core,
      record {
        taken = take i piece ++ take n rest;
        others = drop n rest;
        piece_is = append_assoc (take i piece) _ _ ∙ ap (λ xs. take i piece ++ xs) (take-append-drop n rest) ∙ take-append-drop i piece;
        goes = goes;
      },
    )

pub loop-taken-preserved : goal.loop-taken-preserved
loop-taken-preserved g c =
    let i = c.loop-taken.taken in
    let piece = c.args.piece.now in
    let rest = drop i piece in
    let core = c.loop-taken.core in
    let inv = c.loop-taken.invariant in
    let b = g.P.Policy.behavior c.args.core.now.policy in
    let serving = inv.serving (omega arith) in
    let n = c.in-Ok.count in
    let taken = rw (take_rest piece i) at (c.in-Ok.ensures.takes serving inv.nothing_pending) in
    let takes = subst (λ policy. Takes (g.P.Policy.behavior policy) core rest n c.feed.new.self) inv.goes.goes_on.policy taken in
    let same = ap (λ (x : Core g.row.P.Denot). x.order_state.state) c.write_pending.ensures.rest in
    let goes = goes-step b c.args.core.now core (take i piece) _ _ inv.goes inv.nothing_pending _ _ rest n _ takes c.write_pending.ensures.rest c.write_pending.ensures.writes in
    record {
      within = let m = takes.within in omega (arith, m, inv.within, length-drop i piece);
      goes =
          subst (λ bytes. Goes b c.args.core.now bytes c.write_pending.new.core (g.W.Write.contents c.args.writer.now) (g.W.Write.contents c.write_pending.new.writer)) (sym (take-add i n piece)) goes;
      nothing_pending = c.write_pending.ensures.whole c.if-not-write_pending.false;
      going = λ fault failed. takes.going fault (sym same ∙ failed);
      serving = λ within. same ∙ still-serving b core c.feed.new.self rest n takes (λ all. omega (arith, all, within, length-drop i piece));
    }
