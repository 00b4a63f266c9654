use Rattle.std.proofs.Common.{◌≤◌, length, drop, take-add, length-drop, arith, subst, sym}
use Rattle.std.proofs.lemmas.List.{take_rest}
use Rattle.std.specs.Io.KnownBytes.{Appends}
use Rattle.std.proofs.KnownBytes.{Appends-trans}
use Rattle.milter_filter.proofs.output.write_now.Goals as goal

pub loop-count-preserved : goal.loop-count-preserved
loop-count-preserved g c =
    let i = c.loop-count.count in
    let n = c.in-Ok.more in
    let bytes = c.args.bytes.now in
    let inv = c.loop-count.invariant in
    let went = rw (take_rest bytes i) at c.in-Ok.ensures.bytes in
    let bound : n ≤ length (drop i bytes) = rw (take_rest bytes i) at c.in-Ok.ensures.bound in
    record {
      within = omega (arith, bound, inv.within, length-drop i bytes);
      wrote =
          subst (Appends (g.W.Write.contents c.args.writer.now) (g.W.Write.contents c.write.new.self)) (sym (take-add i n bytes))
          (Appends-trans _ _ _ _ _ inv.wrote went);
    }
