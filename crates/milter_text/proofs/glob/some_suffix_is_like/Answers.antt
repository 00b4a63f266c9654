use Rattle.std.proofs.Common.{◌≤◌, ◌+◌, ◌∙◌, ap, arith, drop, length, length-drop, subst, sym}
use Rattle.std.proofs.lemmas.List.{take_rest}
use Rattle.milter_text.specs.Globs.{is_like, some_suffix}
use Rattle.milter_text.proofs.Leftmost.{passes_found}
use Rattle.milter_text.proofs.Segments.{next_segment}
use Rattle.milter_text.proofs.glob.some_suffix_is_like.Goals as goal

pub returns-in-None : goal.returns-in-None
returns-in-None c =
    let rest = c.loop-end.rest.now in
    let end = c.in-Some.end in
    ap (passes_found (some_suffix (is_like c.args.case (drop (end + 1) rest)))) c.in-None.ensures
    ∙ sym (next_segment c.args.case rest end c.in-Some.ensures c.loop-end.left.now)
    ∙ c.loop-end.invariant.same

pub loop-end-preserved : goal.loop-end-preserved
loop-end-preserved c =
    let rest = c.loop-end.rest.now in
    let end = c.in-Some.end in
    let after = c.in-Some-after_segment.after.now in
    let shorter : length (drop (end + 1) rest) ≤ length c.args.pattern.now =
    omega (arith, length-drop (end + 1) rest, c.loop-end.invariant.within) in
    record {
      same = ap (λ bytes. some_suffix (is_like c.args.case bytes) after) (take_rest rest (end + 1))
          ∙ ap (passes_found (some_suffix (is_like c.args.case (drop (end + 1) rest)))) c.in-Some-after_segment.ensures
          ∙ sym (next_segment c.args.case rest end c.in-Some.ensures c.loop-end.left.now)
          ∙ c.loop-end.invariant.same;
      within = subst (λ bytes. length bytes ≤ length c.args.pattern.now) (sym (take_rest rest (end + 1))) shorter;
    }
