use Rattle.std.proofs.Common.{◌≡◌, ◌≤◌, length}
use Rattle.milter_text.specs.Globs.{is_like, some_suffix}
use Rattle.milter_text.proofs.glob.some_suffix_is_like.Given as goal

abbrev pub invariant-loop-end : goal.invariant-loop-end
invariant-loop-end l = record {
  same : some_suffix (is_like l.case l.rest) l.left ≡ some_suffix (is_like l.case l.pattern) l.value;
  within : length l.rest ≤ length l.pattern;
}

abbrev pub decreases-loop-end : goal.decreases-loop-end
decreases-loop-end l = length l.rest
