use Rattle.std.proofs.Common.{◌≡◌, ℕ, List, take}
use Rattle.std.specs.BTreeMap as tree
use Rattle.std.specs.Cmp.Lexicographic.{slice_cmp}
use Rattle.std.specs.Option.{option_copied}
use Rattle.std.specs.Ordering.{nat_cmp}
use Rattle.milter_mail.specs.ChosenMacros.{last_pair}
use Rattle.milter_mail.proofs.chosen_macros.last_pairs.Given as goal

-- the last pair of each name among those so far
abbrev pub invariant-loop-pair : goal.invariant-loop-pair
invariant-loop-pair l = (name : List ℕ) → option_copied (tree.get_by (λ key. slice_cmp nat_cmp name key.now) l.last) ≡ last_pair name (take l.pair-index l.pairs)
