use Rattle.std.proofs.Common.{◌≡◌, length}
use denote.Text.{Utf8}
use denote.Shadow.{shadow}
use Rattle.milter_wire.proofs.Names.{set_with}
use Rattle.milter_wire.proofs.options.named.Given as goal

-- the set so far, with that of what is left, is that of the whole
abbrev pub invariant-loop-name : goal.invariant-loop-name
invariant-loop-name g l =
    shadow (Utf8 l.rest)
    × (g.F.Flags.exact → set_with g.F.Flags.table 0 l.fn.text ≡ set_with g.F.Flags.table (g.F.Flags.set_of l.set) l.rest)

abbrev pub decreases-loop-name : goal.decreases-loop-name
decreases-loop-name g l = length l.rest
