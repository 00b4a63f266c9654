use Rattle.std.proofs.Common.{◌≡◌, ◌∷◌, ℕ, List, drop, length, map, take}
use Rattle.milter_mta_client.specs.Places.{any_open}
use Rattle.milter_mta_client.proofs.Advance.{reached}
use Rattle.milter_mta_client.proofs.places.advance.Given as goal

-- the places before this one are those after the line, the others those before it
abbrev pub invariant-loop-index : goal.invariant-loop-index
invariant-loop-index l = (lines : List (List ℕ)) →
    reached (any_open (take l.index l.places) (map (λ pattern. pattern.now) l.patterns) lines) l.last
    (drop l.index l.places) (drop l.index (map (λ pattern. pattern.now) l.patterns)) l.line lines
    ≡ any_open l.initial.places (map (λ pattern. pattern.now) l.patterns) (l.line ∷ lines)
