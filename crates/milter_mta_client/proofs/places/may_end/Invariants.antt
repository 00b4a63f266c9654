use Rattle.std.proofs.Common.{◌≡◌, [], drop, map}
use Rattle.milter_mta_client.specs.Places.{any_open}
use Rattle.milter_mta_client.proofs.Ends.{ends_from}
use Rattle.milter_mta_client.proofs.places.may_end.Given as goal

-- lines may end at the places from this one on just where they may at all
abbrev pub invariant-loop-index : goal.invariant-loop-index
invariant-loop-index l =
    ends_from l.stays (drop l.index l.places) (drop l.index (map (λ pattern. pattern.now) l.patterns))
    ≡ any_open l.places (map (λ pattern. pattern.now) l.patterns) []
