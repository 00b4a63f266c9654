use Rattle.std.proofs.Common.{◌≡◌, drop, map}
use Rattle.std.specs.List.{list_any}
use Rattle.milter_filter_search.specs.Needles.{matches, part_of}
use Rattle.milter_filter_search.proofs.recipients.finds_among.Given as goal

-- the paths that are left
abbrev pub invariant-loop-path : goal.invariant-loop-path
invariant-loop-path l =
    let f = matches l.needle in
    list_any f (map (part_of l.part) (drop l.path-index l.paths)) ≡ list_any f (map (part_of l.part) l.paths)
