use Rattle.std.proofs.Common.{◌≡◌, ◌++◌, drop, map}
use Rattle.milter_message.specs.EditedFields.{header_at, shown}
use Rattle.milter_message.proofs.source.copies_of.Given as goal

-- the fields so far and those of the rest of the ids
abbrev pub invariant-loop-id : goal.invariant-loop-id
invariant-loop-id l =
    l.headers.items ++ map (header_at (map shown l.sources)) (drop l.id-index l.ids)
    ≡ map (header_at (map shown l.sources)) l.ids
