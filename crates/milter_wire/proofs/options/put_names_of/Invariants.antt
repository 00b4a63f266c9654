use Rattle.std.proofs.Common.{◌≡◌, map, take}
use Rattle.milter_fields.specs.AppendedBytes.{Extends}
use Rattle.milter_wire.proofs.NamesText.{Written}
use Rattle.milter_wire.proofs.options.put_names_of.Given as goal

-- the names in the rows so far were appended
abbrev pub invariant-loop-flag : goal.invariant-loop-flag
invariant-loop-flag g l =
    Extends l.fn.out.items l.out.items
    × (g.F.Flags.exact → map (λ flag. (flag.name.now, g.F.Flags.set_of flag.value)) l.flag-items ≡ g.F.Flags.table)
    × (g.F.Flags.exact → Written (take l.flag-index g.F.Flags.table) (g.F.Flags.set_of l.fn.set) l.fn.out.items l.out.items l.is_first)
