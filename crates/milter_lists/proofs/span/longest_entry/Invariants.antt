use Rattle.std.specs.Prelude.{◌≤◌, length}
use Rattle.std.specs.List.{AllWithin}
use Rattle.milter_lists.specs.Entries.{entry_of}
use Rattle.milter_lists.proofs.span.longest_entry.Given as goal

-- those before this one
abbrev pub invariant-loop-span : goal.invariant-loop-span
invariant-loop-span l =
    AllWithin (λ span. length (entry_of l.bytes span) ≤ l.longest) l.spans 0 l.span-index
