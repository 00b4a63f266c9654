use Rattle.std.proofs.Common.{◌≡◌, length, take}
use Rattle.std.specs.List.{AllWithin}
use Rattle.milter_lists.specs.Entries.{entry_of}
use Rattle.milter_lists.proofs.sort.shared_prefix.Given as goal

-- those before this one
abbrev pub invariant-loop-span : goal.invariant-loop-span
invariant-loop-span l =
    AllWithin (λ span. take (length l.prefix) (entry_of l.bytes span) ≡ l.prefix) l.spans 0 l.span-index
