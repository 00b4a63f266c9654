use Rattle.std.proofs.Common.{◌≡◌, drop, length}
use Rattle.std.specs.List.{AllWithin}
use Rattle.milter_lists.specs.Entries.{entries_of, entry_of}
use Rattle.milter_lists.specs.Keys.{key_of}
use Rattle.milter_lists.proofs.sort.set_keys.Given as goal

-- the entries stay, and those before this one have keys
abbrev pub invariant-loop-place : goal.invariant-loop-place
invariant-loop-place l = (entries_of l.bytes l.spans.items ≡ entries_of l.bytes l.initial.spans.items)
    × (length l.spans.items ≡ length l.initial.spans.items)
    × AllWithin (λ span. span.key ≡ key_of (drop l.shared (entry_of l.bytes span))) l.spans.items 0 l.place
