-- What is found of an entry.
use Rattle.std.specs.Prelude.{◌≡◌, ℕ, true, false, List, Option, None, Some}
use Rattle.milter_lists.specs.declared.list_kind.ListKind.{ListKind}
use Rattle.milter_lists.specs.declared.list_fault.ListFault.{ListFault}
use Rattle.milter_lists.specs.declared.list_fault.ListFault.TheVariants.{BadEntry, TooLarge, NoMemory}
use Rattle.milter_lists.specs.declared.entry.Entry.{Entry}
use Rattle.milter_lists.specs.declared.entry.Entry.TheVariants.{Key, Block}
use Rattle.milter_lists.specs.Collected.{Collected, IsWithin, joined, of_entry, of_key, of_network}
use Rattle.milter_lists.specs.Listed.{is_entry}

abbrev pub of_parsed : Entry → Collected
of_parsed (Key key) = of_key key.items
of_parsed (Block network) = of_network (Some (network.address, network.prefix))

-- none exactly where it is no entry of such a list
abbrev pub IsParsed : ListKind → List ℕ → Option Entry → Type 0
IsParsed kind entry None = is_entry kind entry ≡ false
IsParsed kind entry (Some parsed) = (is_entry kind entry ≡ true) × (of_entry kind entry ≡ of_parsed parsed)

-- after this, the entry of a line is too much
abbrev pub IsTooMuchAt : ℕ → Collected → Collected → ListFault → Type 0
IsTooMuchAt line before added (BadEntry at) = ⊥
IsTooMuchAt line before added (TooLarge at) = (at ≡ line) × ¬ IsWithin (joined before added)
IsTooMuchAt line before added NoMemory = Unit {0}

-- the fault of the entry on a line, after this
abbrev pub IsFaultAt : ℕ → ListKind → Collected → List ℕ → ListFault → Type 0
IsFaultAt line kind before entry (BadEntry at) = (at ≡ line) × (is_entry kind entry ≡ false)
IsFaultAt line kind before entry (TooLarge at) =
    (at ≡ line) × (is_entry kind entry ≡ true) × ¬ IsWithin (joined before (of_entry kind entry))
IsFaultAt line kind before entry NoMemory = Unit {0}
