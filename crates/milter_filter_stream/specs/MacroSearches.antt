-- What was searched for among the macros: each search says of the first packets where the last value of a name is.
use Rattle.std.specs.Prelude.{◌≡◌, ◌≤◌, ℕ, List, Option, Some, None, length, option_map, reverse, slice_get, take}
use Rattle.std.specs.Option.{option_and_then}
use Rattle.milter_fields.specs.declared.pair.Pair.{Pair}
use Rattle.milter_protocol.specs.Seen.{value_in}
use Rattle.milter_filter_stream.specs.declared.macro_list.MacroGroup.{MacroGroup}
use Rattle.milter_filter_stream.specs.declared.macro_list.MacroPosition.{MacroPosition}
use Rattle.milter_filter_stream.specs.MacroLists.{pairs_of}

-- the value of the macro at this index of a packet, if there is one
abbrev pub nth_value : List Pair → ℕ → Option (List ℕ)
nth_value pairs index = option_map (λ pair. pair.value) (slice_get pairs index)

-- the value of the macro at this position among those of all packets
abbrev pub value_at : List MacroGroup → MacroPosition → Option (List ℕ)
value_at groups position =
    option_and_then (λ group. nth_value group.pairs position.pair) (slice_get groups position.group)

-- at this index is the value that the packet last gave to the name: at none where it gave none
abbrev pub IsLastIn : List Pair → List ℕ → Option ℕ → Type 0
IsLastIn pairs name index = option_map (nth_value pairs) index ≡ option_map Some (value_in (reverse pairs) name)

-- at this position is the value that the packets last gave to the name: at none where they gave none
abbrev pub IsLastOf : List MacroGroup → List ℕ → Option MacroPosition → Type 0
IsLastOf groups name position =
    option_map (value_at groups) position ≡ option_map Some (value_in (pairs_of groups) name)

-- a name that is looked for, and where the value is that so many packets last gave to it
pub record MacroSearch : Type 0 where
  pub name : List ℕ
  pub looked : ℕ
  pub found : Option MacroPosition

-- what it says of the first of these packets is so
abbrev pub HasLooked : List MacroGroup → MacroSearch → Type 0
HasLooked groups s = (s.looked ≤ length groups) × IsLastOf (take s.looked groups) s.name s.found

-- a search of nothing yet for this name
abbrev pub unlooked : List ℕ → MacroSearch
unlooked name = record { name = name; looked = 0; found = None }

abbrev pub IsUnlooked : MacroSearch → Type 0
IsUnlooked s = s ≡ unlooked s.name

-- in this place is a search for this name
abbrev pub IsFor : List ℕ → List MacroSearch → ℕ → Type 0
IsFor name searches place = option_map (λ s. s.name) (slice_get searches place) ≡ Some name
