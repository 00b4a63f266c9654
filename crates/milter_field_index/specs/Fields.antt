-- Fields with names, in an order.
use Rattle.std.specs.Prelude.{◌≡◌, ℕ, ◌/◌, ◌%◌, ◌==◌, ◌<◌, ◌≤◌, List, length, map, slice_index_or}
use Rattle.std.specs.List.{count_by, filter}
use Rattle.milter_field_index.specs.Blocks.{at}

-- a field that is there: its id, and the number of its name
pub record Entry : Type 0 where
  pub id : ℕ
  pub name : ℕ

-- how many fields were ever inserted: their ids are the numbers below this; and those that are there, in order
pub record Fields : Type 0 where
  pub inserted : ℕ
  pub entries : List Entry

-- a field by its id and the names of all ids
abbrev pub entry_of : List ℕ → ℕ → Entry
entry_of names id = record { id = id; name = slice_index_or names id 0 }

-- the names of some fields, by their ids
abbrev pub names_of : List ℕ → List ℕ → List ℕ
names_of names ids = map (λ id. slice_index_or names id 0) ids

-- ---- two levels: each name is one of a group

abbrev pub group_of : ℕ → ℕ
group_of name = name / 1024

abbrev pub member_of : ℕ → ℕ
member_of name = name % 1024

-- the top has the group of each field, and each group has the members of its own, in order
pub record Grouped (top : List ℕ) (groups : List (List ℕ)) (names : List ℕ) : Type 0 where
  pub whole : top ≡ map (λ name. group_of name) names
  pub each : (group : ℕ) → group < length groups
      → at groups group ≡ map (λ name. member_of name) (filter (λ name. group_of name == group) names)
  pub others : (group : ℕ) → length groups ≤ group → count_by (λ name. group_of name == group) names ≡ 0

-- each id has a name; and the fields that are there are grouped by their names
pub record Indexed (names ids top : List ℕ) (groups : List (List ℕ)) : Type 0 where
  pub fewer : length ids ≤ length names
  pub named : (index : ℕ) → index < length ids → slice_index_or ids index 0 < length names
  pub grouped : Grouped top groups (names_of names ids)
