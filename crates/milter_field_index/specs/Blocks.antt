-- Lists of numbers in blocks, and rows that have a count for each block.
use Rattle.std.specs.Prelude.{◌≡◌, ℕ, ◌+◌, ◌^◌, ◌==◌, ◌<◌, List, [], ◌∷◌, ◌++◌, length, map, take, drop, slice_index_or, slice_set}
use Rattle.std.specs.List.{count_by, flat_map, insert, remove, sum}

-- the blocks one after the other
abbrev pub joined : List (List ℕ) → List ℕ
joined blocks = flat_map (λ block. block) blocks

-- the length of each block
abbrev pub lengths : List (List ℕ) → List ℕ
lengths blocks = map (λ block. length block) blocks

-- how often a list has a number
abbrev pub count_of : ℕ → List ℕ → ℕ
count_of symbol numbers = count_by (λ number. number == symbol) numbers

-- how often each block has a number
abbrev pub counts : ℕ → List (List ℕ) → List ℕ
counts symbol blocks = map (λ block. count_of symbol block) blocks

-- one of some lists of numbers, blocks or rows
abbrev pub at : List (List ℕ) → ℕ → List ℕ
at lists index = slice_index_or lists index []

-- the blocks with one number more in one of them
abbrev pub insert_in : List (List ℕ) → ℕ → ℕ → ℕ → List (List ℕ)
insert_in blocks block offset number = slice_set blocks block (insert (at blocks block) offset number)

-- the blocks with one number fewer in one of them
abbrev pub remove_in : List (List ℕ) → ℕ → ℕ → List (List ℕ)
remove_in blocks block offset = slice_set blocks block (remove (at blocks block) offset)

-- two in place of the one with this index
abbrev pub halved : {A : Type 0} → ℕ → A → A → List A → List A
halved index low high xs = take index xs ++ low ∷ high ∷ drop (index + 1) xs

-- a number by a row: the block is one of the row's, and what is counted before it makes the number with the offset
pub record IsPlace (row : List ℕ) (block offset number : ℕ) : Type 0 where
  pub within : block < length row
  pub adds_up : sum (take block row) + offset ≡ number

-- the row has the lengths of the blocks; there is a block, and there are not too many numbers
pub record Measured (lens : List ℕ) (blocks : List (List ℕ)) : Type 0 where
  pub each : lens ≡ lengths blocks
  pub some : 0 < length lens
  pub few : sum lens < 2 ^ 32
