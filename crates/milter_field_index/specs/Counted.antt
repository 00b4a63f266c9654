-- Rows that count the numbers of blocks.
use Rattle.std.specs.Prelude.{◌≡◌, ℕ, ◌<◌, ◌≤◌, List, length}
use Rattle.milter_field_index.specs.Blocks.{at, count_of, counts, joined}

-- a number that is counted has a row, with its count in each block
pub record Counted (rows blocks : List (List ℕ)) : Type 0 where
  pub each : (symbol : ℕ) → symbol < length rows → at rows symbol ≡ counts symbol blocks
  pub others : (symbol : ℕ) → length rows ≤ symbol → count_of symbol (joined blocks) ≡ 0
