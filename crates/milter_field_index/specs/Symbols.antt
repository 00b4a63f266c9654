-- Which symbols a sequence has.
use Rattle.std.specs.Prelude.{◌≡◌, ℕ, ◌==◌, Bool, true, false, List, if◌then◌else◌, length}
use Rattle.milter_field_index.specs.Blocks.{count_of, joined}
use Rattle.milter_field_index.specs.Counted.{Counted}
use Rattle.milter_field_index.specs.declared.symbols.Symbols.{Symbols}
use Rattle.milter_field_index.specs.declared.symbols.Symbols.TheVariants.{Absent, One, Several}

-- no other symbol than this one was inserted
abbrev pub are_all : ℕ → Symbols → Bool
are_all symbol Absent = true
are_all symbol (One only) = only == symbol
are_all symbol Several = false

-- the symbols after one more was inserted
abbrev pub with_symbol : ℕ → Symbols → Symbols
with_symbol symbol Absent = One symbol
with_symbol symbol (One only) = if only == symbol then One only else Several
with_symbol symbol Several = Several

-- no other number than this one is there
abbrev pub HasOnly : ℕ → List ℕ → Type 0
HasOnly symbol xs = (other : ℕ) → (other ≡ symbol → ⊥) → count_of other xs ≡ 0

-- where all symbols are one, no other is there
abbrev pub HasSymbols : Symbols → List ℕ → Type 0
HasSymbols symbols xs = (symbol : ℕ) → are_all symbol symbols ≡ true → HasOnly symbol xs

-- the rows count the symbols of the blocks, of which there are as many, and no others than were inserted
pub record IsRanked (symbols : Symbols) (len : ℕ) (rows blocks : List (List ℕ)) : Type 0 where
  pub counted : Counted rows blocks
  pub whole : len ≡ length (joined blocks)
  pub known : HasSymbols symbols (joined blocks)
