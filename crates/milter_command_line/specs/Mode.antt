-- The modes of Unix sockets.
use Rattle.std.specs.Prelude.{◌≡◌, ◌≤◌, ℕ, ◌+◌, ◌*◌, Result, Ok, Err}
use Rattle.milter_command_line.specs.declared.usage_error.UsageError.{UsageError}
use Rattle.milter_command_line.specs.declared.usage_error.UsageError.TheVariants.{BadMode}

-- these decimal digits are the octal ones of this mode
pub record IsMode (digits mode : ℕ) : Type 0 where
  pub owner : ℕ
  pub group : ℕ
  pub others : ℕ
  pub octal : (owner ≤ 7) × (group ≤ 7) × (others ≤ 7)
  pub digits_are : digits ≡ owner * 100 + group * 10 + others
  pub mode_is : mode ≡ owner * 64 + group * 8 + others

-- the mode of these digits, or that they have none
abbrev pub IsModeOf : ℕ → Result ℕ UsageError → Type 0
IsModeOf digits (Ok mode) = IsMode digits mode
IsModeOf digits (Err error) = (error ≡ BadMode) × ((mode : ℕ) → IsMode digits mode → ⊥)
