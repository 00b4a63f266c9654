-- Bytes without some at their start or at their end.
use Rattle.std.specs.Prelude.{Bool, List, [], ◌∷◌, ℕ, if◌then◌else◌}
use Rattle.std.specs.List.{list_all}

-- without those that pass the test at the start
abbrev pub trimmed_start : (ℕ → Bool) → List ℕ → List ℕ
trimmed_start test [] = []
trimmed_start test (byte ∷ bytes) = if test byte then trimmed_start test bytes else byte ∷ bytes

-- without those that pass the test at the end
abbrev pub trimmed_end : (ℕ → Bool) → List ℕ → List ℕ
trimmed_end test [] = []
trimmed_end test (byte ∷ bytes) = if list_all test (byte ∷ bytes) then [] else byte ∷ trimmed_end test bytes
