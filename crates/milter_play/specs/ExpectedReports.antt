-- Reports beside those that are expected.
use Rattle.std.specs.Prelude.{◌≡◌, ◌+◌, ℕ, List, Option, true}
use Rattle.std.specs.Io.KnownBytes.{Appends}
use Rattle.milter_text.specs.WrittenText.{WritesPrefix}
use Rattle.bstr.specs.Text.{lines_of}
use Rattle.milter_mta_client.specs.Patterns.{IsFirstDifference, stand_for}
use Rattle.milter_cli.specs.declared.tool_error.ToolError.{ToolError}
use Rattle.milter_cli.specs.declared.tool_error.ToolError.TheVariants.{Differs, NoMemory}

-- the lines that are expected stand for those of the reports
abbrev pub AreExpected : List ℕ → List ℕ → Type 0
AreExpected expected found = stand_for (lines_of expected) (lines_of found) ≡ true

-- the reports are what is expected up to this line, counted from 1, and not with it
abbrev pub DifferAt : List ℕ → List ℕ → ℕ → Type 0
DifferAt expected found line =
    (place : ℕ) × (line ≡ place + 1) × IsFirstDifference (lines_of expected) (lines_of found) place

-- Reports that aren't what is expected were written, with the first line that isn't, or a prefix of them; where
-- memory was refused, it may not be known whether they are.
abbrev pub EndsBeside : List ℕ → List ℕ → Option (List ℕ) → Option (List ℕ) → ToolError → Type 0
EndsBeside expected found before after (Differs line) = DifferAt expected found line × Appends before after found
EndsBeside expected found before after NoMemory = WritesPrefix found before after
EndsBeside expected found before after _ = (AreExpected expected found → ⊥) × WritesPrefix found before after
