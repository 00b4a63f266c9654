-- Consecutive lines with one keyword: the values that they have, and where they end.
use Rattle.std.specs.Prelude.{◌≡◌, ℕ, false, List, [], ◌∷◌, ◌++◌, Option}
use Rattle.milter_text.specs.declared.word.Word.{Word}
use Rattle.milter_text.specs.Words.{HasWords}
use Rattle.milter_text.specs.WordValues.{begins}
use Rattle.milter_mail_file.specs.SessionFile.{AllHaveValues}

-- the next line, if there is one, is in words and does not begin with the keyword
abbrev pub EndsBefore : List ℕ → List (List ℕ) → Type 0
EndsBefore keyword [] = Unit {0}
EndsBefore keyword (line ∷ lines) = (words : List Word) × HasWords line words × (begins keyword words ≡ false)

-- the first of the lines have the values, and the rest follows them
pub record BeginWithValues {X : Type 0} (value_of : List Word → Option X) (lines : List (List ℕ)) (values : List X)
    (rest : List (List ℕ)) : Type 0 where
  pub prefix : List (List ℕ)
  pub in_order : lines ≡ prefix ++ rest
  pub have_values : AllHaveValues value_of prefix values
