-- The texts of the words of a path's line.
use Rattle.std.proofs.Common.{◌≡◌, ◌≤◌, ◌-◌, ℕ, Bool, true, false, ◌&&◌, List, [], ◌∷◌, map, Option, None, Some}
use Rattle.std.proofs.Common.{if◌then◌else◌, refl, ap, inl, inr, length, take, drop, get_or, arith}
use Rattle.std.specs.List.{All, list_all}
use Rattle.std.specs.Option.{option_map}
use Rattle.std.proofs.lemmas.Bool.{cases_Bool}
use Rattle.std.proofs.lemmas.List.{take_rest}
use Rattle.std.proofs.lemmas.List.Elements.{All-nil, All-cons, All-head, All-tail}
use Rattle.milter_fields.specs.declared.path.Path.{Path}
use Rattle.milter_fields.specs.Field.{HasNoNul}
use Rattle.milter_text.specs.declared.word.Word.{Word}
use Rattle.milter_text.specs.WordValues.{is_keyword, texts_of}
use Rattle.milter_mail_file.specs.LineValues.{path_of, path_with}

abbrev texts : List Word → List (List ℕ)
texts words = map (λ word. word.text) words

texts_if : (first : List ℕ) (words : List Word) (quoted : Bool) → texts_of words ≡ (if quoted then Some (texts words) else None)
    → option_map (λ others. first ∷ others) (texts_of words) ≡ (if quoted then Some (first ∷ texts words) else None)
texts_if first words true h = ap (option_map (λ (others : List (List ℕ)). first ∷ others)) h
texts_if first words false h = ap (option_map (λ (others : List (List ℕ)). first ∷ others)) h

texts_quoted : (words : List Word) → texts_of words ≡ (if list_all (λ word. word.quoted) words then Some (texts words) else None)
texts_quoted [] = refl
texts_quoted (word ∷ words) =
    elim (cases_Bool word.quoted) [
      | inl e ↦ rw e (texts_if word.text words (list_all (λ word. word.quoted) words) (texts_quoted words))
      | inr e ↦ rw e refl
    ]

abbrev path_if : Bool → Word → List Word → Option Path
path_if fits address params = if fits then Some (record { address = address.text; params = texts params }) else None

path_quoted : (address : Word) (params : List Word) (quoted : Bool) → texts_of (address ∷ params) ≡ (if quoted then Some (texts (address ∷ params)) else None)
    → path_with (texts_of (address ∷ params)) ≡ path_if quoted address params
path_quoted address params true h = ap path_with h
path_quoted address params false h = ap path_with h

path_of_first_two : (keyword : List ℕ) (first address : Word) (params : List Word)
    → path_of keyword (first ∷ address ∷ params) ≡ path_if (is_keyword keyword first && (address.quoted && list_all (λ word. word.quoted) params)) address params
path_of_first_two keyword first address params =
    elim (cases_Bool (is_keyword keyword first)) [
      | inl e ↦ rw e (path_quoted address params (address.quoted && list_all (λ word. word.quoted) params) (texts_quoted (address ∷ params)))
      | inr e ↦ rw e refl
    ]

-- the same, of a list whose first two words are known
pub path_of_words : (keyword : List ℕ) (words : List Word) (first address : Word) → 2 ≤ length words → first ≡ get_or words 0 first → address ≡ get_or words 1 address
    → path_of keyword words
    ≡ path_if (is_keyword keyword first && (address.quoted && list_all (λ word. word.quoted) (take (length words - 2) (drop 2 words)))) address (take (length words - 2) (drop 2 words))
path_of_words keyword [] first address h e d = absurd (omega arith)
path_of_words keyword (word ∷ []) first address h e d = absurd (omega arith)
path_of_words keyword (word ∷ other ∷ words) first address h e d = rw (take_rest (word ∷ other ∷ words) 2, e, d) (path_of_first_two keyword word other words)

-- texts that strings can carry
pub texts_no_nul : (words : List Word) → All HasNoNul (map (λ word. word.text) words) → All (λ word. HasNoNul word.text) words
texts_no_nul [] h = All-nil (λ (word : Word). HasNoNul word.text)
texts_no_nul (word ∷ words) h =
    All-cons (λ (other : Word). HasNoNul other.text) word words (All-head HasNoNul word.text (texts words) h) (texts_no_nul words (All-tail HasNoNul word.text (texts words) h))
