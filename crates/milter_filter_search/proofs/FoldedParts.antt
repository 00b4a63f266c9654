-- Parts of a value as it is compared, which are those of the value.
use Rattle.std.proofs.Common.{◌≡◌, ◌∙◌, ◌-◌, ℕ, List, length, min, take, drop, refl, sym, ap}
use Rattle.std.proofs.lemmas.List.{drop-map, length-map, take-map, take_min}
use Rattle.milter_text.specs.declared.glob.TextCase.{TextCase}
use Rattle.milter_text.specs.declared.glob.TextCase.TheVariants.{Exact, Ignored}
use Rattle.milter_filter_search.specs.Texts.{folded}

pub folded_take : (case : TextCase) (n : ℕ) (bytes : List ℕ) → folded case (take n bytes) ≡ take n (folded case bytes)
folded_take Exact n bytes = refl
folded_take Ignored n bytes = sym (take-map _ n bytes)

pub folded_drop : (case : TextCase) (n : ℕ) (bytes : List ℕ) → folded case (drop n bytes) ≡ drop n (folded case bytes)
folded_drop Exact n bytes = refl
folded_drop Ignored n bytes = sym (drop-map _ n bytes)

pub folded_length : (case : TextCase) (text : List ℕ) → length (folded case text) ≡ length text
folded_length Exact text = refl
folded_length Ignored text = length-map text _

-- the first bytes, as many as a text has
pub folded_start : (case : TextCase) (bytes text : List ℕ)
    → folded case (take (min (length text) (length bytes)) bytes) ≡ take (length (folded case text)) (folded case bytes)
folded_start case bytes text =
    ap (folded case) (take_min (length text) bytes) ∙ folded_take case (length text) bytes
    ∙ ap (λ n. take n (folded case bytes)) (sym (folded_length case text))

-- the last bytes, as many as a text has
pub folded_end : (case : TextCase) (bytes text : List ℕ)
    → folded case (drop (length bytes - length text) bytes)
    ≡ drop (length (folded case bytes) - length (folded case text)) (folded case bytes)
folded_end case bytes text =
    folded_drop case (length bytes - length text) bytes
    ∙ ap (λ n. drop (n - length text) (folded case bytes)) (sym (folded_length case bytes))
    ∙ ap (λ n. drop (length (folded case bytes) - n) (folded case bytes)) (sym (folded_length case text))
