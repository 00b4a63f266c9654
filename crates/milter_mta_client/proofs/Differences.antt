-- What the open places say of the lines so far.
use Rattle.std.proofs.Common.{◌≡◌, ℕ, ◌≤◌, ◌+◌, ◌<◌, suc, Bool, true, false, List, [], ◌∷◌, ◌++◌, length, take, drop, get_or, refl, sym, ap, ◌∙◌, le_of_lt, add-one, append_assoc, take-append-drop}
use Rattle.std.proofs.lemmas.Bool.{false≢true}
use Rattle.std.proofs.Math.Seq.{take-suc}
use Rattle.milter_mta_client.specs.Patterns.{GoesOn, IsFirstDifference, stand_for}
use Rattle.milter_mta_client.specs.Places.{any_open, is_any_open}
use Rattle.milter_mta_client.proofs.Open.{may_follow, none_follow}

-- from the places that are open just those lines may follow that may follow so many lines
abbrev pub Follows : List Bool → List (List ℕ) → List (List ℕ) → ℕ → Type 0
Follows places patterns lines count =
    (more : List (List ℕ)) → any_open places patterns more ≡ stand_for patterns (take count lines ++ more)

pub next_follows : (places next : List Bool) (patterns lines : List (List ℕ)) (index : ℕ) → index < length lines →
    ((more : List (List ℕ)) → any_open next patterns more ≡ any_open places patterns (get_or lines index [] ∷ more)) →
    Follows places patterns lines index → Follows next patterns lines (index + 1)
next_follows places next patterns lines index within after follows = λ more.
    let line : List ℕ = get_or lines index [] in
    let joined : take index lines ++ line ∷ more ≡ take (index + 1) lines ++ more =
    sym (append_assoc (take index lines) (line ∷ []) more)
    ∙ ap (λ taken. taken ++ more) (sym (ap (λ n. take n lines) (add-one index) ∙ take-suc lines index [] within)) in
    after more ∙ follows (line ∷ more) ∙ ap (stand_for patterns) joined

pub goes_on : (places : List Bool) (patterns lines : List (List ℕ)) (count : ℕ) → length places ≤ suc (length patterns) →
    is_any_open places ≡ true → Follows places patterns lines count → GoesOn patterns (take count lines)
goes_on places patterns lines count sizes open_now follows =
    let found = may_follow places patterns sizes open_now in
    (found.0, sym (follows found.0) ∙ found.1)

pub differs_here : (next : List Bool) (patterns lines : List (List ℕ)) (index : ℕ) → index < length lines →
    is_any_open next ≡ false → Follows next patterns lines (index + 1) → GoesOn patterns (take index lines) →
    IsFirstDifference patterns lines index
differs_here next patterns lines index within none follows before = record {
  within = le_of_lt within;
  before = before;
  differs = λ at goes. false≢true (sym (none_follow next patterns goes.0 none) ∙ follows goes.0 ∙ goes.1);
  other = ap (stand_for patterns) (sym (take-append-drop (index + 1) lines))
      ∙ sym (follows (drop (index + 1) lines)) ∙ none_follow next patterns (drop (index + 1) lines) none;
}
