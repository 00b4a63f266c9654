-- A pattern and its segments.
use Rattle.std.proofs.Common.{◌≡◌, ◌≢◌, ℕ, zero, suc, ◌+◌, ◌-◌, ◌<◌, ◌≤◌, Bool, true, false, eqb, ◌||◌, ◌&&◌, List, [], ◌∷◌, ◌++◌, length, take, drop, get_or, refl, sym, ap, ◌∙◌, ⊎_elim, arith}
use Rattle.std.proofs.lemmas.Bool.{cases_lt, eq-eqb, eqb-true, ne_eqb}
use Rattle.std.proofs.Math.Dec.{eqb-suc-suc, eqb-suc-zero, eqb-zero-suc}
use Rattle.std.proofs.lemmas.List.Elements.{All-from_get_or, All-head, All-tail}
use Rattle.std.proofs.lemmas.List.{drop_more, get_or-take, length-drop, length-take-le, take-append-drop}
use Rattle.std.specs.Prelude.{MatchOption, Option, None, Some}
use Rattle.memchr.specs.Find.{IsFirst, Passes, is_byte}
use Rattle.milter_text.specs.declared.glob.TextCase.{TextCase}
use Rattle.milter_text.specs.declared.glob.TheConstants.{ANY_RUN}
use Rattle.milter_text.specs.Globs.{is_like, some_suffix, stands_for}
use Rattle.milter_text.specs.Segments.{IsFirstRun, IsSegment, after_first, begins_with}
use Rattle.milter_text.proofs.Leftmost.{leftmost, passes_found}

-- the conjunction of three, in another order
and_middle : (x y z : Bool) → (x && (y && z)) ≡ (y && (x && z))
and_middle true y z = refl
and_middle false true z = refl
and_middle false false z = refl

and_assoc : (x y z : Bool) → (x && (y && z)) ≡ ((x && y) && z)
and_assoc true y z = refl
and_assoc false y z = refl

or_false : (x : Bool) → (x || false) ≡ x
or_false true = refl
or_false false = refl

never : (x : Bool) → (x && false) ≡ false
never true = refl
never false = refl

none_after : (n : ℕ) → drop {A = ℕ} n [] ≡ []
none_after zero = refl
none_after (suc n) = refl

-- the first byte of a segment isn't `*`, and the others are a segment too
plain_first : (symbol : ℕ) (symbols : List ℕ) → IsSegment (symbol ∷ symbols) → eqb symbol ANY_RUN ≡ false
plain_first symbol symbols is = ne_eqb symbol ANY_RUN (All-head (λ byte. byte ≢ ANY_RUN) symbol symbols is)

later_symbols : (symbol : ℕ) (symbols : List ℕ) → IsSegment (symbol ∷ symbols) → IsSegment symbols
later_symbols symbol symbols is = All-tail (λ byte. byte ≢ ANY_RUN) symbol symbols is

-- a segment with a rest stands for what it begins, where the rest stands for what is after
pub split : (case : TextCase) (segment rest : List ℕ) → IsSegment segment → (value : List ℕ)
    → is_like case (segment ++ rest) value ≡ (begins_with case segment value && is_like case rest (drop (length segment) value))
split case [] rest is value = refl
split case (symbol ∷ symbols) rest is [] = rw (plain_first symbol symbols is) refl
split case (symbol ∷ symbols) rest is (byte ∷ bytes) =
    rw (plain_first symbol symbols is)
    (ap (λ b. stands_for case symbol byte && b) (split case symbols rest (later_symbols symbol symbols is) bytes)
    ∙ and_assoc (stands_for case symbol byte) (begins_with case symbols bytes) (is_like case rest (drop (length symbols) bytes)))

-- a segment stands for a value as long as it, each of its bytes for one
pub whole : (case : TextCase) (segment : List ℕ) → IsSegment segment → (value : List ℕ)
    → is_like case segment value ≡ (eqb (length value) (length segment) && begins_with case segment value)
whole case [] is [] = refl
whole case [] is (byte ∷ bytes) = ap (λ b. b && true) (sym (eqb-suc-zero (length bytes)))
whole case (symbol ∷ symbols) is [] =
    rw (plain_first symbol symbols is) (ap (λ b. b && false) (sym (eqb-zero-suc (length symbols))))
whole case (symbol ∷ symbols) is (byte ∷ bytes) =
    rw (plain_first symbol symbols is)
    (ap (λ b. stands_for case symbol byte && b) (whole case symbols (later_symbols symbol symbols is) bytes)
    ∙ and_middle (stands_for case symbol byte) (eqb (length bytes) (length symbols)) (begins_with case symbols bytes)
    ∙ ap (λ b. b && (stands_for case symbol byte && begins_with case symbols bytes)) (sym (eqb-suc-suc (length bytes) (length symbols))))

-- a segment that stands for the first bytes of a value is no longer than it
pub too_short : (case : TextCase) (segment value : List ℕ) → length value < length segment → begins_with case segment value ≡ false
too_short case [] value short = absurd (omega arith)
too_short case (symbol ∷ symbols) [] short = refl
too_short case (symbol ∷ symbols) (byte ∷ bytes) short = rw (too_short case symbols bytes (omega arith)) (never (stands_for case symbol byte))

-- what is compared from a place on, by the byte there and those after it
pub from_place : (case : TextCase) (segment value : List ℕ) (i : ℕ) → i < length segment → i < length value
    → begins_with case (drop i segment) (drop i value)
    ≡ (stands_for case (get_or segment i 0) (get_or value i 0) && begins_with case (drop (i + 1) segment) (drop (i + 1) value))
from_place case segment value i within there =
    ap (λ symbols. begins_with case symbols (drop i value)) (drop_more segment i 0 within)
    ∙ ap (begins_with case (get_or segment i 0 ∷ drop (i + 1) segment)) (drop_more value i 0 there)

-- a segment stands for no value of another length
pub other_length : (case : TextCase) (segment : List ℕ) → IsSegment segment → (value : List ℕ) → length value ≢ length segment
    → is_like case segment value ≡ false
other_length case segment is value differs =
    whole case segment is value ∙ ap (λ b. b && begins_with case segment value) (ne_eqb (length value) (length segment) differs)

-- a segment that stands for some suffix of a value stands for the last bytes, as many as it has
pub last : (case : TextCase) (segment : List ℕ) → IsSegment segment → (value : List ℕ)
    → some_suffix (is_like case segment) value ≡ is_like case segment (drop (length value - length segment) value)
last case segment is [] = ap (is_like case segment) (sym (none_after (0 - length segment)))
last case segment is (byte ∷ bytes) =
    ⊎_elim
    (λ (less : length bytes < length segment).
    let none : some_suffix (is_like case segment) bytes ≡ false =
    last case segment is bytes
    ∙ other_length case segment is (drop (length bytes - length segment) bytes)
    (λ e. omega (arith, e, length-drop (length bytes - length segment) bytes)) in
    let all : suc (length bytes) - length segment ≡ 0 = omega arith in
    ap (λ b. is_like case segment (byte ∷ bytes) || b) none
    ∙ or_false (is_like case segment (byte ∷ bytes))
    ∙ ap (λ k. is_like case segment (drop k (byte ∷ bytes))) (sym all))
    (λ (enough : length segment ≤ length bytes).
    let later : suc (length bytes) - length segment ≡ suc (length bytes - length segment) = omega arith in
    ap (λ b. b || some_suffix (is_like case segment) bytes)
    (other_length case segment is (byte ∷ bytes) (λ (e : suc (length bytes) ≡ length segment). omega arith))
    ∙ last case segment is bytes
    ∙ ap (λ k. is_like case segment (drop k (byte ∷ bytes))) (sym later))
    (cases_lt (length bytes) (length segment))

-- the first `*` of a pattern, by a search for its byte
pub first_run_found : (pattern : List ℕ) (found : Option ℕ) → IsFirst (Passes (is_byte ANY_RUN) pattern) 0 (length pattern) found
    → MatchOption found (IsSegment pattern) (IsFirstRun pattern)
first_run_found pattern None nowhere =
    All-from_get_or (λ byte. byte ≢ ANY_RUN) pattern 0 (λ i within e. nowhere i (omega arith) within (eq-eqb _ _ e))
first_run_found pattern (Some end) (none_before, here) =
    let within : end < length pattern = none_before.high in
    let long : length (take end pattern) ≡ end = length-take-le end pattern (omega arith) in
    record {
      within = within;
      before = All-from_get_or (λ byte. byte ≢ ANY_RUN) (take end pattern) 0
          (λ i lt e. let low : i < end = omega arith in
          none_before.before i (omega arith) low (eq-eqb _ _ (sym (get_or-take end pattern i 0 low) ∙ e)));
      whole = sym (take-append-drop end pattern)
          ∙ ap (λ rest. take end pattern ++ rest) (drop_more pattern end 0 within
          ∙ ap (λ byte. byte ∷ drop (end + 1) pattern) (eqb-true _ _ here));
    }

-- a pattern with a `*` stands for what its first segment begins, with a suffix of what is after
pub first_segment : (case : TextCase) (pattern : List ℕ) (end : ℕ) → IsFirstRun pattern end → (value : List ℕ)
    → is_like case pattern value
    ≡ (begins_with case (take end pattern) value && some_suffix (is_like case (drop (end + 1) pattern)) (drop end value))
first_segment case pattern end run value =
    let long : length (take end pattern) ≡ end = length-take-le end pattern (let within : end < length pattern = run.within in omega arith) in
    ap (λ bytes. is_like case bytes value) run.whole
    ∙ split case (take end pattern) (ANY_RUN ∷ drop (end + 1) pattern) run.before value
    ∙ ap (λ k. begins_with case (take end pattern) value && some_suffix (is_like case (drop (end + 1) pattern)) (drop k value)) long

-- after a `*`, the first segment is at its leftmost place
pub next_segment : (case : TextCase) (pattern : List ℕ) (end : ℕ) → IsFirstRun pattern end → (value : List ℕ)
    → some_suffix (is_like case pattern) value
    ≡ passes_found (some_suffix (is_like case (drop (end + 1) pattern))) (after_first case (take end pattern) value)
next_segment case pattern end run value =
    let first = take end pattern in
    let rest = drop (end + 1) pattern in
    ap (λ bytes. some_suffix (is_like case bytes) value) run.whole
    ∙ leftmost case first (is_like case rest) (is_like case (first ++ (ANY_RUN ∷ rest)))
    (split case first (ANY_RUN ∷ rest) run.before) value
