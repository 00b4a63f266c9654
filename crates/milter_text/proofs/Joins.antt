-- Patterns one after the other, and those of few or plain bytes.
use Rattle.std.proofs.Common.{◌≡◌, ◌≢◌, ℕ, ◌==◌, Bool, true, false, eqb, ◌&&◌, List, [], ◌∷◌, ◌++◌, length, map, refl, sym, ap, subst, ◌∙◌, ⊎_elim, append_assoc}
use Rattle.std.proofs.lemmas.Bool.{and_from, and_parts, cases_Bool, cases_eq, eq-eqb, false≢true, ne_eqb, or_cases, or_left, or_right}
use Rattle.std.proofs.lemmas.List.{append-nil}
use Rattle.std.proofs.lemmas.List.Elements.{All-head, All-tail}
use Rattle.std.specs.Char.{to_ascii_lowercase}
use Rattle.std.specs.Str.{bytes_eq, str_eq_ignore_ascii_case}
use Rattle.milter_text.specs.declared.glob.TextCase.{TextCase}
use Rattle.milter_text.specs.declared.glob.TextCase.TheVariants.{Exact, Ignored}
use Rattle.milter_text.specs.declared.glob.TheConstants.{ANY_BYTE, ANY_RUN}
use Rattle.milter_text.specs.Globs.{IsJoined, IsPlain, first_and_rest, is_like, is_same, some_suffix, stands_for}

-- bytes with a suffix that passes
record Ended (test : List ℕ → Bool) (bytes : List ℕ) : Type 0 where
  before : List ℕ
  after : List ℕ
  whole : bytes ≡ before ++ after
  passes : test after ≡ true

suffix_of : (test : List ℕ → Bool) (bytes : List ℕ) → some_suffix test bytes ≡ true → Ended test bytes
suffix_of test [] has = record { before = []; after = []; whole = refl; passes = has }
suffix_of test (byte ∷ bytes) has =
    ⊎_elim (λ here. record { before = []; after = byte ∷ bytes; whole = refl; passes = here })
    (λ later. let ended = suffix_of test bytes later in
    record {
      before = byte ∷ ended.before;
      after = ended.after;
      whole = ap (λ rest. byte ∷ rest) ended.whole;
      passes = ended.passes;
    })
    (or_cases (test (byte ∷ bytes)) (some_suffix test bytes) has)

any_suffix : (test : List ℕ → Bool) (before after : List ℕ) → test after ≡ true → some_suffix test (before ++ after) ≡ true
any_suffix test [] [] passes = passes
any_suffix test [] (byte ∷ bytes) passes = or_left (test (byte ∷ bytes)) (some_suffix test bytes) passes
any_suffix test (byte ∷ before) after passes =
    or_right (test (byte ∷ (before ++ after))) (some_suffix test (before ++ after)) (any_suffix test before after passes)

-- bytes whose first passes, and those after it
record Begun (first : ℕ → Bool) (rest : List ℕ → Bool) (bytes : List ℕ) : Type 0 where
  byte : ℕ
  others : List ℕ
  whole : bytes ≡ byte ∷ others
  first_passes : first byte ≡ true
  rest_passes : rest others ≡ true

begin_of : (first : ℕ → Bool) (rest : List ℕ → Bool) (bytes : List ℕ) → first_and_rest first rest bytes ≡ true → Begun first rest bytes
begin_of first rest [] both = absurd (false≢true both)
begin_of first rest (byte ∷ bytes) both =
    let parts = and_parts (first byte) (rest bytes) both in
    record { byte = byte; others = bytes; whole = refl; first_passes = parts.0; rest_passes = parts.1 }

more_after : (value before rest after : List ℕ) → value ≡ before ++ rest → value ++ after ≡ before ++ (rest ++ after)
more_after value before rest after whole = ap (λ bytes. bytes ++ after) whole ∙ append_assoc before rest after

regrouped : (value before rest first second : List ℕ) → value ≡ before ++ rest → rest ≡ first ++ second
    → value ≡ (before ++ first) ++ second
regrouped value before rest first second whole parts =
    whole ∙ ap (λ bytes. before ++ bytes) parts ∙ sym (append_assoc before first second)

pub joined_like : (case : TextCase) (first second before after : List ℕ) → is_like case first before ≡ true → is_like case second after ≡ true
    → is_like case (first ++ second) (before ++ after) ≡ true
joined_like case [] second [] after first_like second_like = second_like
joined_like case [] second (byte ∷ before) after first_like second_like = absurd (false≢true first_like)
joined_like case (symbol ∷ symbols) second before after first_like second_like =
    let both = is_like case (symbols ++ second) in
    ⊎_elim
    (λ (run : (symbol == ANY_RUN) ≡ true).
    let ended = suffix_of (is_like case symbols) before (rw run at first_like) in
    rw run
    (subst (λ bytes. some_suffix both bytes ≡ true)
    (sym (more_after before ended.before ended.after after ended.whole))
    (any_suffix both ended.before (ended.after ++ after) (joined_like case symbols second ended.after after ended.passes second_like))))
    (λ (other : (symbol == ANY_RUN) ≡ false).
    let begun = begin_of (stands_for case symbol) (is_like case symbols) before (rw other at first_like) in
    rw other
    (subst (λ bytes. first_and_rest (stands_for case symbol) both (bytes ++ after) ≡ true) (sym begun.whole)
    (and_from (stands_for case symbol begun.byte) (both (begun.others ++ after)) begun.first_passes
    (joined_like case symbols second begun.others after begun.rest_passes second_like))))
    (cases_Bool (symbol == ANY_RUN))

pub split_like : (case : TextCase) (first second value : List ℕ) → is_like case (first ++ second) value ≡ true → IsJoined case first second value
split_like case [] second value like =
    record { before = []; after = value; whole = refl; first_like = refl; second_like = like }
split_like case (symbol ∷ symbols) second value like =
    let both = is_like case (symbols ++ second) in
    ⊎_elim
    (λ (run : (symbol == ANY_RUN) ≡ true).
    let ended = suffix_of both value (rw run at like) in
    let joined = split_like case symbols second ended.after ended.passes in
    record {
      before = ended.before ++ joined.before;
      after = joined.after;
      whole = regrouped value ended.before ended.after joined.before joined.after ended.whole joined.whole;
      first_like = rw run (any_suffix (is_like case symbols) ended.before joined.before joined.first_like);
      second_like = joined.second_like;
    })
    (λ (other : (symbol == ANY_RUN) ≡ false).
    let begun = begin_of (stands_for case symbol) both value (rw other at like) in
    let joined = split_like case symbols second begun.others begun.rest_passes in
    record {
      before = begun.byte ∷ joined.before;
      after = joined.after;
      whole = regrouped value (begun.byte ∷ []) begun.others joined.before joined.after begun.whole joined.whole;
      first_like = rw other (and_from (stands_for case symbol begun.byte) (is_like case symbols joined.before) begun.first_passes joined.first_like);
      second_like = joined.second_like;
    })
    (cases_Bool (symbol == ANY_RUN))

pub like_nothing : (case : TextCase) (value : List ℕ) → is_like case [] value ≡ true → value ≡ []
like_nothing case [] like = refl
like_nothing case (byte ∷ bytes) like = absurd (false≢true like)

pub nothing_like : (case : TextCase) (value : List ℕ) → value ≡ [] → is_like case [] value ≡ true
nothing_like case value none = subst (λ bytes. is_like case [] bytes ≡ true) (sym none) refl

pub run_like : (case : TextCase) (value : List ℕ) → is_like case (ANY_RUN ∷ []) value ≡ true
run_like case value =
    subst (λ bytes. some_suffix (is_like case []) bytes ≡ true) (append-nil value) (any_suffix (is_like case []) value [] refl)

and_true : (x : Bool) → (x && true) ≡ x
and_true true = refl
and_true false = refl

pub byte_like : (case : TextCase) (symbol byte : ℕ) → symbol ≢ ANY_RUN → is_like case (symbol ∷ []) (byte ∷ []) ≡ stands_for case symbol byte
byte_like case symbol byte other = rw (ne_eqb symbol ANY_RUN other) (and_true (stands_for case symbol byte))

pub one_like : (case : TextCase) (symbol : ℕ) (value : List ℕ) → symbol ≢ ANY_RUN → is_like case (symbol ∷ []) value ≡ true → length value ≡ 1
one_like case symbol value other like =
    let begun = begin_of (stands_for case symbol) (is_like case []) value (rw (ne_eqb symbol ANY_RUN other) at like) in
    ap length (begun.whole ∙ ap (λ rest. begun.byte ∷ rest) (like_nothing case begun.others begun.rest_passes))

eqb_sym : (x y : ℕ) → eqb x y ≡ eqb y x
eqb_sym x y =
    ⊎_elim (λ same. eq-eqb x y same ∙ sym (eq-eqb y x (sym same)))
    (λ differ. ne_eqb x y differ ∙ sym (ne_eqb y x (λ same. differ (sym same))))
    (cases_eq x y)

-- a text that is plain stands for the values whose bytes are the same, one by one
module _ (case : TextCase) (as_compared : ℕ → ℕ) (same : (x y : ℕ) → is_same case x y ≡ eqb (as_compared x) (as_compared y)) where
  pub plain_like : (text value : List ℕ) → IsPlain text → is_like case text value ≡ bytes_eq (map as_compared value) (map as_compared text)
  plain_like [] [] plain = refl
  plain_like [] (byte ∷ bytes) plain = refl
  plain_like (symbol ∷ symbols) [] plain =
      rw (ne_eqb symbol ANY_RUN (All-head (λ byte. (byte ≢ ANY_RUN) × (byte ≢ ANY_BYTE)) symbol symbols plain).0) refl
  plain_like (symbol ∷ symbols) (byte ∷ bytes) plain =
      let first = All-head (λ byte. (byte ≢ ANY_RUN) × (byte ≢ ANY_BYTE)) symbol symbols plain in
      let others = All-tail (λ byte. (byte ≢ ANY_RUN) × (byte ≢ ANY_BYTE)) symbol symbols plain in
      rw (ne_eqb symbol ANY_RUN first.0, ne_eqb symbol ANY_BYTE first.1)
      (ap (λ b. is_same case symbol byte && b) (plain_like symbols bytes others)
      ∙ ap (λ b. b && bytes_eq (map as_compared bytes) (map as_compared symbols))
      (same symbol byte ∙ eqb_sym (as_compared symbol) (as_compared byte)))

map_same : (bytes : List ℕ) → map (λ byte. byte) bytes ≡ bytes
map_same [] = refl
map_same (byte ∷ bytes) = ap (λ rest. byte ∷ rest) (map_same bytes)

pub plain_exact : (text value : List ℕ) → IsPlain text → is_like Exact text value ≡ bytes_eq value text
plain_exact text value plain =
    plain_like Exact (λ byte. byte) (λ x y. refl) text value plain
    ∙ ap (λ bytes. bytes_eq bytes (map (λ byte. byte) text)) (map_same value)
    ∙ ap (bytes_eq value) (map_same text)

pub plain_ignored : (text value : List ℕ) → IsPlain text → is_like Ignored text value ≡ str_eq_ignore_ascii_case value text
plain_ignored text value plain = plain_like Ignored to_ascii_lowercase (λ x y. refl) text value plain
