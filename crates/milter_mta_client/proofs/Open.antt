-- Lines that may follow where some place is open, and that none may where none is.
use Rattle.std.proofs.Common.{◌≡◌, ℕ, zero, suc, ◌≤◌, ◌+◌, ◌==◌, Bool, true, false, not, ◌||◌, ◌&&◌, List, [], ◌∷◌, length, take, drop, replicate, refl, sym, ap, subst, ◌∙◌, ⊎_elim, not-suc-le-zero, le_of_suc-le-suc, if◌then◌else◌}
use Rattle.std.proofs.Math.Bool.{beq}
use Rattle.std.proofs.lemmas.Bool.{cases_Bool, false≢true}
use Rattle.std.specs.List.{filter, list_any}
use Rattle.std.specs.Cmp.{nat_eq_equiv}
use Rattle.std.specs.Cmp.Lexicographic.{nat_list_eq_equiv}
use Rattle.std.specs.Str.{bytes_eq}
use Rattle.milter_text.specs.Globs.{is_like}
use Rattle.milter_text.specs.Globs as glob
use Rattle.milter_text.specs.declared.glob.TextCase.TheVariants.{Exact}
use Rattle.milter_text.specs.declared.glob.TheConstants.{ANY_BYTE, ANY_RUN}
use Rattle.milter_mta_client.specs.Patterns.{is_gap, like, some_suffix, stand_for, stands_for}
use Rattle.milter_mta_client.specs.Places.{any_open, is_any_open}
use Rattle.milter_mta_client.proofs.Advance.{or_none}

-- ---- lines that patterns stand for

or_true : (x : Bool) → (x || true) ≡ true
or_true true = refl
or_true false = refl

some_now : (test : List ℕ → Bool) (bytes : List ℕ) → test bytes ≡ true → glob.some_suffix test bytes ≡ true
some_now test [] passes = passes
some_now test (byte ∷ bytes) passes = rw passes refl

-- a pattern without its `*` is a line that it stands for
abbrev plain : List ℕ → List ℕ
plain pattern = filter (λ byte. not (byte == ANY_RUN)) pattern

like_plain : (pattern : List ℕ) → is_like Exact pattern (plain pattern) ≡ true
like_plain [] = refl
like_plain (symbol ∷ symbols) = ⊎_elim
    (λ (run : (symbol == ANY_RUN) ≡ true). rw run (some_now (is_like Exact symbols) (plain symbols) (like_plain symbols)))
    (λ (other : (symbol == ANY_RUN) ≡ false). rw (other, nat_eq_equiv.refl symbol, or_true (symbol == ANY_BYTE)) (like_plain symbols))
    (cases_Bool (symbol == ANY_RUN))

-- a line that a pattern stands for
abbrev example_line : List ℕ → List ℕ
example_line pattern =
    if bytes_eq (take (length like) pattern) like then plain (drop (length like) pattern) else pattern

line_stands : (pattern : List ℕ) → stands_for pattern (example_line pattern) ≡ true
line_stands pattern = ⊎_elim
    (λ (has : bytes_eq (take (length like) pattern) like ≡ true). rw has (like_plain (drop (length like) pattern)))
    (λ (other : bytes_eq (take (length like) pattern) like ≡ false). rw other (nat_list_eq_equiv.refl pattern))
    (cases_Bool (bytes_eq (take (length like) pattern) like))

-- lines that patterns stand for
abbrev pub example : List (List ℕ) → List (List ℕ)
example [] = []
example (pattern ∷ patterns) =
    if is_gap pattern then example patterns else example_line pattern ∷ example patterns

some_lines_now : (test : List (List ℕ) → Bool) (lines : List (List ℕ)) → test lines ≡ true → some_suffix test lines ≡ true
some_lines_now test [] passes = passes
some_lines_now test (line ∷ lines) passes = rw passes refl

pub example_stands : (patterns : List (List ℕ)) → stand_for patterns (example patterns) ≡ true
example_stands [] = refl
example_stands (pattern ∷ patterns) = ⊎_elim
    (λ (gap : is_gap pattern ≡ true).
    rw gap (some_lines_now (stand_for patterns) (example patterns) (example_stands patterns)))
    (λ (other : is_gap pattern ≡ false). rw (other, line_stands pattern) (example_stands patterns))
    (cases_Bool (is_gap pattern))

-- ---- places that are open

pub any_is_open : (places : List Bool) → list_any (λ place. beq place true) places ≡ is_any_open places
any_is_open [] = refl
any_is_open (true ∷ others) = refl
any_is_open (false ∷ others) = any_is_open others

none_among : (count : ℕ) (patterns lines : List (List ℕ)) → any_open (replicate count false) patterns lines ≡ false
none_among zero patterns lines = refl
none_among (suc count) [] lines = refl
none_among (suc count) (pattern ∷ patterns) lines = none_among count patterns lines

-- where the first place alone is open
pub from_first : (count : ℕ) (patterns lines : List (List ℕ)) →
    any_open (true ∷ replicate count false) patterns lines ≡ stand_for patterns lines
from_first count [] lines = refl
from_first count (pattern ∷ patterns) lines =
    ap (λ others. stand_for (pattern ∷ patterns) lines || others) (none_among count patterns lines)
    ∙ or_none (stand_for (pattern ∷ patterns) lines)

-- where one is open, some lines may follow
pub may_follow : (places : List Bool) (patterns : List (List ℕ)) → length places ≤ suc (length patterns) → is_any_open places ≡ true →
    (lines : List (List ℕ)) × (any_open places patterns lines ≡ true)
may_follow [] patterns within open_now = absurd (false≢true open_now)
may_follow (true ∷ others) [] within open_now = ([], refl)
may_follow (false ∷ []) [] within open_now = absurd (false≢true open_now)
may_follow (false ∷ (other ∷ others)) [] within open_now = absurd (not-suc-le-zero (le_of_suc-le-suc within))
may_follow (true ∷ others) (pattern ∷ patterns) within open_now =
    (example (pattern ∷ patterns), ap (λ passes. passes || any_open others patterns (example (pattern ∷ patterns))) (example_stands (pattern ∷ patterns)))
may_follow (false ∷ others) (pattern ∷ patterns) within open_now =
    may_follow others patterns (le_of_suc-le-suc within) open_now

-- where none is, none may
pub none_follow : (places : List Bool) (patterns lines : List (List ℕ)) → is_any_open places ≡ false → any_open places patterns lines ≡ false
none_follow [] patterns lines none = refl
none_follow (true ∷ others) patterns lines none = absurd (false≢true (sym none))
none_follow (false ∷ others) [] lines none = refl
none_follow (false ∷ others) (pattern ∷ patterns) lines none = none_follow others patterns lines none
