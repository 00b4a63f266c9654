-- The keys of domains that a domain is looked up by.
use Rattle.std.proofs.Common.{◌≡◌, ◌-◌, ℕ, Bool, true, false, List, [], ◌∷◌, ◌++◌, length, take, drop, arith, ap, sym, subst, ◌∙◌, refl}
use Rattle.std.proofs.Common.{length-append, take-append-drop}
use Rattle.std.specs.Prelude.{◌||◌, nat_eq, if◌then◌else◌}
use Rattle.std.specs.List.{ends_with, list_any}
use Rattle.std.specs.Str.{bytes_eq}
use Rattle.std.proofs.lemmas.Bool.{or_left, or_right, false_from_ne_true}
use Rattle.std.proofs.lemmas.Slice.Eq.{bytes_eq-Decides}
use Rattle.std.proofs.Math.Seq.{drop-append_seam}
use Rattle.milter_address.specs.Bytes.{is_dot}
use Rattle.milter_lists.specs.ListKeys.{dot_suffixes}
use Rattle.milter_lists.specs.Listed.{begins_with_dot, is_domain_in}
use Rattle.milter_lists.proofs.KeySets.{or_false, same_test}

-- one of the suffixes is the text
abbrev is_suffix : List ℕ → List ℕ → Bool
is_suffix bytes text = list_any (λ key. bytes_eq key text) (dot_suffixes bytes)

-- ---- a suffix begins with a dot, and the bytes end with it

record Suffix (bytes text : List ℕ) : Type 0 where
  lead : List ℕ
  whole : bytes ≡ lead ++ text
  dot : begins_with_dot text ≡ true

later : (byte : ℕ) (bytes text : List ℕ) → Suffix bytes text → Suffix (byte ∷ bytes) text
later byte bytes text s = record { lead = byte ∷ s.lead; whole = ap (λ xs. byte ∷ xs) s.whole; dot = s.dot }

suffix_at_dot : (byte : ℕ) (bytes text : List ℕ) → (is_suffix bytes text ≡ true → Suffix bytes text) → is_dot byte ≡ true
    → (same : Bool) → bytes_eq (byte ∷ bytes) text ≡ same → (same || is_suffix bytes text) ≡ true → Suffix (byte ∷ bytes) text
suffix_at_dot byte bytes text more dot true same e =
    let is : byte ∷ bytes ≡ text = (bytes_eq-Decides (byte ∷ bytes) text).0 same in
    record { lead = []; whole = is; dot = subst (λ t. begins_with_dot t ≡ true) is dot }
suffix_at_dot byte bytes text more dot false same e = later byte bytes text (more e)

suffix_at : (byte : ℕ) (bytes text : List ℕ) → (is_suffix bytes text ≡ true → Suffix bytes text) → (dot : Bool) → is_dot byte ≡ dot
    → list_any (λ key. bytes_eq key text) (if dot then (byte ∷ bytes) ∷ dot_suffixes bytes else dot_suffixes bytes) ≡ true
    → Suffix (byte ∷ bytes) text
suffix_at byte bytes text more true d e = suffix_at_dot byte bytes text more d (bytes_eq (byte ∷ bytes) text) refl e
suffix_at byte bytes text more false d e = later byte bytes text (more e)

suffix_of : (bytes text : List ℕ) → is_suffix bytes text ≡ true → Suffix bytes text
suffix_of [] text e = absurd cc
suffix_of (byte ∷ bytes) text e = suffix_at byte bytes text (suffix_of bytes text) (is_dot byte) refl e

-- ---- what the bytes end with is a suffix, where it begins with a dot

skip : (byte : ℕ) (bytes text : List ℕ) → is_suffix bytes text ≡ true → is_suffix (byte ∷ bytes) text ≡ true
skip byte bytes text e = go (is_dot byte)
  where
    go : (dot : Bool)
        → list_any (λ key. bytes_eq key text) (if dot then (byte ∷ bytes) ∷ dot_suffixes bytes else dot_suffixes bytes) ≡ true
    go true = or_right (bytes_eq (byte ∷ bytes) text) (is_suffix bytes text) e
    go false = e

itself : (text : List ℕ) → begins_with_dot text ≡ true → is_suffix text text ≡ true
itself [] dot = absurd cc
itself (byte ∷ text) dot =
    rw dot (or_left (bytes_eq (byte ∷ text) (byte ∷ text)) (is_suffix text (byte ∷ text)) ((bytes_eq-Decides (byte ∷ text) (byte ∷ text)).1 refl))

behind : (lead text : List ℕ) → begins_with_dot text ≡ true → is_suffix (lead ++ text) text ≡ true
behind [] text dot = itself text dot
behind (byte ∷ lead) text dot = skip byte (lead ++ text) text (behind lead text dot)

-- ---- by the end

drop_suffix : (lead back : List ℕ) → drop (length (lead ++ back) - length back) (lead ++ back) ≡ back
drop_suffix lead back =
    let start : length (lead ++ back) - length back ≡ length lead = omega (arith, length-append lead back) in
    rw (start, drop-append_seam lead back) refl

ends : (lead text : List ℕ) → ends_with nat_eq (lead ++ text) text ≡ true
ends lead text = (bytes_eq-Decides text _).1 (sym (drop_suffix lead text))

whole_of : (bytes text : List ℕ) → ends_with nat_eq bytes text ≡ true
    → bytes ≡ take (length bytes - length text) bytes ++ text
whole_of bytes text e =
    let start = length bytes - length text in
    sym (take-append-drop start bytes)
    ∙ ap (λ back. take start bytes ++ back) (sym ((bytes_eq-Decides text (drop start bytes)).0 e))

suffix_ends : (bytes text : List ℕ) → begins_with_dot text ≡ true → is_suffix bytes text ≡ ends_with nat_eq bytes text
suffix_ends bytes text dot =
    same_test (is_suffix bytes text) (ends_with nat_eq bytes text)
    (λ e. let s = suffix_of bytes text e in subst (λ b. ends_with nat_eq b text ≡ true) (sym s.whole) (ends s.lead text))
    (λ e.
    let whole = whole_of bytes text e in
    subst (λ b. is_suffix b text ≡ true) (sym whole) (behind (take (length bytes - length text) bytes) text dot))

no_suffix : (bytes text : List ℕ) → begins_with_dot text ≡ false → is_suffix bytes text ≡ false
no_suffix bytes text other =
    false_from_ne_true (is_suffix bytes text) (λ e. let dot = (suffix_of bytes text e).dot in absurd cc)

-- ---- the lookup

or_same : (a b : Bool) → (a ≡ true → b ≡ true) → (a || b) ≡ b
or_same true b to = sym (to refl)
or_same false b to = refl

pub domain_found : (domain entry : List ℕ)
    → list_any (λ key. bytes_eq key entry) (domain ∷ dot_suffixes domain) ≡ is_domain_in domain entry
domain_found domain entry = go (begins_with_dot entry) refl
  where
    go : (dot : Bool) → begins_with_dot entry ≡ dot
        → (bytes_eq domain entry || is_suffix domain entry)
        ≡ (if dot then ends_with nat_eq domain entry else bytes_eq domain entry)
    go true e =
        ap (λ b. bytes_eq domain entry || b) (suffix_ends domain entry e)
        ∙ or_same (bytes_eq domain entry) (ends_with nat_eq domain entry)
        (λ same. subst (λ d. ends_with nat_eq d entry ≡ true) (sym ((bytes_eq-Decides domain entry).0 same)) (ends [] entry))
    go false e = ap (λ b. bytes_eq domain entry || b) (no_suffix domain entry e) ∙ or_false (bytes_eq domain entry)
