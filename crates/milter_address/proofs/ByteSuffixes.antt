-- A domain that is under its parent, by its bytes.
use Rattle.std.proofs.Common.{◌≡◌, ◌⊎◌, ◌<◌, ◌-◌, ℕ, Bool, true, false, List, [], ◌∷◌, ◌++◌, length, take, drop, arith, ap, sym, ◌∙◌, refl, inl, inr, append_assoc, get_or, suc}
use Rattle.std.proofs.Common.{length-append, take-append-drop}
use Rattle.std.specs.Prelude.{◌||◌, nat_eq}
use Rattle.std.specs.List.{ends_with}
use Rattle.std.specs.Str.{bytes_eq}
use Rattle.std.proofs.lemmas.Bool.{eq-eqb, eqb-true, or_left, or_right}
use Rattle.std.proofs.lemmas.List.{append_cancel_right, nil_from_length}
use Rattle.std.proofs.lemmas.Slice.Eq.{bytes_eq-Decides}
use Rattle.std.proofs.Math.Seq.{drop-append_seam, get_or-append_seam, take-length, take-suc}
use Rattle.milter_address.specs.Domain.{is_under}
use Rattle.milter_address.proofs.LabelSuffixes.{IsBelow, under_below, under_itself, under_parts}

-- two tests of which each is true where the other is
same_test : (a b : Bool) → (a ≡ true → b ≡ true) → (b ≡ true → a ≡ true) → a ≡ b
same_test true b to from = sym (to refl)
same_test false true to from = from refl
same_test false false to from = refl

drop_suffix : (lead back : List ℕ) → drop (length (lead ++ back) - length back) (lead ++ back) ≡ back
drop_suffix lead back =
    let start : length (lead ++ back) - length back ≡ length lead = omega (arith, length-append lead back) in
    rw (start, drop-append_seam lead back) refl

pub whole_of_suffix : (domain parent lead : List ℕ) → bytes_eq (drop (length domain - length parent) domain) parent ≡ true
    → lead ≡ take (length domain - length parent) domain → domain ≡ lead ++ parent
whole_of_suffix domain parent lead same is =
    let start = length domain - length parent in
    sym (take-append-drop start domain) ∙ ap (λ back. take start domain ++ back) ((bytes_eq-Decides (drop start domain) parent).0 same)
    ∙ ap (λ part. part ++ parent) (sym is)

pub under_same : (domain parent lead : List ℕ) → domain ≡ lead ++ parent → length lead ≡ 0 → true ≡ is_under domain parent
under_same domain parent lead whole none =
    let same : domain ≡ parent = whole ∙ ap (λ part. part ++ parent) (nil_from_length lead none) in
    rw same (sym (under_itself parent))

-- ---- a byte before the parent

dot_last : (lead : List ℕ) → 0 < length lead → get_or lead (length lead - 1) 0 ≡ 46 → lead ≡ take (length lead - 1) lead ++ 46 ∷ []
dot_last lead some e =
    let last : length lead - 1 < length lead = omega arith in
    let count : length lead ≡ suc (length lead - 1) = omega arith in
    sym (take-length lead) ∙ ap (λ n. take n lead) count ∙ take-suc lead (length lead - 1) 0 last
    ∙ ap (λ x. take (length lead - 1) lead ++ x ∷ []) e

dot_is_under : (domain parent lead : List ℕ) → domain ≡ lead ++ parent → 0 < length lead → get_or lead (length lead - 1) 0 ≡ 46
    → is_under domain parent ≡ true
dot_is_under domain parent lead whole some e =
    let before = take (length lead - 1) lead in
    let is : domain ≡ before ++ 46 ∷ parent =
    whole ∙ ap (λ part. part ++ parent) (dot_last lead some e) ∙ append_assoc before (46 ∷ []) parent in
    rw is (under_below before parent)

last_of_below : (before : List ℕ) → get_or (before ++ 46 ∷ []) (length (before ++ 46 ∷ []) - 1) 0 ≡ 46
last_of_below before =
    let at : length (before ++ 46 ∷ []) - 1 ≡ length before = omega (arith, length-append before (46 ∷ [])) in
    rw at (get_or-append_seam before 46 [] 0)

under_has_dot : (domain parent lead : List ℕ) → domain ≡ lead ++ parent → 0 < length lead → (domain ≡ parent) ⊎ IsBelow domain parent
    → get_or lead (length lead - 1) 0 ≡ 46
under_has_dot domain parent lead whole some (inl same) =
    absurd (omega (arith, ap length (sym whole ∙ same), length-append lead parent))
under_has_dot domain parent lead whole some (inr below) =
    let cut : lead ≡ below.before ++ 46 ∷ [] =
    append_cancel_right lead (below.before ++ 46 ∷ []) parent
    (sym whole ∙ below.is ∙ sym (append_assoc below.before (46 ∷ []) parent)) in
    rw cut (last_of_below below.before)

pub under_by_last : (domain parent lead : List ℕ) → domain ≡ lead ++ parent → 0 < length lead
    → nat_eq (get_or lead (length lead - 1) 0) 46 ≡ is_under domain parent
under_by_last domain parent lead whole some =
    same_test (nat_eq (get_or lead (length lead - 1) 0) 46) (is_under domain parent)
    (λ e. dot_is_under domain parent lead whole some (eqb-true (get_or lead (length lead - 1) 0) 46 e))
    (λ under. eq-eqb (get_or lead (length lead - 1) 0) 46 (under_has_dot domain parent lead whole some (under_parts domain parent under)))

-- ---- another end

suffix_under : (domain parent : List ℕ) → (domain ≡ parent) ⊎ IsBelow domain parent
    → bytes_eq (drop (length domain - length parent) domain) parent ≡ true
suffix_under domain parent (inl same) = rw same ((bytes_eq-Decides _ parent).1 (drop_suffix [] parent))
suffix_under domain parent (inr below) =
    let is : domain ≡ (below.before ++ 46 ∷ []) ++ parent = below.is ∙ sym (append_assoc below.before (46 ∷ []) parent) in
    rw is ((bytes_eq-Decides _ parent).1 (drop_suffix (below.before ++ 46 ∷ []) parent))

pub not_under : (domain parent : List ℕ) → bytes_eq (drop (length domain - length parent) domain) parent ≡ false → false ≡ is_under domain parent
not_under domain parent other =
    same_test false (is_under domain parent) (λ e. absurd cc)
    (λ under. sym other ∙ suffix_under domain parent (under_parts domain parent under))

-- ---- the law

by_bytes : (domain parent : List ℕ) → (domain ≡ parent) ⊎ IsBelow domain parent → (bytes_eq domain parent || ends_with nat_eq domain (46 ∷ parent)) ≡ true
by_bytes domain parent (inl same) = or_left (bytes_eq domain parent) (ends_with nat_eq domain (46 ∷ parent)) ((bytes_eq-Decides domain parent).1 same)
by_bytes domain parent (inr below) =
    or_right (bytes_eq domain parent) (ends_with nat_eq domain (46 ∷ parent))
    (rw below.is ((bytes_eq-Decides (46 ∷ parent) _).1 (sym (drop_suffix below.before (46 ∷ parent)))))

under_bytes : (domain parent : List ℕ) (same : Bool) → bytes_eq domain parent ≡ same → (same || ends_with nat_eq domain (46 ∷ parent)) ≡ true
    → is_under domain parent ≡ true
under_bytes domain parent true is e = rw ((bytes_eq-Decides domain parent).0 is) (under_itself parent)
under_bytes domain parent false is e =
    let start = length domain - length (46 ∷ parent) in
    let whole : domain ≡ take start domain ++ 46 ∷ parent =
    sym (take-append-drop start domain)
    ∙ ap (λ back. take start domain ++ back) (sym ((bytes_eq-Decides (46 ∷ parent) (drop start domain)).0 e)) in
    rw whole (under_below (take start domain) parent)

pub is_under_by_bytes : (domain parent : List ℕ) → is_under domain parent ≡ (bytes_eq domain parent || ends_with nat_eq domain (46 ∷ parent))
is_under_by_bytes domain parent =
    same_test (is_under domain parent) (bytes_eq domain parent || ends_with nat_eq domain (46 ∷ parent))
    (λ under. by_bytes domain parent (under_parts domain parent under)) (under_bytes domain parent (bytes_eq domain parent) refl)
