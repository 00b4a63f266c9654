-- Names in groups: what an edit of the fields makes of them, and where the n-th of a name is.
use Rattle.std.proofs.Common.{◌≡◌, ◌≢◌, ℕ, ◌+◌, ◌-◌, ◌<◌, ◌≤◌, ◌==◌, zero, suc, Bool, true, false, ◌&&◌, if◌then◌else◌, List, [], ◌∷◌, ◌++◌, Option, Some, None, length, map, take, get_or, set, replicate, refl, sym, ap, ◌∙◌, arith, inl, inr, length-append}
use Rattle.std.specs.List.{filter, insert, remove, count_by}
use Rattle.std.proofs.lemmas.Bool.{cases_Bool, cases_eq, cases_lt, eq-eqb, ne_eqb, and_from, and_left, and_right}
use Rattle.std.proofs.lemmas.List.{length-set, length-map, length-replicate, take-map, get_or-set_same, get_or-set_other, get_or_append_left, get_or-append_right, get_or-replicate, nil_from_length}
use Rattle.std.proofs.lemmas.List.Sums.{length-filter, count_by-le-length, sum_by-insert, sum_by-remove, sum_by-take-le, get_or-le-sum_by, count_by_more_yes}
use Rattle.milter_field_index.specs.Blocks.{at, count_of}
use Rattle.milter_field_index.specs.Fields.{group_of, member_of, Grouped}
use Rattle.milter_field_index.specs.Occurrence.{later, nth}
use Rattle.milter_field_index.proofs.Occurrences.{nth-same, nth-other}
use Rattle.milter_field_index.proofs.Edits.{map-insert, map-remove, count-map, nth-map, nth-same_test, filter-insert_same, filter-insert_other, filter-remove_same, filter-remove_other}

-- the test of those in a group
abbrev pub in_group : ℕ → ℕ → Bool
in_group group name = group_of name == group

abbrev pub members : ℕ → List ℕ → List ℕ
members group names = map (λ name. member_of name) (filter (in_group group) names)

-- ---- a name is its group and its number there

different : (x name : ℕ) → (x ≡ name → ⊥) → ((group_of x == group_of name) && (member_of x == member_of name)) ≡ false
different x name ne =
    elim (cases_eq (group_of x) (group_of name)) [
      | inl g ↦
          elim (cases_eq (member_of x) (member_of name)) [
            | inl m ↦ absurd (ne (omega (arith, g, m)))
            | inr m ↦ and_right (group_of x == group_of name) (member_of x == member_of name)
                (ne_eqb (member_of x) (member_of name) m)
          ]
      | inr g ↦ and_left (group_of x == group_of name) (member_of x == member_of name)
          (ne_eqb (group_of x) (group_of name) g)
    ]

pub same-name : (x name : ℕ) → (x == name) ≡ ((group_of x == group_of name) && (member_of x == member_of name))
same-name x name =
    elim (cases_eq x name) [
      | inl e ↦
          eq-eqb x name e
          ∙ sym (and_from (group_of x == group_of name) (member_of x == member_of name)
          (eq-eqb (group_of x) (group_of name) (ap (λ n. group_of n) e))
          (eq-eqb (member_of x) (member_of name) (ap (λ n. member_of n) e)))
      | inr ne ↦ ne_eqb x name ne ∙ sym (different x name ne)
    ]

-- ---- the n-th of a name

-- the position in a list, by the position among some of it
abbrev pub nth_of : {X : Type 0} → (X → Bool) → List X → Option ℕ → Option ℕ
nth_of test xs None = None
nth_of test xs (Some number) = nth test number xs

later-nth_of : {X : Type 0} (g : X → Bool) (x : X) (xs : List X) (found : Option ℕ) → g x ≡ false
    → later (nth_of g xs found) ≡ nth_of g (x ∷ xs) found
later-nth_of g x xs None e = refl
later-nth_of g x xs (Some n) e = sym (nth-other g n x xs e)

later-nth_of_same : {X : Type 0} (g : X → Bool) (x : X) (xs : List X) (found : Option ℕ) → g x ≡ true
    → later (nth_of g xs found) ≡ nth_of g (x ∷ xs) (later found)
later-nth_of_same g x xs None e = refl
later-nth_of_same g x xs (Some n) e = sym (nth-same g n x xs e)

-- one of two tests: its number among those that pass the first, and their position
pub nth-both : {X : Type 0} (g s : X → Bool) (j : ℕ) (xs : List X)
    → nth (λ x. g x && s x) j xs ≡ nth_of g xs (nth s j (filter g xs))
nth-both g s j [] = refl
nth-both {X} g s zero (x ∷ xs) =
    let ih = nth-both g s zero xs in
    elim (cases_Bool (g x)) [
      | inl same ↦
          elim (cases_Bool (s x)) [
            | inl e ↦ rw (same, e) (rw (same) refl)
            | inr e ↦ rw (same, e) (ap later ih ∙ later-nth_of_same g x xs (nth s zero (filter g xs)) same)
          ]
      | inr other ↦ rw other (ap later ih ∙ later-nth_of g x xs (nth s zero (filter g xs)) other)
    ]
nth-both {X} g s (suc j) (x ∷ xs) =
    elim (cases_Bool (g x)) [
      | inl same ↦
          elim (cases_Bool (s x)) [
            | inl e ↦ rw (same, e) (ap later (nth-both g s j xs)
                ∙ later-nth_of_same g x xs (nth s j (filter g xs)) same)
            | inr e ↦ rw (same, e) (ap later (nth-both g s (suc j) xs)
                ∙ later-nth_of_same g x xs (nth s (suc j) (filter g xs)) same)
          ]
      | inr other ↦ rw other (ap later (nth-both g s (suc j) xs)
          ∙ later-nth_of g x xs (nth s (suc j) (filter g xs)) other)
    ]

-- in the group, and then in the top
pub nth-grouped : (top names : List ℕ) (groups : List (List ℕ)) (name number : ℕ) → Grouped top groups names
    → group_of name < length groups → nth (λ x. x == name) number names ≡ nth_of (λ x. x == group_of name) top
    (nth (λ x. x == member_of name) number (at groups (group_of name)))
nth-grouped top names groups name number grouped low =
    let g = group_of name in
    let m = member_of name in
    let inner = nth (λ x. x == m) number (at groups g) in
    let found : nth (λ x. member_of x == m) number (filter (in_group g) names) ≡ inner =
    sym (nth-map (λ x. x == m) (λ x. member_of x) number (filter (in_group g) names))
    ∙ ap (λ l. nth (λ x. x == m) number l) (sym (grouped.each g low)) in
    nth-same_test (λ x. x == name) (λ x. (group_of x == g) && (member_of x == m)) number names (λ x. same-name x name)
    ∙ nth-both (in_group g) (λ x. member_of x == m) number names
    ∙ ap (λ r. nth_of (in_group g) names r) found
    ∙ in_top g inner
  where
    in_top : (g : ℕ) (r : Option ℕ) → nth_of (in_group g) names r ≡ nth_of (λ x. x == g) top r
    in_top g None = refl
    in_top g (Some n) = sym (nth-map (λ x. x == g) (λ x. group_of x) n names)
        ∙ ap (λ l. nth (λ x. x == g) n l) (sym grouped.whole)

-- ---- how many of a group come before a position

pub rank-grouped : (top names : List ℕ) (groups : List (List ℕ)) (g k : ℕ) → Grouped top groups names
    → count_of g (take k top) ≡ count_by (in_group g) (take k names)
rank-grouped top names groups g k grouped =
    ap (λ l. count_of g (take k l)) grouped.whole
    ∙ ap (λ l. count_of g l) (take-map (λ (n : ℕ). group_of n) k names)
    ∙ count-map (λ x. x == g) (λ (n : ℕ). group_of n) (take k names)

pub group-length : (top names : List ℕ) (groups : List (List ℕ)) (g : ℕ) → Grouped top groups names
    → g < length groups → length (at groups g) ≡ count_by (in_group g) names
group-length top names groups g grouped low =
    ap length (grouped.each g low) ∙ length-map (filter (in_group g) names) (λ (n : ℕ). member_of n)
    ∙ length-filter (in_group g) names

pub group-few : (top names : List ℕ) (groups : List (List ℕ)) (g : ℕ) → Grouped top groups names → g < length groups
    → length (at groups g) ≤ length names
group-few top names groups g grouped low = omega
    (arith, group-length top names groups g grouped low, count_by-le-length (in_group g) names)

pub rank-within : (top names : List ℕ) (groups : List (List ℕ)) (g k : ℕ) → Grouped top groups names
    → g < length groups → count_of g (take k top) ≤ length (at groups g)
rank-within top names groups g k grouped low =
    omega (
      arith,
      rank-grouped top names groups g k grouped,
      group-length top names groups g grouped low,
      sum_by-take-le (λ x. if in_group g x then 1 else 0) names k,
    )

pub has_group : (top names : List ℕ) (groups : List (List ℕ)) (k : ℕ) → Grouped top groups names → k < length names
    → group_of (get_or names k 0) < length groups
has_group top names groups k grouped within =
    let g = group_of (get_or names k 0) in
    let one : ◌≡◌ {A = ℕ} (if in_group g (get_or names k 0) then 1 else 0) 1 =
    ap (λ (b : Bool). if b then 1 else 0) (eq-eqb g g refl) in
    elim (cases_lt g (length groups)) [
      | inl below ↦ below
      | inr past ↦ absurd (omega (
        arith,
        grouped.others g past,
        get_or-le-sum_by (λ x. if in_group g x then 1 else 0)
            names k 0 within,
        one,
      ))
    ]

pub rank-below : (top names : List ℕ) (groups : List (List ℕ)) (k : ℕ) → Grouped top groups names → k < length names
    → count_of (group_of (get_or names k 0)) (take k top) < length (at groups (group_of (get_or names k 0)))
rank-below top names groups k grouped within =
    let g = group_of (get_or names k 0) in
    let low = has_group top names groups k grouped within in
    omega (
      arith,
      rank-grouped top names groups g k grouped,
      group-length top names groups g grouped low,
      count_by_more_yes (in_group g) names k 0 within (eq-eqb g g refl),
      sum_by-take-le (λ x. if in_group g x then 1 else 0) names (k + 1),
    )

-- ---- edits

pub grouped-insert : (top names : List ℕ) (groups : List (List ℕ)) (k name : ℕ) → Grouped top groups names
    → group_of name < length groups → Grouped (insert top k (group_of name))
    (set groups (group_of name) (insert (at groups (group_of name)) (count_of (group_of name) (take k top))
    (member_of name))) (insert names k name)
grouped-insert top names groups k name grouped low =
    let g = group_of name in
    let r = count_of g (take k top) in
    let new = insert (at groups g) r (member_of name) in
    let len : length (set groups g new) ≡ length groups = length-set groups g new in
    record {
      whole = ap (λ l. insert l k g) grouped.whole ∙ sym (map-insert (λ n. group_of n) names k name);
      each =
          λ c h.
          elim (cases_eq c g) [
            | inl same ↦
                ap (λ i. get_or (set groups g new) i []) same ∙ get_or-set_same groups g new [] low
                ∙ ap (λ l. insert l r (member_of name)) (grouped.each g low)
                ∙ ap (λ i. insert (members g names) i (member_of name)) (rank-grouped top names groups g k grouped)
                ∙ sym (map-insert (λ n. member_of n) (filter (in_group g) names)
                (count_by (in_group g) (take k names)) name)
                ∙ ap (map (λ n. member_of n)) (sym (filter-insert_same (in_group g) names k name (eq-eqb g g refl)))
                ∙ ap (λ i. members i (insert names k name)) (sym same)
            | inr other ↦
                get_or-set_other groups g c new [] other
                ∙ grouped.each c (omega (arith, h, len))
                ∙ ap (map (λ n. member_of n))
                (sym (filter-insert_other (in_group c) names k name (ne_eqb g c (λ e. other (sym e)))))
          ];
      others =
          λ c h.
          let past : length groups ≤ c = omega (arith, h, len) in
          let other : g ≢ c = omega (arith, past, low) in
          let none : ◌≡◌ {A = ℕ} (if in_group c name then 1 else 0) 0 =
          ap (λ (b : Bool). if b then 1 else 0) (ne_eqb g c other) in
          omega (arith, sum_by-insert (λ x. if in_group c x then 1 else 0) names k name, none, grouped.others c past);
    }

pub grouped-remove : (top names : List ℕ) (groups : List (List ℕ)) (k name : ℕ) → Grouped top groups names
    → k < length names → name ≡ get_or names k 0 → group_of name < length groups
    → Grouped (remove top k) (set groups (group_of name)
    (remove (at groups (group_of name)) (count_of (group_of name) (take k top)))) (remove names k)
grouped-remove top names groups k name grouped within is low =
    let g = group_of name in
    let r = count_of g (take k top) in
    let new = remove (at groups g) r in
    let len : length (set groups g new) ≡ length groups = length-set groups g new in
    let here : in_group g (get_or names k 0) ≡ true =
    eq-eqb (group_of (get_or names k 0)) g (ap (λ n. group_of n) (sym is)) in
    record {
      whole = ap (λ l. remove l k) grouped.whole ∙ sym (map-remove (λ n. group_of n) names k);
      each =
          λ c h.
          elim (cases_eq c g) [
            | inl same ↦
                ap (λ i. get_or (set groups g new) i []) same ∙ get_or-set_same groups g new [] low
                ∙ ap (λ l. remove l r) (grouped.each g low)
                ∙ ap (λ i. remove (members g names) i) (rank-grouped top names groups g k grouped)
                ∙ sym (map-remove (λ n. member_of n) (filter (in_group g) names)
                (count_by (in_group g) (take k names)))
                ∙ ap (map (λ n. member_of n)) (sym (filter-remove_same (in_group g) names k 0 within here))
                ∙ ap (λ i. members i (remove names k)) (sym same)
            | inr other ↦
                let elsewhere : in_group c (get_or names k 0) ≡ false =
                ne_eqb (group_of (get_or names k 0)) c (λ e. other (sym e ∙ ap (λ n. group_of n) (sym is))) in
                get_or-set_other groups g c new [] other
                ∙ grouped.each c (omega (arith, h, len))
                ∙ ap (map (λ n. member_of n)) (sym (filter-remove_other (in_group c) names k 0 within elsewhere))
          ];
      others =
          λ c h.
          let past : length groups ≤ c = omega (arith, h, len) in
          omega (arith, sum_by-remove (λ x. if in_group c x then 1 else 0) names k 0 within, grouped.others c past);
    }

pub grouped-grow : (top names : List ℕ) (groups new : List (List ℕ)) (k : ℕ) → Grouped top groups names
    → new ≡ groups ++ replicate k [] → Grouped top new names
grouped-grow top names groups new k grouped is =
    let more : List (List ℕ) = replicate k [] in
    let len : length new ≡ length groups + k = ap length is ∙ length-append groups more
    ∙ ap (λ n. length groups + n) (length-replicate k []) in
    record {
      whole = grouped.whole;
      each =
          λ c h.
          elim (cases_lt c (length groups)) [
            | inl below ↦ ap (λ l. at l c) is ∙ get_or_append_left groups more [] c below ∙ grouped.each c below
            | inr past ↦
                let inside : c - length groups < k = omega (arith, h, len, past) in
                let none : filter (in_group c) names ≡ [] =
                nil_from_length (filter (in_group c) names)
                (length-filter (in_group c) names ∙ grouped.others c past) in
                ap (λ l. at l c) is
                ∙ get_or-append_right groups more (length groups) c [] refl past
                ∙ get_or-replicate k (c - length groups) [] [] inside
                ∙ ap (map (λ n. member_of n)) (sym none)
          ];
      others = λ c h. grouped.others c (omega (arith, h, len));
    }

-- a name without a group is nowhere
pub nth-ungrouped : (top names : List ℕ) (groups : List (List ℕ)) (name number : ℕ) → Grouped top groups names
    → length groups ≤ group_of name → nth (λ x. x == name) number names ≡ None
nth-ungrouped top names groups name number grouped past =
    let g = group_of name in
    let s : ℕ → Bool = λ x. member_of x == member_of name in
    let none : filter (in_group g) names ≡ [] =
    nil_from_length (filter (in_group g) names) (length-filter (in_group g) names ∙ grouped.others g past) in
    nth-same_test (λ x. x == name) (λ x. in_group g x && s x) number names (λ x. same-name x name)
    ∙ nth-both (in_group g) s number names
    ∙ ap (λ l. nth_of (in_group g) names (nth s number l)) none
