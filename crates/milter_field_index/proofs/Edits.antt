-- Insertions and deletions, among those that pass a test, and under a map.
use Rattle.std.proofs.Common.{◌≡◌, ℕ, ◌+◌, ◌<◌, zero, suc, Bool, true, false, if◌then◌else◌, List, [], ◌∷◌, ◌++◌, Option, Some, is_some, length, map, take, drop, get_or, refl, sym, ap, ◌∙◌, add-one}
use Rattle.std.specs.List.{filter, insert, remove, count_by, slice_get}
use Rattle.std.proofs.lemmas.List.{take-append-drop, take_at, drop_at, drop_more, drop-drop, take-map, drop-map, map-append}
use Rattle.std.proofs.lemmas.List.Elements.{filter-append}
use Rattle.std.proofs.lemmas.List.Sums.{length-filter, sum_by-cons}
use Rattle.std.proofs.lemmas.Option.{slice_get-get_or}
use Rattle.milter_field_index.specs.Occurrence.{later, nth}

-- ---- under a map

pub map-insert : {X Y : Type 0} (f : X → Y) (xs : List X) (k : ℕ) (x : X)
    → map f (insert xs k x) ≡ insert (map f xs) k (f x)
map-insert f xs k x =
    map-append f (take k xs) (x ∷ drop k xs)
    ∙ ap (λ l. l ++ f x ∷ map f (drop k xs)) (sym (take-map f k xs))
    ∙ ap (λ l. take k (map f xs) ++ f x ∷ l) (sym (drop-map f k xs))

pub map-remove : {X Y : Type 0} (f : X → Y) (xs : List X) (k : ℕ) → map f (remove xs k) ≡ remove (map f xs) k
map-remove f xs k =
    map-append f (take k xs) (drop (suc k) xs)
    ∙ ap (λ l. l ++ map f (drop (suc k) xs)) (sym (take-map f k xs))
    ∙ ap (λ l. take k (map f xs) ++ l) (sym (drop-map f (suc k) xs))

pub count-map : {X Y : Type 0} (test : Y → Bool) (f : X → Y) (xs : List X)
    → count_by test (map f xs) ≡ count_by (λ x. test (f x)) xs
count-map test f [] = refl
count-map test f (x ∷ xs) =
    sum_by-cons (λ y. if test y then 1 else 0) (f x) (map f xs)
    ∙ ap (λ n. (if test (f x) then 1 else 0) + n) (count-map test f xs)
    ∙ sym (sum_by-cons (λ y. if test (f y) then 1 else 0) x xs)

pub nth-map : {X Y : Type 0} (test : Y → Bool) (f : X → Y) (j : ℕ) (xs : List X)
    → nth test j (map f xs) ≡ nth (λ x. test (f x)) j xs
nth-map test f j [] = refl
nth-map test f zero (x ∷ xs) = ap (λ r. if test (f x) then Some zero else later r) (nth-map test f zero xs)
nth-map test f (suc j) (x ∷ xs) =
    ap (λ r. if test (f x) then later r else later (nth test (suc j) (map f xs))) (nth-map test f j xs)
    ∙ ap (λ r. if test (f x) then later (nth (λ y. test (f y)) j xs) else later r) (nth-map test f (suc j) xs)

-- by the same test
pub nth-same_test : {X : Type 0} (p q : X → Bool) (j : ℕ) (xs : List X) → ((x : X) → p x ≡ q x)
    → nth p j xs ≡ nth q j xs
nth-same_test p q j [] same = refl
nth-same_test p q zero (x ∷ xs) same =
    ap (λ r. if p x then Some zero else later r) (nth-same_test p q zero xs same)
    ∙ ap (λ (b : Bool). if b then Some zero else later (nth q zero xs)) (same x)
nth-same_test p q (suc j) (x ∷ xs) same =
    ap (λ r. if p x then later r else later (nth p (suc j) xs)) (nth-same_test p q j xs same)
    ∙ ap (λ r. if p x then later (nth q j xs) else later r) (nth-same_test p q (suc j) xs same)
    ∙ ap (λ (b : Bool). if b then later (nth q j xs) else later (nth q (suc j) xs)) (same x)

-- ---- among those that pass

removed-at : {X : Type 0} (xs ys : List X) (y : X) (n : ℕ) → length xs ≡ n → remove (xs ++ y ∷ ys) n ≡ xs ++ ys
removed-at xs ys y n e =
    ap (λ l. l ++ drop (suc n) (xs ++ y ∷ ys)) (take_at xs (y ∷ ys) n e)
    ∙ ap (λ l. xs ++ l) (ap (λ i. drop i (xs ++ y ∷ ys)) (sym (add-one n)) ∙ sym (drop-drop 1 n (xs ++ y ∷ ys))
    ∙ ap (drop 1) (drop_at xs (y ∷ ys) n e))

pub filter-insert_same : {X : Type 0} (g : X → Bool) (xs : List X) (k : ℕ) (x : X) → g x ≡ true
    → filter g (insert xs k x) ≡ insert (filter g xs) (count_by g (take k xs)) x
filter-insert_same g xs k x e =
    let before = filter g (take k xs) in
    let after = filter g (drop k xs) in
    let whole : filter g xs ≡ before ++ after = ap (filter g) (sym (take-append-drop k xs))
    ∙ filter-append g (take k xs) (drop k xs) in
    let n = length-filter g (take k xs) in
    let new : filter g (x ∷ drop k xs) ≡ x ∷ after = rw e refl in
    filter-append g (take k xs) (x ∷ drop k xs)
    ∙ ap (λ l. before ++ l) new
    ∙ sym (ap (λ l. insert l (count_by g (take k xs)) x) whole
    ∙ ap (λ l. l ++ x ∷ drop (count_by g (take k xs)) (before ++ after))
    (take_at before after (count_by g (take k xs)) n)
    ∙ ap (λ l. before ++ x ∷ l) (drop_at before after (count_by g (take k xs)) n))

pub filter-insert_other : {X : Type 0} (g : X → Bool) (xs : List X) (k : ℕ) (x : X) → g x ≡ false
    → filter g (insert xs k x) ≡ filter g xs
filter-insert_other g xs k x e =
    let new : filter g (x ∷ drop k xs) ≡ filter g (drop k xs) = rw e refl in
    filter-append g (take k xs) (x ∷ drop k xs)
    ∙ ap (λ l. filter g (take k xs) ++ l) new
    ∙ sym (filter-append g (take k xs) (drop k xs)) ∙ ap (filter g) (take-append-drop k xs)

pub filter-remove_same : {X : Type 0} (g : X → Bool) (xs : List X) (k : ℕ) (d : X) → k < length xs
    → g (get_or xs k d) ≡ true → filter g (remove xs k) ≡ remove (filter g xs) (count_by g (take k xs))
filter-remove_same g xs k d within e =
    let before = filter g (take k xs) in
    let after = filter g (drop (k + 1) xs) in
    let n = length-filter g (take k xs) in
    let new : filter g (get_or xs k d ∷ drop (k + 1) xs) ≡ get_or xs k d ∷ after = rw e refl in
    let whole : filter g xs ≡ before ++ get_or xs k d ∷ after =
    ap (filter g) (sym (take-append-drop k xs)) ∙ filter-append g (take k xs) (drop k xs)
    ∙ ap (λ l. before ++ filter g l) (drop_more xs k d within) ∙ ap (λ l. before ++ l) new in
    filter-append g (take k xs) (drop (suc k) xs)
    ∙ ap (λ i. before ++ filter g (drop i xs)) (sym (add-one k))
    ∙ sym (ap (λ l. remove l (count_by g (take k xs))) whole
    ∙ removed-at before after (get_or xs k d) (count_by g (take k xs)) n)

pub filter-remove_other : {X : Type 0} (g : X → Bool) (xs : List X) (k : ℕ) (d : X) → k < length xs
    → g (get_or xs k d) ≡ false → filter g (remove xs k) ≡ filter g xs
filter-remove_other g xs k d within e =
    let new : filter g (get_or xs k d ∷ drop (k + 1) xs) ≡ filter g (drop (k + 1) xs) = rw e refl in
    filter-append g (take k xs) (drop (suc k) xs)
    ∙ ap (λ i. filter g (take k xs) ++ filter g (drop i xs)) (sym (add-one k))
    ∙ ap (λ l. filter g (take k xs) ++ l) (sym new)
    ∙ ap (λ l. filter g (take k xs) ++ filter g l) (sym (drop_more xs k d within))
    ∙ sym (filter-append g (take k xs) (drop k xs)) ∙ ap (filter g) (take-append-drop k xs)

-- ---- a deletion that finds one

pub removed-some : (xs new : List ℕ) (k : ℕ) (result : Option ℕ) → k < length xs → result ≡ slice_get xs k
    → new ≡ (if is_some result then remove xs k else xs) → new ≡ remove xs k
removed-some xs new k result within is rest =
    let some : is_some result ≡ true = ap is_some (is ∙ slice_get-get_or xs k 0 within) in
    rest ∙ ap (λ (b : Bool). if b then remove xs k else xs) some
