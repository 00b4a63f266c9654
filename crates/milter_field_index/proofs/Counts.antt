-- Rows that count the numbers of blocks, when the blocks change.
use Rattle.std.proofs.Common.{◌≡◌, ◌≢◌, ℕ, ◌+◌, ◌-◌, ◌<◌, ◌≤◌, ◌==◌, Bool, cond, List, [], ◌∷◌, ◌++◌, length, take, get_or, set, replicate, refl, sym, ap, ◌∙◌, arith, inl, inr, length-append}
use Rattle.std.specs.List.{insert, remove, sum}
use Rattle.std.proofs.lemmas.Bool.{cases_eq, cases_lt, eq-eqb, ne_eqb}
use Rattle.std.proofs.lemmas.List.{length-set, length-map, length-replicate, get_or-map, map-set, set-get_or, get_or-set_same, get_or-set_other, get_or_append_left, get_or-append_right, get_or-replicate}
use Rattle.std.proofs.lemmas.List.Sums.{sum_by-insert, sum_by-remove, sum_by-cons, count_by-le-length, get_or-le-sum_by, sum_by-take-le}
use Rattle.milter_field_index.specs.Blocks.{joined, at, count_of, counts, halved, insert_in, remove_in}
use Rattle.milter_field_index.specs.Counted.{Counted}
use Rattle.milter_field_index.proofs.Joins.{map-halved, joined-halved}
use Rattle.milter_field_index.proofs.Occurrences.{count-total}

-- ---- what a row says

pub row-at : (rows bs : List (List ℕ)) (s t : ℕ) → Counted rows bs → s < length rows → t < length bs
    → get_or (at rows s) t 0 ≡ count_of s (at bs t)
row-at rows bs s t counted low within =
    ap (λ l. get_or l t 0) (counted.each s low) ∙ get_or-map (λ (b : List ℕ). count_of s b) bs t [] 0 within

pub row-length : (rows bs : List (List ℕ)) (s : ℕ) → Counted rows bs → s < length rows
    → length (at rows s) ≡ length bs
row-length rows bs s counted low = ap length (counted.each s low) ∙ length-map bs (λ (b : List ℕ). count_of s b)

pub row-sum : (rows bs : List (List ℕ)) (s : ℕ) → Counted rows bs → s < length rows
    → sum (at rows s) ≡ count_of s (joined bs)
row-sum rows bs s counted low = ap sum (counted.each s low) ∙ count-total s bs

pub row-few : (rows bs : List (List ℕ)) (s : ℕ) → Counted rows bs → s < length rows
    → sum (at rows s) ≤ length (joined bs)
row-few rows bs s counted low = omega (
  arith,
  row-sum rows bs s counted low,
  count_by-le-length (λ (n : ℕ). n == s)
      (joined bs),
)

-- what is there is counted
pub count-read : (xs : List ℕ) (i : ℕ) → i < length xs → 1 ≤ count_of (get_or xs i 0) xs
count-read xs i within =
    let s = get_or xs i 0 in
    let one : ◌≡◌ {A = ℕ} (cond (s == s) 1 0) 1 = ap (λ (b : Bool). cond {A = ℕ} b 1 0) (eq-eqb s s refl) in
    omega (arith, get_or-le-sum_by (λ (x : ℕ). cond (x == s) 1 0) xs i 0 within, one)

pub count-in_block : (bs : List (List ℕ)) (s t : ℕ) → t < length bs → count_of s (at bs t) ≤ count_of s (joined bs)
count-in_block bs s t within =
    let f = λ (b : List ℕ). count_of s b in
    let inside : t < length (counts s bs) = omega (arith, within, length-map bs f) in
    omega (arith, get_or-le-sum_by (λ x. x) (counts s bs) t 0 inside, get_or-map f bs t [] 0 within, count-total s bs)

pub has_row : (rows bs : List (List ℕ)) (t o : ℕ) → Counted rows bs → t < length bs → o < length (at bs t)
    → get_or (at bs t) o 0 < length rows
has_row rows bs t o counted within low =
    let s = get_or (at bs t) o 0 in
    elim (cases_lt s (length rows)) [
      | inl below ↦ below
      | inr past ↦ absurd (omega (
        arith,
        count-read (at bs t) o low,
        count-in_block bs s t within,
        counted.others s
            past,
      ))
    ]

-- ---- a block with one symbol more or fewer

counts-set : (bs : List (List ℕ)) (c t : ℕ) (new : List ℕ) → t < length bs → count_of c new ≡ count_of c (at bs t)
    → counts c (set bs t new) ≡ counts c bs
counts-set bs c t new within same =
    let f = λ (b : List ℕ). count_of c b in
    map-set f bs t new
    ∙ ap (λ n. set (counts c bs) t n) (same ∙ sym (get_or-map f bs t [] 0 within))
    ∙ set-get_or (counts c bs) t 0

pub counted-set : (rows bs : List (List ℕ)) (s t n : ℕ) (new : List ℕ) → Counted rows bs → t < length bs
    → s < length rows → n ≡ count_of s new → ((c : ℕ) → c ≢ s → count_of c new ≡ count_of c (at bs t))
    → Counted (set rows s (set (at rows s) t n)) (set bs t new)
counted-set rows bs s t n new counted within low this others =
    let row = set (at rows s) t n in
    let len : length (set rows s row) ≡ length rows = length-set rows s row in
    record {
      each =
          λ c h.
          let inside : c < length rows = omega (arith, h, len) in
          elim (cases_eq c s) [
            | inl same ↦
                ap (λ k. get_or (set rows s row) k []) same ∙ get_or-set_same rows s row [] low
                ∙ ap (λ l. set l t n) (counted.each s low)
                ∙ ap (λ k. set (counts s bs) t k) this
                ∙ sym (map-set (λ (b : List ℕ). count_of s b) bs t new)
                ∙ ap (λ k. counts k (set bs t new)) (sym same)
            | inr other ↦
                get_or-set_other rows s c row [] other ∙ counted.each c inside
                ∙ sym (counts-set bs c t new within (others c other))
          ];
      others =
          λ c h.
          let past : length rows ≤ c = omega (arith, h, len) in
          let other : c ≢ s = omega (arith, past, low) in
          sym (count-total c (set bs t new)) ∙ ap sum (counts-set bs c t new within (others c other))
          ∙ count-total c bs ∙ counted.others c past;
    }

count-insert_same : (xs : List ℕ) (i s : ℕ) → count_of s (insert xs i s) ≡ count_of s xs + 1
count-insert_same xs i s =
    sum_by-insert (λ (x : ℕ). cond (x == s) 1 0) xs i s
    ∙ ap (λ (b : Bool). count_of s xs + cond b 1 0) (eq-eqb s s refl)

pub count-insert_other : (xs : List ℕ) (i s c : ℕ) → c ≢ s → count_of c (insert xs i s) ≡ count_of c xs
count-insert_other xs i s c other =
    let none : ◌≡◌ {A = ℕ} (cond (s == c) 1 0) 0 =
    ap (λ (b : Bool). cond {A = ℕ} b 1 0) (ne_eqb s c (λ e. other (sym e))) in
    omega (arith, sum_by-insert (λ (x : ℕ). cond (x == c) 1 0) xs i s, none)

count-remove_same : (xs : List ℕ) (i s : ℕ) → i < length xs → s ≡ get_or xs i 0
    → count_of s (remove xs i) + 1 ≡ count_of s xs
count-remove_same xs i s within is =
    let one : ◌≡◌ {A = ℕ} (cond (get_or xs i 0 == s) 1 0) 1 =
    ap (λ (b : Bool). cond {A = ℕ} b 1 0) (eq-eqb (get_or xs i 0) s (sym is)) in
    omega (arith, sum_by-remove (λ (x : ℕ). cond (x == s) 1 0) xs i 0 within, one)

count-remove_other : (xs : List ℕ) (i s c : ℕ) → i < length xs → s ≡ get_or xs i 0 → c ≢ s
    → count_of c (remove xs i) ≡ count_of c xs
count-remove_other xs i s c within is other =
    let none : ◌≡◌ {A = ℕ} (cond (get_or xs i 0 == c) 1 0) 0 =
    ap (λ (b : Bool). cond {A = ℕ} b 1 0) (ne_eqb (get_or xs i 0) c (λ e. other (sym (is ∙ e)))) in
    omega (arith, sum_by-remove (λ (x : ℕ). cond (x == c) 1 0) xs i 0 within, none)

pub counted-insert : (rows bs : List (List ℕ)) (s t o : ℕ) → Counted rows bs → t < length bs → s < length rows
    → Counted (set rows s (set (at rows s) t (get_or (at rows s) t 0 + 1))) (insert_in bs t o s)
counted-insert rows bs s t o counted within low =
    let this : get_or (at rows s) t 0 + 1 ≡ count_of s (insert (at bs t) o s) =
    omega (arith, row-at rows bs s t counted low within, count-insert_same (at bs t) o s) in
    counted-set rows bs s t (get_or (at rows s) t 0 + 1) (insert (at bs t) o s) counted within low this
    (λ c other. count-insert_other (at bs t) o s c other)

pub counted-remove : (rows bs : List (List ℕ)) (s t o : ℕ) → Counted rows bs → t < length bs → s < length rows
    → o < length (at bs t) → s ≡ get_or (at bs t) o 0
    → Counted (set rows s (set (at rows s) t (get_or (at rows s) t 0 - 1))) (remove_in bs t o)
counted-remove rows bs s t o counted within low inside is =
    let this : get_or (at rows s) t 0 - 1 ≡ count_of s (remove (at bs t) o) =
    omega (arith, row-at rows bs s t counted low within, count-remove_same (at bs t) o s inside is) in
    counted-set rows bs s t (get_or (at rows s) t 0 - 1) (remove (at bs t) o) counted within low this
    (λ c other. count-remove_other (at bs t) o s c inside is other)

-- ---- two blocks of one, and more rows

pub counted-split : (rows new bs : List (List ℕ)) (t : ℕ) (low high : List ℕ) → Counted rows bs → t < length bs
    → low ++ high ≡ at bs t → length new ≡ length rows
    → ((c : ℕ) → c < length rows → at new c ≡ halved t (count_of c low) (count_of c high) (at rows c))
    → Counted new (halved t low high bs)
counted-split rows new bs t low high counted within whole len each =
    record {
      each =
          λ c h.
          let inside : c < length rows = omega (arith, h, len) in
          each c inside
          ∙ ap (λ l. halved t (count_of c low) (count_of c high) l) (counted.each c inside)
          ∙ sym (map-halved (λ (b : List ℕ). count_of c b) bs t low high);
      others =
          λ c h.
          let past : length rows ≤ c = omega (arith, h, len) in
          ap (λ l. count_of c l) (joined-halved bs t low high within whole) ∙ counted.others c past;
    }

zeros_from_sum : (xs : List ℕ) → sum xs ≡ 0 → xs ≡ replicate (length xs) 0
zeros_from_sum [] e = refl
zeros_from_sum (x ∷ xs) e =
    let both = sum_by-cons (λ (y : ℕ). y) x xs in
    let first : x ≡ 0 = omega (arith, both, e) in
    let rest : sum xs ≡ 0 = omega (arith, both, e) in
    ap (λ y. y ∷ xs) first ∙ ap (λ l. 0 ∷ l) (zeros_from_sum xs rest)

pub counted-grow : (rows new bs : List (List ℕ)) (k : ℕ) → Counted rows bs
    → new ≡ rows ++ replicate k (replicate (length bs) 0) → Counted new bs
counted-grow rows new bs k counted is =
    let more = replicate k (replicate (length bs) 0) in
    let len : length new ≡ length rows + k = ap length is ∙ length-append rows more
    ∙ ap (λ n. length rows + n) (length-replicate k (replicate (length bs) 0)) in
    record {
      each =
          λ c h.
          elim (cases_lt c (length rows)) [
            | inl below ↦ ap (λ l. at l c) is ∙ get_or_append_left rows more [] c below ∙ counted.each c below
            | inr past ↦
                let inside : c - length rows < k = omega (arith, h, len, past) in
                let none : sum (counts c bs) ≡ 0 = count-total c bs ∙ counted.others c past in
                ap (λ l. at l c) is
                ∙ get_or-append_right rows more (length rows) c [] refl past
                ∙ get_or-replicate k (c - length rows) (replicate (length bs) 0) [] inside
                ∙ ap (λ n. replicate n 0) (sym (length-map bs (λ (b : List ℕ). count_of c b)))
                ∙ sym (zeros_from_sum (counts c bs) none)
          ];
      others = λ c h. counted.others c (omega (arith, h, len));
    }

-- ---- without a row there is nothing to count

pub count-past : (rows bs : List (List ℕ)) (s k : ℕ) → Counted rows bs → length rows ≤ s
    → count_of s (take k (joined bs)) ≡ 0
count-past rows bs s k counted past = omega
    (arith, counted.others s past, sum_by-take-le (λ (x : ℕ). cond (x == s) 1 0) (joined bs) k)
