-- Lists of `Vec`s as lists of lists, and the lengths of blocks.
use Rattle.std.proofs.Common.{◌≡◌, ℕ, ◌+◌, ◌-◌, ◌^◌, ◌<◌, ◌≤◌, List, [], ◌∷◌, ◌++◌, Vec, Global, length, map, take, drop, get_or, set, replicate, sym, ap, subst, ◌∙◌, arith, append_assoc, length-append, length-take, length-drop}
use Rattle.std.specs.List.{insert, remove, sum}
use Rattle.std.proofs.lemmas.List.{length-set, length-map, get_or-map, get_or_default, map-set, set-get_or, map_push, replicate_more, length_push, take-append-drop, take_all, take_more}
use Rattle.std.proofs.lemmas.List.Edits.{length-insert, length-remove, get_or-insert_below}
use Rattle.std.proofs.lemmas.List.Sums.{sum_by-set, get_or-le-sum_by, sum_by-append, sum_by-cons}
use Rattle.milter_field_index.specs.Blocks.{joined, lengths, at, halved, insert_in, remove_in, IsPlace, Measured}
use Rattle.milter_field_index.proofs.Joins.{total, map-halved, halved-set, joined-halved}

abbrev pub contents : List (Vec ℕ Global) → List (List ℕ)
contents = map (λ b. b.items)

-- ---- lists of `Vec`s

pub below : (bs : List (Vec ℕ Global)) (ys : List (List ℕ)) (t : ℕ) → contents bs ≡ ys → t < length ys → t < length bs
below bs ys t e within = omega (arith, ap length e, length-map bs (λ (b : Vec ℕ Global). b.items), within)

-- what a read gives
pub read-at : (bs : List (Vec ℕ Global)) (ys : List (List ℕ)) (t : ℕ) (b : Vec ℕ Global) → contents bs ≡ ys
    → t < length ys → b ≡ get_or bs t b → b.items ≡ at ys t
read-at bs ys t b e within is =
    ap (λ (v : Vec ℕ Global). v.items) is
    ∙ sym (get_or-map (λ (v : Vec ℕ Global). v.items) bs t b [] (below bs ys t e within))
    ∙ ap (λ l. at l t) e

-- what a write leaves
pub written-at : (bs : List (Vec ℕ Global)) (ys : List (List ℕ)) (t : ℕ) (v : Vec ℕ Global) (new : List ℕ)
    → contents bs ≡ ys → v.items ≡ new → contents (set bs t v) ≡ set ys t new
written-at bs ys t v new e is =
    map-set (λ (b : Vec ℕ Global). b.items) bs t v ∙ ap (λ l. set l t v.items) e ∙ ap (λ n. set ys t n) is

pub unchanged-at : (bs : List (Vec ℕ Global)) (ys : List (List ℕ)) (t : ℕ) (b v : Vec ℕ Global) → contents bs ≡ ys
    → t < length ys → b ≡ get_or bs t b → v.items ≡ b.items → contents (set bs t v) ≡ ys
unchanged-at bs ys t b v e within is same =
    written-at bs ys t v (at ys t) e (same ∙ read-at bs ys t b e within is) ∙ set-get_or ys t []

pub split-at : (bs : List (Vec ℕ Global)) (ys : List (List ℕ)) (t half : ℕ) (b c low high : Vec ℕ Global)
    → contents bs ≡ ys → t < length ys → b ≡ get_or bs t b → high.items ≡ drop half b.items
    → c ≡ get_or (insert bs (t + 1) high) t c → low.items ≡ take half c.items
    → contents (set (insert bs (t + 1) high) t low) ≡ halved t (take half (at ys t)) (drop half (at ys t)) ys
split-at bs ys t half b c low high e within is second later first =
    let inside = below bs ys t e within in
    let same : c ≡ b =
    later ∙ get_or-insert_below bs (t + 1) high c t (omega arith) (omega (arith, inside))
    ∙ get_or_default bs t c b inside ∙ sym is in
    let block = read-at bs ys t b e within is in
    let low_is : low.items ≡ take half (at ys t) = first ∙ ap (λ (v : Vec ℕ Global). take half v.items) same
    ∙ ap (λ l. take half l) block in
    let high_is : high.items ≡ drop half (at ys t) = second ∙ ap (λ l. drop half l) block in
    ap contents (halved-set bs t low high inside)
    ∙ map-halved (λ (v : Vec ℕ Global). v.items) bs t low high
    ∙ ap (λ l. halved t low.items high.items l) e
    ∙ ap (λ l. halved t l high.items ys) low_is
    ∙ ap (λ l. halved t (take half (at ys t)) l ys) high_is

-- ---- lengths

pub length_read : (lens : List ℕ) (ys : List (List ℕ)) (t n : ℕ) → Measured lens ys → t < length ys
    → n ≡ get_or lens t n → n ≡ length (at ys t)
length_read lens ys t n m within is =
    let inside : t < length lens =
    omega (arith, ap length m.each, length-map ys (λ (y : List ℕ). length y), within) in
    is ∙ get_or_default lens t n 0 inside ∙ ap (λ l. get_or l t 0) m.each
    ∙ get_or-map (λ (y : List ℕ). length y) ys t [] 0 within

pub length-le_joined : (lens : List ℕ) (ys : List (List ℕ)) (t : ℕ) → Measured lens ys → t < length ys
    → length (at ys t) ≤ length (joined ys)
length-le_joined lens ys t m within =
    let inside : t < length lens =
    omega (arith, ap length m.each, length-map ys (λ (y : List ℕ). length y), within) in
    let n = ap (λ l. get_or l t 0) m.each ∙ get_or-map (λ (y : List ℕ). length y) ys t [] 0 within in
    omega (arith, n, get_or-le-sum_by (λ x. x) lens t 0 inside, ap sum m.each, total ys)

pub few-joined : (lens : List ℕ) (ys : List (List ℕ)) → Measured lens ys → length (joined ys) < 2 ^ 32
few-joined lens ys m = omega (arith, m.few, ap sum m.each, total ys)

-- the end of the last block comes after all
pub last-place : (lens : List ℕ) (ys : List (List ℕ)) (t n : ℕ) → Measured lens ys → t + 1 ≡ length lens
    → n ≡ get_or lens t n → IsPlace (lengths ys) t n (length (joined ys))
last-place lens ys t n m last is =
    let inside : t < length lens = omega (arith, last) in
    let whole : take (t + 1) lens ≡ lens = take_all (t + 1) lens (omega (arith, last)) in
    let more : sum lens ≡ sum (take t lens) + n =
    ap sum (sym whole) ∙ ap sum (take_more lens t n inside ∙ ap (λ k. take t lens ++ k ∷ []) (sym is))
    ∙ sum_by-append (λ x. x) (take t lens) (n ∷ []) ∙ ap (λ k. sum (take t lens) + k) (sum_one n) in
    subst (λ (l : List ℕ). IsPlace l t n (length (joined ys))) m.each (record {
      within = inside;
      adds_up = omega (arith, more, ap sum m.each, total ys);
    })
  where
    sum_one : (k : ℕ) → sum (k ∷ []) ≡ k
    sum_one k = omega (arith, sum_by-cons (λ x. x) k [])

measured-set : (lens : List ℕ) (ys : List (List ℕ)) (t n : ℕ) (new : List ℕ) → Measured lens ys → t < length ys
    → n ≡ length new → length (joined ys) + n < 2 ^ 32 + length (at ys t) → Measured (set lens t n) (set ys t new)
measured-set lens ys t n new m within is few =
    let f = λ (y : List ℕ). length y in
    let inside : t < length lens = omega (arith, ap length m.each, length-map ys f, within) in
    let old : get_or lens t 0 ≡ length (at ys t) = ap (λ l. get_or l t 0) m.each ∙ get_or-map f ys t [] 0 within in
    record {
      each = ap (λ l. set l t n) m.each ∙ ap (λ k. set (lengths ys) t k) is ∙ sym (map-set f ys t new);
      some = omega (arith, length-set lens t n, m.some);
      few = omega (arith, sum_by-set (λ x. x) lens t n 0 inside, old, ap sum m.each, total ys, few);
    }

pub measured-insert : (lens : List ℕ) (ys : List (List ℕ)) (t o n x : ℕ) → Measured lens ys → t < length ys
    → n ≡ get_or lens t n → o ≤ length (at ys t) → length (joined ys) < 2 ^ 32 - 1
    → Measured (set lens t (n + 1)) (insert_in ys t o x)
measured-insert lens ys t o n x m within is low few =
    let n_is = length_read lens ys t n m within is in
    let longer = length-insert (at ys t) o x low in
    measured-set lens ys t (n + 1) (insert (at ys t) o x) m within (omega (arith, n_is, longer))
    (omega (arith, n_is, few))

pub measured-remove : (lens : List ℕ) (ys : List (List ℕ)) (t o n : ℕ) → Measured lens ys → t < length ys
    → n ≡ get_or lens t n → o < length (at ys t) → Measured (set lens t (n - 1)) (remove_in ys t o)
measured-remove lens ys t o n m within is low =
    let n_is = length_read lens ys t n m within is in
    let shorter = length-remove (at ys t) o low in
    measured-set lens ys t (n - 1) (remove (at ys t) o) m within (omega (arith, n_is, shorter))
    (omega (arith, n_is, few-joined lens ys m))

pub measured-split : (lens : List ℕ) (ys : List (List ℕ)) (t half n : ℕ) → Measured lens ys → t < length ys
    → n ≡ get_or lens t n → half ≤ length (at ys t)
    → Measured (halved t half (n - half) lens) (halved t (take half (at ys t)) (drop half (at ys t)) ys)
measured-split lens ys t half n m within is long =
    let f = λ (y : List ℕ). length y in
    let low = take half (at ys t) in
    let high = drop half (at ys t) in
    let n_is = length_read lens ys t n m within is in
    let first : half ≡ length low = omega (arith, length-take half (at ys t), long) in
    let second : n - half ≡ length high = omega (arith, length-drop half (at ys t), n_is) in
    let each : halved t half (n - half) lens ≡ lengths (halved t low high ys) =
    ap (λ k. halved t k (n - half) lens) first ∙ ap (λ k. halved t (length low) k lens) second
    ∙ ap (λ l. halved t (length low) (length high) l) m.each ∙ sym (map-halved f ys t low high) in
    let whole : joined (halved t low high ys) ≡ joined ys =
    joined-halved ys t low high within (take-append-drop half (at ys t)) in
    record {
      each = each;
      some = omega (arith, length-append (take t lens) (half ∷ (n - half) ∷ drop (t + 1) lens));
      few = omega (arith, ap sum each, total (halved t low high ys), ap length whole, few-joined lens ys m);
    }

-- ---- more rows

pub more-zeros : (rows more start : List (Vec ℕ Global)) (zeros : Vec ℕ Global) (blocks : ℕ)
    → length start ≤ length rows → contents rows ≡ contents start ++ replicate (length rows - length start)
    (replicate blocks 0) → more ≡ rows ++ zeros ∷ [] → zeros.items ≡ replicate blocks 0
    → contents more ≡ contents start ++ replicate (length more - length start) (replicate blocks 0)
more-zeros rows more start zeros blocks longer so_far pushed is =
    let z = replicate blocks 0 in
    let n = length rows - length start in
    let next : length more - length start ≡ n + 1 = omega (arith, ap length pushed, length_push rows zeros, longer) in
    ap contents pushed ∙ map_push (λ (v : Vec ℕ Global). v.items) rows zeros
    ∙ ap (λ l. l ++ zeros.items ∷ []) so_far ∙ ap (λ y. contents start ++ replicate n z ++ y ∷ []) is
    ∙ append_assoc (contents start) (replicate n z) (z ∷ [])
    ∙ ap (λ l. contents start ++ l) (replicate_more n z)
    ∙ ap (λ k. contents start ++ replicate k z) (sym next)
