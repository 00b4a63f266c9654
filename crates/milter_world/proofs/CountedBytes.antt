-- Counts of bytes over lines.
use Rattle.std.proofs.Common.{◌≡◌, ◌≢◌, ℕ, suc, ◌+◌, ◌-◌, ◌≤◌, ◌<◌, Bool, true, false, if◌then◌else◌, nat_le, ltb, List, [], ◌∷◌, refl, sym, ap, subst, arith, length, length-append}
use Rattle.std.proofs.lemmas.Bool.{le-ltb, le-leb, lt-leb, leb-true, leb-false, ltb-false}
use Rattle.std.proofs.lemmas.List.Concat.{flat_map-cons}
use Rattle.milter_mta.specs.Lines.{Line}
use Rattle.milter_world.specs.ByteCounts.{due, owed, packet_end, to_filter, to_mta}

pub lt-ltb : (a b : ℕ) → a < b → ltb a b ≡ true
lt-ltb a b h = by_value (ltb a b) refl
  where
    by_value : (x : Bool) → ltb a b ≡ x → ltb a b ≡ true
    by_value true e = e
    by_value false e = let f = ltb-false a b e in absurd (let g : suc a ≤ a = omega arith in omega arith)

pub by_lt : {C : Type 0} (a b : ℕ) → (a < b → C) → (b ≤ a → C) → C
by_lt {C} a b less more = by_value (nat_le b a) refl
  where
    by_value : (x : Bool) → nat_le b a ≡ x → C
    by_value true e = more (leb-true b a e)
    by_value false e = less (leb-false b a e)

pub positive : (xs : List ℕ) → xs ≢ [] → 0 < length xs
positive [] full = absurd (full refl)
positive (x ∷ xs) full = omega arith

-- ---- counts, line by line

pub owed-part : (line : Line) (lines : List Line) (s : ℕ) → s < length line.out → owed (line ∷ lines) s ≡ 0
owed-part line lines s less = rw (lt-leb (length line.out) s less) refl

pub owed-whole : (line : Line) (lines : List Line) (s : ℕ) → length line.out ≤ s → owed (line ∷ lines) s ≡ length line.back + owed lines (s - length line.out)
owed-whole line lines s le = rw (le-leb (length line.out) s le) refl

pub due-wait : (line : Line) (lines : List Line) (m : ℕ) → m < length line.back → due (line ∷ lines) m ≡ length line.out
due-wait line lines m less = rw (lt-leb (length line.back) m less) refl

pub due-past : (line : Line) (lines : List Line) (m : ℕ) → length line.back ≤ m → due (line ∷ lines) m ≡ length line.out + due lines (m - length line.back)
due-past line lines m le = rw (le-leb (length line.back) m le) refl

pub packet_end-part : (line : Line) (lines : List Line) (s : ℕ) → s < length line.out → packet_end (line ∷ lines) s ≡ length line.out
packet_end-part line lines s less = rw (lt-ltb s (length line.out) less) refl

pub packet_end-past : (line : Line) (lines : List Line) (s : ℕ) → length line.out ≤ s → packet_end (line ∷ lines) s ≡ length line.out + packet_end lines (s - length line.out)
packet_end-past line lines s le = rw (le-ltb s (length line.out) le) refl

-- ---- more of counts

pub due-le : (lines : List Line) (m : ℕ) → due lines m ≤ length (to_filter lines)
due-le [] m = omega arith
due-le (line ∷ lines) m =
    let b = ap length (flat_map-cons (λ l. l.out) line lines) in
    let n = length-append line.out (to_filter lines) in
    by_lt m (length line.back)
    (λ less. let d = due-wait line lines m less in omega arith)
    (λ past. let d = due-past line lines m past in let r = due-le lines (m - length line.back) in omega arith)

pub due-mono : (lines : List Line) (m k : ℕ) → m ≤ k → due lines m ≤ due lines k
due-mono [] m k le = omega arith
due-mono (line ∷ lines) m k le =
    by_lt m (length line.back)
    (λ less. let d = due-wait line lines m less in
    by_lt k (length line.back)
    (λ less2. let e = due-wait line lines k less2 in omega arith)
    (λ past. let e = due-past line lines k past in omega arith))
    (λ past.
    let d = due-past line lines m past in
    let e = due-past line lines k (omega arith) in
    let r = due-mono lines (m - length line.back) (k - length line.back) (omega arith) in
    omega arith)

pub packet_end-due : (lines : List Line) (s m : ℕ) → s < due lines m → m ≤ owed lines s → packet_end lines s ≤ due lines m
packet_end-due [] s m early by_received = omega arith
packet_end-due (line ∷ lines) s m early by_received =
    by_lt s (length line.out)
    (λ less.
    let p : packet_end (line ∷ lines) s ≡ length line.out = rw (lt-ltb s (length line.out) less) refl in
    by_lt m (length line.back)
    (λ wait. let d = due-wait line lines m wait in omega arith)
    (λ past. let d = due-past line lines m past in omega arith))
    (λ whole.
    let p : packet_end (line ∷ lines) s ≡ length line.out + packet_end lines (s - length line.out) = rw (le-ltb s (length line.out) whole) refl in
    let o = owed-whole line lines s whole in
    by_lt m (length line.back)
    (λ wait. let d = due-wait line lines m wait in omega arith)
    (λ past.
    let d = due-past line lines m past in
    let r = packet_end-due lines (s - length line.out) (m - length line.back) (omega arith) (omega arith) in
    omega arith))

pub owed-le : (lines : List Line) (t : ℕ) → owed lines t ≤ length (to_mta lines)
owed-le [] t = omega arith
owed-le (line ∷ lines) t =
    let b = ap length (flat_map-cons (λ l. l.back) line lines) in
    let n = length-append line.back (to_mta lines) in
    by_lt t (length line.out)
    (λ less. let d = owed-part line lines t less in omega arith)
    (λ past. let d = owed-whole line lines t past in let r = owed-le lines (t - length line.out) in omega arith)

pub packet_end-more : (lines : List Line) (s m : ℕ) → s < due lines m → m ≤ owed lines s → s < packet_end lines s
packet_end-more [] s m early by_received = absurd (let h : s < 0 = early in omega arith)
packet_end-more (line ∷ lines) s m early by_received =
    by_lt s (length line.out)
    (λ less. let p : packet_end (line ∷ lines) s ≡ length line.out = rw (lt-ltb s (length line.out) less) refl in omega arith)
    (λ whole.
    let p : packet_end (line ∷ lines) s ≡ length line.out + packet_end lines (s - length line.out) = rw (le-ltb s (length line.out) whole) refl in
    let o = owed-whole line lines s whole in
    by_lt m (length line.back)
    (λ wait. absurd (let d = due-wait line lines m wait in let h : s < s = omega arith in omega arith))
    (λ past.
    let d = due-past line lines m past in
    let r = packet_end-more lines (s - length line.out) (m - length line.back) (omega arith) (omega arith) in
    omega arith))

-- ---- what is owed and due

-- an answer that is owed and not received is of a packet that was taken
owed-due-at : (o b d w received taken : ℕ) (whole known : Bool) → nat_le o taken ≡ whole → nat_le b received ≡ known
    → (received - b < w → d ≤ taken - o) → received < (if whole then b + w else 0) → (if known then o + d else o) ≤ taken
owed-due-at o b d w received taken true true e f rest h =
    let x = leb-true o taken e in let y = leb-true b received f in let z = rest (omega arith) in omega arith
owed-due-at o b d w received taken true false e f rest h = leb-true o taken e
owed-due-at o b d w received taken false known e f rest h = omega arith

pub owed-due : (lines : List Line) (received taken : ℕ) → received < owed lines taken → due lines received ≤ taken
owed-due [] received taken less = omega arith
owed-due (line ∷ lines) received taken less =
    owed-due-at (length line.out) (length line.back) (due lines (received - length line.back)) (owed lines (taken - length line.out)) received taken
    (nat_le (length line.out) taken) (nat_le (length line.back) received) refl refl
    (owed-due lines (received - length line.back) (taken - length line.out)) less

-- what is owed of more bytes is no less
owed-more-at : (o b w v taken more : ℕ) (whole later : Bool) → nat_le o taken ≡ whole → nat_le o (taken + more) ≡ later
    → w ≤ v → (if whole then b + w else 0) ≤ (if later then b + v else 0)
owed-more-at o b w v taken more true true e f rest = omega arith
owed-more-at o b w v taken more true false e f rest = let x = leb-true o taken e in let y = leb-false o (taken + more) f in omega arith
owed-more-at o b w v taken more false later e f rest = omega arith

pub owed-mono : (lines : List Line) (taken later : ℕ) → taken ≤ later → owed lines taken ≤ owed lines later
owed-mono [] taken later le = omega arith
owed-mono (line ∷ lines) taken later le =
    let d : taken + (later - taken) ≡ later = omega arith in
    rw (sym d)
    (owed-more-at (length line.out) (length line.back) (owed lines (taken - length line.out)) (owed lines (taken + (later - taken) - length line.out)) taken (later - taken)
    (nat_le (length line.out) taken) (nat_le (length line.out) (taken + (later - taken))) refl refl
    (owed-mono lines (taken - length line.out) (taken + (later - taken) - length line.out) (omega arith)))

-- where a packet waits for its answer some of that is owed
pub due-owed : (lines : List Line) (m : ℕ) → due lines m < length (to_filter lines) → m < owed lines (due lines m)
due-owed [] m less = absurd (let h : 0 < 0 = less in omega arith)
due-owed (line ∷ lines) m less =
    let f = ap length (flat_map-cons (λ l. l.out) line lines) in
    let a = length-append line.out (to_filter lines) in
    by_lt m (length line.back)
    (λ wait.
    let d = due-wait line lines m wait in
    let o = owed-whole line lines (length line.out) (omega arith) in
    subst (λ (n : ℕ). m < owed (line ∷ lines) n) (sym d) (omega arith))
    (λ past.
    let d = due-past line lines m past in
    let r = due-owed lines (m - length line.back) (omega arith) in
    let o = owed-whole line lines (length line.out + due lines (m - length line.back)) (omega arith) in
    let e : length line.out + due lines (m - length line.back) - length line.out ≡ due lines (m - length line.back) = omega arith in
    let o2 : owed lines (length line.out + due lines (m - length line.back) - length line.out) ≡ owed lines (due lines (m - length line.back)) = ap (owed lines) e in
    subst (λ (n : ℕ). m < owed (line ∷ lines) n) (sym d) (omega arith))
