-- A mail server's end that follows a connection's lines, where bytes come and go in any pieces.
use Rattle.std.proofs.Common.{◌≡◌, ◌≢◌, ℕ, zero, suc, ◌+◌, ◌-◌, ◌≤◌, ◌<◌, List, [], ◌∷◌, ◌++◌, Option, None, refl, sym, ◌∙◌, ap, arith, length, take, drop, length-drop, length-append, take_all, take-append-drop}
use Rattle.std.specs.List.{fold}
use Rattle.std.proofs.lemmas.Bool.{le-ltb}
use Rattle.std.proofs.lemmas.List.{drop-append-le, take-append-le}
use Rattle.std.proofs.lemmas.List.Concat.{flat_map-cons}
use Rattle.std.proofs.lemmas.List.Sums.{fold-append}
use Rattle.std.proofs.Math.Seq.{take-add, drop-append-add}
use Rattle.milter_mta_outcome.specs.declared.loss.Loss.{Loss}
use Rattle.milter_mta.specs.declared.mta_core.Want.TheVariants as wants
use Rattle.milter_mta.specs.Mta.{Mta}
use Rattle.milter_mta.specs.Replies.{After, goes_on, received, received_byte}
use Rattle.milter_mta.specs.Output.{advanced, pending, sent, want}
use Rattle.milter_mta.specs.Lines.{Line, after_line, next_packet, sent_whole}
use Rattle.milter_world.specs.ByteCounts.{due, owed, packet_end, to_filter, to_mta}
use Rattle.milter_world.specs.FollowedLines.{IsWaiting, SendsLine, SendsLines, after_at, begun}
use Rattle.milter_world.proofs.CountedBytes.{by_lt, due-past, due-wait, lt-ltb, owed-part, owed-whole, packet_end-part, packet_end-past, positive}
use Rattle.milter_world.proofs.Steps.{advanced-full, pending-sent, sent-nothing, want-advanced, want-sent}

pub goes-on : (after : After) → after.loss ≡ None → after ≡ goes_on after.mta
goes-on after e = ap (λ (l : Option Loss). record { mta = after.mta; loss = l }) e

pub received-more : (m : Mta) (first second : List ℕ) → fold received_byte (received m first) second ≡ received m (first ++ second)
received-more m first second = sym (fold-append received_byte (goes_on m) first second)

abbrev pub AddsUp : Type 0
AddsUp = (m : Mta) (count more : ℕ) → sent more (sent count m) ≡ sent (count + more) m

-- ---- where it is

at-start : (m : Mta) (line : Line) (lines : List Line) (h : ℕ) → 0 < length line.out → after_at m (line ∷ lines) 0 h ≡ goes_on m
at-start m line lines h some = rw (lt-ltb 0 (length line.out) some) refl

pub at-part : (m : Mta) (line : Line) (lines : List Line) (s h : ℕ) → s < length line.out → after_at m (line ∷ lines) s h ≡ goes_on (begun m s)
at-part m line lines s h less = rw (lt-ltb s (length line.out) less) refl

pub at-wait : (m : Mta) (line : Line) (lines : List Line) (s h : ℕ) → length line.out ≤ s → h < length line.back
    → after_at m (line ∷ lines) s h ≡ after_line (take h line.back) m
at-wait m line lines s h le less = rw (le-ltb s (length line.out) le, lt-ltb h (length line.back) less) refl

pub at-past : (m : Mta) (line : Line) (lines : List Line) (s h : ℕ) → length line.out ≤ s → length line.back ≤ h
    → after_at m (line ∷ lines) s h ≡ after_at (after_line line.back m).mta lines (s - length line.out) (h - length line.back)
at-past m line lines s h le le2 = rw (le-ltb s (length line.out) le, le-ltb h (length line.back) le2) refl

pub at-nothing : (m : Mta) (lines : List Line) → SendsLines m lines → after_at m lines 0 0 ≡ goes_on m
at-nothing m [] f = refl
at-nothing m (line ∷ lines) f = at-start m line lines 0 (positive line.out f.0.some)

pub owed-nothing : (m : Mta) (lines : List Line) → SendsLines m lines → owed lines 0 ≡ 0
owed-nothing m [] f = refl
owed-nothing m (line ∷ lines) f = owed-part line lines 0 (positive line.out f.0.some)

-- ---- nothing is lost

some_left : (h : ℕ) (bytes : List ℕ) → h < length bytes → drop h bytes ≢ []
some_left h bytes less none = let l = length-drop h bytes in let e = ap (λ (xs : List ℕ). length xs) none in absurd (let c : 0 < 0 = omega arith in omega arith)

pub part-at : (m : Mta) (line : Line) → SendsLine m line → (h : ℕ) → h < length line.back → IsWaiting m (after_line (take h line.back) m)
part-at m line sends h less =
    sends.part (take h line.back) (drop h line.back) (some_left h line.back less) (take-append-drop h line.back)

pub not_lost : (lines : List Line) (m : Mta) (s h : ℕ) → SendsLines m lines → (after_at m lines s h).loss ≡ None
not_lost [] m s h f = refl
not_lost (line ∷ lines) m s h f =
    by_lt s (length line.out)
    (λ less. ap (λ (a : After). a.loss) (at-part m line lines s h less))
    (λ whole. by_lt h (length line.back)
    (λ less. ap (λ (a : After). a.loss) (at-wait m line lines s h whole less) ∙ (part-at m line f.0 h less).goes_on)
    (λ past. ap (λ (a : After). a.loss) (at-past m line lines s h whole past)
    ∙ not_lost lines (after_line line.back m).mta (s - length line.out) (h - length line.back) f.1))

-- ---- bytes received

-- the answer's bytes that come next, where so many of it were received
abbrev pub ReceivesBytes : List Line → Type 0
ReceivesBytes lines = (m : Mta) (s h k : ℕ) → SendsLines m lines → s ≤ due lines h → h + k ≤ owed lines s
    → fold received_byte (after_at m lines s h) (take k (drop h (to_mta lines))) ≡ after_at m lines s (h + k)

receives_bytes-nothing : (m : Mta) (lines : List Line) (s h k : ℕ) → k ≡ 0
    → fold received_byte (after_at m lines s h) (take k (drop h (to_mta lines))) ≡ after_at m lines s (h + k)
receives_bytes-nothing m lines s h k none = rw none (ap (after_at m lines s) (let e : h ≡ h + 0 = omega arith in e))

module _ (line : Line) (lines : List Line) (rest : ReceivesBytes lines) (m : Mta) (s h k : ℕ) (f : SendsLines m (line ∷ lines))
    (early : s ≤ due (line ∷ lines) h) (answers_owed : h + k ≤ owed (line ∷ lines) s) (whole : length line.out ≤ s) where
  bytes-are : to_mta (line ∷ lines) ≡ line.back ++ to_mta lines
  bytes-are = flat_map-cons (λ l. l.back) line lines

  -- of this line's answer
  piece-is : h < length line.back → (n : ℕ) → h + k ≤ length line.back → take k (drop h (to_mta (line ∷ lines))) ≡ take k (drop h line.back)
  piece-is less n within =
      let d = drop-append-le h line.back (to_mta lines) (omega arith) in
      let l = length-drop h line.back in
      let t = take-append-le k (drop h line.back) (to_mta lines) (omega arith) in
      rw (bytes-are, d) t

  receives_bytes-part : h < length line.back → h + k < length line.back
      → fold received_byte (after_at m (line ∷ lines) s h) (take k (drop h (to_mta (line ∷ lines)))) ≡ after_at m (line ∷ lines) s (h + k)
  receives_bytes-part less still =
      rw (at-wait m line lines s h whole less, piece-is less 0 (omega arith))
      (received-more (sent_whole m) (take h line.back) (take k (drop h line.back))
      ∙ ap (received (sent_whole m)) (sym (take-add h k line.back))
      ∙ sym (at-wait m line lines s (h + k) whole still))

  receives_bytes-last : h < length line.back → length line.back ≤ h + k
      → fold received_byte (after_at m (line ∷ lines) s h) (take k (drop h (to_mta (line ∷ lines)))) ≡ after_at m (line ∷ lines) s (h + k)
  receives_bytes-last less last =
      let w = due-wait line lines h less in
      let o = owed-whole line lines s whole in
      let out : s - length line.out ≡ 0 = omega arith in
      let none = owed-nothing (after_line line.back m).mta lines f.1 in
      let no_more : owed lines (s - length line.out) ≡ 0 = rw out none in
      let all : h + k - length line.back ≡ 0 = omega arith in
      let within : h + k ≤ length line.back = omega arith in
      let n = take_all (h + k) line.back last in
      rw (at-wait m line lines s h whole less, piece-is less 0 within)
      (received-more (sent_whole m) (take h line.back) (take k (drop h line.back))
      ∙ ap (received (sent_whole m)) (sym (take-add h k line.back) ∙ n)
      ∙ goes-on (after_line line.back m) f.0.whole
      ∙ sym (at-nothing (after_line line.back m).mta lines f.1)
      ∙ ap (λ (z : ℕ). after_at (after_line line.back m).mta lines z 0) (sym out)
      ∙ ap (λ (z : ℕ). after_at (after_line line.back m).mta lines (s - length line.out) z) (sym all)
      ∙ sym (at-past m line lines s (h + k) whole last))

  receives_bytes-later : length line.back ≤ h
      → fold received_byte (after_at m (line ∷ lines) s h) (take k (drop h (to_mta (line ∷ lines)))) ≡ after_at m (line ∷ lines) s (h + k)
  receives_bytes-later past =
      let w = due-past line lines h past in
      let o = owed-whole line lines s whole in
      let i : h ≡ length line.back + (h - length line.back) = omega arith in
      let j : h + k - length line.back ≡ (h - length line.back) + k = omega arith in
      let d : drop h (line.back ++ to_mta lines) ≡ drop (h - length line.back) (to_mta lines) =
      ap (λ n. drop n (line.back ++ to_mta lines)) i ∙ drop-append-add line.back (to_mta lines) (h - length line.back) in
      rw (at-past m line lines s h whole past, at-past m line lines s (h + k) whole (omega arith), bytes-are, d, j)
      (rest (after_line line.back m).mta (s - length line.out) (h - length line.back) k f.1 (omega arith) (omega arith))

pub receives_bytes : (lines : List Line) → ReceivesBytes lines
receives_bytes [] m s h k f early each = receives_bytes-nothing m [] s h k (omega arith)
receives_bytes (line ∷ lines) m s h k f early answers_owed =
    by_lt s (length line.out)
    (λ less. receives_bytes-nothing m (line ∷ lines) s h k (let o = owed-part line lines s less in omega arith))
    (λ whole. by_lt h (length line.back)
    (λ less. by_lt (h + k) (length line.back)
    (receives_bytes-part line lines (receives_bytes lines) m s h k f early answers_owed whole less)
    (receives_bytes-last line lines (receives_bytes lines) m s h k f early answers_owed whole less))
    (receives_bytes-later line lines (receives_bytes lines) m s h k f early answers_owed whole))

-- ---- bytes sent

module _ (adds : AddsUp) where
  begun-more : (m : Mta) (n : ℕ) → 0 < n → begun m n ≡ sent n (advanced m)
  begun-more m zero some = absurd (let h : 0 < 0 = some in omega arith)
  begun-more m (suc n) some = refl

  -- what is begun, made ready
  begun-ready : (m : Mta) (line : Line) (s : ℕ) → SendsLine m line → s < length line.out → advanced (begun m s) ≡ sent s (advanced m)
  begun-ready m line zero sends less = sym (sent-nothing (advanced m))
  begun-ready m line (suc s) sends less =
      advanced-full (sent (suc s) (advanced m))
      (λ none.
      let p = ap length (sym (pending-sent (suc s) (advanced m)) ∙ none) in
      let d = length-drop (suc s) (pending (advanced m)) in
      let o = ap length sends.packet in
      absurd (let c : 0 < 0 = omega arith in omega arith))

  -- so many bytes more of the packet
  abbrev pub Sends : List Line → Type 0
  Sends lines = (m : Mta) (s h k : ℕ) → SendsLines m lines → s < due lines h → h ≤ owed lines s → 0 < k → s + k ≤ packet_end lines s
      → goes_on (sent k (advanced (after_at m lines s h).mta)) ≡ after_at m lines (s + k) h

  module _ (line : Line) (lines : List Line) (rest : Sends lines) (m : Mta) (s h k : ℕ) (f : SendsLines m (line ∷ lines))
      (early : s < due (line ∷ lines) h) (answers_owed : h ≤ owed (line ∷ lines) s) (some : 0 < k) (within : s + k ≤ packet_end (line ∷ lines) s) where
    sends-now : s < length line.out → sent k (advanced (after_at m (line ∷ lines) s h).mta) ≡ sent (s + k) (advanced m)
    sends-now less =
        ap (λ (a : After). sent k (advanced a.mta)) (at-part m line lines s h less)
        ∙ ap (sent k) (begun-ready m line s f.0 less)
        ∙ adds (advanced m) s k

    sends-part : s + k < length line.out → goes_on (sent (s + k) (advanced m)) ≡ after_at m (line ∷ lines) (s + k) h
    sends-part still = sym (at-part m line lines (s + k) h still ∙ ap goes_on (begun-more m (s + k) (omega arith)))

    empty : (xs : List ℕ) → length xs ≤ 0 → xs ≡ []
    empty [] h = refl
    empty (y ∷ ys) h = absurd (let g : suc (length ys) ≤ 0 = h in omega arith)

    -- nothing of the answer was received
    sends-last : s < length line.out → length line.out ≤ s + k → goes_on (sent (s + k) (advanced m)) ≡ after_at m (line ∷ lines) (s + k) h
    sends-last less last =
        let o = owed-part line lines s less in
        let p = packet_end-part line lines s less in
        let zero_received : h ≡ 0 = omega arith in
        let all : s + k ≡ length (next_packet m) = let e = ap length f.0.packet in omega arith in
        let is_whole : sent (s + k) (advanced m) ≡ sent_whole m = ap (λ (n : ℕ). sent n (advanced m)) all in
        by_lt h (length line.back)
        (λ wait.
        ap goes_on is_whole
        ∙ ap (λ (n : ℕ). after_line (take n line.back) m) (sym zero_received)
        ∙ sym (at-wait m line lines (s + k) h last wait))
        (λ past.
        let out : s + k - length line.out ≡ 0 = omega arith in
        let back : h - length line.back ≡ 0 = omega arith in
        let no_back : line.back ≡ [] = empty line.back (omega arith) in
        ap goes_on is_whole
        ∙ ap (λ (l : List ℕ). goes_on (after_line l m).mta) (sym no_back)
        ∙ sym (at-nothing (after_line line.back m).mta lines f.1)
        ∙ ap (λ (z : ℕ). after_at (after_line line.back m).mta lines z 0) (sym out)
        ∙ ap (λ (z : ℕ). after_at (after_line line.back m).mta lines (s + k - length line.out) z) (sym back)
        ∙ sym (at-past m line lines (s + k) h last past))

    sends-later : length line.out ≤ s → goes_on (sent k (advanced (after_at m (line ∷ lines) s h).mta)) ≡ after_at m (line ∷ lines) (s + k) h
    sends-later past =
        by_lt h (length line.back)
        (λ wait. absurd (let w = due-wait line lines h wait in let c : s < s = omega arith in omega arith))
        (λ known.
        let w = due-past line lines h known in
        let o = owed-whole line lines s past in
        let p = packet_end-past line lines s past in
        let j : s + k - length line.out ≡ (s - length line.out) + k = omega arith in
        rw (at-past m line lines s h past known, at-past m line lines (s + k) h (omega arith) known, j)
        (rest (after_line line.back m).mta (s - length line.out) (h - length line.back) k f.1 (omega arith) (omega arith) some (omega arith)))

  pub sends : (lines : List Line) → Sends lines
  sends [] m s h k f early answers_owed some within = absurd (let c : s < 0 = early in omega arith)
  sends (line ∷ lines) m s h k f early answers_owed some within =
      by_lt s (length line.out)
      (λ less.
      ap goes_on (sends-now line lines (sends lines) m s h k f early answers_owed some within less)
      ∙ by_lt (s + k) (length line.out)
      (sends-part line lines (sends lines) m s h k f early answers_owed some within)
      (sends-last line lines (sends lines) m s h k f early answers_owed some within less))
      (sends-later line lines (sends lines) m s h k f early answers_owed some within)

  -- ---- what is pending

  abbrev pub Pends : List Line → Type 0
  Pends lines = (m : Mta) (s h : ℕ) → SendsLines m lines → s < due lines h → h ≤ owed lines s
      → pending (advanced (after_at m lines s h).mta) ≡ take (packet_end lines s - s) (drop s (to_filter lines))

  pub pends : (lines : List Line) → Pends lines
  pends [] m s h f early each = absurd (let c : s < 0 = early in omega arith)
  pends (line ∷ lines) m s h f early answers_owed =
      let bytes = flat_map-cons (λ l. l.out) line lines in
      by_lt s (length line.out)
      (λ less.
      let d = drop-append-le s line.out (to_filter lines) (omega arith) in
      let l = length-drop s line.out in
      let t = take-append-le (length line.out - s) (drop s line.out) (to_filter lines) (omega arith) in
      let n = take_all (length line.out - s) (drop s line.out) (omega arith) in
      ap (λ (a : After). pending (advanced a.mta)) (at-part m line lines s h less)
      ∙ ap pending (begun-ready m line s f.0 less)
      ∙ pending-sent s (advanced m)
      ∙ ap (drop s) f.0.packet
      ∙ sym (rw (packet_end-part line lines s less, bytes, d, t) n))
      (λ past. by_lt h (length line.back)
      (λ wait. absurd (let w = due-wait line lines h wait in let c : s < s = omega arith in omega arith))
      (λ known.
      let w = due-past line lines h known in
      let o = owed-whole line lines s past in
      let p = packet_end-past line lines s past in
      let j : length line.out + packet_end lines (s - length line.out) - s ≡ packet_end lines (s - length line.out) - (s - length line.out) = omega arith in
      let i : s ≡ length line.out + (s - length line.out) = omega arith in
      let d : drop s (line.out ++ to_filter lines) ≡ drop (s - length line.out) (to_filter lines) =
      ap (λ n. drop n (line.out ++ to_filter lines)) i ∙ drop-append-add line.out (to_filter lines) (s - length line.out) in
      rw (at-past m line lines s h past known, p, bytes, j, d)
      (pends lines (after_line line.back m).mta (s - length line.out) (h - length line.back) f.1 (omega arith) (omega arith))))

-- ---- what is wanted

-- it sends until the packet is due
pub wants-send : (lines : List Line) (m : Mta) (s h : ℕ) → SendsLines m lines → s < due lines h → h ≤ owed lines s
    → want (after_at m lines s h).mta ≡ wants.Send
wants-send [] m s h f early each = absurd (let c : s < 0 = early in omega arith)
wants-send (line ∷ lines) m s h f early answers_owed =
    by_lt s (length line.out)
    (λ less. ap (λ (a : After). want a.mta) (at-part m line lines s h less) ∙ by_begun s less)
    (λ past. by_lt h (length line.back)
    (λ wait. absurd (let w = due-wait line lines h wait in let c : s < s = omega arith in omega arith))
    (λ known.
    let w = due-past line lines h known in
    let o = owed-whole line lines s past in
    rw (at-past m line lines s h past known)
    (wants-send lines (after_line line.back m).mta (s - length line.out) (h - length line.back) f.1 (omega arith) (omega arith))))
  where
    by_begun : (n : ℕ) → n < length line.out → want (begun m n) ≡ wants.Send
    by_begun zero less = f.0.wanted
    by_begun (suc n) less =
        want-sent (suc n) (advanced m) (let o = ap length f.0.packet in omega arith) ∙ want-advanced m ∙ f.0.wanted

-- and then waits
pub wants-receive : (lines : List Line) (m : Mta) (s h : ℕ) → SendsLines m lines → s ≡ due lines h → s < length (to_filter lines)
    → want (after_at m lines s h).mta ≡ wants.Receive
wants-receive [] m s h f is some = absurd (let c : s < 0 = some in omega arith)
wants-receive (line ∷ lines) m s h f is some =
    let bytes = flat_map-cons (λ l. l.out) line lines in
    let n = ap length bytes in
    let a = length-append line.out (to_filter lines) in
    by_lt h (length line.back)
    (λ wait.
    let w = due-wait line lines h wait in
    ap (λ (a : After). want a.mta) (at-wait m line lines s h (omega arith) wait) ∙ (part-at m line f.0 h wait).waits)
    (λ known.
    let w = due-past line lines h known in
    rw (at-past m line lines s h (omega arith) known)
    (wants-receive lines (after_line line.back m).mta (s - length line.out) (h - length line.back) f.1 (omega arith) (omega arith)))

-- until all is sent
pub wants-nothing : (lines : List Line) (m : Mta) (s h : ℕ) → SendsLines m lines → s ≡ due lines h → s ≡ length (to_filter lines)
    → h ≡ length (to_mta lines) → want (after_at m lines s h).mta ≡ wants.Done
wants-nothing [] m s h f is all received_all = f
wants-nothing (line ∷ lines) m s h f is all received_all =
    let n = ap length (flat_map-cons (λ l. l.out) line lines) in
    let a = length-append line.out (to_filter lines) in
    let n2 = ap length (flat_map-cons (λ l. l.back) line lines) in
    let b = length-append line.back (to_mta lines) in
    let w = due-past line lines h (omega arith) in
    rw (at-past m line lines s h (omega arith) (omega arith))
    (wants-nothing lines (after_line line.back m).mta (s - length line.out) (h - length line.back) f.1 (omega arith) (omega arith) (omega arith))
