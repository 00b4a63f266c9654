-- Undisturbed, a connection comes to its end.
use Rattle.std.proofs.Common.{◌≡◌, ℕ, ◌+◌, ◌-◌, ◌≤◌, ◌<◌, min, List, length, sym, ap, subst, arith}
use Rattle.milter_mta.specs.Lines.{Line}
use Rattle.milter_world.specs.ByteCounts.{due, owed, packet_end, to_filter, to_mta}
use Rattle.milter_world.specs.declared.state.Counts.{Counts}
use Rattle.milter_world.specs.Rounds.{AreCounts}
use Rattle.milter_world.proofs.CountedBytes.{by_lt, due-owed, owed-le, owed-mono, packet_end-due, packet_end-more}

-- how many bytes are to move yet
abbrev pub to_move : List Line → Counts → ℕ
to_move lines c =
    (length (to_filter lines) - c.sent) + (length (to_filter lines) - c.taken) + (length (to_mta lines) - c.answered) + (length (to_mta lines) - c.received)

-- what a round moves after a packet was sent, or where none is to be sent
module _ (lines : List Line) (c : Counts) (counts : AreCounts lines c) (n : ℕ) (some : 0 < n) where
  abbrev taken : ℕ
  taken = min (c.taken + n) c.sent

  abbrev answered : ℕ
  answered = min (c.answered + n) (owed lines taken)

  abbrev received : ℕ
  received = min (c.received + n) answered

  abbrev after_round : Counts
  after_round = record c { taken = taken; answered = answered; received = received }

  pub bounds : to_move lines after_round ≤ to_move lines c
  bounds =
      let a = counts.taken in let b = counts.sent in let d = counts.received in let e = counts.answered in
      let m = owed-mono lines c.taken taken (omega arith) in
      omega arith

  -- where all was sent that is due some bytes move
  pub waits-moves : c.sent ≡ due lines c.received → to_move lines after_round < to_move lines c
  waits-moves is =
      let a = counts.taken in let b = counts.not_over in let d = counts.received in let e = counts.answered in
      let m = owed-mono lines c.taken taken (omega arith) in
      let o = due-owed lines c.received (omega arith) in
      let s : c.received < owed lines c.sent = subst (λ (k : ℕ). c.received < owed lines k) (sym is) o in
      let l = owed-le lines taken in
      let k = owed-le lines c.taken in
      by_lt c.taken c.sent
      (λ less. omega arith)
      (λ all.
      let t : taken ≡ c.sent = omega arith in
      let same : owed lines taken ≡ owed lines c.sent = ap (owed lines) t in
      let u : c.taken ≡ c.sent = omega arith in
      let same2 : owed lines c.taken ≡ owed lines c.sent = ap (owed lines) u in
      omega arith)

-- so do some where some are sent, but for the last
module _ (lines : List Line) (c : Counts) (counts : AreCounts lines c) (n : ℕ) (some : 0 < n) (early : c.sent < due lines c.received)
    (short : min (c.sent + n) (packet_end lines c.sent) < length (to_filter lines)) where
  abbrev pub more_sent : Counts
  more_sent = record c { sent = min (c.sent + n) (packet_end lines c.sent) }

  more : c.sent < packet_end lines c.sent
  more =
      let a = counts.received in let b = counts.answered in let d = owed-mono lines c.taken c.sent counts.taken in
      packet_end-more lines c.sent c.received early (omega arith)

  pub sent-counts : AreCounts lines more_sent
  sent-counts =
      let a = counts.received in let b = counts.answered in let d = owed-mono lines c.taken c.sent counts.taken in let t = counts.taken in let m = more in
      let e = packet_end-due lines c.sent c.received early (omega arith) in
      record { not_over = short; taken = omega arith; sent = omega arith; received = a; answered = b }

  pub sends-moves : to_move lines (after_round lines more_sent sent-counts n some) < to_move lines c
  sends-moves = let b = bounds lines more_sent sent-counts n some in let m = more in omega arith
