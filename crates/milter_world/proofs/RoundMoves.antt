-- A round of moves.
use Rattle.std.proofs.Common.{◌≡◌, ◌⊎◌, inl, inr, ℕ, ◌+◌, ◌<◌, ◌≤◌, ◌==◌, min, Bool, true, false, if◌then◌else◌, List, [], ◌∷◌, ◌++◌, length, refl, sym, ◌∙◌, ap, arith}
use Rattle.std.proofs.lemmas.Bool.{eq-eqb, le-ltb, true≢false}
use Rattle.milter_mta.specs.Lines.{Line}
use Rattle.milter_mta_outcome.specs.declared.outcome.Report.{Report}
use Rattle.milter_world.specs.ByteCounts.{due, owed, packet_end, to_filter}
use Rattle.milter_world.specs.declared.event_line.Event.TheVariants.{ToFilter, Answer, ToMta}
use Rattle.milter_world.specs.declared.state.Counts.{Counts}
use Rattle.milter_world.specs.declared.state.State.{State}
use Rattle.milter_world.specs.declared.state.State.TheVariants.{Linked, Done}
use Rattle.milter_world.specs.Rounds.{MovesOn, after_round, round}
use Rattle.milter_world.specs.Rounds.{AreCounts}
use Rattle.milter_world.specs.Schedule.{After, Scenario, after_all, if_lives, lines_at, sends, sent_to}
use Rattle.milter_world.proofs.CountedBytes.{by_lt, due-le, lt-ltb, owed-mono, packet_end-due}
use Rattle.milter_world.proofs.ConnectionMoves.{sends-moves, waits-moves}

not_all : (a b : ℕ) → (a == b) ≡ false → a ≤ b → a < b
not_all a b differ le = by_lt a b (λ less. less) (λ ge. let same : a ≡ b = omega arith in absurd (true≢false (sym (eq-eqb a b same) ∙ differ)))

module _ (p : Scenario) (settled : ℕ) (n : ℕ) (some : 0 < n) where
  abbrev lines : List Line
  lines = lines_at p settled

  abbrev rest : List Report → State → After
  rest rs state = after_all p (record { state = state; reports = rs }) (ToFilter n ∷ Answer n ∷ ToMta n ∷ [])

  abbrev taken_of : Counts → Counts
  taken_of c = record c { taken = min (c.taken + n) c.sent }

  abbrev answered_of : Counts → Counts
  answered_of c = record c { answered = min (c.answered + n) (owed lines c.taken) }

  live : (lives : Bool) (c d : Counts) → lives ≡ true → if_lives lives c d ≡ d
  live true c d e = refl
  live false c d e = absurd cc

  rest-linked : (rs : List Report) (c : Counts) → c.lives ≡ true → (rest rs (Linked settled c)).state ≡ Linked settled (after_round lines c n)
  rest-linked rs c lives =
      ap (λ (d : Counts). (after_all p (record { state = Linked settled d; reports = rs ++ [] }) (Answer n ∷ ToMta n ∷ [])).state)
      (live c.lives c (taken_of c) lives)
      ∙ ap (λ (d : Counts). (after_all p (record { state = Linked settled d; reports = (rs ++ []) ++ [] }) (ToMta n ∷ [])).state)
      (live c.lives (taken_of c) (answered_of (taken_of c)) lives)

  module _ (c : Counts) (counts : AreCounts lines c) (lives : c.lives ≡ true) (rs : List Report) where
    abbrev whole : After
    whole = after_all p (record { state = Linked settled c; reports = rs }) (round n)

    abbrev sent_bytes : ℕ
    sent_bytes = min (c.sent + n) (packet_end lines c.sent)

    starts : whole ≡ rest (rs ++ []) (sends lines settled c n)
    starts = refl

    by_sent : (state : State) → sends lines settled c n ≡ state → whole.state ≡ (rest (rs ++ []) state).state
    by_sent state e = ap (λ (s : State). (rest (rs ++ []) s).state) e

    pub round-moves : (whole.state ≡ Done) ⊎ MovesOn lines settled c whole.state
    round-moves = by_lt c.sent (due lines c.received)
        (λ early.
        let picks : sends lines settled c n ≡ sent_to lines settled c sent_bytes =
        ap (λ (b : Bool). if b then sent_to lines settled c sent_bytes else Linked settled c) (lt-ltb c.sent (due lines c.received) early) in
        by_end early picks (sent_bytes == length (to_filter lines)) refl)
        (λ late.
        let stays_so : sends lines settled c n ≡ Linked settled c =
        ap (λ (b : Bool). if b then sent_to lines settled c sent_bytes else Linked settled c) (le-ltb c.sent (due lines c.received) late) in
        let d = counts.sent in
        let at_due : c.sent ≡ due lines c.received = omega arith in
        inr (record {
          next = after_round lines c n;
          state_is = by_sent (Linked settled c) stays_so ∙ rest-linked (rs ++ []) c lives;
          lives = lives;
          less = waits-moves lines c counts n some at_due;
        }))
      where
        by_end : c.sent < due lines c.received → sends lines settled c n ≡ sent_to lines settled c sent_bytes → (ends : Bool) → (sent_bytes == length (to_filter lines)) ≡ ends
            → (whole.state ≡ Done) ⊎ MovesOn lines settled c whole.state
        by_end early picks true at =
            inl (by_sent Done (picks ∙ ap (λ (b : Bool). if b then Done else Linked settled (record c { sent = sent_bytes })) at))
        by_end early picks false at =
            let a = counts.received in let b = counts.answered in let d = owed-mono lines c.taken c.sent counts.taken in
            let e = packet_end-due lines c.sent c.received early (omega arith) in
            let f = due-le lines c.received in
            let short : sent_bytes < length (to_filter lines) = not_all (sent_bytes) (length (to_filter lines)) at (omega arith) in
            inr (record {
              next = after_round lines (record c { sent = sent_bytes }) n;
              state_is = by_sent (Linked settled (record c { sent = sent_bytes }))
                  (picks ∙ ap (λ (b : Bool). if b then Done else Linked settled (record c { sent = sent_bytes })) at)
                  ∙ rest-linked (rs ++ []) (record c { sent = sent_bytes }) lives;
              lives = lives;
              less = sends-moves lines c counts n some early short;
            })
