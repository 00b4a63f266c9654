-- The events of rounds: how many they are, and one more round.
use Rattle.std.proofs.Common.{◌≡◌, ℕ, zero, suc, ◌+◌, ◌*◌, List, ◌++◌, length, refl, ap, ◌∙◌, arith}
use Rattle.std.proofs.Common.{append_assoc, add-one, length-append}
use Rattle.milter_world.specs.declared.event_line.Event.{Event}
use Rattle.milter_world.specs.Rounds.{round, rounds}

pub rounds_length : (count bytes : ℕ) → length (rounds count bytes) ≡ 4 * count
rounds_length zero bytes = refl
rounds_length (suc count) bytes =
    let rest = rounds_length count bytes in
    omega (arith, rest, length-append (round bytes) (rounds count bytes))

round_last : (count bytes : ℕ) → rounds count bytes ++ round bytes ≡ round bytes ++ rounds count bytes
round_last zero bytes = refl
round_last (suc count) bytes =
    append_assoc (round bytes) (rounds count bytes) (round bytes)
    ∙ ap (λ (l : List Event). round bytes ++ l) (round_last count bytes)

-- one more round after some events
pub rounds_more : (events : List Event) (count bytes : ℕ)
    → (events ++ rounds count bytes) ++ round bytes ≡ events ++ rounds (count + 1) bytes
rounds_more events count bytes =
    append_assoc events (rounds count bytes) (round bytes)
    ∙ ap (λ (l : List Event). events ++ l) (round_last count bytes ∙ rw add-one refl)
