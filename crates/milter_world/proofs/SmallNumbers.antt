-- The events of a file move at most 4,294,967,295 bytes each.
use Rattle.std.proofs.Common.{◌≡◌, ◌<◌, ◌^◌, ℕ, zero, suc, Bool, true, false, List, [], ◌∷◌, All, Option, None, Some}
use Rattle.std.proofs.Common.{Result, Ok, Err, refl, sym, subst, arith}
use Rattle.std.specs.Prelude.{codes, nat_lt, if◌then◌else◌}
use Rattle.std.specs.List.{AllZip}
use Rattle.std.specs.Option.{option_map}
use Rattle.std.specs.Result.{IfOk}
use Rattle.std.proofs.lemmas.Bool.{ltb-true}
use Rattle.std.proofs.lemmas.List.Elements.{All-append, All-cons, All-nil}
use Rattle.std.proofs.lemmas.Option.{same_Some}
use Rattle.milter_fields.specs.Bind.{◌>>=◌}
use Rattle.milter_text.specs.declared.word.Word.{Word}
use Rattle.milter_text.specs.WordValues.{is_keyword, number_of}
use Rattle.milter_world.specs.declared.event_line.Event.{Event}
use Rattle.milter_world.specs.declared.event_line.Event.TheVariants.{Dial, Send, ToFilter, Answer, ToMta, Die}
use Rattle.milter_world.specs.declared.event_line.Event.TheVariants.{Lose, Timeout}
use Rattle.milter_world.specs.Rounds.{round, rounds}
use Rattle.milter_world.specs.declared.event_fault.EventFault.{EventFault}
use Rattle.milter_world.specs.EventFile.{HaveEvents, LineHasEvents, bytes_moved, count_of, events_of, events_with}
use Rattle.milter_world.specs.EventFile.{lone_event, rounds_of}
use Rattle.milter_world.proofs.LineRuns.{all_of}

abbrev IsSmall : Event → Type 0
IsSmall event = bytes_moved event < 2 ^ 32

abbrev AreSmall : List Event → Type 0
AreSmall events = All IsSmall events

one_small : (event : Event) → IsSmall event → AreSmall (event ∷ [])
one_small event h = All-cons IsSmall event [] h (All-nil IsSmall)

round_small : (n : ℕ) → n < 2 ^ 32 → AreSmall (round n)
round_small n h =
    All-append IsSmall (Send n ∷ ToFilter n ∷ []) (Answer n ∷ ToMta n ∷ [])
    (All-append IsSmall (Send n ∷ []) (ToFilter n ∷ []) (one_small (Send n) h) (one_small (ToFilter n) h))
    (All-append IsSmall (Answer n ∷ []) (ToMta n ∷ []) (one_small (Answer n) h) (one_small (ToMta n) h))

rounds_small : (count n : ℕ) → n < 2 ^ 32 → AreSmall (rounds count n)
rounds_small zero n h = All-nil IsSmall
rounds_small (suc count) n h =
    All-append IsSmall (round n) (rounds count n) (round_small n h) (rounds_small count n h)

-- ---- the events of words

-- of two values the one is there, or the other
either : {X : Type 0} (P : X → Type 0) (test : Bool) (a b : Option X) (x : X) → (if test then a else b) ≡ Some x
    → (a ≡ Some x → P x) → (b ≡ Some x → P x) → P x
either P true a b x e first second = first e
either P false a b x e first second = second e

given : {X : Type 0} (P : X → Type 0) (x y : X) → P x → Some x ≡ Some y → P y
given P x y h e = subst P (same_Some x y e) h

kept : (number n : ℕ) → (if nat_lt number (2 ^ 32) then Some number else None) ≡ Some n → n < 2 ^ 32
kept number n e =
    kept_by (nat_lt number (2 ^ 32)) number n e (ltb-true number (2 ^ 32))
  where
    kept_by : (test : Bool) (number n : ℕ) → (if test then Some number else None) ≡ Some n
        → (test ≡ true → number < 2 ^ 32) → n < 2 ^ 32
    kept_by true number n e less = subst (λ m. m < 2 ^ 32) (same_Some number n e) (less refl)
    kept_by false number n e less = absurd cc

count_by : (number : Option ℕ) (n : ℕ)
    → (number >>= λ m. if nat_lt m (2 ^ 32) then Some m else None) ≡ Some n → n < 2 ^ 32
count_by None n e = absurd cc
count_by (Some number) n e = kept number n e

count_small : (word : Word) (n : ℕ) → count_of word ≡ Some n → n < 2 ^ 32
count_small word n e = count_by (number_of word) n e

no_bytes : 0 < 2 ^ 32
no_bytes = omega arith

lone_small : (word : Word) (event : Event) → lone_event word ≡ Some event → IsSmall event
lone_small word event e =
    either IsSmall (is_keyword (codes "dial") word) (Some Dial) _ event e (given IsSmall Dial event no_bytes) (λ e.
    either IsSmall (is_keyword (codes "die") word) (Some Die) _ event e (given IsSmall Die event no_bytes) (λ e.
    either IsSmall (is_keyword (codes "lose") word) (Some Lose) _ event e (given IsSmall Lose event no_bytes) (λ e.
    either IsSmall (is_keyword (codes "timeout") word) (Some Timeout) None event e
    (given IsSmall Timeout event no_bytes) (λ e. absurd cc))))

alone : (event : Option Event) (events : List Event) → ((x : Event) → event ≡ Some x → IsSmall x)
    → option_map (λ (x : Event). x ∷ []) event ≡ Some events → AreSmall events
alone None events small e = absurd cc
alone (Some event) events small e = given AreSmall (event ∷ []) events (one_small event (small event refl)) e

with_small : (word : Word) (n : ℕ) (events : List Event) → n < 2 ^ 32 → events_with word n ≡ Some events
    → AreSmall events
with_small word n events h e =
    either AreSmall (is_keyword (codes "send") word) _ _ events e
    (given AreSmall (Send n ∷ []) events (one_small (Send n) h)) (λ e.
    either AreSmall (is_keyword (codes "to-filter") word) _ _ events e
    (given AreSmall (ToFilter n ∷ []) events (one_small (ToFilter n) h)) (λ e.
    either AreSmall (is_keyword (codes "answer") word) _ _ events e
    (given AreSmall (Answer n ∷ []) events (one_small (Answer n) h)) (λ e.
    either AreSmall (is_keyword (codes "to-mta") word) _ _ events e
    (given AreSmall (ToMta n ∷ []) events (one_small (ToMta n) h)) (λ e.
    either AreSmall (is_keyword (codes "round") word) (Some (round n)) None events e
    (given AreSmall (round n) events (round_small n h)) (λ e. absurd cc)))))

bytes_then : (word : Word) (number : Option ℕ) (events : List Event) → ((n : ℕ) → number ≡ Some n → n < 2 ^ 32)
    → (number >>= events_with word) ≡ Some events → AreSmall events
bytes_then word None events small e = absurd cc
bytes_then word (Some n) events small e = with_small word n events (small n refl) e

rounds_then : (count bytes : Option ℕ) (events : List Event) → ((n : ℕ) → bytes ≡ Some n → n < 2 ^ 32)
    → (count >>= λ k. bytes >>= λ n. Some (rounds k n)) ≡ Some events → AreSmall events
rounds_then None bytes events small e = absurd cc
rounds_then (Some count) None events small e = absurd cc
rounds_then (Some count) (Some n) events small e =
    given AreSmall (rounds count n) events (rounds_small count n (small n refl)) e

words_small : (words : List Word) (events : List Event) → events_of words ≡ Some events → AreSmall events
words_small [] events e = absurd cc
words_small (word ∷ []) events e = alone (lone_event word) events (lone_small word) e
words_small (word ∷ bytes ∷ []) events e = bytes_then word (count_of bytes) events (count_small bytes) e
words_small (word ∷ count ∷ bytes ∷ []) events e =
    either AreSmall (is_keyword (codes "rounds") word) (rounds_of count bytes) None events e
    (rounds_then (count_of count) (count_of bytes) events (count_small bytes)) (λ e. absurd cc)
words_small (a ∷ b ∷ c ∷ d ∷ words) events e = absurd cc

-- ---- the events of lines

parts_small : (lines : List (List ℕ)) (parts : List (List Event)) → AllZip LineHasEvents lines parts
    → AreSmall (all_of parts)
parts_small [] [] h = All-nil IsSmall
parts_small [] (part ∷ parts) h = absurd h
parts_small (line ∷ lines) [] h = absurd h
parts_small (line ∷ lines) (part ∷ parts) h =
    All-append IsSmall part (all_of parts) (words_small h.0.words part h.0.events_are) (parts_small lines parts h.1)

events_small : (lines : List (List ℕ)) (events : List Event) → HaveEvents lines events → AreSmall events
events_small lines events h = subst AreSmall (sym h.joined) (parts_small lines h.parts h.have_parts)

pub small_read : {V : Type 0} (items : V → List Event) (lines : List (List ℕ)) (result : Result V EventFault)
    → IfOk result (λ v. HaveEvents lines (items v)) → IfOk result (λ v. AreSmall (items v))
small_read items lines (Ok v) found = events_small lines (items v) found
small_read items lines (Err e) found = tt
