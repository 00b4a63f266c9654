-- What stays unread after a fault.
use Rattle.std.proofs.Common.{◌≡◌, ℕ, ◌-◌, ◌≤◌, ◌<◌, ◌^◌, min, Bool, true, false, List, [], ◌∷◌, ◌++◌, length, get_or, take, Some, None, Result, Ok, refl, sym, ap, subst, ◌∙◌, arith, append-nil, length-append, if◌then◌else◌}
use Rattle.std.specs.Prelude.{◌==◌, nat_lt}
use Rattle.std.proofs.lemmas.Bool.{eqb-true}
use Rattle.std.proofs.lemmas.Option.{same_Some}
use Rattle.std.proofs.lemmas.List.{length-take}
use Rattle.std.proofs.lemmas.List.Elements.{All-nil, All-append, All-from_get_or, All-take}
use Rattle.milter_fields.specs.declared.fault.NoMemory.{NoMemory}
use Rattle.milter_fields.specs.declared.fault.WireFault.{WireFault}
use Rattle.milter_fields.specs.declared.fault.WireFault.TheVariants.{ZeroLength, TooLong}
use Rattle.milter_fields.specs.FirstPacket.{fed_len, first_packet_end}
use Rattle.milter_fields.specs.Number.{IsBytes, number, number_from_bytes}
use Rattle.milter_fields.specs.Stream.{IsUnfinished, fault_of, length_fault}
use Rattle.milter_fields.proofs.StreamLaws.{length_fault-fed, number_takes}
use Rattle.milter_filter_stream.specs.Conversations.{length_field}

-- ---- a length at fault

field-by : (n : ℕ) (zero_length too_long : Bool) (fault : WireFault) → (n == 0) ≡ zero_length
    → (if zero_length then Some ZeroLength else if too_long then Some (TooLong n) else None) ≡ Some fault → number n ≡ length_field fault
field-by n true too_long fault zero is = ap number (eqb-true n 0 zero) ∙ ap length_field (same_Some ZeroLength fault is)
field-by n false true fault zero is = ap length_field (same_Some (TooLong n) fault is)
field-by n false false fault zero is = absurd cc

field-is : (n : ℕ) (fault : WireFault) → fault_of n ≡ Some fault → number n ≡ length_field fault
field-is n fault is = field-by n (n == 0) (nat_lt 65536 n) fault refl is

four-are : (bytes : List ℕ) (fault : WireFault) → IsBytes bytes → length bytes ≤ 4 → length_fault bytes ≡ Some fault → bytes ≡ length_field fault
four-are (a ∷ b ∷ c ∷ d ∷ []) fault below short is =
    let n = number_from_bytes a b c d in
    (number_takes (a ∷ b ∷ c ∷ d ∷ []) n [] below refl).bytes_are ∙ append-nil (number n) ∙ field-is n fault is
four-are (a ∷ b ∷ c ∷ d ∷ e ∷ body) fault below short is = absurd (omega arith)
four-are [] fault below short is = absurd cc
four-are (a ∷ []) fault below short is = absurd cc
four-are (a ∷ b ∷ []) fault below short is = absurd cc
four-are (a ∷ b ∷ c ∷ []) fault below short is = absurd cc

end-at_fault : (bytes : List ℕ) (fault : WireFault) → length_fault bytes ≡ Some fault → first_packet_end bytes ≡ 4
unfolding first_packet_end
end-at_fault (a ∷ b ∷ c ∷ d ∷ body) fault is = rw is refl
end-at_fault [] fault is = absurd cc
end-at_fault (a ∷ []) fault is = absurd cc
end-at_fault (a ∷ b ∷ []) fault is = absurd cc
end-at_fault (a ∷ b ∷ c ∷ []) fault is = absurd cc

-- bytes of no fault are at one only with what follows, so they are no whole length field
is-short : (unread more : List ℕ) (fault : WireFault) → IsUnfinished unread → length_fault (unread ++ more) ≡ Some fault → length unread ≤ 4
is-short (a ∷ b ∷ c ∷ d ∷ body) more fault unfinished is = let none = unfinished.0 in absurd cc
is-short [] more fault unfinished is = omega arith
is-short (a ∷ []) more fault unfinished is = omega arith
is-short (a ∷ b ∷ []) more fault unfinished is = omega arith
is-short (a ∷ b ∷ c ∷ []) more fault unfinished is = omega arith

pub piece-bytes : (piece : List ℕ) → ((i : ℕ) → get_or piece i 0 < 256) → IsBytes piece
piece-bytes piece below = All-from_get_or (λ b. b < 2 ^ 8) piece 0 (λ i _. below i)

pub no-bytes : IsBytes []
no-bytes = All-nil (λ b. b < 2 ^ 8)

pub fed-bytes : (unread piece new : List ℕ) (n : ℕ) → IsBytes unread → IsBytes piece → new ≡ unread ++ take n piece → IsBytes new
fed-bytes unread piece new n below piece_below fed =
    let P : ℕ → Type 0 = λ b. b < 2 ^ 8 in
    subst IsBytes (sym fed) (All-append P unread (take n piece) below (All-take P n piece piece_below))

pub fed-count : (n m : ℕ) → ◌≡◌ {A = Result ℕ NoMemory} (Ok n) (Ok m) → n ≡ m
fed-count n m e = cc

-- where a length is at fault, its four bytes are all that is unread
pub field-unread : (unread piece new : List ℕ) (n : ℕ) (fault : WireFault) → IsUnfinished unread → IsBytes new → n ≡ fed_len unread piece → new ≡ unread ++ take n piece
    → length_fault new ≡ Some fault → new ≡ length_field fault
field-unread unread piece new n fault unfinished below count fed is =
    let end = end-at_fault (unread ++ piece) fault (length_fault-fed unread piece new n fault fed is) in
    let short = is-short unread (take n piece) fault unfinished (ap length_fault (sym fed) ∙ is) in
    let most : n ≡ min (4 - length unread) (length piece) = count ∙ ap (λ e. min (e - length unread) (length piece)) end in
    let taken = length-take n piece in
    let len = ap length fed ∙ length-append unread (take n piece) in
    four-are new fault below (omega (arith, most, taken, len, short)) is
