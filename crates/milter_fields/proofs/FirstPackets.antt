-- How far the first packet of a stream goes, and what a splitter takes of a piece.
use Rattle.std.proofs.Common.{◌≡◌, ◌≢◌, ℕ, ◌+◌, ◌-◌, ◌<◌, ◌≤◌, Bool, true, false, min, List, [], ◌∷◌, ◌++◌, length, get_or, take, drop, Option, Some, None, refl, sym, ap, subst, ◌∙◌, inl, inr, arith, append_assoc, length-append, take-append-drop, length-drop}
use Rattle.std.specs.Prelude.{is_some, if◌then◌else◌}
use Rattle.std.proofs.Math.Seq.{take-add}
use Rattle.std.proofs.lemmas.Bool.{cases_lt}
use Rattle.std.proofs.lemmas.List.{length-take, take_rest}
use Rattle.milter_fields.specs.declared.fault.WireFault.{WireFault}
use Rattle.milter_fields.specs.Number.{number}
use Rattle.milter_fields.specs.Packet.{packet, IsPayload}
use Rattle.milter_fields.specs.Number.{number_from_bytes}
use Rattle.milter_fields.specs.Stream.{fault_of, IsUnfinished}
use Rattle.milter_fields.specs.Splitter.{IsBuffer}
use Rattle.milter_fields.specs.FirstPacket.{first_packet_end, IsAtMostOnePacket, fed_len}
use Rattle.milter_fields.proofs.Numbers.{number-number_from_bytes}
use Rattle.milter_fields.proofs.Frames.{fault_of-none}

-- ---- where the first packet ends

at_least : (b : Bool) (n : ℕ) → 4 ≤ (if b then 4 else n + 4)
at_least true n = omega arith
at_least false n = omega arith

pub first_packet_end-le : (bytes : List ℕ) → 4 ≤ first_packet_end bytes
unfolding first_packet_end
first_packet_end-le (a ∷ b ∷ c ∷ d ∷ body) = at_least (is_some (fault_of (number_from_bytes a b c d))) (number_from_bytes a b c d)
first_packet_end-le [] = omega arith
first_packet_end-le (a ∷ []) = omega arith
first_packet_end-le (a ∷ b ∷ []) = omega arith
first_packet_end-le (a ∷ b ∷ c ∷ []) = omega arith

end_by : (fault : Option WireFault) (n : ℕ) → (fault ≡ None → n ≤ 65536) → (if is_some fault then 4 else n + 4) ≤ 65540
end_by None n h = let le = h refl in omega (arith, le)
end_by (Some f) n h = omega arith

-- no packet is longer
pub first_packet_end-most : (bytes : List ℕ) → first_packet_end bytes ≤ 65540
unfolding first_packet_end
first_packet_end-most (a ∷ b ∷ c ∷ d ∷ body) = end_by (fault_of (number_from_bytes a b c d)) (number_from_bytes a b c d) (λ valid. (fault_of-none (number_from_bytes a b c d) valid).fits)
first_packet_end-most [] = omega arith
first_packet_end-most (a ∷ []) = omega arith
first_packet_end-most (a ∷ b ∷ []) = omega arith
first_packet_end-most (a ∷ b ∷ c ∷ []) = omega arith

pub first_packet_end-short : (bytes : List ℕ) → length bytes < 4 → first_packet_end bytes ≡ 4
unfolding first_packet_end
first_packet_end-short (a ∷ b ∷ c ∷ d ∷ body) lt = absurd (omega arith)
first_packet_end-short [] lt = refl
first_packet_end-short (a ∷ []) lt = refl
first_packet_end-short (a ∷ b ∷ []) lt = refl
first_packet_end-short (a ∷ b ∷ c ∷ []) lt = refl

-- what follows a whole length field doesn't move the end
pub first_packet_end-append : (bytes more : List ℕ) → 4 ≤ length bytes → first_packet_end (bytes ++ more) ≡ first_packet_end bytes
unfolding first_packet_end
first_packet_end-append (a ∷ b ∷ c ∷ d ∷ body) more le = refl
first_packet_end-append [] more le = absurd (omega arith)
first_packet_end-append (a ∷ []) more le = absurd (omega arith)
first_packet_end-append (a ∷ b ∷ []) more le = absurd (omega arith)
first_packet_end-append (a ∷ b ∷ c ∷ []) more le = absurd (omega arith)

-- ---- taking

-- a step stays in the first packet
pub IsAtMostOnePacket-step : (first piece : List ℕ) (n : ℕ) → IsAtMostOnePacket first → n ≡ min (first_packet_end first - length first) (length piece) → IsAtMostOnePacket (first ++ take n piece)
IsAtMostOnePacket-step first piece n is e =
    let len : length (first ++ take n piece) ≡ length first + n = omega (arith, length-append first (take n piece), length-take n piece) in
    elim (cases_lt (length first) 4) [
      | inl lt ↦ omega (arith, len, first_packet_end-short first lt, first_packet_end-le (first ++ take n piece))
      | inr le ↦ omega (arith, len, first_packet_end-append first (take n piece) le)
    ]

-- the buffer after a step
pub filled : (len m : ℕ) (old new piece : List ℕ) → IsBuffer len old → m ≡ min (first_packet_end (take len old) - len) (length piece)
    → length new ≡ length old → take (len + length (take m piece)) new ≡ take len old ++ take m piece → IsBuffer (len + m) new
filled len m old new piece h count same bytes =
    let sized : length (take len old) ≡ len = omega (arith, length-take len old, h.room, h.within) in
    let took : length (take m piece) ≡ m = omega (arith, length-take m piece, count) in
    let step = IsAtMostOnePacket-step (take len old) piece m h.one_packet (count ∙ ap (λ (n : ℕ). min (first_packet_end (take len old) - n) (length piece)) (sym sized)) in
    let most = first_packet_end-most (take len old) in
    record {
      room = same ∙ h.room;
      within = omega (arith, most, count, h.within);
      one_packet = subst IsAtMostOnePacket (sym bytes ∙ ap (λ (n : ℕ). take (len + n) new) took) step;
    }

-- the first packet of a piece, as far as it has come
pub first_of_piece : (piece : List ℕ) (n : ℕ) → n ≡ min (first_packet_end piece) (length piece) → IsAtMostOnePacket (take n piece)
first_of_piece piece n e =
    let len : length (take n piece) ≡ n = omega (arith, length-take n piece, e) in
    elim (cases_lt (length piece) 4) [
      | inl lt ↦ omega (arith, len, e, first_packet_end-le (take n piece))
      | inr le ↦
          let least = first_packet_end-le piece in
          let same : first_packet_end piece ≡ first_packet_end (take n piece) =
          sym (ap first_packet_end (take-append-drop n piece)) ∙ first_packet_end-append (take n piece) (drop n piece) (omega (arith, len, e, least)) in
          omega (arith, len, e, same)
    ]

-- the buffer that has it
pub first_filled : (n : ℕ) (old new piece : List ℕ) → length old ≡ 65540 → n ≡ min (first_packet_end piece) (length piece) → length new ≡ length old
    → take (0 + length (take n piece)) new ≡ take 0 old ++ take n piece → IsBuffer n new
first_filled n old new piece room count same bytes =
    let most = first_packet_end-most piece in
    let len : 0 + length (take n piece) ≡ n = omega (arith, length-take n piece, count) in
    let taken : take n new ≡ take n piece = rw len at bytes in
    record { room = same ∙ room; within = omega (arith, most, count); one_packet = subst IsAtMostOnePacket (sym taken) (first_of_piece piece n count) }

-- what two steps take
pub record Fed (unread piece new : List ℕ) (n : ℕ) : Type 0 where
  pub count : n ≡ fed_len unread piece
  pub taken : new ≡ unread ++ take n piece
  pub first : IsAtMostOnePacket new

count_is : (unread piece : List ℕ) (m n : ℕ) → IsAtMostOnePacket unread → m ≡ min (first_packet_end unread - length unread) (length piece)
    → n ≡ min (first_packet_end (unread ++ take m piece) - length (unread ++ take m piece)) (length (drop m piece)) → m + n ≡ fed_len unread piece
count_is unread piece m n first e f =
    let all = length-append unread piece in
    let len : length (unread ++ take m piece) ≡ length unread + m = omega (arith, length-append unread (take m piece), length-take m piece) in
    let left = length-drop m piece in
    let joined : (unread ++ take m piece) ++ drop m piece ≡ unread ++ piece = append_assoc unread (take m piece) (drop m piece) ∙ ap (λ (t : List ℕ). unread ++ t) (take-append-drop m piece) in
    elim (cases_lt (length unread + m) 4) [
      | inl lt ↦
          let first = first_packet_end-short unread (omega arith) in
          let last = first_packet_end-short (unread ++ piece) (omega (arith, all, first, e)) in
          omega (arith, all, first, last, left, e, f)
      | inr le ↦
          let same : first_packet_end (unread ++ piece) ≡ first_packet_end (unread ++ take m piece) = sym (ap first_packet_end joined) ∙ first_packet_end-append (unread ++ take m piece) (drop m piece) (omega (arith, len)) in
          let stays = IsAtMostOnePacket-step unread piece m first e in
          omega (arith, all, len, left, same, stays, e, f)
    ]

pub fed : (unread piece middle new : List ℕ) (m n : ℕ) → IsAtMostOnePacket unread → m ≡ min (first_packet_end unread - length unread) (length piece) → middle ≡ unread ++ take m piece
    → n ≡ min (first_packet_end middle - length middle) (length (take (length piece - m) (drop m piece))) → new ≡ middle ++ take n (take (length piece - m) (drop m piece)) → Fed unread piece new (m + n)
fed unread piece middle new m n first e is f made =
    let rest = take_rest piece m in
    let n_is : n ≡ min (first_packet_end (unread ++ take m piece) - length (unread ++ take m piece)) (length (drop m piece)) =
    f ∙ ap (λ (t : List ℕ). min (first_packet_end t - length t) (length (take (length piece - m) (drop m piece)))) is ∙ ap (λ (t : List ℕ). min (first_packet_end (unread ++ take m piece) - length (unread ++ take m piece)) (length t)) rest in
    let new_is : new ≡ (unread ++ take m piece) ++ take n (drop m piece) =
    made ∙ ap (λ (t : List ℕ). t ++ take n (take (length piece - m) (drop m piece))) is ∙ ap (λ (t : List ℕ). (unread ++ take m piece) ++ take n t) rest in
    record {
      count = count_is unread piece m n first e n_is;
      taken = new_is ∙ append_assoc unread (take m piece) (take n (drop m piece)) ∙ ap (λ (t : List ℕ). unread ++ t) (sym (take-add m n piece));
      first = subst IsAtMostOnePacket (sym new_is) (IsAtMostOnePacket-step (unread ++ take m piece) (drop m piece) n (IsAtMostOnePacket-step unread piece m first e) n_is);
    }

-- ---- a whole packet

first_is_whole : (a b c d code : ℕ) (body : List ℕ) → a < 256 → b < 256 → c < 256 → d < 256 → IsAtMostOnePacket (a ∷ b ∷ c ∷ d ∷ code ∷ body) → fault_of (number_from_bytes a b c d) ≡ None → number_from_bytes a b c d ≤ length body + 1
    → (a ∷ b ∷ c ∷ d ∷ code ∷ body ≡ packet code body) × IsPayload body
unfolding first_packet_end
first_is_whole a b c d code body ha hb hc hd first valid le =
    let n = number_from_bytes a b c d in
    let s = fault_of-none n valid in
    let within : length (a ∷ b ∷ c ∷ d ∷ code ∷ body) ≤ n + 4 = subst (λ (o : Option WireFault). length (a ∷ b ∷ c ∷ d ∷ code ∷ body) ≤ (if is_some o then 4 else n + 4)) valid first in
    let len : length body + 1 ≡ n = omega (arith, within, le) in
    let field : number (length body + 1) ≡ a ∷ b ∷ c ∷ d ∷ [] = ap number len ∙ number-number_from_bytes a b c d ha hb hc hd in
    (sym (ap (λ (x : List ℕ). x ++ code ∷ body) field), omega (arith, len, s.fits))

pub whole_packet_is : (bytes : List ℕ) (stated : ℕ) → ((i : ℕ) → get_or bytes i 0 < 256) → IsAtMostOnePacket bytes → 4 ≤ length bytes
    → stated ≡ number_from_bytes (get_or bytes 0 0) (get_or bytes 1 0) (get_or bytes 2 0) (get_or bytes 3 0) → fault_of stated ≡ None → stated ≤ length (drop 4 bytes)
    → (bytes ≡ packet (get_or (drop 4 bytes) 0 0) (drop 1 (drop 4 bytes))) × IsPayload (drop 1 (drop 4 bytes))
whole_packet_is (a ∷ b ∷ c ∷ d ∷ code ∷ body) stated fits first len is valid le =
    first_is_whole a b c d code body (fits 0) (fits 1) (fits 2) (fits 3) first (ap fault_of (sym is) ∙ valid) (omega (arith, is, le))
whole_packet_is (a ∷ b ∷ c ∷ d ∷ []) stated fits first len is valid le = let s = fault_of-none stated valid in absurd (omega (arith, s.some, le))
whole_packet_is [] stated fits first len is valid le = absurd (omega arith)
whole_packet_is (a ∷ []) stated fits first len is valid le = absurd (omega arith)
whole_packet_is (a ∷ b ∷ []) stated fits first len is valid le = absurd (omega arith)
whole_packet_is (a ∷ b ∷ c ∷ []) stated fits first len is valid le = absurd (omega arith)

-- ---- progress

pub unfinished_end : (bytes : List ℕ) → IsUnfinished bytes → length bytes < first_packet_end bytes
unfolding first_packet_end
unfinished_end (a ∷ b ∷ c ∷ d ∷ body) u = rw u.0 (omega (arith, u.1))
unfinished_end [] u = omega arith
unfinished_end (a ∷ []) u = omega arith
unfinished_end (a ∷ b ∷ []) u = omega arith
unfinished_end (a ∷ b ∷ c ∷ []) u = omega arith

some_length : (piece : List ℕ) → piece ≢ [] → 0 < length piece
some_length [] some = absurd (some refl)
some_length (b ∷ piece) some = omega arith

-- with less than a packet unread, and no fault, some of a piece is taken
pub takes_some : (unread piece : List ℕ) (n : ℕ) → IsUnfinished unread → piece ≢ [] → n ≡ fed_len unread piece → 0 < n
takes_some unread piece n u some e =
    let len = some_length piece some in
    elim (cases_lt (length unread) 4) [
      | inl lt ↦ omega (arith, e, len, first_packet_end-le (unread ++ piece))
      | inr le ↦ omega (arith, e, len, first_packet_end-append unread piece le, unfinished_end unread u)
    ]
