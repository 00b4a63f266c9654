-- The lines of bytes that come one after the other.
use Rattle.std.proofs.Common.{◌≡◌, ◌≢◌, ℕ, suc, ◌+◌, ◌<◌, ◌≤◌, true, false, List, [], ◌∷◌, ◌++◌, length, get_or, take, drop, Some, None, refl, sym, ap, ◌∙◌, arith, take-append-drop, add-one, inl, inr, eq-eqb}
use Rattle.std.specs.Prelude.{◌==◌, position}
use Rattle.std.specs.List.{position_or_len}
use Rattle.std.proofs.Math.Seq.{drop-cons}
use Rattle.std.proofs.lemmas.Bool.{cases_eq, cases_lt, eqb-true, eqb-false, ne_eqb, lt-ltb}
use Rattle.std.proofs.lemmas.Option.{none-some}
use Rattle.std.proofs.lemmas.List.{get_or-take, length-take}
use Rattle.std.proofs.lemmas.List.Elements.{All-nil, All-cons, All-head, All-tail}
use Rattle.std.proofs.lemmas.List.Quantifiers.{position-Some}
use Rattle.milter_text.specs.Lines.{Line, onto, lines_of}
use Rattle.milter_trace.specs.TraceState.{HasNoLf}

abbrev IsNoEnd : ℕ → Type 0
IsNoEnd byte = byte ≢ 10

lines_of-byte : (byte : ℕ) (bytes : List ℕ) → byte ≢ 10 → lines_of (byte ∷ bytes) ≡ onto byte (lines_of bytes)
lines_of-byte byte bytes ne = let f : (byte == 10) ≡ false = ne_eqb byte 10 ne in rw f refl

pub lines_of-ended : (prefix more : List ℕ) → HasNoLf prefix → lines_of (prefix ++ 10 ∷ more) ≡ record { bytes = prefix; ended = true } ∷ lines_of more
lines_of-ended [] more h = refl
lines_of-ended (b ∷ prefix) more h =
    lines_of-byte b (prefix ++ 10 ∷ more) (All-head IsNoEnd b prefix h) ∙ ap (onto b) (lines_of-ended prefix more (All-tail IsNoEnd b prefix h))

pub lines_of-last : (b : ℕ) (prefix : List ℕ) → HasNoLf (b ∷ prefix) → lines_of (b ∷ prefix) ≡ record { bytes = b ∷ prefix; ended = false } ∷ []
lines_of-last b [] h = lines_of-byte b [] (All-head IsNoEnd b [] h)
lines_of-last b (c ∷ prefix) h = lines_of-byte b (c ∷ prefix) (All-head IsNoEnd b (c ∷ prefix) h) ∙ ap (onto b) (lines_of-last c prefix (All-tail IsNoEnd b (c ∷ prefix) h))

-- the line that begins with some bytes
pub record Begins (prefix bytes : List ℕ) : Type 0 where
  pub line : Line
  pub lines : List Line
  pub lines_are : lines_of bytes ≡ line ∷ lines
  pub long : length prefix ≤ length line.bytes

begins_onto : (b : ℕ) (prefix bytes : List ℕ) → b ≢ 10 → Begins prefix bytes → Begins (b ∷ prefix) (b ∷ bytes)
begins_onto b prefix bytes ne r = record {
  line = record { bytes = b ∷ r.line.bytes; ended = r.line.ended };
  lines = r.lines;
  lines_are = lines_of-byte b bytes ne ∙ ap (onto b) r.lines_are;
  long = let le = r.long in omega arith;
}

one_onto : (b : ℕ) (bytes : List ℕ) (ls : List Line) → b ≢ 10 → lines_of bytes ≡ ls → Begins (b ∷ []) (b ∷ bytes)
one_onto b bytes [] ne is = record { line = record { bytes = b ∷ []; ended = false }; lines = []; lines_are = lines_of-byte b bytes ne ∙ ap (onto b) is; long = omega arith }
one_onto b bytes (l ∷ ls) ne is = record { line = record { bytes = b ∷ l.bytes; ended = l.ended }; lines = ls; lines_are = lines_of-byte b bytes ne ∙ ap (onto b) is; long = omega arith }

pub begins : (b : ℕ) (prefix more : List ℕ) → HasNoLf (b ∷ prefix) → Begins (b ∷ prefix) ((b ∷ prefix) ++ more)
begins b [] more h = one_onto b more (lines_of more) (All-head IsNoEnd b [] h) refl
begins b (c ∷ prefix) more h = begins_onto b (c ∷ prefix) ((c ∷ prefix) ++ more) (All-head IsNoEnd b (c ∷ prefix) h) (begins c prefix more (All-tail IsNoEnd b (c ∷ prefix) h))

-- ---- where a line ends

pub record LineEnd (bytes : List ℕ) (i : ℕ) : Type 0 where
  pub within : i < length bytes
  pub split : bytes ≡ take i bytes ++ 10 ∷ drop (i + 1) bytes
  pub prefix : HasNoLf (take i bytes)

pub ends_at : (bytes : List ℕ) (i : ℕ) → position (λ byte. byte == 10) bytes ≡ Some i → LineEnd bytes i
ends_at bytes i h =
    let first = position-Some (λ byte. byte == 10) bytes i 0 h in
    let here : get_or bytes i 0 ≡ 10 = eqb-true (get_or bytes i 0) 10 first.1 in
    let tail : drop i bytes ≡ 10 ∷ drop (i + 1) bytes = drop-cons bytes i 0 first.0 ∙ ap (λ (x : ℕ). x ∷ drop (suc i) bytes) here ∙ ap (λ (n : ℕ). 10 ∷ drop n bytes) (sym (add-one i)) in
    record {
      within = first.0;
      split = sym (take-append-drop i bytes) ∙ ap (λ (x : List ℕ). take i bytes ++ x) tail;
      prefix = λ k d lt.
          let below : k < i = omega (arith, length-take i bytes) in
          let before = (position-Some (λ byte. byte == 10) bytes i d h).2 k below in
          rw (get_or-take i bytes k d below) (eqb-false (get_or bytes k d) 10 before);
    }

no_end_by : (bytes : List ℕ) → length bytes ≤ position_or_len (λ byte. byte == 10) bytes → HasNoLf bytes
no_end_by [] h = All-nil IsNoEnd
no_end_by (b ∷ bytes) h =
    elim (cases_eq b 10) [
      | inl is ↦
          let t : (b == 10) ≡ true = eq-eqb b 10 is in
          let none : position_or_len (λ byte. byte == 10) (b ∷ bytes) ≡ 0 = rw t refl in
          absurd (omega (arith, none, h))
      | inr other ↦
          let f : (b == 10) ≡ false = ne_eqb b 10 other in
          let more : position_or_len (λ byte. byte == 10) (b ∷ bytes) ≡ 1 + position_or_len (λ byte. byte == 10) bytes = rw f refl in
          All-cons IsNoEnd b bytes other (no_end_by bytes (omega (arith, more, h)))
    ]

pub no_end : (bytes : List ℕ) → position (λ byte. byte == 10) bytes ≡ None → HasNoLf bytes
no_end bytes h =
    elim (cases_lt (position_or_len (λ byte. byte == 10) bytes) (length bytes)) [
      | inl lt ↦ absurd (none-some (position_or_len (λ byte. byte == 10) bytes) (sym h ∙ rw (lt-ltb _ _ lt) refl))
      | inr le ↦ no_end_by bytes le
    ]
