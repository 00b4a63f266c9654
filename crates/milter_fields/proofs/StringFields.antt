-- A string that is decoded was encoded so, and a string that is encoded is decoded.
use Rattle.std.proofs.Common.{◌≡◌, ◌≢◌, ℕ, zero, suc, ◌+◌, Bool, true, ◌<◌, ◌≤◌, false, ltb, List, [], ◌∷◌, ◌++◌, length, take, drop, Option, Some, None, refl, sym, ap, subst, ◌∙◌, arith, inl, inr, add-one, append-nil, length-append}
use Rattle.std.specs.Prelude.{◌==◌, ◌↔◌, IsTrue, not, position}
use Rattle.std.specs.Option.{is_some}
use Rattle.std.specs.List.{position_or_len}
use Rattle.std.proofs.lemmas.Bool.{cases_lt, lt-ltb, ltb-true, ne_eqb}
use Rattle.std.proofs.lemmas.Option.{cond_some, none-some, same_Some}
use Rattle.std.proofs.lemmas.List.Elements.{All-nil, All-cons, All-head, All-tail}
use Rattle.milter_fields.specs.Field.{string, HasNoNul}
use Rattle.milter_fields.specs.Decoders.{ended, string_at, string_in}
use Rattle.milter_fields.proofs.Lanes.{position_none}
use Rattle.milter_fields.proofs.Binds.{bind_some}
use Rattle.milter_fields.proofs.Steps.{ended_takes}

-- ---- the first NUL

abbrev end_of : List ℕ → ℕ
end_of bytes = position_or_len (λ byte. byte == 0) bytes

end_of-suc : (byte : ℕ) (rest : List ℕ) → end_of (suc byte ∷ rest) ≡ 1 + end_of rest
end_of-suc byte rest = let f : (suc byte == 0) ≡ false = ne_eqb _ _ (omega arith) in rw f refl

found : (bytes : List ℕ) → end_of bytes < length bytes → string_at bytes ≡ Some (take (end_of bytes) bytes, drop (end_of bytes + 1) bytes)
unfolding string_at
found [] h = absurd (omega arith)
found (zero ∷ rest) h = refl
found (suc byte ∷ rest) h =
    let others = found rest (omega (arith, end_of-suc byte rest)) in
    let n : end_of (suc byte ∷ rest) ≡ suc (end_of rest) = omega (arith, end_of-suc byte rest) in
    rw (n, others, add-one, add-one) refl

missing : (bytes : List ℕ) → length bytes ≤ end_of bytes → string_at bytes ≡ None
unfolding string_at
missing [] h = refl
missing (zero ∷ rest) h = absurd (let z : end_of (0 ∷ rest) ≡ 0 = refl in omega (arith, z))
missing (suc byte ∷ rest) h = rw (missing rest (omega (arith, end_of-suc byte rest))) refl

pub string_at-no_nul : (bytes : List ℕ) → position (λ byte. byte == 0) bytes ≡ None → string_at bytes ≡ None
string_at-no_nul bytes h =
    elim (cases_lt (end_of bytes) (length bytes)) [
      | inl lt ↦ absurd (none-some (end_of bytes) (sym h ∙ rw (lt-ltb _ _ lt) refl))
      | inr le ↦ missing bytes le
    ]

pub string_at-nul : (bytes : List ℕ) (n : ℕ) → position (λ byte. byte == 0) bytes ≡ Some n → string_at bytes ≡ Some (take n bytes, drop (n + 1) bytes)
string_at-nul bytes n h =
    let g = cond_some (ltb (end_of bytes) (length bytes)) (end_of bytes) n h in
    rw (← g.1) (found bytes (ltb-true _ _ g.0))

before_nul : (text : List ℕ) → length text ≤ end_of text → HasNoNul text
unfolding HasNoNul
before_nul [] h = All-nil (λ byte. byte ≢ 0)
before_nul (zero ∷ text) h = absurd (let z : end_of (0 ∷ text) ≡ 0 = refl in omega (arith, z))
before_nul (suc byte ∷ text) h =
    let some : suc byte ≢ 0 = omega arith in
    All-cons (λ byte. byte ≢ 0) (suc byte) text some (before_nul text (omega (arith, end_of-suc byte text)))

no_nul_before : (text : List ℕ) → HasNoNul text → length text ≤ end_of text
unfolding HasNoNul
no_nul_before [] h = omega arith
no_nul_before (zero ∷ text) h = absurd (All-head (λ byte. byte ≢ 0) 0 text h refl)
no_nul_before (suc byte ∷ text) h = omega (arith, end_of-suc byte text, no_nul_before text (All-tail (λ byte. byte ≢ 0) (suc byte) text h))

no_nul_found : (text : List ℕ) → position (λ byte. byte == 0) text ≡ None → HasNoNul text
no_nul_found text h =
    elim (cases_lt (end_of text) (length text)) [
      | inl lt ↦ absurd (none-some (end_of text) (sym h ∙ rw (lt-ltb _ _ lt) refl))
      | inr le ↦ before_nul text le
    ]

finds_no_nul : (text : List ℕ) → HasNoNul text → position (λ byte. byte == 0) text ≡ None
finds_no_nul text h = sym (position_none (λ byte. byte == 0) text (no_nul_before text h))

is_none_found : (found : Option ℕ) (none : Bool) → is_some found ≡ not none → IsTrue none → found ≡ None
is_none_found None none s t = refl
is_none_found (Some k) true s t = absurd cc
is_none_found (Some k) false s t = absurd cc

found_is_none : (found : Option ℕ) (none : Bool) → is_some found ≡ not none → found ≡ None → IsTrue none
found_is_none None true s e = refl
found_is_none None false s e = absurd cc
found_is_none (Some k) none s e = absurd (none-some k (sym e))

-- a text without NUL is one where none is found
pub tells_no_nul : (text : List ℕ) (found : Option ℕ) (none : Bool) → found ≡ position (λ byte. byte == 0) text → is_some found ≡ not none → IsTrue none ↔ HasNoNul text
tells_no_nul text found none e s = (
  λ t. no_nul_found text (sym e ∙ is_none_found found none s t),
  λ h. found_is_none found none s (e ∙ finds_no_nul text h),
)

-- ---- a string at the start

pub record TakesString (bytes text rest : List ℕ) : Type 0 where
  pub bytes_are : bytes ≡ string text ++ rest
  pub no_nul : HasNoNul text

pub string_takes : (bytes text rest : List ℕ) → string_at bytes ≡ Some (text, rest) → TakesString bytes text rest
unfolding string_at HasNoNul
string_takes [] text rest h = absurd cc
string_takes (zero ∷ bytes) text rest h =
    subst (λ (x : List ℕ × List ℕ). TakesString (0 ∷ bytes) x.0 x.1) (same_Some ([], bytes) (text, rest) h)
    record { bytes_are = refl; no_nul = All-nil (λ byte. byte ≢ 0) }
string_takes (suc byte ∷ bytes) text rest h =
    let p = bind_some (string_at bytes) (λ x. Some (suc byte ∷ x.0, x.1)) (text, rest) h in
    let others = string_takes bytes p.0.0 p.0.1 p.1 in
    let some : suc byte ≢ 0 = omega arith in
    subst (λ (x : List ℕ × List ℕ). TakesString (suc byte ∷ bytes) x.0 x.1) (same_Some (suc byte ∷ p.0.0, p.0.1) (text, rest) p.2)
    record {
      bytes_are = ap (λ (x : List ℕ). suc byte ∷ x) others.bytes_are;
      no_nul = All-cons (λ byte. byte ≢ 0) (suc byte) p.0.0 some others.no_nul;
    }

pub string_at-string : (text rest : List ℕ) → HasNoNul text → string_at (string text ++ rest) ≡ Some (text, rest)
unfolding string_at HasNoNul
string_at-string [] rest h = refl
string_at-string (zero ∷ text) rest h = absurd (All-head (λ byte. byte ≢ 0) 0 text h refl)
string_at-string (suc byte ∷ text) rest h = rw (string_at-string text rest (All-tail (λ byte. byte ≢ 0) (suc byte) text h)) refl

pub string_at-shorter : (bytes text rest : List ℕ) → string_at bytes ≡ Some (text, rest) → length rest < length bytes
string_at-shorter bytes text rest h =
    let e = ap length (string_takes bytes text rest h).bytes_are in
    omega (arith, e, length-append (string text) rest, length-append text (0 ∷ []))

-- ---- one string

pub record TakesOne (bytes text : List ℕ) : Type 0 where
  pub bytes_are : bytes ≡ string text
  pub no_nul : HasNoNul text

pub one_string_takes : (bytes text : List ℕ) → string_in bytes ≡ Some text → TakesOne bytes text
unfolding string_in
one_string_takes bytes text e =
    let p = bind_some (string_at bytes) (λ t. ended t.0 t.1) text e in
    let t = string_takes bytes p.0.0 p.0.1 p.1 in
    let end = ended_takes p.0.0 p.0.1 text p.2 in
    subst (TakesOne bytes) end.1
    record { bytes_are = t.bytes_are ∙ rw end.0 (append-nil (string p.0.0)); no_nul = t.no_nul }

pub string_in-string : (text : List ℕ) → HasNoNul text → string_in (string text) ≡ Some text
unfolding string_in
string_in-string text h =
    let whole : string_at (string text) ≡ Some (text, []) = ap string_at (sym (append-nil (string text))) ∙ string_at-string text [] h in
    rw whole refl
