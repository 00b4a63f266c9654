-- Header fields with the blank that their values begin with, and without it.
use Rattle.std.proofs.Common.{◌≡◌, ℕ, suc, ◌≤◌, ◌==◌, ◌≢◌, Bool, true, false, List, [], ◌∷◌, length, min, ◌-◌, ◌^◌, All, refl, arith, inl, inr, length-append}
use Rattle.std.proofs.lemmas.Bool.{cases_Bool, eqb-true}
use Rattle.std.proofs.lemmas.Bool.Decides.{nat_tests}
use Rattle.std.proofs.lemmas.List.Elements.{All-cons, All-tail, All-weaker}
use Rattle.milter_fields.specs.declared.header.Header.{Header}
use Rattle.milter_fields.specs.Field.{HasNoNul, string}
use Rattle.milter_fields.specs.Layout.{header as fields}
use Rattle.milter_message.specs.declared.leading_space.TheConstants.{LEADING_SPACE}
use Rattle.milter_message.specs.LeadingSpace.{FieldFits, WholeFieldFits, change_header, changed_value, put_header, put_value, sent_header, without_leading_space}

-- what is put is sent as it was
pub sent_put : (leading_space : Bool) (header : Header) → sent_header leading_space (put_header leading_space header) ≡ header
sent_put true header = refl
sent_put false header = refl

-- the value without its blank has no NUL where the whole one has none, and the other way round
pub sent_no_nul : (value : List ℕ) → HasNoNul value → HasNoNul (without_leading_space value)
unfolding HasNoNul
sent_no_nul [] h = h
sent_no_nul (byte ∷ bytes) h =
    elim (cases_Bool (byte == LEADING_SPACE)) [
      | inl e ↦ rw e (All-tail (λ x. x ≢ 0) byte bytes h)
      | inr e ↦ rw e h
    ]

whole_no_nul : (value : List ℕ) → HasNoNul (without_leading_space value) → HasNoNul value
unfolding HasNoNul
whole_no_nul [] h = h
whole_no_nul (byte ∷ bytes) h =
    elim (cases_Bool (byte == LEADING_SPACE)) [
      | inl e ↦
          let blank : byte ≢ 0 = let is = eqb-true byte LEADING_SPACE e in omega arith in
          All-cons (λ x. x ≢ 0) byte bytes blank (rw e at h)
      | inr e ↦ rw e at h
    ]

-- the packet without the blank fits where no string has a NUL and its payload is short enough, and only there
pub fits_by_len : (header : Header) (n : ℕ) → HasNoNul header.name → HasNoNul header.value → n ≡ min (length (fields (sent_header false header))) (2 ^ 64 - 1) → n ≤ 65535 → FieldFits header
fits_by_len header n name value is short = record {
  fields = record { name = name; value = sent_no_nul header.value value };
  payload = omega arith;
}

pub len_by_fits : (header : Header) (n : ℕ) → n ≡ min (length (fields (sent_header false header))) (2 ^ 64 - 1) → FieldFits header → n ≤ 65535
len_by_fits header n is h = let p = h.payload in omega arith

pub strings_by_fits : (header : Header) → FieldFits header → HasNoNul header.name × HasNoNul header.value
strings_by_fits header h = (h.fields.name, whole_no_nul header.value h.fields.value)

pub sent_shorter : (value : List ℕ) → length (without_leading_space value) ≤ length value
sent_shorter [] = omega arith
sent_shorter (byte ∷ bytes) =
    elim (cases_Bool (byte == LEADING_SPACE)) [
      | inl e ↦ rw e (omega arith)
      | inr e ↦ rw e (omega arith)
    ]

pub whole_fits : (header : Header) → WholeFieldFits header → FieldFits header
whole_fits header h = record {
  fields = record { name = h.fields.name; value = sent_no_nul header.value h.fields.value };
  payload =
      let p = h.payload in
      let s = sent_shorter header.value in
      let l = length-append (string header.name) (string header.value) in
      let m = length-append (string header.name) (string (without_leading_space header.value)) in
      let n = length-append header.value (0 ∷ []) in
      let o = length-append (without_leading_space header.value) (0 ∷ []) in
      omega arith;
}

pub all_whole_fit : (headers : List Header) → All WholeFieldFits headers → All FieldFits headers
all_whole_fit headers = All-weaker WholeFieldFits FieldFits whole_fits headers

pub put_fits : (leading_space : Bool) (header : Header) → WholeFieldFits header → FieldFits (put_header leading_space header)
put_fits true header h = whole_fits header h
put_fits false header h = record { fields = h.fields; payload = h.payload }

pub change_fits : (leading_space : Bool) (name value : List ℕ) → WholeFieldFits (record { name = name; value = value }) → FieldFits (change_header leading_space (record { name = name; value = value }))
change_fits leading_space name [] h = whole_fits (record { name = name; value = [] }) h
change_fits leading_space name (byte ∷ bytes) h = put_fits leading_space (record { name = name; value = byte ∷ bytes }) h

some_put : (n : ℕ) → (suc n == 0) ≡ false
some_put n = grind (arith, nat_tests)

-- a value that isn't empty is changed to what is put of it, and that isn't empty either
pub changed_is_put : (leading_space : Bool) (value : List ℕ) → (length value == 0) ≡ false → (changed_value leading_space value ≡ put_value leading_space value) × ((length (put_value leading_space value) == 0) ≡ false)
changed_is_put leading_space [] some = absurd cc
changed_is_put true (byte ∷ bytes) some = (refl, some_put (length bytes))
changed_is_put false (byte ∷ bytes) some = (refl, some_put (suc (length bytes)))
