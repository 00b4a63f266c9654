-- What edits make of a list, step by step.
use Rattle.std.proofs.Common.{◌≡◌, ℕ, ◌+◌, ◌-◌, ◌<◌, ◌==◌, zero, suc, Bool, true, false, List, [], ◌∷◌, ◌++◌, length, get_or, set, take, drop, Option, Some, None, refl, sym, ap, ◌∙◌, arith, add-one, append_assoc, append-nil, inl, inr}
use Rattle.std.specs.List.{concat, cons_option, filter_map}
use Rattle.std.specs.Str.{bytes_eq, str_eq_ignore_ascii_case, str_to_ascii_lowercase}
use Rattle.std.proofs.lemmas.Slice.Eq.{bytes_eq-Decides}
use Rattle.std.proofs.Math.Seq.{take-suc}
use Rattle.std.proofs.lemmas.Bool.{cases_Bool, false≢true}
use Rattle.std.proofs.lemmas.List.Elements.{filter_map-append}
use Rattle.std.proofs.lemmas.Option.{none-some, same_Some}
use Rattle.milter_fields.specs.declared.header.Header.{Header}
use Rattle.milter_message.specs.declared.edit.Edit.{Edit}
use Rattle.milter_message.specs.declared.edit.Edit.TheVariants.{ReplaceBody}
use Rattle.milter_message.specs.EditedMessage.{body_of, changed_field, occurrence, new_chunk, positions_from}

-- ---- a body: the chunks of the edits below an index, and whether there is one

abbrev pub is_any : List (List ℕ) → Bool
is_any [] = false
is_any (chunk ∷ chunks) = true

is_any-append : (chunks : List (List ℕ)) (chunk : List ℕ) → is_any (chunks ++ chunk ∷ []) ≡ true
is_any-append [] chunk = refl
is_any-append (other ∷ chunks) chunk = refl

pub record IsChunked (replaced : Bool) (body : List ℕ) (position : ℕ) (edits : List Edit) : Type 0 where
  pub joined : body ≡ concat (filter_map new_chunk (take position edits))
  pub known : replaced ≡ is_any (filter_map new_chunk (take position edits))

concat_more : (chunks : List (List ℕ)) (chunk : List ℕ) → concat (chunks ++ chunk ∷ []) ≡ concat chunks ++ chunk
concat_more [] chunk = append-nil chunk
concat_more (other ∷ chunks) chunk = rw (concat_more chunks chunk, append_assoc) refl

new_chunks : (edits : List Edit) (position : ℕ) (edit : Edit) → position < length edits → edit ≡ get_or edits position edit → filter_map new_chunk (take (position + 1) edits) ≡ filter_map new_chunk (take position edits) ++ cons_option (new_chunk edit) []
new_chunks edits position edit within here =
    rw (add-one, take-suc edits position edit within, ← here) (filter_map-append new_chunk (take position edits) (edit ∷ []))

pub chunked_more : (replaced : Bool) (body chunk : List ℕ) (position : ℕ) (edits : List Edit) (edit : Edit) → IsChunked replaced body position edits → position < length edits → edit ≡ get_or edits position edit → edit ≡ ReplaceBody chunk → IsChunked true (body ++ chunk) (position + 1) edits
chunked_more replaced body chunk position edits edit h within here is =
    let chunks = filter_map new_chunk (take position edits) in
    let more = new_chunks edits position edit within here ∙ ap (λ (e : Edit). chunks ++ cons_option (new_chunk e) []) is in
    record {
      joined = rw (more, h.joined) (sym (concat_more chunks chunk));
      known = rw more (sym (is_any-append chunks chunk));
    }

pub chunked_same : (replaced : Bool) (body : List ℕ) (position : ℕ) (edits : List Edit) (edit : Edit) → IsChunked replaced body position edits → position < length edits → edit ≡ get_or edits position edit → new_chunk edit ≡ None → IsChunked replaced body (position + 1) edits
chunked_same replaced body position edits edit h within here none =
    let chunks = filter_map new_chunk (take position edits) in
    let same = new_chunks edits position edit within here ∙ ap (λ (o : Option (List ℕ)). chunks ++ cons_option o []) none ∙ append-nil chunks in
    record { joined = rw same h.joined; known = rw same h.known }

-- the body that is left, where the chunks are all
pub all_chunked : (body old : List ℕ) (chunks : List (List ℕ)) → body ≡ concat chunks → is_any chunks ≡ true → body ≡ body_of old chunks
all_chunked body old [] joined known = absurd (false≢true known)
all_chunked body old (chunk ∷ chunks) joined known = joined

pub none_chunked : (body old : List ℕ) (chunks : List (List ℕ)) → body ≡ concat chunks → is_any chunks ≡ false → body ++ old ≡ body_of old chunks
none_chunked body old [] joined known = rw joined refl
none_chunked body old (chunk ∷ chunks) joined known = absurd (false≢true (sym known))

pub no_chunk : (edit : Edit) → ((chunk : List ℕ) → edit ≡ ReplaceBody chunk → ⊥) → new_chunk edit ≡ None
no_chunk (ReplaceBody chunk) h = absurd (h chunk refl)
no_chunk other h = refl

-- ---- another value for a field at an index

pub set_is_changed : (headers : List Header) (position : ℕ) (old : Header) (value : List ℕ) → position < length headers → (length value == 0) ≡ false → old ≡ get_or headers position old
    → set headers position (record { name = old.name; value = value }) ≡ take position headers ++ changed_field value (drop position headers) ++ drop (position + 1) headers
set_is_changed headers position old [] within some here = absurd cc
set_is_changed [] position old (byte ∷ bytes) within some here = absurd (omega arith)
set_is_changed (header ∷ headers) zero old (byte ∷ bytes) within some here = rw here refl
set_is_changed (header ∷ headers) (suc position) old (byte ∷ bytes) within some here =
    rw add-one (ap (λ (others : List Header). header ∷ others) (set_is_changed headers position old (byte ∷ bytes) (omega arith) some here ∙ rw add-one refl))

-- ---- the position of an occurrence is that of a field of the name

pub same_name : (own other : List ℕ) → bytes_eq own other ≡ true → str_eq_ignore_ascii_case own other ≡ true
same_name own other e =
    let same = (bytes_eq-Decides own other).0 e in
    (bytes_eq-Decides (str_to_ascii_lowercase own) (str_to_ascii_lowercase other)).1 (ap str_to_ascii_lowercase same)

abbrev pub IsNamed : List ℕ → List Header → Type 0
IsNamed name [] = ⊥
IsNamed name (header ∷ headers) = str_eq_ignore_ascii_case header.name name ≡ true

pub record IsPositioned (name : List ℕ) (start : ℕ) (headers : List Header) (position : ℕ) : Type 0 where
  pub ahead : ℕ
  pub sum : ahead + start ≡ position
  pub within : ahead < length headers
  pub named : IsNamed name (drop ahead headers)

positioned_later : (name : List ℕ) (start : ℕ) (header : Header) (headers : List Header) (position : ℕ) → IsPositioned name (start + 1) headers position → IsPositioned name start (header ∷ headers) position
positioned_later name start header headers position h = record {
  ahead = suc h.ahead;
  sum = let e = h.sum in omega arith;
  within = let e = h.within in omega arith;
  named = h.named;
}

pub occurrence_position : (n : ℕ) (name : List ℕ) (start : ℕ) (headers : List Header) (position : ℕ) → occurrence n (positions_from start name headers) ≡ Some position → IsPositioned name start headers position
occurrence_position n name start [] position e = absurd (none-some position e)
occurrence_position n name start (header ∷ headers) position e =
    elim (cases_Bool (str_eq_ignore_ascii_case header.name name)) [
      | inl same ↦ elim (cases_Bool (n - 1 == 0)) [
        | inl first ↦
            let here : start ≡ position = same_Some start position (rw (same, first) at e) in
            record { ahead = 0; sum = omega arith; within = omega arith; named = same }
        | inr later ↦ positioned_later name start header headers position (occurrence_position (n - 1) name (start + 1) headers position (rw (same, later) at e))
      ]
      | inr other ↦ positioned_later name start header headers position (occurrence_position n name (start + 1) headers position (rw other at e))
    ]

pub occurrence_within : (n : ℕ) (name : List ℕ) (headers : List Header) (position : ℕ) → occurrence n (positions_from 0 name headers) ≡ Some position → position < length headers
occurrence_within n name headers position e =
    let h = occurrence_position n name 0 headers position e in
    let sum = h.sum in
    let within = h.within in
    omega arith
