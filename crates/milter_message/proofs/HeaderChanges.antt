-- The header field that a change is about, and what becomes of the fields of its name and of all others.
use Rattle.std.proofs.Common.{◌≡◌, ◌≢◌, ℕ, ◌+◌, ◌-◌, ◌≤◌, ◌==◌, Bool, true, false, not, List, [], ◌∷◌, ◌++◌, length, map, take, drop, Option, Some, None, if◌then◌else◌, unwrap_or, refl, sym, ap, subst, ◌∙◌, arith, inl, inr}
use Rattle.std.specs.List.{filter}
use Rattle.std.specs.Str.{bytes_eq, str_eq_ignore_ascii_case, str_to_ascii_lowercase}
use Rattle.std.proofs.lemmas.Bool.{cases_Bool, cond_both, eqb-true, eqb-false}
use Rattle.std.proofs.lemmas.List.{append-nil, drop_all, drop_at, take_all, take_at, map-append}
use Rattle.std.proofs.Math.Seq.{drop-append-add}
use Rattle.std.proofs.lemmas.Slice.Eq.{bytes_eq-Decides}
use Rattle.std.proofs.lemmas.List.Elements.{filter-append}
use Rattle.std.proofs.lemmas.Option.{none-some}
use Rattle.milter_fields.specs.declared.header.Header.{Header}
use Rattle.milter_message.specs.EditedMessage.{added_field, change_at, changed_field, occurrence, positions_from}
use Rattle.milter_message.specs.Occurrences.{others_than, value_if_any, values_of}

abbrev is_named : List ℕ → Header → Bool
is_named name header = str_eq_ignore_ascii_case header.name name

own_name : (header : Header) → is_named header.name header ≡ true
own_name header =
    let lower = str_to_ascii_lowercase header.name in
    (bytes_eq-Decides lower lower).1 refl

-- ---- the values of one name, and the others, of lists in a row

values-append : (name : List ℕ) (xs ys : List Header) → values_of name (xs ++ ys) ≡ values_of name xs ++ values_of name ys
values-append name xs ys =
    ap (map (λ header. header.value)) (filter-append (is_named name) xs ys)
    ∙ map-append (λ header. header.value) (filter (is_named name) xs) (filter (is_named name) ys)

others-append : (name : List ℕ) (xs ys : List Header) → others_than name (xs ++ ys) ≡ others_than name xs ++ others_than name ys
others-append name xs ys = filter-append (λ header. not (is_named name header)) xs ys

values-same : (name : List ℕ) (header : Header) (headers : List Header) → is_named name header ≡ true → values_of name (header ∷ headers) ≡ header.value ∷ values_of name headers
values-same name header headers e = rw e refl

values-other : (name : List ℕ) (header : Header) (headers : List Header) → is_named name header ≡ false → values_of name (header ∷ headers) ≡ values_of name headers
values-other name header headers e = rw e refl

others-same : (name : List ℕ) (header : Header) (headers : List Header) → is_named name header ≡ true → others_than name (header ∷ headers) ≡ others_than name headers
others-same name header headers e = rw e refl

-- ---- the occurrence with a number

-- the field of the name with this many of them before it
record Occurs (count : ℕ) (name : List ℕ) (headers : List Header) (start position : ℕ) : Type 0 where
  earlier : List Header
  old : Header
  rest : List Header
  whole : headers ≡ earlier ++ old ∷ rest
  position_is : length earlier + start ≡ position
  same : is_named name old ≡ true
  before : length (values_of name earlier) ≡ count

-- the first field has the name
at_start : (n start position : ℕ) (name : List ℕ) (header : Header) (headers : List Header) → is_named name header ≡ true → n - 1 ≡ 0 → Some start ≡ Some position → Occurs (n - 1) name (header ∷ headers) start position
at_start n start position name header headers e zero h = record {
  earlier = [];
  old = header;
  rest = headers;
  whole = refl;
  position_is = let same : start ≡ position = ap (λ (o : Option ℕ). unwrap_or o start) h in omega (arith, same);
  same = e;
  before = sym zero;
}

further : (n start position : ℕ) (name : List ℕ) (header : Header) (headers : List Header) → is_named name header ≡ true → n - 1 ≢ 0 → Occurs (n - 1 - 1) name headers (start + 1) position → Occurs (n - 1) name (header ∷ headers) start position
further n start position name header headers e some f = record {
  earlier = header ∷ f.earlier;
  old = f.old;
  rest = f.rest;
  whole = ap (λ l. header ∷ l) f.whole;
  position_is = omega (arith, f.position_is);
  same = f.same;
  before = ap length (values-same name header f.earlier e) ∙ omega (arith, f.before, some);
}

found : (n start position : ℕ) (name : List ℕ) (headers : List Header) → occurrence n (positions_from start name headers) ≡ Some position → Occurs (n - 1) name headers start position
found n start position name [] h = absurd (none-some position h)
found n start position name (header ∷ headers) h =
    elim (cases_Bool (is_named name header)) [
      | inl e ↦
          let positions = positions_from (start + 1) name headers in
          let h2 = subst (λ (b : Bool). occurrence n (if b then start ∷ positions else positions) ≡ Some position) e h in
          elim (cases_Bool (n - 1 == 0)) [
            | inl first ↦
                let h3 = subst (λ (b : Bool). (if b then Some start else occurrence (n - 1) positions) ≡ Some position) first h2 in
                at_start n start position name header headers e (eqb-true (n - 1) 0 first) h3
            | inr later ↦
                let h3 = subst (λ (b : Bool). (if b then Some start else occurrence (n - 1) positions) ≡ Some position) later h2 in
                further n start position name header headers e (eqb-false (n - 1) 0 later) (found (n - 1) (start + 1) position name headers h3)
          ]
      | inr e ↦
          let h2 = subst (λ (b : Bool). occurrence n (if b then start ∷ positions_from (start + 1) name headers else positions_from (start + 1) name headers) ≡ Some position) e h in
          let f = found n (start + 1) position name headers h2 in
          record {
            earlier = header ∷ f.earlier;
            old = f.old;
            rest = f.rest;
            whole = ap (λ l. header ∷ l) f.whole;
            position_is = omega (arith, f.position_is);
            same = f.same;
            before = ap length (values-other name header f.earlier e) ∙ f.before;
          }
    ]

missing : (n start : ℕ) (name : List ℕ) (headers : List Header) → occurrence n (positions_from start name headers) ≡ None → length (values_of name headers) ≤ n - 1
missing n start name [] h = omega arith
missing n start name (header ∷ headers) h =
    let positions = positions_from (start + 1) name headers in
    elim (cases_Bool (is_named name header)) [
      | inl e ↦
          let h2 = subst (λ (b : Bool). occurrence n (if b then start ∷ positions else positions) ≡ None) e h in
          let same = ap length (values-same name header headers e) in
          elim (cases_Bool (n - 1 == 0)) [
            | inl first ↦ absurd (none-some start (sym (subst (λ (b : Bool). (if b then Some start else occurrence (n - 1) positions) ≡ None) first h2)))
            | inr later ↦
                let h3 = subst (λ (b : Bool). (if b then Some start else occurrence (n - 1) positions) ≡ None) later h2 in
                let some = eqb-false (n - 1) 0 later in
                omega (arith, same, some, missing (n - 1) (start + 1) name headers h3)
          ]
      | inr e ↦
          let h2 = subst (λ (b : Bool). occurrence n (if b then start ∷ positions else positions) ≡ None) e h in
          let same = ap length (values-other name header headers e) in
          omega (arith, same, missing n (start + 1) name headers h2)
    ]

-- ---- what the change makes of them

added-cases : (header : Header) (value : List ℕ) → header.value ≡ value → values_of header.name (if bytes_eq value [] then [] else header ∷ []) ≡ value_if_any value
added-cases header [] e = refl
added-cases header (byte ∷ bytes) e = values-same header.name header [] (own_name header) ∙ ap (λ value. value ∷ []) e

added-values : (header : Header) → values_of header.name (added_field header) ≡ value_if_any header.value
added-values header = added-cases header header.value refl

added-others : (header : Header) → others_than header.name (added_field header) ≡ []
added-others header =
    cond_both (bytes_eq header.value []) [] (header ∷ []) (λ fields. others_than header.name fields ≡ []) (λ _. refl)
    (λ _. others-same header.name header [] (own_name header))

changed-values : (name value : List ℕ) (old : Header) (rest : List Header) → is_named name old ≡ true → values_of name (changed_field value (old ∷ rest)) ≡ value_if_any value
changed-values name [] old rest e = refl
changed-values name (byte ∷ bytes) old rest e = values-same name (record { name = old.name; value = byte ∷ bytes }) [] e

changed-others : (name value : List ℕ) (old : Header) (rest : List Header) → is_named name old ≡ true → others_than name (changed_field value (old ∷ rest)) ≡ []
changed-others name [] old rest e = refl
changed-others name (byte ∷ bytes) old rest e = others-same name (record { name = old.name; value = byte ∷ bytes }) [] e

-- a list about one of its positions
record Divided {X : Type 0} (earlier : List X) (old : X) (rest : List X) (position : ℕ) : Type 0 where
  upto : take position (earlier ++ old ∷ rest) ≡ earlier
  from : drop position (earlier ++ old ∷ rest) ≡ old ∷ rest
  after : drop (position + 1) (earlier ++ old ∷ rest) ≡ rest

divided : {X : Type 0} (earlier : List X) (old : X) (rest : List X) (position : ℕ) → length earlier ≡ position → Divided earlier old rest position
divided earlier old rest position e = record {
  upto = take_at earlier (old ∷ rest) position e;
  from = drop_at earlier (old ∷ rest) position e;
  after = subst (λ n. drop (n + 1) (earlier ++ old ∷ rest) ≡ rest) e (drop-append-add earlier (old ∷ rest) 1);
}

-- a change at the position of the occurrence
at_position : (header : Header) (headers : List Header) (position : ℕ) (earlier : List Header) (old : Header) (rest : List Header) → headers ≡ earlier ++ old ∷ rest → length earlier ≡ position → change_at (Some position) header headers ≡ earlier ++ changed_field header.value (old ∷ rest) ++ rest
at_position header headers position earlier old rest whole e =
    let parts = divided earlier old rest position e in
    rw (whole, parts.upto, parts.from, parts.after) refl

values_there : (header : Header) (headers : List Header) (count position : ℕ) → Occurs count header.name headers 0 position → values_of header.name (change_at (Some position) header headers) ≡ take count (values_of header.name headers) ++ value_if_any header.value ++ drop (count + 1) (values_of header.name headers)
values_there header headers count position f =
    let name = header.name in
    let there = at_position header headers position f.earlier f.old f.rest f.whole (omega (arith, f.position_is)) in
    let middle = changed_field header.value (f.old ∷ f.rest) in
    let all : values_of name headers ≡ values_of name f.earlier ++ f.old.value ∷ values_of name f.rest =
    ap (values_of name) f.whole ∙ values-append name f.earlier (f.old ∷ f.rest) ∙ ap (λ l. values_of name f.earlier ++ l) (values-same name f.old f.rest f.same) in
    let parts = divided (values_of name f.earlier) f.old.value (values_of name f.rest) count f.before in
    let left : values_of name (change_at (Some position) header headers) ≡ values_of name f.earlier ++ value_if_any header.value ++ values_of name f.rest =
    ap (values_of name) there
    ∙ values-append name (f.earlier ++ middle) f.rest
    ∙ ap (λ l. l ++ values_of name f.rest) (values-append name f.earlier middle ∙ ap (λ l. values_of name f.earlier ++ l) (changed-values name header.value f.old f.rest f.same)) in
    rw (left, all, parts.upto, parts.after) refl

values_at_end : (header : Header) (headers : List Header) (count : ℕ) → length (values_of header.name headers) ≤ count → values_of header.name (change_at None header headers) ≡ take count (values_of header.name headers) ++ value_if_any header.value ++ drop (count + 1) (values_of header.name headers)
values_at_end header headers count few =
    let values = values_of header.name headers in
    let left : values_of header.name (change_at None header headers) ≡ values ++ value_if_any header.value =
    values-append header.name headers (added_field header) ∙ ap (λ l. values ++ l) (added-values header) in
    let all = take_all count values few in
    let nothing = drop_all (count + 1) values (omega (arith, few)) in
    rw (left, all, nothing) (sym (append-nil (values ++ value_if_any header.value)))

pub values_after : (found_at : Option ℕ) (n : ℕ) (header : Header) (headers : List Header) → occurrence n (positions_from 0 header.name headers) ≡ found_at → values_of header.name (change_at found_at header headers) ≡ take (n - 1) (values_of header.name headers) ++ value_if_any header.value ++ drop (n - 1 + 1) (values_of header.name headers)
values_after None n header headers h = values_at_end header headers (n - 1) (missing n 0 header.name headers h)
values_after (Some position) n header headers h = values_there header headers (n - 1) position (found n 0 position header.name headers h)

pub others_after : (found_at : Option ℕ) (n : ℕ) (header : Header) (headers : List Header) → occurrence n (positions_from 0 header.name headers) ≡ found_at → others_than header.name (change_at found_at header headers) ≡ others_than header.name headers
others_after None n header headers h =
    others-append header.name headers (added_field header)
    ∙ ap (λ l. others_than header.name headers ++ l) (added-others header)
    ∙ append-nil (others_than header.name headers)
others_after (Some position) n header headers h =
    let name = header.name in
    let f = found n 0 position name headers h in
    let there = at_position header headers position f.earlier f.old f.rest f.whole (omega (arith, f.position_is)) in
    let middle = changed_field header.value (f.old ∷ f.rest) in
    let left : others_than name (change_at (Some position) header headers) ≡ others_than name f.earlier ++ others_than name f.rest =
    ap (others_than name) there
    ∙ others-append name (f.earlier ++ middle) f.rest
    ∙ ap (λ l. l ++ others_than name f.rest) (others-append name f.earlier middle ∙ ap (λ l. others_than name f.earlier ++ l) (changed-others name header.value f.old f.rest f.same) ∙ append-nil (others_than name f.earlier)) in
    let right : others_than name headers ≡ others_than name f.earlier ++ others_than name f.rest =
    ap (others_than name) f.whole ∙ others-append name f.earlier (f.old ∷ f.rest) ∙ ap (λ l. others_than name f.earlier ++ l) (others-same name f.old f.rest f.same) in
    left ∙ sym right
