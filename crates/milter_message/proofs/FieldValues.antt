-- Another value of a header field in an index, and its deletion.
use Rattle.std.proofs.Common.{◌≡◌, ℕ, ◌<◌, ◌≤◌, ◌==◌, zero, suc, Bool, true, false, if◌then◌else◌, List, [], ◌∷◌, ◌++◌, Option, Some, None, length, map, set, take, drop, refl, sym, ap, subst, ◌∙◌, arith, inl, inr, is_some}
use Rattle.std.specs.Prelude.{option_map, slice_get}
use Rattle.std.specs.Borrow.{Bor}
use Rattle.std.specs.BTreeMap.{BTreeMap}
use Rattle.std.specs.List.{All, count_by, remove}
use Rattle.std.proofs.lemmas.Bool.{cases_eq, cases_lt, eq-eqb, eqb-false, ne_eqb}
use Rattle.std.proofs.lemmas.List.{append-nil, drop_all, get_or-set_other, get_or-set_same, take_all}
use Rattle.std.proofs.lemmas.List.Elements.{All-head, All-tail}
use Rattle.std.proofs.lemmas.List.Sums.{sum_by-cons, sum_by-remove}
use Rattle.std.proofs.lemmas.Option.{none-some, same_Some, slice_get-get_or, slice_get_past}
use Rattle.milter_field_index.specs.Fields.{Entry, Fields}
use Rattle.milter_field_index.proofs.Edits.{map-remove}
use Rattle.milter_fields.specs.declared.header.Header.{Header}
use Rattle.milter_message.specs.declared.source.Source.{Source}
use Rattle.milter_message.specs.EditedFields.{HasSources, NumberedField, field_of, header_at, numbered_fields, set_numbered, with_value, with_value_at}
use Rattle.milter_message.specs.EditedMessage.{changed_field, set_field}
use Rattle.milter_message.specs.NameNumbers.{number_of}
use Rattle.milter_message.proofs.IndexedFields.{IsWithin, all_removed, has_id, no_drop, same_set, set_none}

abbrev Numbers : Type 0
Numbers = BTreeMap (Bor (List ℕ)) ℕ

abbrev empty : Header
empty = record { name = []; value = [] }

-- ---- with and without the numbers of the names

abbrev numbered : Numbers → Header → NumberedField
numbered numbers header = record { name = number_of numbers header.name; header = header }

value_numbered : (numbers : Numbers) (position byte : ℕ) (bytes : List ℕ) (headers : List Header)
    → with_value_at position (byte ∷ bytes) (numbered_fields numbers headers)
    ≡ numbered_fields numbers
    (take position headers ++ changed_field (byte ∷ bytes) (drop position headers) ++ drop (suc position) headers)
value_numbered numbers zero byte bytes [] = refl
value_numbered numbers (suc position) byte bytes [] = refl
value_numbered numbers zero byte bytes (header ∷ headers) =
    ap (λ l. with_value (byte ∷ bytes) (numbered numbers header) ∷ map (numbered numbers) l) (sym (no_drop headers))
value_numbered numbers (suc position) byte bytes (header ∷ headers) =
    ap (λ l. numbered numbers header ∷ l) (value_numbered numbers position byte bytes headers)

pub set_is_numbered : (numbers : Numbers) (position : ℕ) (value : List ℕ) (headers : List Header)
    → set_numbered position value (numbered_fields numbers headers)
    ≡ numbered_fields numbers (set_field position value headers)
set_is_numbered numbers position [] headers =
    sym (map-remove (numbered numbers) headers position) ∙ ap (numbered_fields numbers) (set_none headers position)
set_is_numbered numbers position (byte ∷ bytes) headers =
    value_numbered numbers position byte bytes headers
    ∙ ap (numbered_fields numbers) (sym (same_set headers position (byte ∷ bytes)))

pub some_set : (position : ℕ) (value : List ℕ) (fields : List NumberedField) → (length value == 0) ≡ false
    → with_value_at position value fields ≡ set_numbered position value fields
some_set position [] fields some = absurd cc
some_set position (byte ∷ bytes) fields some = refl

-- ---- a deletion, whether there is a field or not

pub removed_past : {X : Type 0} (xs : List X) (position : ℕ) → length xs ≤ position → remove xs position ≡ xs
removed_past xs position past =
    ap (λ l. l ++ drop (suc position) xs) (take_all position xs past)
    ∙ ap (λ l. xs ++ l) (drop_all (suc position) xs (omega (arith, past)))
    ∙ append-nil xs

pub record Removed (before after : Fields) (position : ℕ) : Type 0 where
  pub inserted : after.inserted ≡ before.inserted
  pub entries : after.entries ≡ remove before.entries position

pub index_removed : (before after : Fields) (position : ℕ) (id : Option ℕ)
    → id ≡ option_map (λ (e : Entry). e.id) (slice_get before.entries position)
    → after ≡ (if is_some id
    then record { inserted = before.inserted; entries = remove before.entries position } else before)
    → Removed before after position
index_removed before after position id is rest =
    let less : Fields = record { inserted = before.inserted; entries = remove before.entries position } in
    let none : Entry = record { id = 0; name = 0 } in
    elim (cases_lt position (length before.entries)) [
      | inl within ↦
          let some : is_some id ≡ true = ap is_some (is
          ∙ ap (option_map (λ (e : Entry). e.id)) (slice_get-get_or before.entries position none within)) in
          let same : after ≡ less = rest ∙ ap (λ (b : Bool). if b then less else before) some in
          record {
            inserted = ap (λ (f : Fields). f.inserted) same;
            entries = ap (λ (f : Fields). f.entries) same;
          }
      | inr past ↦
          let absent : is_some id ≡ false = ap is_some (is
          ∙ ap (option_map (λ (e : Entry). e.id)) (slice_get_past before.entries position past)) in
          let same : after ≡ before = rest ∙ ap (λ (b : Bool). if b then less else before) absent in
          record {
            inserted = ap (λ (f : Fields). f.inserted) same;
            entries =
                ap (λ (f : Fields). f.entries) same ∙ sym (removed_past before.entries position past);
          }
    ]

count_removed : (id : ℕ) (entries : List Entry) (position : ℕ)
    → count_by (has_id id) (remove entries position) ≤ count_by (has_id id) entries
count_removed id entries position =
    elim (cases_lt position (length entries)) [
      | inl within ↦
          omega (
            arith,
            sum_by-remove (λ (e : Entry). if has_id id e then 1 else 0) entries position (record { id = 0; name = 0 })
                within,
          )
      | inr past ↦ omega (arith, ap (λ l. count_by (has_id id) l) (removed_past entries position past))
    ]

pub sources_removed : (sources : List Source) (before after : Fields) (position : ℕ) → HasSources sources before
    → Removed before after position → HasSources sources after
sources_removed sources before after position has removed =
    record {
      inserted = removed.inserted ∙ has.inserted;
      within = subst (All (IsWithin sources)) (sym removed.entries)
          (all_removed (IsWithin sources) before.entries position has.within);
      apart = λ id. omega
          (arith, ap (λ l. count_by (has_id id) l) removed.entries, count_removed id before.entries position, has.apart id);
    }

-- ---- another value

-- a field with another id
other_field : (headers : List Header) (id : ℕ) (header : Header) (entry : Entry) → has_id id entry ≡ false
    → field_of (set headers id header) entry ≡ field_of headers entry
other_field headers id header entry other =
    ap (λ (h : Header). record { name = entry.name; header = h })
    (get_or-set_other headers id entry.id header empty (eqb-false entry.id id other))

none_of : (id : ℕ) (entry : Entry) (entries : List Entry) → count_by (has_id id) (entry ∷ entries) ≡ 0
    → (has_id id entry ≡ false) × (count_by (has_id id) entries ≡ 0)
none_of id entry entries none =
    let more = sum_by-cons (λ (e : Entry). if has_id id e then 1 else 0) entry entries in
    elim (cases_eq entry.id id) [
      | inl same ↦
          let one : ◌≡◌ {A = ℕ} (if has_id id entry then 1 else 0) 1 =
          ap (λ (b : Bool). if b then 1 else 0) (eq-eqb entry.id id same) in
          absurd (omega (arith, more, one, none))
      | inr other ↦ (ne_eqb entry.id id other, omega (arith, more, none))
    ]

others_stay : (headers : List Header) (id : ℕ) (header : Header) (entries : List Entry)
    → count_by (has_id id) entries ≡ 0 → map (field_of (set headers id header)) entries ≡ map (field_of headers) entries
others_stay headers id header [] none = refl
others_stay headers id header (entry ∷ entries) none =
    let split = none_of id entry entries none in
    ap (λ f. f ∷ map (field_of (set headers id header)) entries) (other_field headers id header entry split.0)
    ∙ ap (λ l. field_of headers entry ∷ l) (others_stay headers id header entries split.1)

is_counted : (id position : ℕ) (entries : List Entry)
    → Some id ≡ option_map (λ (e : Entry). e.id) (slice_get entries position) → 1 ≤ count_by (has_id id) entries
is_counted id position [] some = absurd (none-some id (sym some))
is_counted id zero (entry ∷ entries) some =
    let same : id ≡ entry.id = same_Some id entry.id some in
    let one : ◌≡◌ {A = ℕ} (if has_id id entry then 1 else 0) 1 =
    ap (λ (b : Bool). if b then 1 else 0) (eq-eqb entry.id id (sym same)) in
    omega (arith, sum_by-cons (λ (e : Entry). if has_id id e then 1 else 0) entry entries, one)
is_counted id (suc position) (entry ∷ entries) some =
    omega (
      arith,
      sum_by-cons (λ (e : Entry). if has_id id e then 1 else 0) entry entries,
      is_counted id position entries some,
    )

pub value_at : (headers : List Header) (id : ℕ) (header : Header) (entries : List Entry) (position : ℕ)
    → id < length headers → count_by (has_id id) entries ≤ 1
    → Some id ≡ option_map (λ (e : Entry). e.id) (slice_get entries position)
    → header.name ≡ (header_at headers id).name
    → map (field_of (set headers id header)) entries
    ≡ with_value_at position header.value (map (field_of headers) entries)
value_at headers id header [] position within few some name = refl
value_at headers id header (entry ∷ entries) zero within few some name =
    let same : id ≡ entry.id = same_Some id entry.id some in
    let one : ◌≡◌ {A = ℕ} (if has_id id entry then 1 else 0) 1 =
    ap (λ (b : Bool). if b then 1 else 0) (eq-eqb entry.id id (sym same)) in
    let none : count_by (has_id id) entries ≡ 0 =
    omega (arith, sum_by-cons (λ (e : Entry). if has_id id e then 1 else 0) entry entries, one, few) in
    let here : header_at (set headers id header) entry.id ≡ header =
    ap (header_at (set headers id header)) (sym same) ∙ get_or-set_same headers id header empty within in
    let name_is : header.name ≡ (header_at headers entry.id).name =
    name ∙ ap (λ i. (header_at headers i).name) same in
    ap (λ (h : Header). record { name = entry.name; header = h } ∷ map (field_of (set headers id header)) entries) here
    ∙ ap (λ (n : List ℕ). record { name = entry.name; header = record { name = n; value = header.value } }
    ∷ map (field_of (set headers id header)) entries) name_is
    ∙ ap (λ l. with_value header.value (field_of headers entry) ∷ l) (others_stay headers id header entries none)
value_at headers id header (entry ∷ entries) (suc position) within few some name =
    let more = sum_by-cons (λ (e : Entry). if has_id id e then 1 else 0) entry entries in
    let there = is_counted id position entries some in
    let other : has_id id entry ≡ false =
    elim (cases_eq entry.id id) [
      | inl same ↦
          let one : ◌≡◌ {A = ℕ} (if has_id id entry then 1 else 0) 1 =
          ap (λ (b : Bool). if b then 1 else 0) (eq-eqb entry.id id same) in
          absurd (omega (arith, more, one, there, few))
      | inr ne ↦ ne_eqb entry.id id ne
    ] in
    ap (λ f. f ∷ map (field_of (set headers id header)) entries) (other_field headers id header entry other)
    ∙ ap (λ l. field_of headers entry ∷ l)
    (value_at headers id header entries position within (omega (arith, more, few)) some name)

pub value_past : (value : List ℕ) (headers : List Header) (entries : List Entry) (position : ℕ)
    → None ≡ option_map (λ (e : Entry). e.id) (slice_get entries position)
    → map (field_of headers) entries ≡ with_value_at position value (map (field_of headers) entries)
value_past value headers [] position none = refl
value_past value headers (entry ∷ entries) zero none = absurd (none-some entry.id none)
value_past value headers (entry ∷ entries) (suc position) none =
    ap (λ l. field_of headers entry ∷ l) (value_past value headers entries position none)

-- an id that is there has a source
pub id_within : (sources : List Source) (entries : List Entry) (position id : ℕ) → All (IsWithin sources) entries
    → Some id ≡ option_map (λ (e : Entry). e.id) (slice_get entries position) → id < length sources
id_within sources [] position id within some = absurd (none-some id (sym some))
id_within sources (entry ∷ entries) zero id within some =
    omega (arith, same_Some id entry.id some, All-head (IsWithin sources) entry entries within)
id_within sources (entry ∷ entries) (suc position) id within some =
    id_within sources entries position id (All-tail (IsWithin sources) entry entries within) some
