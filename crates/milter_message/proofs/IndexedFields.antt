-- Header fields in an index, and those of a plain list.
use Rattle.std.proofs.Common.{◌≡◌, ◌≢◌, ℕ, ◌+◌, ◌-◌, ◌<◌, ◌≤◌, ◌==◌, zero, suc, Bool, true, false, if◌then◌else◌, List, [], ◌∷◌, ◌++◌, Option, Some, None, get_or, length, map, take, drop, min, refl, sym, ap, subst, ◌∙◌, arith, inl, inr, add-one, zero-add}
use Rattle.std.specs.Prelude.{slice_index_or}
use Rattle.std.specs.Borrow.{Bor}
use Rattle.std.specs.BTreeMap.{BTreeMap}
use Rattle.std.specs.List.{All, count_by, insert, remove}
use Rattle.std.specs.Str.{str_eq_ignore_ascii_case}
use Rattle.std.proofs.lemmas.Bool.{cases_Bool, cases_eq, cases_lt, eq-eqb, eqb-true, eqb-false, ne_eqb}
use Rattle.std.proofs.lemmas.List.{append-nil, drop_all, get_or_append_left, get_or_push, length-map, length_push, map-append, take_all}
use Rattle.std.proofs.lemmas.List.Sums.{sum_by-cons, sum_by-insert}
use Rattle.std.proofs.lemmas.List.Elements.{All-append, All-cons, All-drop, All-head, All-tail, All-take, All-weaker}
use Rattle.milter_field_index.specs.Fields.{Entry, Fields}
use Rattle.milter_field_index.specs.Occurrence.{later, nth}
use Rattle.milter_field_index.proofs.Edits.{map-insert, map-remove, nth-map, nth-same_test}
use Rattle.milter_field_index.proofs.Occurrences.{nth-first, nth-other, nth-same}
use Rattle.milter_fields.specs.declared.header.Header.{Header}
use Rattle.milter_message.specs.declared.source.Source.{Source}
use Rattle.milter_message.specs.EditedFields.{HasSources, IsNumberedBy, NumberedField, changed, field_of, fields_of, header_at, headers_of, numbered_fields, shown, with_number}
use Rattle.milter_message.specs.EditedMessage.{added_field, changed_field, insert_at, occurrence, positions_from, set_field}
use Rattle.milter_message.specs.LeadingSpace.{changed_value, put_value}
use Rattle.milter_message.specs.NameNumbers.{HasOwnNumber, number_of}
use Rattle.milter_message.proofs.EditFolds.{occurrence_within}

abbrev Numbers : Type 0
Numbers = BTreeMap (Bor (List ℕ)) ℕ

abbrev numbered : Numbers → Header → NumberedField
numbered numbers header = record { name = number_of numbers header.name; header = header }

abbrev is_named : List ℕ → Header → Bool
is_named name header = str_eq_ignore_ascii_case header.name name

-- ---- fields with the numbers of their names

same_headers : (numbers : Numbers) (headers : List Header) → headers_of (numbered_fields numbers headers) ≡ headers
same_headers numbers [] = refl
same_headers numbers (header ∷ headers) = ap (λ l. header ∷ l) (same_headers numbers headers)

pub headers_are : (numbers : Numbers) (fields : List NumberedField) (headers : List Header)
    → fields ≡ numbered_fields numbers headers → headers_of fields ≡ headers
headers_are numbers fields headers is = ap headers_of is ∙ same_headers numbers headers

pub still_numbered : (numbers : Numbers) (fields : List NumberedField) (headers : List Header)
    → fields ≡ numbered_fields numbers headers → IsNumberedBy numbers fields
still_numbered numbers fields headers is =
    is ∙ ap (numbered_fields numbers) (sym (headers_are numbers fields headers is))

pub inserted : (numbers : Numbers) (fields after : List NumberedField) (position name : ℕ) (header : Header)
    → IsNumberedBy numbers fields → name ≡ number_of numbers header.name
    → after ≡ insert fields position (record { name = name; header = header })
    → after ≡ numbered_fields numbers (insert (headers_of fields) position header)
inserted numbers fields after position name header by name_is is =
    is
    ∙ ap (λ n. insert fields position (record { name = n; header = header })) name_is
    ∙ ap (λ l. insert l position (numbered numbers header)) by
    ∙ sym (map-insert (numbered numbers) (headers_of fields) position header)

pub removed : (numbers : Numbers) (fields after : List NumberedField) (position : ℕ) → IsNumberedBy numbers fields
    → after ≡ remove fields position → after ≡ numbered_fields numbers (remove (headers_of fields) position)
removed numbers fields after position by is =
    is ∙ ap (λ l. remove l position) by ∙ sym (map-remove (numbered numbers) (headers_of fields) position)

-- ---- the occurrence of a name

abbrev from : ℕ → Option ℕ → Option ℕ
from start None = None
from start (Some i) = Some (start + i)

from_zero : (found : Option ℕ) → from 0 found ≡ found
from_zero None = refl
from_zero (Some i) = ap Some (zero-add i)

from_later : (start : ℕ) (found : Option ℕ) → from (start + 1) found ≡ from start (later found)
from_later start None = refl
from_later start (Some i) =
    let e : start + 1 + i ≡ start + suc i = omega arith in
    ap Some e

occurrence_nth : (name : List ℕ) (n start : ℕ) (headers : List Header)
    → occurrence n (positions_from start name headers) ≡ from start (nth (is_named name) (n - 1) headers)
occurrence_nth name n start [] = refl
occurrence_nth name n start (header ∷ headers) =
    let test = is_named name in
    elim (cases_Bool (is_named name header)) [
      | inl e ↦ elim (cases_Bool (n - 1 == 0)) [
        | inl first ↦
            let zero_is : n - 1 ≡ 0 = eqb-true (n - 1) 0 first in
            let same : start ≡ start + 0 = omega arith in
            rw (e, first) (ap Some same ∙ sym (ap (λ j. from start (nth test j (header ∷ headers))) zero_is
            ∙ ap (from start) (nth-first test header headers e)))
        | inr next ↦
            let some : n - 1 ≢ 0 = eqb-false (n - 1) 0 next in
            let more : n - 1 ≡ suc (n - 1 - 1) = omega (arith, some) in
            rw (e, next) (occurrence_nth name (n - 1) (start + 1) headers
            ∙ from_later start (nth test (n - 1 - 1) headers)
            ∙ sym (ap (λ j. from start (nth test j (header ∷ headers))) more
            ∙ ap (from start) (nth-same test (n - 1 - 1) header headers e)))
      ]
      | inr e ↦
          rw e (occurrence_nth name n (start + 1) headers ∙ from_later start (nth test (n - 1) headers)
          ∙ sym (ap (from start) (nth-other test (n - 1) header headers e)))
    ]

pub found_at : (numbers : Numbers) (name : List ℕ) (number index : ℕ) (fields : List NumberedField)
    → HasOwnNumber numbers name → number ≡ number_of numbers name → IsNumberedBy numbers fields
    → nth (λ (field : NumberedField). field.name == number) (index - 1) fields
    ≡ occurrence index (positions_from 0 name (headers_of fields))
found_at numbers name number index fields own is by =
    let headers = headers_of fields in
    ap (nth (λ (field : NumberedField). field.name == number) (index - 1)) by
    ∙ nth-map (λ (field : NumberedField). field.name == number) (numbered numbers) (index - 1) headers
    ∙ ap (λ n. nth (λ (header : Header). number_of numbers header.name == n) (index - 1) headers) is
    ∙ nth-same_test (λ (header : Header). number_of numbers header.name == number_of numbers name) (is_named name)
    (index - 1) headers (λ header. own header.name)
    ∙ sym (occurrence_nth name index 0 headers ∙ from_zero (nth (is_named name) (index - 1) headers))

-- ---- at the end, or after so many others

pub insert_last : {X : Type 0} (xs : List X) (n : ℕ) (x : X) → n ≡ length xs → insert xs n x ≡ xs ++ x ∷ []
insert_last xs n x is =
    ap (λ l. l ++ x ∷ drop n xs) (take_all n xs (omega (arith, is)))
    ∙ ap (λ l. xs ++ x ∷ l) (drop_all n xs (omega (arith, is)))

pub insert_within : (xs : List Header) (n position : ℕ) (x : Header) → position ≡ min (length xs) n
    → insert xs position x ≡ insert_at n x xs
insert_within xs n position x is =
    elim (cases_lt n (length xs)) [
      | inl within ↦
          let same : position ≡ n = omega (arith, is, within) in
          ap (λ k. insert xs k x) same
      | inr past ↦
          let last : position ≡ length xs = omega (arith, is, past) in
          insert_last xs position x last ∙ sym (insert_past past)
    ]
  where
    insert_past : length xs ≤ n → insert xs n x ≡ xs ++ x ∷ []
    insert_past past =
        ap (λ l. l ++ x ∷ drop n xs) (take_all n xs past) ∙ ap (λ l. xs ++ x ∷ l) (drop_all n xs past)

-- ---- another value, or none

pub no_drop : {X : Type 0} (xs : List X) → drop 0 xs ≡ xs
no_drop [] = refl
no_drop (x ∷ xs) = refl

pub same_set : (headers : List Header) (position : ℕ) (value : List ℕ)
    → set_field position value headers
    ≡ take position headers ++ changed_field value (drop position headers) ++ drop (suc position) headers
same_set headers position value =
    ap (λ n. take position headers ++ changed_field value (drop position headers) ++ drop n headers) (add-one position)

pub set_none : (headers : List Header) (position : ℕ) → remove headers position ≡ set_field position [] headers
set_none headers position =
    sym (same_set headers position []
    ∙ ap (λ l. l ++ drop (suc position) headers) (append-nil (take position headers)))

-- ---- borrowed texts

pub same_fields : (sources more : List Source) (entries : List Entry)
    → All (λ (entry : Entry). entry.id < length sources) entries
    → fields_of (sources ++ more) entries ≡ fields_of sources entries
same_fields sources more [] within = refl
same_fields sources more (entry ∷ entries) within =
    let first = All-head (λ (e : Entry). e.id < length sources) entry entries within in
    let rest = All-tail (λ (e : Entry). e.id < length sources) entry entries within in
    let shorter : entry.id < length (map shown sources) = omega (arith, first, length-map sources shown) in
    let same = ap (λ l. slice_index_or l entry.id (record { name = []; value = [] })) (map-append shown sources more)
    ∙ get_or_append_left (map shown sources) (map shown more) (record { name = []; value = [] }) entry.id shorter in
    ap (λ h. record { name = entry.name; header = h } ∷ fields_of (sources ++ more) entries) same
    ∙ ap (λ l. field_of (map shown sources) entry ∷ l) (same_fields sources more entries rest)

pub all_removed : {X : Type 0} (P : X → Type 0) (entries : List X) (position : ℕ) → All P entries
    → All P (remove entries position)
all_removed P entries position all =
    All-append P (take position entries) (drop (suc position) entries) (All-take P position entries all)
    (All-drop P (suc position) entries all)

pub all_inserted : {X : Type 0} (P : X → Type 0) (entries : List X) (position : ℕ) (entry : X) → All P entries → P entry
    → All P (insert entries position entry)
all_inserted P entries position entry all new =
    All-append P (take position entries) (entry ∷ drop position entries) (All-take P position entries all)
    (All-cons P entry (drop position entries) new (All-drop P position entries all))

abbrev pub IsWithin : List Source → Entry → Type 0
IsWithin sources entry = entry.id < length sources

abbrev pub has_id : ℕ → Entry → Bool
has_id id entry = entry.id == id

pub shown_at : (sources : List Source) (id : ℕ) (source : Source) → id < length sources → source ≡ get_or sources id source
    → shown source ≡ get_or (map shown sources) id (record { name = []; value = [] })
shown_at [] id source within is = absurd (omega (arith, within))
shown_at (first ∷ sources) zero source within is = ap shown is
shown_at (first ∷ sources) (suc id) source within is = shown_at sources id source (omega (arith, within)) is

-- a source more, and an entry that has its id
pub record Added (sources more : List Source) (source : Source) (before after : Fields) (position name : ℕ) : Type 0 where
  pub pushed : more ≡ sources ++ source ∷ []
  pub has : HasSources sources before
  pub entry : after ≡ record {
    inserted = before.inserted + 1;
    entries = insert before.entries position (record { id = before.inserted; name = name });
  }

no_entry : (sources : List Source) (id : ℕ) (entries : List Entry) → All (IsWithin sources) entries → length sources ≤ id
    → count_by (has_id id) entries ≡ 0
no_entry sources id [] within past = refl
no_entry sources id (entry ∷ entries) within past =
    let first = All-head (IsWithin sources) entry entries within in
    let rest = no_entry sources id entries (All-tail (IsWithin sources) entry entries within) past in
    let other : has_id id entry ≡ false = ne_eqb entry.id id (λ same. absurd (omega (arith, same, first, past))) in
    let none : ◌≡◌ {A = ℕ} (if has_id id entry then 1 else 0) 0 = ap (λ (b : Bool). if b then 1 else 0) other in
    omega (arith, sum_by-cons (λ (e : Entry). if has_id id e then 1 else 0) entry entries, none, rest)

added_apart : (sources : List Source) (entries : List Entry) (position name id : ℕ) → All (IsWithin sources) entries
    → count_by (has_id id) entries ≤ 1
    → count_by (has_id id) (insert entries position (record { id = length sources; name = name })) ≤ 1
added_apart sources entries position name id within few =
    let new : Entry = record { id = length sources; name = name } in
    let more = sum_by-insert (λ (e : Entry). if has_id id e then 1 else 0) entries position new in
    elim (cases_eq (length sources) id) [
      | inl same ↦
          let one : ◌≡◌ {A = ℕ} (if has_id id new then 1 else 0) 1 =
          ap (λ (b : Bool). if b then 1 else 0) (eq-eqb (length sources) id same) in
          omega (arith, more, one, no_entry sources id entries within (omega (arith, same)))
      | inr other ↦
          let none : ◌≡◌ {A = ℕ} (if has_id id new then 1 else 0) 0 =
          ap (λ (b : Bool). if b then 1 else 0) (ne_eqb (length sources) id other) in
          omega (arith, more, none, few)
    ]

pub added_within : (sources more : List Source) (source : Source) (before after : Fields) (position name : ℕ)
    → Added sources more source before after position name → HasSources more after
added_within sources more source before after position name a =
    let longer : length more ≡ length sources + 1 = ap length a.pushed ∙ length_push sources source in
    let ids = a.has.inserted in
    let new : Entry = record { id = before.inserted; name = name } in
    let entries : after.entries ≡ insert before.entries position new = ap (λ (f : Fields). f.entries) a.entry in
    record {
      inserted = ap (λ (f : Fields). f.inserted) a.entry ∙ omega (arith, ids, longer);
      within =
          subst (All (IsWithin more)) (sym entries)
          (all_inserted (IsWithin more) before.entries position new
          (All-weaker (IsWithin sources) (IsWithin more) (λ entry within. omega (arith, within, longer)) before.entries
          a.has.within)
          (omega (arith, ids, longer)));
      apart =
          λ id.
          subst (λ (l : List Entry). count_by (has_id id) l ≤ 1)
          (ap (λ n. insert before.entries position (record { id = n; name = name })) (sym ids) ∙ sym entries)
          (added_apart sources before.entries position name id a.has.within (a.has.apart id));
    }

pub added_field_is : (sources more : List Source) (source : Source) (before after : Fields) (position name : ℕ)
    → Added sources more source before after position name
    → fields_of more after.entries
    ≡ insert (fields_of sources before.entries) position (record { name = name; header = shown source })
added_field_is sources more source before after position name a =
    let new : Entry = record { id = before.inserted; name = name } in
    let long = length-map sources shown in
    let ids = a.has.inserted in
    let last : header_at (map shown more) before.inserted ≡ shown source =
    ap (λ l. header_at (map shown l) before.inserted) a.pushed
    ∙ ap (λ l. header_at l before.inserted) (map-append shown sources (source ∷ []))
    ∙ get_or_push (map shown sources) (shown source) (record { name = []; value = [] }) before.inserted
    (long ∙ sym ids) in
    ap (λ (f : Fields). fields_of more f.entries) a.entry
    ∙ map-insert (field_of (map shown more)) before.entries position new
    ∙ ap (λ h. insert (fields_of more before.entries) position (record { name = name; header = h })) last
    ∙ ap (λ l. insert l position (record { name = name; header = shown source }))
    (ap (λ l. fields_of l before.entries) a.pushed ∙ same_fields sources (source ∷ []) before.entries a.has.within)

-- ---- a change

-- the occurrence, where the index found it or not
pub occurrence_is : (numbers : Numbers) (source : Source) (number before index : ℕ) (fields : List NumberedField)
    (position : Option ℕ) → HasOwnNumber numbers source.name.now → number ≡ number_of numbers source.name.now
    → IsNumberedBy numbers fields → before ≡ index - 1
    → nth (λ (field : NumberedField). field.name == number) before fields ≡ position
    → occurrence index (positions_from 0 source.name.now (headers_of fields)) ≡ position
occurrence_is numbers source number before index fields position own is by before_is found =
    sym (found_at numbers source.name.now number index fields own is by)
    ∙ sym (ap (λ n. nth (λ (field : NumberedField). field.name == number) n fields) before_is)
    ∙ found

pub position_within : (name : List ℕ) (index position : ℕ) (fields : List NumberedField)
    → occurrence index (positions_from 0 name (headers_of fields)) ≡ Some position → position < length fields
position_within name index position fields is =
    let within = occurrence_within index name (headers_of fields) position is in
    let same = length-map fields (λ (f : NumberedField). f.header) in
    omega (arith, within, same)

pub none_changed : (leading_space : Bool) (value : List ℕ) → (length value == 0) ≡ true
    → changed_value leading_space value ≡ []
none_changed leading_space [] empty = refl
none_changed leading_space (byte ∷ bytes) empty =
    let is = eqb-true (length (byte ∷ bytes)) 0 empty in
    absurd (omega (arith, is))

some_added : (leading_space : Bool) (name value : List ℕ) → (length value == 0) ≡ false
    → added_field (record { name = name; value = changed_value leading_space value })
    ≡ record { name = name; value = put_value leading_space value } ∷ []
some_added leading_space name [] some = absurd cc
some_added true name (byte ∷ bytes) some = refl
some_added false name (byte ∷ bytes) some = refl

-- a field after all others
pub put_last : (numbers : Numbers) (fields after : List NumberedField) (position : ℕ) (header : Header)
    → position ≡ length fields → after ≡ numbered_fields numbers (insert (headers_of fields) position header)
    → after ≡ numbered_fields numbers (headers_of fields ++ header ∷ [])
put_last numbers fields after position header last is =
    is
    ∙ ap (numbered_fields numbers) (insert_last (headers_of fields) position header
    (last ∙ sym (length-map fields (λ (f : NumberedField). f.header))))

pub added_last : (fields after : List NumberedField) (position name : ℕ) (source : Source) → position ≡ length fields
    → (length source.value.now == 0) ≡ false
    → after ≡ insert fields position (record { name = name; header = shown source })
    → after ≡ fields ++ with_number name (added_field (changed source))
added_last fields after position name source last some is =
    is
    ∙ insert_last fields position (record { name = name; header = shown source }) last
    ∙ ap (λ (l : List Header). fields ++ with_number name l)
    (sym (some_added source.leading_space source.name.now source.value.now some))

same_number : (numbers : Numbers) (number : ℕ) (name value : List ℕ) → number ≡ number_of numbers name
    → with_number number (added_field (record { name = name; value = value }))
    ≡ numbered_fields numbers (added_field (record { name = name; value = value }))
same_number numbers number name [] is = refl
same_number numbers number name (byte ∷ bytes) is =
    ap (λ (n : ℕ). record { name = n; header = record { name = name; value = byte ∷ bytes } } ∷ []) is

pub added_is_numbered : (numbers : Numbers) (fields : List NumberedField) (number : ℕ) (source : Source)
    → IsNumberedBy numbers fields → number ≡ number_of numbers source.name.now
    → fields ++ with_number number (added_field (changed source))
    ≡ numbered_fields numbers (headers_of fields ++ added_field (changed source))
added_is_numbered numbers fields number source by is =
    ap (λ (l : List NumberedField). l ++ with_number number (added_field (changed source))) by
    ∙ ap (λ (l : List NumberedField). numbered_fields numbers (headers_of fields) ++ l)
    (same_number numbers number source.name.now (changed_value source.leading_space source.value.now) is)
    ∙ sym (map-append (numbered numbers) (headers_of fields) (added_field (changed source)))

pub put_within : (numbers : Numbers) (fields after : List NumberedField) (position index : ℕ) (header : Header)
    → position ≡ min (length fields) index
    → after ≡ numbered_fields numbers (insert (headers_of fields) position header)
    → after ≡ numbered_fields numbers (insert_at index header (headers_of fields))
put_within numbers fields after position index header within is =
    is
    ∙ ap (numbered_fields numbers) (insert_within (headers_of fields) index position header
    (within ∙ ap (λ n. min n index) (sym (length-map fields (λ (f : NumberedField). f.header)))))

-- ---- the last pass

pub headers_shown : (headers : List Header) (entries : List Entry)
    → map (header_at headers) (map (λ (e : Entry). e.id) entries) ≡ headers_of (map (field_of headers) entries)
headers_shown headers [] = refl
headers_shown headers (entry ∷ entries) = ap (λ l. header_at headers entry.id ∷ l) (headers_shown headers entries)
