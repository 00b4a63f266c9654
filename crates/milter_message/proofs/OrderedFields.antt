-- Header fields by their ids alone, in an order.
use Rattle.std.proofs.Common.{◌≡◌, ℕ, ◌+◌, ◌<◌, ◌≤◌, List, [], ◌∷◌, ◌++◌, Option, Some, None, length, map, refl, sym, ap, subst, ◌∙◌, arith}
use Rattle.std.specs.List.{All, cons_option, filter_map, insert}
use Rattle.std.proofs.lemmas.List.{get_or_append_left, get_or_push, length-map, length_push, map-append}
use Rattle.std.proofs.lemmas.List.Edits.{length-insert}
use Rattle.std.proofs.lemmas.List.Elements.{All-cons, All-head, All-nil, All-tail, All-weaker}
use Rattle.milter_field_index.proofs.Edits.{map-insert}
use Rattle.milter_fields.specs.declared.header.Header.{Header}
use Rattle.milter_message.specs.declared.edit.Edit.{Edit}
use Rattle.milter_message.specs.declared.source.Source.{Source}
use Rattle.milter_message.specs.EditedFields.{HasOrder, header_at, shown}
use Rattle.milter_message.specs.NameNumbers.{changed_name}
use Rattle.milter_message.proofs.IndexedFields.{all_inserted}

abbrev has_source : List Source → ℕ → Type 0
has_source sources id = id < length sources

-- a source more, whose id is inserted
pub record More (sources more : List Source) (source : Source) (order after : List ℕ) (position : ℕ) : Type 0 where
  pub pushed : more ≡ sources ++ source ∷ []
  pub has : HasOrder sources order
  pub inserted : after ≡ insert order position (length sources)
  pub within : position ≤ length (map (header_at (map shown sources)) order)

pub order_more : (sources more : List Source) (source : Source) (order after : List ℕ) (position : ℕ)
    → More sources more source order after position → HasOrder more after
order_more sources more source order after position m =
    let longer : length more ≡ length sources + 1 = ap length m.pushed ∙ length_push sources source in
    let within : position ≤ length order =
    omega (arith, m.within, length-map order (header_at (map shown sources))) in
    record {
      all = ap length m.inserted ∙ length-insert order position (length sources) within ∙ omega (arith, m.has.all, longer);
      within =
          subst (All (has_source more)) (sym m.inserted)
          (all_inserted (has_source more) order position (length sources)
          (All-weaker (has_source sources) (has_source more) (λ id below. omega (arith, below, longer)) order m.has.within)
          (omega (arith, longer)));
    }

same_order : (headers more : List Header) (order : List ℕ) → All (λ id. id < length headers) order
    → map (header_at (headers ++ more)) order ≡ map (header_at headers) order
same_order headers more [] within = refl
same_order headers more (id ∷ order) within =
    let first = All-head (λ (id : ℕ). id < length headers) id order within in
    let rest = All-tail (λ (id : ℕ). id < length headers) id order within in
    ap (λ h. h ∷ map (header_at (headers ++ more)) order)
    (get_or_append_left headers more (record { name = []; value = [] }) id first)
    ∙ ap (λ l. header_at headers id ∷ l) (same_order headers more order rest)

pub shown_more : (sources more : List Source) (source : Source) (order after : List ℕ) (position : ℕ)
    → More sources more source order after position
    → map (header_at (map shown more)) after
    ≡ insert (map (header_at (map shown sources)) order) position (shown source)
shown_more sources more source order after position m =
    let old = map shown sources in
    let new = old ++ shown source ∷ [] in
    let long = length-map sources shown in
    let shown_is : map shown more ≡ new = ap (map shown) m.pushed ∙ map-append shown sources (source ∷ []) in
    let last : header_at new (length sources) ≡ shown source =
    get_or_push old (shown source) (record { name = []; value = [] }) (length sources) long in
    ap (λ l. map (header_at l) after) shown_is
    ∙ ap (map (header_at new)) m.inserted
    ∙ map-insert (header_at new) order position (length sources)
    ∙ ap (insert (map (header_at new) order) position) last
    ∙ ap (λ l. insert l position (shown source))
    (same_order old (shown source ∷ []) order
    (All-weaker (has_source sources) (λ (id : ℕ). id < length old) (λ id below. omega (arith, below, long)) order
    m.has.within))

-- ---- edits that change no field

abbrev ChangesNone : Edit → Type 0
ChangesNone edit = changed_name edit ≡ None

pub none_changes : (edits : List Edit) → filter_map changed_name edits ≡ [] → All ChangesNone edits
none_changes [] none = All-nil ChangesNone
none_changes (edit ∷ edits) none =
    let both = split (changed_name edit) (filter_map changed_name edits) none in
    All-cons ChangesNone edit edits both.0 (none_changes edits both.1)
  where
    split : (name : Option (List ℕ)) (rest : List (List ℕ)) → cons_option name rest ≡ [] → (name ≡ None) × (rest ≡ [])
    split None rest is = (refl, is)
    split (Some name) rest is = absurd cc
