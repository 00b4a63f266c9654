-- Fields by their ids: what an edit makes of them and of their groups.
use Rattle.std.proofs.Common.{◌≡◌, ℕ, ◌+◌, ◌-◌, ◌<◌, ◌≤◌, ◌==◌, zero, suc, List, [], ◌∷◌, ◌++◌, Option, Some, None, length, map, replicate, get_or, set, take, refl, sym, ap, subst, ◌∙◌, arith, inl, inr}
use Rattle.std.specs.Option.{option_map}
use Rattle.std.specs.List.{insert, remove, slice_get}
use Rattle.std.proofs.lemmas.Bool.{cases_eq, cases_lt}
use Rattle.std.proofs.lemmas.List.{length-map, length_push, get_or-map, get_or_push, get_or_append_left, get_or_read}
use Rattle.std.proofs.lemmas.List.Edits.{length-insert, length-remove, get_or-insert_below, get_or-insert_at, get_or-insert_above, get_or-remove_below, get_or-remove_above}
use Rattle.std.proofs.lemmas.Option.{slice_get-map, slice_get_within, get_or_from_slice_get}
use Rattle.milter_field_index.specs.Blocks.{at, count_of}
use Rattle.milter_field_index.specs.Fields.{Entry, Fields, entry_of, group_of, member_of, names_of, Grouped, Indexed}
use Rattle.milter_field_index.specs.Occurrence.{nth}
use Rattle.milter_field_index.proofs.Edits.{map-insert, map-remove, nth-map}
use Rattle.milter_field_index.proofs.TwoLevels.{grouped-insert, grouped-remove, grouped-grow, has_group}

-- ---- fields and entries

abbrev pub fields : ℕ → List Entry → Fields
fields inserted entries = record { inserted = inserted; entries = entries }

pub same-fields : (m n : ℕ) (xs ys : List Entry) → m ≡ n → xs ≡ ys → fields m xs ≡ fields n ys
same-fields m n xs ys e f = ap (λ i. fields i xs) e ∙ ap (λ l. fields n l) f

pub ids-entries : (names ids : List ℕ) → map (λ (e : Entry). e.id) (map (entry_of names) ids) ≡ ids
ids-entries names [] = refl
ids-entries names (id ∷ ids) = ap (λ l. id ∷ l) (ids-entries names ids)

id-entry : (names : List ℕ) (o : Option ℕ) → option_map (λ (e : Entry). e.id) (option_map (entry_of names) o) ≡ o
id-entry names None = refl
id-entry names (Some id) = refl

pub id-at : (names ids : List ℕ) (k : ℕ)
    → option_map (λ (e : Entry). e.id) (slice_get (map (entry_of names) ids) k) ≡ slice_get ids k
id-at names ids k = ap (λ o. option_map (λ (e : Entry). e.id) o) (slice_get-map (entry_of names) ids k)
    ∙ id-entry names (slice_get ids k)

pub nth-entries : (names ids : List ℕ) (name number : ℕ)
    → nth (λ (e : Entry). e.name == name) number (map (entry_of names) ids) ≡ nth (λ x. x == name) number
    (names_of names ids)
nth-entries names ids name number =
    nth-map (λ (e : Entry). e.name == name) (entry_of names) number ids
    ∙ sym (nth-map (λ x. x == name) (λ id. get_or names id 0) number ids)

-- ---- one name more

map-below : {Y : Type 0} (f g : ℕ → Y) (n : ℕ) (ids : List ℕ) → ((i : ℕ) → i < n → f i ≡ g i)
    → ((k : ℕ) → k < length ids → get_or ids k 0 < n) → map f ids ≡ map g ids
map-below f g n [] same below = refl
map-below f g n (id ∷ ids) same below =
    ap (λ y. y ∷ map f ids) (same id (below zero (omega arith)))
    ∙ ap (λ l. g id ∷ l) (map-below f g n ids same (λ k h. below (suc k) (omega (arith, h))))

pub names-pushed : (names ids : List ℕ) (name : ℕ) → ((k : ℕ) → k < length ids → get_or ids k 0 < length names)
    → names_of (names ++ name ∷ []) ids ≡ names_of names ids
names-pushed names ids name below =
    map-below (λ id. get_or (names ++ name ∷ []) id 0) (λ id. get_or names id 0) (length names) ids
    (λ i h. get_or_append_left names (name ∷ []) 0 i h) below

pub entries-pushed : (names ids : List ℕ) (name : ℕ) → ((k : ℕ) → k < length ids → get_or ids k 0 < length names)
    → map (entry_of (names ++ name ∷ [])) ids ≡ map (entry_of names) ids
entries-pushed names ids name below =
    map-below (entry_of (names ++ name ∷ [])) (entry_of names) (length names) ids
    (λ i h. ap (λ n. record { id = i; name = n }) (get_or_append_left names (name ∷ []) 0 i h)) below

-- ---- edits

pub same-index : (names names' ids ids' top top' : List ℕ) (groups groups' : List (List ℕ)) → names' ≡ names
    → ids' ≡ ids → top' ≡ top → groups' ≡ groups → Indexed names ids top groups → Indexed names' ids' top' groups'
same-index names names' ids ids' top top' groups groups' a b c d i =
    subst (λ (n : List ℕ). Indexed n ids' top' groups') (sym a)
    (subst (λ (n : List ℕ). Indexed names n top' groups') (sym b)
    (subst (λ (n : List ℕ). Indexed names ids n groups') (sym c)
    (subst (λ (n : List (List ℕ)). Indexed names ids top n) (sym d) i)))

pub indexed-grow : (names ids top : List ℕ) (groups new : List (List ℕ)) (k : ℕ) → Indexed names ids top groups
    → new ≡ groups ++ replicate k [] → Indexed names ids top new
indexed-grow names ids top groups new k i is =
    record {
      fewer = i.fewer;
      named = i.named;
      grouped = grouped-grow top (names_of names ids) groups new k i.grouped
          is;
    }

pub entries-insert : (names ids : List ℕ) (k name : ℕ) → ((j : ℕ) → j < length ids → get_or ids j 0 < length names)
    → map (entry_of (names ++ name ∷ [])) (insert ids k (length names)) ≡ insert (map (entry_of names) ids) k
    (record { id = length names; name = name })
entries-insert names ids k name below =
    let more = names ++ name ∷ [] in
    map-insert (entry_of more) ids k (length names)
    ∙ ap (λ l. insert l k (entry_of more (length names))) (entries-pushed names ids name below)
    ∙ ap (λ n. insert (map (entry_of names) ids) k (record { id = length names; name = n }))
    (get_or_push names name 0 (length names) refl)

named-insert : (names ids : List ℕ) (k name : ℕ) → k ≤ length ids
    → ((j : ℕ) → j < length ids → get_or ids j 0 < length names) → (j : ℕ) → j < length (insert ids k (length names))
    → get_or (insert ids k (length names)) j 0 < length (names ++ name ∷ [])
named-insert names ids k name within below j h =
    let len = length-insert ids k (length names) within in
    let pushed = length_push names name in
    elim (cases_lt j k) [
      | inl low ↦ omega (
        arith,
        get_or-insert_below ids k (length names) 0 j low within,
        below j
            (omega (arith, low, within)),
        pushed,
      )
      | inr high ↦
          elim (cases_eq j k) [
            | inl same ↦ omega (
              arith,
              ap (λ i. get_or (insert ids k (length names)) i 0) same,
              get_or-insert_at ids
                  k (length names) 0 within,
              pushed,
            )
            | inr other ↦
                let next : j ≡ j - 1 + 1 = omega (arith, high, other) in
                let past : k ≤ j - 1 = omega (arith, high, other) in
                omega (
                  arith,
                  ap (λ i. get_or (insert ids k (length names)) i 0) next,
                  get_or-insert_above ids k (length names) 0 (j - 1) past within,
                  below (j - 1) (omega (arith, h, len, next)),
                  pushed,
                )
          ]
    ]

pub indexed-insert : (names ids top : List ℕ) (groups : List (List ℕ)) (k name : ℕ) → Indexed names ids top groups
    → k ≤ length ids → group_of name < length groups
    → Indexed (names ++ name ∷ []) (insert ids k (length names)) (insert top k (group_of name))
    (set groups (group_of name) (insert (at groups (group_of name)) (count_of (group_of name) (take k top))
    (member_of name)))
indexed-insert names ids top groups k name i within low =
    let more = names ++ name ∷ [] in
    let new =
    set groups (group_of name) (insert (at groups (group_of name)) (count_of (group_of name) (take k top))
    (member_of name)) in
    let named : names_of more (insert ids k (length names)) ≡ insert (names_of names ids) k name =
    map-insert (λ id. get_or more id 0) ids k (length names)
    ∙ ap (λ l. insert l k (get_or more (length names) 0)) (names-pushed names ids name i.named)
    ∙ ap (λ n. insert (names_of names ids) k n) (get_or_push names name 0 (length names) refl) in
    record {
      fewer = omega (arith, length-insert ids k (length names) within, length_push names name, i.fewer);
      named = named-insert names ids k name within i.named;
      grouped =
          subst (λ (l : List ℕ). Grouped (insert top k (group_of name)) new l) (sym named)
          (grouped-insert top (names_of names ids) groups k name i.grouped low);
    }

named-remove : (names ids : List ℕ) (k : ℕ) → k < length ids
    → ((j : ℕ) → j < length ids → get_or ids j 0 < length names) → (j : ℕ) → j < length (remove ids k)
    → get_or (remove ids k) j 0 < length names
named-remove names ids k within below j h =
    let len = length-remove ids k within in
    elim (cases_lt j k) [
      | inl low ↦ omega (arith, get_or-remove_below ids k 0 j low within, below j (omega (arith, low, within)))
      | inr high ↦ omega (arith, get_or-remove_above ids k 0 j high within, below (j + 1) (omega (arith, h, len)))
    ]

pub indexed-remove : (names ids top : List ℕ) (groups : List (List ℕ)) (k name : ℕ) → Indexed names ids top groups
    → k < length ids → name ≡ get_or (names_of names ids) k 0 → group_of name < length groups
    → Indexed names (remove ids k) (remove top k)
    (set groups (group_of name) (remove (at groups (group_of name)) (count_of (group_of name) (take k top))))
indexed-remove names ids top groups k name i within is low =
    let new =
    set groups (group_of name) (remove (at groups (group_of name)) (count_of (group_of name) (take k top))) in
    let inside : k < length (names_of names ids) = omega (arith, within, length-map ids (λ id. get_or names id 0)) in
    record {
      fewer = omega (arith, length-remove ids k within, i.fewer);
      named = named-remove names ids k within i.named;
      grouped =
          subst (λ (l : List ℕ). Grouped (remove top k) new l) (sym (map-remove (λ id. get_or names id 0) ids k))
          (grouped-remove top (names_of names ids) groups k name i.grouped inside is low);
    }

-- the field at a position, by its id
pub record Found (names ids : List ℕ) (groups : List (List ℕ)) (k name : ℕ) : Type 0 where
  pub within : k < length ids
  pub inside : k < length (names_of names ids)
  pub is : name ≡ get_or (names_of names ids) k 0
  pub low : group_of name < length groups

pub found-at : (names ids top : List ℕ) (groups : List (List ℕ)) (k id name : ℕ) → Indexed names ids top groups
    → Some id ≡ slice_get ids k → name ≡ get_or names id name → Found names ids groups k name
found-at names ids top groups k id name i read name_is =
    let within : k < length ids = slice_get_within ids k id (sym read) in
    let inside : k < length (names_of names ids) = omega (arith, within, length-map ids (λ j. get_or names j 0)) in
    let id_is : get_or ids k 0 ≡ id = get_or_from_slice_get ids k id 0 (sym read) in
    let below : id < length names = omega (arith, i.named k within, id_is) in
    let is : name ≡ get_or (names_of names ids) k 0 =
    get_or_read names id name below name_is 0 ∙ ap (λ j. get_or names j 0) (sym id_is)
    ∙ sym (get_or-map (λ j. get_or names j 0) ids k 0 0 within) in
    record {
      within = within;
      inside = inside;
      is = is;
      low = omega (arith, has_group top (names_of names ids) groups k i.grouped inside, ap (λ n. group_of n) is);
    }
