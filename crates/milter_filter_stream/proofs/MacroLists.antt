-- Macros, packet by packet.
use Rattle.std.proofs.Common.{◌≡◌, ℕ, ◌+◌, ◌<◌, Bool, true, false, List, [], ◌∷◌, ◌++◌, Option, None, Some, length, take, get_or, reverse, refl, sym, ◌∙◌, ap, filter, flat_map, cond, if◌then◌else◌, option_map, append-nil}
use Rattle.std.specs.Option.{option_or}
use Rattle.std.specs.Str.{bytes_eq}
use Rattle.std.proofs.lemmas.List.{reverse-append, take_more}
use Rattle.std.proofs.lemmas.List.Concat.{flat_map-cons}
use Rattle.std.proofs.lemmas.List.Elements.{filter-append}
use Rattle.milter_fields.specs.declared.pair.Pair.{Pair}
use Rattle.milter_protocol.specs.Seen.{value_in}
use Rattle.milter_protocol.proofs.PermittedEdits.{filter-again}
use Rattle.milter_protocol.proofs.SeenCommands.{value-append}
use Rattle.milter_filter_stream.specs.declared.macro_list.MacroGroup.{MacroGroup}
use Rattle.milter_filter_stream.specs.MacroLists.{macros_of, macros_with, pairs_of, stays}

-- ---- one packet more

pairs-push : (groups : List MacroGroup) (group : MacroGroup) → pairs_of (groups ++ group ∷ []) ≡ reverse group.pairs ++ pairs_of groups
pairs-push groups group =
    ap (flat_map (λ (g : MacroGroup). reverse g.pairs)) (reverse-append groups (group ∷ []))
    ∙ flat_map-cons (λ (g : MacroGroup). reverse g.pairs) group (reverse groups)

pub macros-push : (groups : List MacroGroup) (group : MacroGroup)
    → macros_of (groups ++ group ∷ []) ≡ macros_with group.of_connection group.pairs (macros_of groups)
macros-push groups group =
    let shown = pairs-push groups group in
    let connection = ap pairs_of (filter-append stays groups (group ∷ [])) ∙ by_kind group.of_connection in
    λ i. record { shown = shown i; connection = connection i }
  where
    by_kind : (is : Bool)
        → pairs_of (filter stays groups ++ cond is (group ∷ []) [])
        ≡ (if is then reverse group.pairs ++ pairs_of (filter stays groups) else pairs_of (filter stays groups))
    by_kind true = pairs-push (filter stays groups) group
    by_kind false = ap pairs_of (append-nil (filter stays groups))

pub connection-kept : (groups : List MacroGroup) → pairs_of (filter stays (filter stays groups)) ≡ pairs_of (filter stays groups)
connection-kept groups = ap pairs_of (filter-again stays groups)

-- ---- the last value of a name, one macro and one packet more

pub value-more : (pairs : List Pair) (i : ℕ) (pair : Pair) (name : List ℕ) → i < length pairs → pair ≡ get_or pairs i pair
    → value_in (reverse (take (i + 1) pairs)) name ≡ (if bytes_eq pair.name name then Some pair.value else value_in (reverse (take i pairs)) name)
value-more pairs i pair name within is =
    ap (λ ps. value_in (reverse ps) name) (take_more pairs i pair within ∙ ap (λ p. take i pairs ++ p ∷ []) (sym is))
    ∙ ap (λ ps. value_in ps name) (reverse-append (take i pairs) (pair ∷ []))
    ∙ by_name (bytes_eq pair.name name)
  where
    by_name : (is : Bool)
        → option_map (λ (p : Pair). p.value) (cond is (Some pair) (Rattle.std.specs.List.find (λ p. bytes_eq p.name name) (reverse (take i pairs))))
        ≡ (if is then Some pair.value else value_in (reverse (take i pairs)) name)
    by_name true = refl
    by_name false = refl

pub value-more_groups : (groups : List MacroGroup) (i : ℕ) (group : MacroGroup) (name : List ℕ) → i < length groups → group ≡ get_or groups i group
    → value_in (pairs_of (take (i + 1) groups)) name ≡ option_or (value_in (reverse group.pairs) name) (value_in (pairs_of (take i groups)) name)
value-more_groups groups i group name within is =
    ap (λ gs. value_in (pairs_of gs) name) (take_more groups i group within ∙ ap (λ g. take i groups ++ g ∷ []) (sym is))
    ∙ ap (λ ps. value_in ps name) (pairs-push (take i groups) group)
    ∙ value-append (reverse group.pairs) (pairs_of (take i groups)) name

pub map-or : {A B : Type 0} (f : A → B) (x y : Option A) → option_map f (option_or x y) ≡ option_or (option_map f x) (option_map f y)
map-or f None y = refl
map-or f (Some x) y = refl
