-- Where the last value of a name is, one macro and one packet more.
use Rattle.std.proofs.Common.{◌≡◌, ℕ, zero, suc, ◌+◌, ◌<◌, Bool, true, false, List, [], ◌∷◌, ◌++◌, Option, None, Some, length, take, get_or, reverse, refl, sym, ◌∙◌, ap, if◌then◌else◌, option_map, slice_get, arith}
use Rattle.std.specs.Option.{option_and_then, option_or}
use Rattle.std.specs.Str.{bytes_eq}
use Rattle.std.proofs.lemmas.List.{length-take-le, take_more}
use Rattle.std.proofs.lemmas.Option.{same_Some, slice_get_read}
use Rattle.milter_fields.specs.declared.pair.Pair.{Pair}
use Rattle.milter_protocol.specs.Seen.{value_in}
use Rattle.milter_filter_stream.specs.declared.macro_list.MacroGroup.{MacroGroup}
use Rattle.milter_filter_stream.specs.declared.macro_list.MacroPosition.{MacroPosition}
use Rattle.milter_filter_stream.specs.MacroLists.{pairs_of}
use Rattle.milter_filter_stream.specs.MacroSearches.{HasLooked, IsFor, IsLastIn, IsLastOf, MacroSearch, nth_value, value_at}
use Rattle.milter_filter_stream.proofs.MacroLists.{value-more, value-more_groups}

-- ---- what is at a position

none_there : {A : Type 0} (value : Option A) → None ≡ option_map Some value → value ≡ None
none_there None is = refl
none_there (Some v) is = absurd cc

some_there : {A : Type 0} (there : Option A) (value other : Option A)
    → Some there ≡ option_map Some value → Some there ≡ option_map Some (option_or value other)
some_there there None other is = absurd cc
some_there there (Some v) other is = is

slice_get-append : {A B : Type 0} (f : A → Option B) (xs ys : List A) (i : ℕ) (v : B)
    → option_and_then f (slice_get xs i) ≡ Some v → option_and_then f (slice_get (xs ++ ys) i) ≡ Some v
slice_get-append f [] ys i v is = absurd cc
slice_get-append f (x ∷ xs) ys zero v is = is
slice_get-append f (x ∷ xs) ys (suc i) v is = slice_get-append f xs ys i v is

slice_get-push : {A : Type 0} (xs : List A) (y : A) → slice_get (xs ++ y ∷ []) (length xs) ≡ Some y
slice_get-push [] y = refl
slice_get-push (x ∷ xs) y = slice_get-push xs y

-- packets that come later leave it there
stays_there : (groups more : List MacroGroup) (found : Option MacroPosition) (value : Option (List ℕ))
    → option_map (value_at groups) found ≡ option_map Some value → option_map (value_at (groups ++ more)) found ≡ option_map Some value
stays_there groups more None value is = is
stays_there groups more (Some p) None is = absurd cc
stays_there groups more (Some p) (Some v) is =
    ap Some (slice_get-append (λ (g : MacroGroup). nth_value g.pairs p.pair) groups more p.group v (same_Some _ _ is))

-- ---- one macro more

pub last-more : (pairs : List Pair) (i : ℕ) (pair : Pair) (name : List ℕ) (last : Option ℕ) → i < length pairs → pair ≡ get_or pairs i pair
    → option_map (nth_value pairs) last ≡ option_map Some (value_in (reverse (take i pairs)) name)
    → option_map (nth_value pairs) (if bytes_eq pair.name name then Some i else last) ≡ option_map Some (value_in (reverse (take (i + 1) pairs)) name)
last-more pairs i pair name last within is before =
    by_name (bytes_eq pair.name name) ∙ ap (option_map Some) (sym (value-more pairs i pair name within is))
  where
    by_name : (named : Bool)
        → option_map (nth_value pairs) (if named then Some i else last)
        ≡ option_map Some (if named then Some pair.value else value_in (reverse (take i pairs)) name)
    by_name true = ap (λ o. Some (option_map (λ (p : Pair). p.value) o)) (slice_get_read pairs (length pairs) i pair refl within is)
    by_name false = before

-- ---- one packet more

next_is : (groups : List MacroGroup) (n : ℕ) (group : MacroGroup) → n < length groups → group ≡ get_or groups n group
    → take (n + 1) groups ≡ take n groups ++ group ∷ []
next_is groups n group within is = take_more groups n group within ∙ ap (λ g. take n groups ++ g ∷ []) (sym is)

none_in_next : (groups : List MacroGroup) (n : ℕ) (group : MacroGroup) (name : List ℕ) (found : Option MacroPosition)
    → n < length groups → group ≡ get_or groups n group
    → IsLastOf (take n groups) name found → IsLastIn group.pairs name None → IsLastOf (take (n + 1) groups) name found
none_in_next groups n group name found within is before none =
    ap (λ gs. option_map (value_at gs) found) (next_is groups n group within is)
    ∙ stays_there (take n groups) (group ∷ []) found (value_in (pairs_of (take n groups)) name) before
    ∙ ap (λ v. option_map Some (option_or v (value_in (pairs_of (take n groups)) name))) (sym (none_there (value_in (reverse group.pairs) name) none))
    ∙ ap (option_map Some) (sym (value-more_groups groups n group name within is))

some_in_next : (groups : List MacroGroup) (n : ℕ) (group : MacroGroup) (name : List ℕ) (pair : ℕ)
    → n < length groups → group ≡ get_or groups n group
    → IsLastIn group.pairs name (Some pair) → IsLastOf (take (n + 1) groups) name (Some (record { group = n; pair = pair }))
some_in_next groups n group name pair within is some =
    ap (λ gs. Some (value_at gs (record { group = n; pair = pair }))) (next_is groups n group within is)
    ∙ ap (λ o. Some (option_and_then (λ (g : MacroGroup). nth_value g.pairs pair) o)) there
    ∙ some_there (nth_value group.pairs pair) (value_in (reverse group.pairs) name) (value_in (pairs_of (take n groups)) name) some
    ∙ ap (option_map Some) (sym (value-more_groups groups n group name within is))
  where
    there : slice_get (take n groups ++ group ∷ []) n ≡ Some group
    there =
        ap (slice_get (take n groups ++ group ∷ [])) (sym (length-take-le n groups (omega arith)))
        ∙ slice_get-push (take n groups) group

-- a search that has looked at the next packet, which has no value of its name
pub looked_at_none : (groups : List MacroGroup) (s : MacroSearch) (group : MacroGroup) → s.looked < length groups → group ≡ get_or groups s.looked group
    → HasLooked groups s → IsLastIn group.pairs s.name None → HasLooked groups (record s { looked = s.looked + 1 })
looked_at_none groups s group within is (before, says) none =
    (omega arith, none_in_next groups s.looked group s.name s.found within is says none)

-- one that has, and the last value of its name is the packet's at this index
pub looked_at_some : (groups : List MacroGroup) (s : MacroSearch) (group : MacroGroup) (pair : ℕ) → s.looked < length groups → group ≡ get_or groups s.looked group
    → IsLastIn group.pairs s.name (Some pair)
    → HasLooked groups (record { name = s.name; looked = s.looked + 1; found = Some (record { group = s.looked; pair = pair }) })
looked_at_some groups s group pair within is some = (omega arith, some_in_next groups s.looked group s.name pair within is some)

-- ---- places of searches

pub is_within : (name : List ℕ) (searches : List MacroSearch) (place : ℕ) → IsFor name searches place → place < length searches
is_within name [] place is = absurd cc
is_within name (s ∷ searches) zero is = omega arith
is_within name (s ∷ searches) (suc place) is = omega (arith, is_within name searches place is)
