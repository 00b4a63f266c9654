-- Lists that are borrowed, of which a payload has the first ones and a list the others.
use Rattle.std.proofs.Common.{◌≡◌, ◌≢◌, ℕ, ◌-◌, ◌<◌, ◌≤◌, List, [], ◌∷◌, ◌++◌, length, take, drop, take_all, get_or, All, Option, Some, None, refl, sym, ap, subst, ◌∙◌, arith}
use Rattle.std.specs.Prelude.{◌↔◌, IsSome}
use Rattle.std.specs.List.{flat_map}
use Rattle.std.proofs.lemmas.Grind.{flat_map-append}
use Rattle.std.proofs.lemmas.List.Elements.{All-append, All-tail}
use Rattle.milter_fields.specs.declared.pair.Pair.{Pair}
use Rattle.milter_fields.specs.Field.{string, HasNoNul}
use Rattle.milter_fields.specs.Layout.{pair, PairFits}
use Rattle.milter_fields.specs.Bind.{◌>>=◌}
use Rattle.milter_fields.specs.Decoders.{string_at, strings_in, pairs_in}
use Rattle.milter_fields.specs.Lists.{decoded, first_of}
use Rattle.milter_fields.proofs.SequenceLaws.{strings_in-first, strings_in-unended, strings_in-nil, strings_take, pairs_in-first, pairs_in-unended, pairs_in-odd, pairs_in-nil, pairs_take}

-- ---- a list that is decoded, or none

decoded_is : {A : Type 0} (o : Option (List A)) → IsSome o → o ≡ Some (decoded o)
decoded_is (Some xs) h = refl
decoded_is None h = absurd cc

others_decode : {A : Type 0} (x : A) (o : Option (List A)) → IsSome (o >>= λ xs. Some (x ∷ xs)) → IsSome o
others_decode x (Some xs) h = refl
others_decode x None h = absurd cc

first_decoded : {A : Type 0} (x : A) (o : Option (List A)) (more : List A) → IsSome (o >>= λ xs. Some (x ∷ xs)) → first_of (decoded (o >>= λ xs. Some (x ∷ xs)) ++ more) ≡ Some (x, decoded o ++ more)
first_decoded x (Some xs) more h = refl
first_decoded x None more h = absurd cc

none_decodes : {A : Type 0} (o : Option (List A)) → o ≡ None → IsSome o → ⊥
none_decodes (Some xs) e h = absurd cc
none_decodes None e h = absurd cc

-- ---- strings

pub strings_decode : (bytes text rest : List ℕ) → string_at bytes ≡ Some (text, rest) → IsSome (strings_in bytes) → IsSome (strings_in rest)
strings_decode bytes text rest e h = others_decode text (strings_in rest) (subst IsSome (strings_in-first bytes text rest e) h)

pub first_string : (bytes text rest : List ℕ) (more : List (List ℕ)) → string_at bytes ≡ Some (text, rest) → IsSome (strings_in bytes)
    → first_of (decoded (strings_in bytes) ++ more) ≡ Some (text, decoded (strings_in rest) ++ more)
first_string bytes text rest more e h =
    let first = strings_in-first bytes text rest e in
    rw first (first_decoded text (strings_in rest) more (subst IsSome first h))

pub no_string : (bytes : List ℕ) (more : List (List ℕ)) → string_at bytes ≡ None → IsSome (strings_in bytes) → decoded (strings_in bytes) ++ more ≡ more
no_string [] more e h = rw (strings_in-nil [] refl) refl
no_string (byte ∷ bytes) more e h =
    let some : length (byte ∷ bytes) ≢ 0 = omega arith in
    absurd (none_decodes (strings_in (byte ∷ bytes)) (strings_in-unended (byte ∷ bytes) some e) h)

pub strings_encoded : (bytes : List ℕ) (more : List (List ℕ)) → IsSome (strings_in bytes) → flat_map string (decoded (strings_in bytes) ++ more) ≡ bytes ++ flat_map string more
strings_encoded bytes more h =
    let t = strings_take bytes (decoded (strings_in bytes)) (decoded_is (strings_in bytes) h) in
    flat_map-append string (decoded (strings_in bytes)) more ∙ ap (λ (x : List ℕ). x ++ flat_map string more) (sym t.bytes_are)

after_all : {A : Type 0} (P : A → Type 0) (xs ys : List A) → All P (xs ++ ys) → All P ys
after_all P [] ys h = h
after_all P (x ∷ xs) ys h = after_all P xs ys (All-tail P x (xs ++ ys) h)

pub strings_fit : (bytes : List ℕ) (more : List (List ℕ)) → IsSome (strings_in bytes) → All HasNoNul more ↔ All HasNoNul (decoded (strings_in bytes) ++ more)
strings_fit bytes more h =
    let t = strings_take bytes (decoded (strings_in bytes)) (decoded_is (strings_in bytes) h) in
    (All-append HasNoNul (decoded (strings_in bytes)) more t.no_nul, after_all HasNoNul (decoded (strings_in bytes)) more)

-- ---- pairs

pub pairs_decode : (bytes name middle value rest : List ℕ) → string_at bytes ≡ Some (name, middle) → string_at middle ≡ Some (value, rest) → IsSome (pairs_in bytes) → IsSome (pairs_in rest)
pairs_decode bytes name middle value rest e f h =
    others_decode (record { name = name; value = value }) (pairs_in rest) (subst IsSome (pairs_in-first bytes name middle value rest e f) h)

pub first_pair : (bytes name middle value rest : List ℕ) (more : List Pair) → string_at bytes ≡ Some (name, middle) → string_at middle ≡ Some (value, rest) → IsSome (pairs_in bytes)
    → first_of (decoded (pairs_in bytes) ++ more) ≡ Some (record { name = name; value = value }, decoded (pairs_in rest) ++ more)
first_pair bytes name middle value rest more e f h =
    let first = pairs_in-first bytes name middle value rest e f in
    rw first (first_decoded (record { name = name; value = value }) (pairs_in rest) more (subst IsSome first h))

pub odd_pairs : (bytes name middle : List ℕ) → string_at bytes ≡ Some (name, middle) → string_at middle ≡ None → IsSome (pairs_in bytes) → ⊥
odd_pairs bytes name middle e f h = none_decodes (pairs_in bytes) (pairs_in-odd bytes name middle e f) h

pub no_pairs : pairs_in [] ≡ Some []
no_pairs = pairs_in-nil [] refl

pub no_pair : (bytes : List ℕ) (more : List Pair) → string_at bytes ≡ None → IsSome (pairs_in bytes) → decoded (pairs_in bytes) ++ more ≡ more
no_pair [] more e h = rw (pairs_in-nil [] refl) refl
no_pair (byte ∷ bytes) more e h =
    let some : length (byte ∷ bytes) ≢ 0 = omega arith in
    absurd (none_decodes (pairs_in (byte ∷ bytes)) (pairs_in-unended (byte ∷ bytes) some e) h)

pub pairs_encoded : (bytes : List ℕ) (more : List Pair) → IsSome (pairs_in bytes) → flat_map pair (decoded (pairs_in bytes) ++ more) ≡ bytes ++ flat_map pair more
pairs_encoded bytes more h =
    let t = pairs_take bytes (decoded (pairs_in bytes)) (decoded_is (pairs_in bytes) h) in
    flat_map-append pair (decoded (pairs_in bytes)) more ∙ ap (λ (x : List ℕ). x ++ flat_map pair more) (sym t.bytes_are)

pub pairs_fit : (bytes : List ℕ) (more : List Pair) → IsSome (pairs_in bytes) → All PairFits more ↔ All PairFits (decoded (pairs_in bytes) ++ more)
pairs_fit bytes more h =
    let t = pairs_take bytes (decoded (pairs_in bytes)) (decoded_is (pairs_in bytes) h) in
    (All-append PairFits (decoded (pairs_in bytes)) more t.fit, after_all PairFits (decoded (pairs_in bytes)) more)

-- ---- the first of a list

pub first_none : {A : Type 0} (xs : List A) → length xs < 1 → None ≡ first_of xs
first_none [] h = refl
first_none (x ∷ xs) h = absurd (omega (arith, h))

pub first_is : {A : Type 0} (xs : List A) (x : A) (others : List A) (d : A) → 1 ≤ length xs → x ≡ get_or xs 0 d → others ≡ take (length xs - 1) (drop 1 xs) → Some (x, others) ≡ first_of xs
first_is [] x others d h e f = absurd (omega (arith, h))
first_is (y ∷ ys) x others d h e f =
    let n : length (y ∷ ys) - 1 ≡ length ys = omega arith in
    let all : others ≡ ys = f ∙ rw (n, take_all (length ys) ys (omega arith)) refl in
    ap (λ z. Some (z, others)) e ∙ ap (λ zs. Some (y, zs)) all
