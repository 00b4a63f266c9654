-- Strings and pairs of strings up to the end of a payload, decoded one after the other, as the loops do.
use Rattle.std.proofs.Common.{◌≡◌, ◌≢◌, ℕ, zero, suc, Bool, true, false, List, [], ◌∷◌, ◌++◌, length, All, Option, Some, None, refl, sym, ap, subst, ◌∙◌, append-nil, append_assoc, arith}
use Rattle.std.specs.Prelude.{is_some}
use Rattle.std.specs.List.{flat_map}
use Rattle.std.proofs.lemmas.Option.{same_Some}
use Rattle.std.proofs.lemmas.List.Elements.{All-nil, All-cons, All-head, All-tail}
use Rattle.milter_fields.specs.declared.pair.Pair.{Pair}
use Rattle.milter_fields.specs.Field.{string, HasNoNul}
use Rattle.milter_fields.specs.Layout.{pair, PairFits}
use Rattle.milter_fields.specs.Bind.{◌>>=◌}
use Rattle.milter_fields.specs.Decoders.{string_at, strings_in, with_byte, paired, pairs_in}
use Rattle.milter_fields.proofs.Binds.{bind_some}
use Rattle.milter_fields.proofs.StringFields.{string_at-string}

-- ---- a string at the start

onto_first : (byte : ℕ) (text : List ℕ) (read : Option (List (List ℕ)))
    → ((read >>= λ texts. Some (text ∷ texts)) >>= with_byte byte) ≡ (read >>= λ texts. Some ((byte ∷ text) ∷ texts))
onto_first byte text (Some texts) = refl
onto_first byte text None = refl

pub strings_in-first : (bytes text after : List ℕ) → string_at bytes ≡ Some (text, after) → strings_in bytes ≡ (strings_in after >>= λ texts. Some (text ∷ texts))
unfolding string_at strings_in
strings_in-first [] text after h = absurd cc
strings_in-first (zero ∷ rest) text after h =
    subst (λ (x : List ℕ × List ℕ). strings_in (zero ∷ rest) ≡ (strings_in x.1 >>= λ texts. Some (x.0 ∷ texts))) (same_Some ([], rest) (text, after) h) refl
strings_in-first (suc byte ∷ rest) text after h =
    let p = bind_some (string_at rest) (λ x. Some (suc byte ∷ x.0, x.1)) (text, after) h in
    let others = strings_in-first rest p.0.0 p.0.1 p.1 in
    subst (λ (x : List ℕ × List ℕ). strings_in (suc byte ∷ rest) ≡ (strings_in x.1 >>= λ texts. Some (x.0 ∷ texts))) (same_Some (suc byte ∷ p.0.0, p.0.1) (text, after) p.2)
    (ap (λ (read : Option (List (List ℕ))). read >>= with_byte (suc byte)) others ∙ onto_first (suc byte) p.0.0 (strings_in p.0.1))

none_before : (byte : ℕ) (read : Option (List ℕ × List ℕ)) → ((◌>>=◌ {B = List ℕ × List ℕ}) read (λ x. Some (byte ∷ x.0, x.1))) ≡ None → read ≡ None
none_before byte (Some x) h = absurd cc
none_before byte None h = cc

no_string : (byte : ℕ) (rest : List ℕ) → string_at (byte ∷ rest) ≡ None → strings_in (byte ∷ rest) ≡ None
unfolding string_at strings_in
no_string zero rest h = absurd cc
no_string (suc byte) [] h = refl
no_string (suc byte) (next ∷ rest) h = rw (no_string next rest (none_before (suc byte) (string_at (next ∷ rest)) h)) refl

pub strings_in-unended : (bytes : List ℕ) → length bytes ≢ 0 → string_at bytes ≡ None → strings_in bytes ≡ None
strings_in-unended [] h k = absurd (h refl)
strings_in-unended (byte ∷ rest) h k = no_string byte rest k

pub strings_in-nil : (bytes : List ℕ) → length bytes ≡ 0 → strings_in bytes ≡ Some []
unfolding strings_in
strings_in-nil [] h = refl
strings_in-nil (byte ∷ rest) h = absurd (omega arith)

-- ---- a pair at the start

onto_paired : (name value : List ℕ) (read : Option (List (List ℕ))) → (((read >>= λ texts. Some (value ∷ texts)) >>= λ texts. Some (name ∷ texts)) >>= paired)
    ≡ ((read >>= paired) >>= λ pairs. Some (record { name = name; value = value } ∷ pairs))
unfolding paired
onto_paired name value (Some texts) = refl
onto_paired name value None = refl

pub pairs_in-first : (bytes name middle value after : List ℕ) → string_at bytes ≡ Some (name, middle) → string_at middle ≡ Some (value, after)
    → pairs_in bytes ≡ (pairs_in after >>= λ pairs. Some (record { name = name; value = value } ∷ pairs))
unfolding pairs_in
pairs_in-first bytes name middle value after h k = rw (strings_in-first bytes name middle h, strings_in-first middle value after k) (onto_paired name value (strings_in after))

pub pairs_in-unended : (bytes : List ℕ) → length bytes ≢ 0 → string_at bytes ≡ None → pairs_in bytes ≡ None
unfolding pairs_in
pairs_in-unended bytes h k = rw (strings_in-unended bytes h k) refl

pub pairs_in-odd : (bytes name middle : List ℕ) → string_at bytes ≡ Some (name, middle) → string_at middle ≡ None → pairs_in bytes ≡ None
unfolding pairs_in strings_in paired
pairs_in-odd bytes name [] h k = rw (strings_in-first bytes name [] h) refl
pairs_in-odd bytes name (byte ∷ middle) h k = rw (strings_in-first bytes name (byte ∷ middle) h, no_string byte middle k) refl

pub pairs_in-nil : (bytes : List ℕ) → length bytes ≡ 0 → pairs_in bytes ≡ Some []
unfolding pairs_in paired
pairs_in-nil bytes h = rw (strings_in-nil bytes h) refl

-- ---- what was decoded before, and what is still to be decoded

abbrev pub after_prefix : {A : Type 0} → List A → Option (List A) → Option (List A)
after_prefix before read = read >>= λ xs. Some (before ++ xs)

prefix_grows : {A : Type 0} (before : List A) (x : A) (read : Option (List A)) → after_prefix before (read >>= λ xs. Some (x ∷ xs)) ≡ after_prefix (before ++ x ∷ []) read
prefix_grows before x (Some xs) = let e : before ++ x ∷ xs ≡ (before ++ x ∷ []) ++ xs = sym (append_assoc before (x ∷ []) xs) in rw e refl
prefix_grows before x None = refl

pub prefix_step : {A : Type 0} (before : List A) (x : A) (whole after total : Option (List A)) → whole ≡ (after >>= λ xs. Some (x ∷ xs)) → after_prefix before whole ≡ total
    → after_prefix (before ++ x ∷ []) after ≡ total
prefix_step before x whole after total e h = sym (prefix_grows before x after) ∙ ap (after_prefix before) (sym e) ∙ h

pub prefix_none : {A : Type 0} (before : List A) (whole total : Option (List A)) → whole ≡ None → after_prefix before whole ≡ total → total ≡ None
prefix_none before whole total e h = sym h ∙ ap (after_prefix before) e

pub prefix_end : {A : Type 0} (before : List A) (whole total : Option (List A)) → whole ≡ Some [] → after_prefix before whole ≡ total → total ≡ Some before
prefix_end before whole total e h = sym h ∙ ap (after_prefix before) e ∙ rw (append-nil before) refl

pub is_some_step : {A B : Type 0} (f : A → B) (whole : Option B) (after : Option A) (total : Bool) → whole ≡ (after >>= λ x. Some (f x)) → is_some whole ≡ total → is_some after ≡ total
is_some_step f whole (Some x) total e h = sym (ap is_some e) ∙ h
is_some_step f whole None total e h = sym (ap is_some e) ∙ h

pub is_some_none : {A : Type 0} (whole : Option A) (total : Bool) → whole ≡ None → is_some whole ≡ total → total ≡ false
is_some_none whole total e h = sym h ∙ ap is_some e

pub is_some_end : {A : Type 0} (x : A) (whole : Option A) (total : Bool) → whole ≡ Some x → is_some whole ≡ total → total ≡ true
is_some_end x whole total e h = sym h ∙ ap is_some e

-- ---- strings that are decoded were encoded so, and those that are encoded are decoded

pub record TakesStrings (bytes : List ℕ) (texts : List (List ℕ)) : Type 0 where
  pub bytes_are : bytes ≡ flat_map string texts
  pub no_nul : All HasNoNul texts

byte_takes : (byte : ℕ) (rest : List ℕ) (texts all : List (List ℕ)) → byte ≢ 0 → TakesStrings rest texts → with_byte byte texts ≡ Some all → TakesStrings (byte ∷ rest) all
unfolding HasNoNul
byte_takes byte rest [] all some t e = absurd cc
byte_takes byte rest (text ∷ texts) all some t e =
    subst (TakesStrings (byte ∷ rest)) (same_Some ((byte ∷ text) ∷ texts) all e)
    record {
      bytes_are = ap (λ (x : List ℕ). byte ∷ x) t.bytes_are;
      no_nul = All-cons HasNoNul (byte ∷ text) texts (All-cons (λ x. x ≢ 0) byte text some (All-head HasNoNul text texts t.no_nul)) (All-tail HasNoNul text texts t.no_nul);
    }

pub strings_take : (bytes : List ℕ) (texts : List (List ℕ)) → strings_in bytes ≡ Some texts → TakesStrings bytes texts
unfolding strings_in HasNoNul
strings_take [] texts e = subst (TakesStrings []) (same_Some [] texts e) record { bytes_are = refl; no_nul = All-nil HasNoNul }
strings_take (zero ∷ rest) texts e =
    let p = bind_some (strings_in rest) (λ others. Some ([] ∷ others)) texts e in
    let others = strings_take rest p.0 p.1 in
    subst (TakesStrings (0 ∷ rest)) (same_Some ([] ∷ p.0) texts p.2)
    record { bytes_are = ap (λ (x : List ℕ). 0 ∷ x) others.bytes_are; no_nul = All-cons HasNoNul [] p.0 (All-nil (λ x. x ≢ 0)) others.no_nul }
strings_take (suc byte ∷ rest) texts e =
    let p = bind_some (strings_in rest) (with_byte (suc byte)) texts e in
    let some : suc byte ≢ 0 = omega arith in
    byte_takes (suc byte) rest p.0 texts some (strings_take rest p.0 p.1) p.2

pub strings_in-strings : (texts : List (List ℕ)) → All HasNoNul texts → strings_in (flat_map string texts) ≡ Some texts
unfolding strings_in
strings_in-strings [] h = refl
strings_in-strings (text ∷ texts) h =
    let others = strings_in-strings texts (All-tail HasNoNul text texts h) in
    let first = strings_in-first (string text ++ flat_map string texts) text (flat_map string texts) (string_at-string text (flat_map string texts) (All-head HasNoNul text texts h)) in
    first ∙ rw others refl

-- ---- the same of pairs

-- the names and the values in a row
abbrev in_a_row : List Pair → List (List ℕ)
in_a_row [] = []
in_a_row (p ∷ pairs) = p.name ∷ p.value ∷ in_a_row pairs

row-encoded : (pairs : List Pair) → flat_map string (in_a_row pairs) ≡ flat_map pair pairs
row-encoded [] = refl
row-encoded (p ∷ pairs) =
    ap (λ (x : List ℕ). string p.name ++ (string p.value ++ x)) (row-encoded pairs) ∙ sym (append_assoc (string p.name) (string p.value) (flat_map pair pairs))

row_fits : (pairs : List Pair) → All PairFits pairs → All HasNoNul (in_a_row pairs)
row_fits [] h = All-nil HasNoNul
row_fits (p ∷ pairs) h =
    let one = All-head PairFits p pairs h in
    All-cons HasNoNul p.name (p.value ∷ in_a_row pairs) one.name (All-cons HasNoNul p.value (in_a_row pairs) one.value (row_fits pairs (All-tail PairFits p pairs h)))

pairs_fit : (pairs : List Pair) → All HasNoNul (in_a_row pairs) → All PairFits pairs
pairs_fit [] h = All-nil PairFits
pairs_fit (p ∷ pairs) h =
    let after = All-tail HasNoNul p.name (p.value ∷ in_a_row pairs) h in
    let one : PairFits p = record { name = All-head HasNoNul p.name (p.value ∷ in_a_row pairs) h; value = All-head HasNoNul p.value (in_a_row pairs) after } in
    All-cons PairFits p pairs one (pairs_fit pairs (All-tail HasNoNul p.value (in_a_row pairs) after))

paired_takes : (texts : List (List ℕ)) (pairs : List Pair) → paired texts ≡ Some pairs → texts ≡ in_a_row pairs
unfolding paired
paired_takes [] pairs e = ap in_a_row (same_Some [] pairs e)
paired_takes (name ∷ []) pairs e = absurd cc
paired_takes (name ∷ value ∷ texts) pairs e =
    let p = bind_some (paired texts) (λ others. Some (record { name = name; value = value } ∷ others)) pairs e in
    ap (λ (x : List (List ℕ)). name ∷ value ∷ x) (paired_takes texts p.0 p.1) ∙ ap in_a_row (same_Some (record { name = name; value = value } ∷ p.0) pairs p.2)

paired-row : (pairs : List Pair) → paired (in_a_row pairs) ≡ Some pairs
unfolding paired
paired-row [] = refl
paired-row (p ∷ pairs) = rw (paired-row pairs) refl

pub record TakesPairs (bytes : List ℕ) (pairs : List Pair) : Type 0 where
  pub bytes_are : bytes ≡ flat_map pair pairs
  pub fit : All PairFits pairs

pub pairs_take : (bytes : List ℕ) (pairs : List Pair) → pairs_in bytes ≡ Some pairs → TakesPairs bytes pairs
unfolding pairs_in
pairs_take bytes pairs e =
    let p = bind_some (strings_in bytes) paired pairs e in
    let t = strings_take bytes p.0 p.1 in
    let same = paired_takes p.0 pairs p.2 in
    record { bytes_are = t.bytes_are ∙ ap (flat_map string) same ∙ row-encoded pairs; fit = pairs_fit pairs (subst (All HasNoNul) same t.no_nul) }

pub pairs_in-pairs : (pairs : List Pair) → All PairFits pairs → pairs_in (flat_map pair pairs) ≡ Some pairs
unfolding pairs_in
pairs_in-pairs pairs h = rw (← row-encoded pairs, strings_in-strings (in_a_row pairs) (row_fits pairs h)) (paired-row pairs)
