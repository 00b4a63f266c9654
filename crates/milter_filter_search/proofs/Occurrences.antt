-- Where a text occurs in bytes.
use Rattle.std.proofs.Common.{◌≡◌, ◌≤◌, ◌+◌, ℕ, Bool, true, false, List, [], ◌∷◌, ◌++◌, ◌||◌, length, take, drop, refl, sym, ap, subst, ◌∙◌, arith}
use Rattle.std.proofs.Common.{length-append, take-append-drop}
use Rattle.std.proofs.lemmas.Bool.{or_left, or_right}
use Rattle.std.proofs.lemmas.Slice.Eq.{bytes_eq-Decides}
use Rattle.bstr.specs.Text.{Contains}
use Rattle.memchr.specs.Find.{OccursAt}
use Rattle.memchr.proofs.lemmas.MatchLemmas.{OccursAt-from_part, OccursAt-split}
use Rattle.milter_filter_search.specs.Texts.{Around, begins_with, contains}

-- bytes that begin with the text, and others after it
take_text : (text rest : List ℕ) → take (length text) (text ++ rest) ≡ text
take_text [] rest = refl
take_text (byte ∷ text) rest = ap (λ bytes. byte ∷ bytes) (take_text text rest)

begins_text : (text rest : List ℕ) → begins_with (text ++ rest) text ≡ true
begins_text text rest = (bytes_eq-Decides (take (length text) (text ++ rest)) text).1 (take_text text rest)

pub contains_first : (bytes text : List ℕ) → begins_with bytes text ≡ true → contains bytes text ≡ true
contains_first [] text begins = begins
contains_first (byte ∷ bytes) text begins = or_left (begins_with (byte ∷ bytes) text) (contains bytes text) begins

pub contains_from : (before text rest : List ℕ) → contains (before ++ (text ++ rest)) text ≡ true
contains_from [] text rest = contains_first (text ++ rest) text (begins_text text rest)
contains_from (byte ∷ before) text rest =
    or_right (begins_with (byte ∷ (before ++ (text ++ rest))) text) (contains (before ++ (text ++ rest)) text)
    (contains_from before text rest)

around_first : (bytes text : List ℕ) → begins_with bytes text ≡ true → Around bytes text
around_first bytes text begins =
    let first = (bytes_eq-Decides (take (length text) bytes) text).0 begins in
    record {
      before = [];
      after = drop (length text) bytes;
      whole = sym (take-append-drop (length text) bytes) ∙ ap (λ part. part ++ drop (length text) bytes) first;
    }

around_later : (byte : ℕ) (bytes text : List ℕ) → Around bytes text → Around (byte ∷ bytes) text
around_later byte bytes text around =
    record { before = byte ∷ around.before; after = around.after; whole = ap (λ rest. byte ∷ rest) around.whole }

around_cons : (byte : ℕ) (bytes text : List ℕ) (begins : Bool) → begins_with (byte ∷ bytes) text ≡ begins
    → (begins || contains bytes text) ≡ true → (contains bytes text ≡ true → Around bytes text)
    → Around (byte ∷ bytes) text
around_cons byte bytes text true e has later = around_first (byte ∷ bytes) text e
around_cons byte bytes text false e has later = around_later byte bytes text (later has)

pub around_contained : (bytes text : List ℕ) → contains bytes text ≡ true → Around bytes text
around_contained [] text has = around_first [] text has
around_contained (byte ∷ bytes) text has =
    around_cons byte bytes text (begins_with (byte ∷ bytes) text) refl has (around_contained bytes text)

drop_before : (before rest : List ℕ) → drop (length before) (before ++ rest) ≡ rest
drop_before [] rest = refl
drop_before (byte ∷ before) rest = drop_before before rest

room : (before text after : List ℕ) → length before + length text ≤ length (before ++ (text ++ after))
room before text after =
    omega (arith, length-append before (text ++ after), length-append text after)

occurs_around : (before text after : List ℕ) → OccursAt (before ++ (text ++ after)) text (length before)
occurs_around before text after =
    OccursAt-from_part (before ++ (text ++ after)) text (length before) (room before text after)
    (ap (take (length text)) (drop_before before (text ++ after)) ∙ take_text text after)

-- what is contained occurs somewhere, and the other way round
pub occurs_contained : (bytes text : List ℕ) → contains bytes text ≡ true → Contains bytes text
occurs_contained bytes text has =
    let around = around_contained bytes text has in (
      length around.before,
      subst (λ all. OccursAt all text (length around.before)) (sym around.whole)
          (occurs_around around.before text around.after),
    )

pub contained_occurs : (bytes text : List ℕ) → Contains bytes text → contains bytes text ≡ true
contained_occurs bytes text occurs =
    let split = OccursAt-split bytes text occurs.0 occurs.1 in
    let whole = sym (take-append-drop occurs.0 bytes) ∙ ap (λ rest. take occurs.0 bytes ++ rest) split in
    subst (λ all. contains all text ≡ true) (sym whole)
    (contains_from (take occurs.0 bytes) text (drop (occurs.0 + length text) bytes))

-- two tests of which each is true where the other is
pub same_test : (a b : Bool) → (a ≡ true → b ≡ true) → (b ≡ true → a ≡ true) → a ≡ b
same_test true b to from = sym (to refl)
same_test false true to from = from refl
same_test false false to from = refl
