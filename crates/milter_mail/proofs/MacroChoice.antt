-- The last pair of each name, as a map has it, and the pairs that are chosen of it.
use Rattle.std.proofs.Common.{◌≡◌, ℕ, ◌+◌, ◌<◌, ◌==◌, Bool, true, false, cond, List, [], ◌∷◌, ◌++◌, length, get_or, take, Option, Some, None, refl, sym, ap, subst, ◌∙◌, add-one, append_assoc, inl, inr}
use Rattle.std.specs.BTreeMap as tree
use Rattle.std.specs.BTreeMap.{BTreeMap}
use Rattle.std.specs.Cmp.Lexicographic.{slice_cmp}
use Rattle.std.specs.List.{filter, last_or}
use Rattle.std.specs.Map.{update}
use Rattle.std.specs.Option.{option_copied, option_to_list}
use Rattle.std.specs.Ordering.{nat_cmp}
use Rattle.std.specs.Str.{bytes_eq}
use Rattle.std.proofs.Math.Seq.{take-suc}
use Rattle.std.proofs.lemmas.Bool.{cases_Bool}
use Rattle.std.proofs.lemmas.List.Elements.{filter-append}
use Rattle.std.proofs.lemmas.Slice.Eq.{bytes_eq-Decides}
use denote.Ref.{Bor}
use Rattle.milter_fields.specs.declared.pair.Pair.{Pair}
use Rattle.milter_mail.specs.ChosenMacros.{chosen_pairs, is_word, last_pair, without_name}
use Rattle.milter_message.proofs.EditSequences.{last-append}

-- ---- the last of those that pass, with one more

last_one : {X : Type 0} (f : X → Bool) (before : Option X) (x : X) → last_or before (filter f (x ∷ [])) ≡ cond (f x) (Some x) before
last_one f before x =
    elim (cases_Bool (f x)) [
      | inl e ↦ rw e refl
      | inr e ↦ rw e refl
    ]

pub last_more : {X : Type 0} (f : X → Bool) (xs : List X) (i : ℕ) (x : X) → i < length xs → x ≡ get_or xs i x → last_or None (filter f (take (i + 1) xs)) ≡ cond (f x) (Some x) (last_or None (filter f (take i xs)))
last_more f xs i x within here =
    ap (λ l. last_or None (filter f l)) (rw (add-one, take-suc xs i x within, ← here) refl)
    ∙ ap (last_or None) (filter-append f (take i xs) (x ∷ []))
    ∙ last-append None (filter f (take i xs)) (filter f (x ∷ []))
    ∙ last_one f (last_or None (filter f (take i xs))) x

-- ---- the last pair of each name, once those of one name are gone

-- among the pairs of other names there is none of this one, and those of another stay
last_among_others : (name : List ℕ) (start : Option Pair) (pairs : List Pair) → last_or start (filter (λ pair. bytes_eq pair.name name) (without_name name pairs)) ≡ start
last_among_others name start [] = refl
last_among_others name start (pair ∷ pairs) =
    elim (cases_Bool (bytes_eq pair.name name)) [
      | inl e ↦ rw e (last_among_others name start pairs)
      | inr e ↦ rw (e, e) (last_among_others name start pairs)
    ]

last_of_another : (name other : List ℕ) (start : Option Pair) (pairs : List Pair) → bytes_eq name other ≡ false → last_or start (filter (λ pair. bytes_eq pair.name other) (without_name name pairs)) ≡ last_or start (filter (λ pair. bytes_eq pair.name other) pairs)
last_of_another name other start [] apart = refl
last_of_another name other start (pair ∷ pairs) apart =
    elim (cases_Bool (bytes_eq pair.name name)) [
      | inl e ↦
          let same = (bytes_eq-Decides pair.name name).0 e in
          let not_other : bytes_eq pair.name other ≡ false = ap (λ l. bytes_eq l other) same ∙ apart in
          rw (e, not_other) (last_of_another name other start pairs apart)
      | inr e ↦
          elim (cases_Bool (bytes_eq pair.name other)) [
            | inl f ↦ rw (e, f) (last_of_another name other (Some pair) pairs apart)
            | inr f ↦ rw (e, f) (last_of_another name other start pairs apart)
          ]
    ]

last_without : (name other : List ℕ) (pairs : List Pair) → last_pair other (without_name name pairs) ≡ cond (bytes_eq name other) None (last_pair other pairs)
last_without name other pairs =
    elim (cases_Bool (bytes_eq name other)) [
      | inl e ↦
          let same = (bytes_eq-Decides name other).0 e in
          rw e (subst (λ n. last_pair n (without_name name pairs) ≡ None) same (last_among_others name None pairs))
      | inr e ↦ rw e (last_of_another name other None pairs e)
    ]

-- ---- a map of the last pairs

abbrev pub Lasts : Type 0
Lasts = BTreeMap (Bor (List ℕ)) (Bor Pair)

abbrev pub at_name : Lasts → List ℕ → Option (Bor Pair)
at_name m name = tree.get_by (λ key. slice_cmp nat_cmp name key.now) m

copied_unless : (b : Bool) (o : Option (Bor Pair)) → option_copied (cond b None o) ≡ cond b None (option_copied o)
copied_unless true o = refl
copied_unless false o = refl

copied_if : (b : Bool) (x : Bor Pair) (o : Option (Bor Pair)) → option_copied (cond b (Some x) o) ≡ cond b (Some x.now) (option_copied o)
copied_if true x o = refl
copied_if false x o = refl

-- one pair more
pub has_more : (m n : Lasts) (pairs : List Pair) (i : ℕ) (x : Bor Pair) → i < length pairs → x.now ≡ get_or pairs i x.now → ((name : List ℕ) → option_copied (at_name m name) ≡ last_pair name (take i pairs)) → ((name : List ℕ) → at_name n name ≡ update bytes_eq (at_name m) x.now.name (Some x) name)
    → (name : List ℕ) → option_copied (at_name n name) ≡ last_pair name (take (i + 1) pairs)
has_more m n pairs i x within here has updated name =
    ap option_copied (updated name)
    ∙ copied_if (bytes_eq x.now.name name) x (at_name m name)
    ∙ ap (cond (bytes_eq x.now.name name) (Some x.now)) (has name)
    ∙ sym (last_more (λ pair. bytes_eq pair.name name) pairs i x.now within here)

-- the pairs chosen so far; the map has the last pairs of those that are left
pub record Choosing (names parts : List (List ℕ)) (pairs : List Pair) (m : Lasts) (out : List Pair) : Type 0 where
  pub left : List Pair
  pub has : (name : List ℕ) → option_copied (at_name m name) ≡ last_pair name left
  pub whole : out ++ chosen_pairs (filter is_word parts) left ≡ chosen_pairs names pairs

pub word_of_len : (part : List ℕ) → (length part == 0) ≡ false → is_word part ≡ true
word_of_len [] some = absurd cc
word_of_len (byte ∷ bytes) some = refl

pub choosing_next : (names parts : List (List ℕ)) (pairs : List Pair) (m n : Lasts) (out : List Pair) (part : List ℕ) (found : Option Pair) → is_word part ≡ true → Choosing names (part ∷ parts) pairs m out → found ≡ option_copied (at_name m part)
    → ((name : List ℕ) → at_name n name ≡ update bytes_eq (at_name m) part None name) → Choosing names parts pairs n (out ++ option_to_list found)
choosing_next names parts pairs m n out part found word c is updated = record {
  left = without_name part c.left;
  has =
      λ name.
      ap option_copied (updated name)
      ∙ copied_unless (bytes_eq part name) (at_name m name)
      ∙ ap (cond (bytes_eq part name) None) (c.has name)
      ∙ sym (last_without part name c.left);
  whole =
      let rest = chosen_pairs (filter is_word parts) (without_name part c.left) in
      let w : out ++ (option_to_list (last_pair part c.left) ++ rest) ≡ chosen_pairs names pairs = rw word at c.whole in
      append_assoc out (option_to_list found) rest
      ∙ ap (λ o. out ++ (option_to_list o ++ rest)) (is ∙ c.has part)
      ∙ w;
}
