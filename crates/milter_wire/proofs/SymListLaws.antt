-- Symbol lists up to the end of a payload, decoded one after the other, as the loops do.
use Rattle.std.proofs.Common.{◌≡◌, ◌≢◌, ℕ, zero, suc, ◌≤◌, ◌<◌, List, [], ◌∷◌, ◌++◌, length, All, Option, Some, None, refl, sym, ap, subst, ◌∙◌, append_assoc, arith}
use Rattle.std.specs.List.{flat_map}
use Rattle.std.proofs.lemmas.Option.{same_Some}
use Rattle.std.proofs.lemmas.List.Elements.{All-nil, All-cons, All-head, All-tail}
use Rattle.milter_wire.specs.declared.symbol_lists.SymList.{SymList}
use Rattle.milter_fields.specs.Number.{IsBytes, number, number_at}
use Rattle.milter_fields.specs.Field.{string}
use Rattle.milter_wire.specs.OptionsPayload.{sym_list, SymListFits, sym_list_at, sym_lists_within, sym_lists_in}
use Rattle.milter_fields.specs.Bind.{◌>>=◌}
use Rattle.milter_fields.specs.Decoders.{string_at}
use Rattle.milter_fields.proofs.Binds.{bind_some}
use Rattle.milter_fields.proofs.StreamLaws.{number_takes, number_at-number}
use Rattle.milter_fields.proofs.StringFields.{string_takes, string_at-string, string_at-shorter}
use Rattle.milter_fields.proofs.PortFields.{bytes_after}

-- ---- a list at the start

pub record TakesSymList (bytes : List ℕ) (l : SymList) (rest : List ℕ) : Type 0 where
  pub bytes_are : bytes ≡ sym_list l ++ rest
  pub fits : SymListFits l
  pub rest_bytes : IsBytes rest

abbrev list_of : ℕ → List ℕ → SymList
list_of stage names = record { stage = stage; names = names }

pub sym_list_takes : (bytes : List ℕ) (l : SymList) (rest : List ℕ) → IsBytes bytes → sym_list_at bytes ≡ Some (l, rest) → TakesSymList bytes l rest
unfolding sym_list_at
sym_list_takes bytes l rest b e =
    let s = bind_some (number_at bytes) (λ s. string_at s.1 >>= λ n. Some (list_of s.0 n.0, n.1)) (l, rest) e in
    let n = bind_some (string_at s.0.1) (λ n. Some (list_of s.0.0 n.0, n.1)) (l, rest) s.2 in
    let t = number_takes bytes s.0.0 s.0.1 b s.1 in
    let u = string_takes s.0.1 n.0.0 n.0.1 n.1 in
    subst (λ (x : SymList × List ℕ). TakesSymList bytes x.0 x.1) (same_Some (list_of s.0.0 n.0.0, n.0.1) (l, rest) n.2)
    record {
      bytes_are = t.bytes_are ∙ ap (λ (z : List ℕ). number s.0.0 ++ z) u.bytes_are ∙ sym (append_assoc (number s.0.0) (string n.0.0) n.0.1);
      fits = record { stage = t.fits; names = u.no_nul };
      rest_bytes = bytes_after (string n.0.0) n.0.1 (subst IsBytes u.bytes_are t.rest_bytes);
    }

pub sym_list_at-sym_list : (l : SymList) (rest : List ℕ) → SymListFits l → sym_list_at (sym_list l ++ rest) ≡ Some (l, rest)
unfolding sym_list_at
sym_list_at-sym_list l rest fits =
    ap sym_list_at (append_assoc (number l.stage) (string l.names) rest)
    ∙ rw (number_at-number l.stage (string l.names ++ rest) fits.stage, string_at-string l.names rest fits.names) refl

number_at-shorter : (bytes : List ℕ) (n : ℕ) (rest : List ℕ) → number_at bytes ≡ Some (n, rest) → length rest ≤ length bytes
number_at-shorter (a ∷ b ∷ c ∷ d ∷ body) n rest h = let same : length body ≡ length rest = ap (λ (x : List ℕ). length x) (ap (λ (x : ℕ × List ℕ). x.1) (same_Some _ (n, rest) h)) in omega (arith, same)
number_at-shorter [] n rest h = absurd cc
number_at-shorter (a ∷ []) n rest h = absurd cc
number_at-shorter (a ∷ b ∷ []) n rest h = absurd cc
number_at-shorter (a ∷ b ∷ c ∷ []) n rest h = absurd cc

pub sym_list_at-shorter : (bytes : List ℕ) (l : SymList) (rest : List ℕ) → sym_list_at bytes ≡ Some (l, rest) → length rest < length bytes
unfolding sym_list_at
sym_list_at-shorter bytes l rest e =
    let s = bind_some (number_at bytes) (λ s. string_at s.1 >>= λ n. Some (list_of s.0 n.0, n.1)) (l, rest) e in
    let n = bind_some (string_at s.0.1) (λ n. Some (list_of s.0.0 n.0, n.1)) (l, rest) s.2 in
    let after : n.0.1 ≡ rest = ap (λ (x : SymList × List ℕ). x.1) (same_Some (list_of s.0.0 n.0.0, n.0.1) (l, rest) n.2) in
    let stage = number_at-shorter bytes s.0.0 s.0.1 s.1 in
    let names = string_at-shorter s.0.1 n.0.0 n.0.1 n.1 in
    omega (arith, stage, names, ap length after)

-- ---- as many lists as there are bytes are enough

-- a list at the start, or none
data FirstOrNone (bytes : List ℕ) : Type 0 where
  list_first : (l : SymList) (after : List ℕ) → sym_list_at bytes ≡ Some (l, after) → FirstOrNone bytes
  no_list : sym_list_at bytes ≡ None → FirstOrNone bytes

first_or_none_by : (bytes : List ℕ) (o : Option (SymList × List ℕ)) → sym_list_at bytes ≡ o → FirstOrNone bytes
first_or_none_by bytes None h = no_list h
first_or_none_by bytes (Some x) h = list_first x.0 x.1 h

within-first : (most byte : ℕ) (rest : List ℕ) (l : SymList) (after : List ℕ) → sym_list_at (byte ∷ rest) ≡ Some (l, after)
    → sym_lists_within (suc most) (byte ∷ rest) ≡ (sym_lists_within most after >>= λ lists. Some (l ∷ lists))
unfolding sym_lists_within
within-first most byte rest l after h = rw h refl

within-none : (most byte : ℕ) (rest : List ℕ) → sym_list_at (byte ∷ rest) ≡ None → sym_lists_within (suc most) (byte ∷ rest) ≡ None
unfolding sym_lists_within
within-none most byte rest h = rw h refl

enough : (m n : ℕ) (bytes : List ℕ) → length bytes ≤ m → length bytes ≤ n → sym_lists_within m bytes ≡ sym_lists_within n bytes
unfolding sym_lists_within
enough zero zero [] h k = refl
enough zero (suc n) [] h k = refl
enough (suc m) zero [] h k = refl
enough (suc m) (suc n) [] h k = refl
enough zero n (byte ∷ rest) h k = absurd (omega arith)
enough (suc m) zero (byte ∷ rest) h k = absurd (omega arith)
enough (suc m) (suc n) (byte ∷ rest) h k =
    elim (first_or_none_by (byte ∷ rest) (sym_list_at (byte ∷ rest)) refl) [
      | list_first l after e ↦
          let shorter = sym_list_at-shorter (byte ∷ rest) l after e in
          within-first m byte rest l after e
          ∙ ap (λ (read : Option (List SymList)). read >>= λ lists. Some (l ∷ lists)) (enough m n after (omega arith) (omega arith))
          ∙ sym (within-first n byte rest l after e)
      | no_list e ↦ within-none m byte rest e ∙ sym (within-none n byte rest e)
    ]

-- ---- a step of the decoding

pub sym_lists_in-nil : (bytes : List ℕ) → length bytes ≡ 0 → sym_lists_in bytes ≡ Some []
unfolding sym_lists_in sym_lists_within
sym_lists_in-nil [] h = refl
sym_lists_in-nil (byte ∷ rest) h = absurd (omega arith)

pub sym_lists_in-unended : (bytes : List ℕ) → length bytes ≢ 0 → sym_list_at bytes ≡ None → sym_lists_in bytes ≡ None
unfolding sym_lists_in
sym_lists_in-unended [] h k = absurd (h refl)
sym_lists_in-unended (byte ∷ rest) h k = within-none (length rest) byte rest k

pub sym_lists_in-first : (bytes : List ℕ) (l : SymList) (after : List ℕ) → sym_list_at bytes ≡ Some (l, after) → sym_lists_in bytes ≡ (sym_lists_in after >>= λ lists. Some (l ∷ lists))
unfolding sym_lists_in
sym_lists_in-first [] l after h = absurd (let shorter = sym_list_at-shorter [] l after h in omega (arith, shorter))
sym_lists_in-first (byte ∷ rest) l after h =
    let shorter = sym_list_at-shorter (byte ∷ rest) l after h in
    within-first (length rest) byte rest l after h
    ∙ ap (λ (read : Option (List SymList)). read >>= λ lists. Some (l ∷ lists)) (enough (length rest) (length after) after (omega arith) (omega arith))

-- ---- lists that are decoded were encoded so, and those that are encoded are decoded

pub record TakesSymLists (bytes : List ℕ) (lists : List SymList) : Type 0 where
  pub bytes_are : bytes ≡ flat_map sym_list lists
  pub fit : All SymListFits lists

within_take : (most : ℕ) (bytes : List ℕ) (lists : List SymList) → IsBytes bytes → sym_lists_within most bytes ≡ Some lists → TakesSymLists bytes lists
unfolding sym_lists_within
within_take zero [] lists b e = subst (TakesSymLists []) (same_Some [] lists e) record { bytes_are = refl; fit = All-nil SymListFits }
within_take (suc most) [] lists b e = subst (TakesSymLists []) (same_Some [] lists e) record { bytes_are = refl; fit = All-nil SymListFits }
within_take zero (byte ∷ rest) lists b e = absurd cc
within_take (suc most) (byte ∷ rest) lists b e =
    let l = bind_some (sym_list_at (byte ∷ rest)) (λ first. sym_lists_within most first.1 >>= λ others. Some (first.0 ∷ others)) lists e in
    let p = bind_some (sym_lists_within most l.0.1) (λ others. Some (l.0.0 ∷ others)) lists l.2 in
    let first = sym_list_takes (byte ∷ rest) l.0.0 l.0.1 b l.1 in
    let others = within_take most l.0.1 p.0 first.rest_bytes p.1 in
    subst (TakesSymLists (byte ∷ rest)) (same_Some (l.0.0 ∷ p.0) lists p.2)
    record {
      bytes_are = first.bytes_are ∙ ap (λ (x : List ℕ). sym_list l.0.0 ++ x) others.bytes_are;
      fit = All-cons SymListFits l.0.0 p.0 first.fits others.fit;
    }

pub sym_lists_take : (bytes : List ℕ) (lists : List SymList) → IsBytes bytes → sym_lists_in bytes ≡ Some lists → TakesSymLists bytes lists
unfolding sym_lists_in
sym_lists_take bytes lists b e = within_take (length bytes) bytes lists b e

pub sym_lists_in-sym_lists : (lists : List SymList) → All SymListFits lists → sym_lists_in (flat_map sym_list lists) ≡ Some lists
sym_lists_in-sym_lists [] h = sym_lists_in-nil [] refl
sym_lists_in-sym_lists (l ∷ lists) h =
    let others = sym_lists_in-sym_lists lists (All-tail SymListFits l lists h) in
    let first = sym_list_at-sym_list l (flat_map sym_list lists) (All-head SymListFits l lists h) in
    sym_lists_in-first (sym_list l ++ flat_map sym_list lists) l (flat_map sym_list lists) first ∙ rw others refl
