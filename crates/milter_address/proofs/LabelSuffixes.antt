-- A domain is under its parent exactly where it is the parent, or ends with a dot and the parent.
use Rattle.std.proofs.Common.{◌≡◌, ◌⊎◌, ◌-◌, ℕ, Bool, true, false, List, [], ◌∷◌, ◌++◌, length, take, drop, arith, ap, sym, ◌∙◌, refl, inl, inr, append_assoc}
use Rattle.std.proofs.Common.{length-append, take-append-drop}
use Rattle.std.specs.List.{ends_with, join_with_byte, onto_first}
use Rattle.std.specs.Str.{bytes_eq}
use Rattle.std.proofs.lemmas.List.Splits.{join_with_byte-slice_split}
use Rattle.std.proofs.lemmas.Slice.Eq.{bytes_eq-Decides, slice_eq-Decides}
use Rattle.std.proofs.Math.Seq.{drop-append_seam}
use Rattle.milter_address.specs.Bytes.{is_dot}
use Rattle.milter_address.specs.Domain.{is_under, labels}

-- ---- labels joined by dots

joined : (domain : List ℕ) → join_with_byte 46 (labels domain) ≡ domain
joined domain = join_with_byte-slice_split 46 domain

join_both : (first : List ℕ) (more : List (List ℕ)) (second : List ℕ) (rest : List (List ℕ))
    → join_with_byte 46 ((first ∷ more) ++ (second ∷ rest)) ≡ join_with_byte 46 (first ∷ more) ++ 46 ∷ join_with_byte 46 (second ∷ rest)
join_both first [] second rest = refl
join_both first (next ∷ more) second rest =
    ap (λ bytes. first ++ 46 ∷ bytes) (join_both next more second rest)
    ∙ sym (append_assoc first (46 ∷ join_with_byte 46 (next ∷ more)) (46 ∷ join_with_byte 46 (second ∷ rest)))

-- there is a first label
pub record HasLabel (parts : List (List ℕ)) : Type 0 where
  pub first : List ℕ
  pub rest : List (List ℕ)
  pub is : parts ≡ first ∷ rest

onto_has : (byte : ℕ) (parts : List (List ℕ)) → HasLabel (onto_first byte parts)
onto_has byte [] = record { first = byte ∷ []; rest = []; is = refl }
onto_has byte (part ∷ parts) = record { first = byte ∷ part; rest = parts; is = refl }

has_label_at : (byte : ℕ) (bytes : List ℕ) (dot : Bool) → is_dot byte ≡ dot → HasLabel (labels (byte ∷ bytes))
has_label_at byte bytes true e = record { first = []; rest = labels bytes; is = rw e refl }
has_label_at byte bytes false e =
    let has = onto_has byte (labels bytes) in record { first = has.first; rest = has.rest; is = rw e has.is }

pub has_label : (domain : List ℕ) → HasLabel (labels domain)
has_label [] = record { first = []; rest = []; is = refl }
has_label (byte ∷ bytes) = has_label_at byte bytes (is_dot byte) refl

-- ---- labels of bytes before a dot, and of those behind it

onto_append : (byte : ℕ) (parts more : List (List ℕ)) → HasLabel parts → onto_first byte (parts ++ more) ≡ onto_first byte parts ++ more
onto_append byte [] more has = absurd (cc has.is)
onto_append byte (part ∷ parts) more has = refl

labels_append_at : (byte : ℕ) (before parent : List ℕ) (dot : Bool) → is_dot byte ≡ dot → labels (before ++ 46 ∷ parent) ≡ labels before ++ labels parent
    → labels ((byte ∷ before) ++ 46 ∷ parent) ≡ labels (byte ∷ before) ++ labels parent
labels_append_at byte before parent true e same = rw e (ap (λ parts. [] ∷ parts) same)
labels_append_at byte before parent false e same =
    rw e (ap (onto_first byte) same ∙ onto_append byte (labels before) (labels parent) (has_label before))

labels_append : (before parent : List ℕ) → labels (before ++ 46 ∷ parent) ≡ labels before ++ labels parent
labels_append [] parent = refl
labels_append (byte ∷ before) parent = labels_append_at byte before parent (is_dot byte) refl (labels_append before parent)

-- ---- what is under a parent

ends_so : (before parts : List (List ℕ)) → ends_with bytes_eq (before ++ parts) parts ≡ true
ends_so before parts =
    let start : length (before ++ parts) - length parts ≡ length before = omega (arith, length-append before parts) in
    rw (start, drop-append_seam before parts) ((slice_eq-Decides bytes_eq-Decides parts parts _ refl).1 refl)

pub under_itself : (parent : List ℕ) → is_under parent parent ≡ true
under_itself parent = ends_so [] (labels parent)

pub under_below : (before parent : List ℕ) → is_under (before ++ 46 ∷ parent) parent ≡ true
under_below before parent = rw (labels_append before parent) (ends_so (labels before) (labels parent))

-- the bytes before a dot and the parent
pub record IsBelow (domain parent : List ℕ) : Type 0 where
  pub before : List ℕ
  pub is : domain ≡ before ++ 46 ∷ parent

parted : (domain parent : List ℕ) (lead back : List (List ℕ)) → labels domain ≡ lead ++ back → back ≡ labels parent → (domain ≡ parent) ⊎ IsBelow domain parent
parted domain parent [] back whole same =
    inl (sym (joined domain) ∙ ap (join_with_byte 46) (whole ∙ same) ∙ joined parent)
parted domain parent (first ∷ more) back whole same =
    let has = has_label parent in
    let split : join_with_byte 46 ((first ∷ more) ++ labels parent) ≡ join_with_byte 46 (first ∷ more) ++ 46 ∷ join_with_byte 46 (labels parent) =
    rw has.is (join_both first more has.first has.rest) in
    inr (record {
      before = join_with_byte 46 (first ∷ more);
      is = sym (joined domain) ∙ ap (join_with_byte 46) (whole ∙ ap (λ parts. (first ∷ more) ++ parts) same) ∙ split
          ∙ ap (λ bytes. join_with_byte 46 (first ∷ more) ++ 46 ∷ bytes) (joined parent);
    })

pub under_parts : (domain parent : List ℕ) → is_under domain parent ≡ true → (domain ≡ parent) ⊎ IsBelow domain parent
under_parts domain parent under =
    let start = length (labels domain) - length (labels parent) in
    parted domain parent (take start (labels domain)) (drop start (labels domain)) (sym (take-append-drop start (labels domain)))
    (sym ((slice_eq-Decides bytes_eq-Decides (labels parent) (drop start (labels domain)) _ refl).0 under))
