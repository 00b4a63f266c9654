-- Edits of recipients one after the other, or each recipient by whether a later edit deletes it.
use Rattle.std.proofs.Common.{◌≡◌, ℕ, zero, suc, ◌+◌, Bool, true, false, List, [], ◌∷◌, ◌++◌, refl, sym, ap, ◌∙◌, Some, append_assoc, arith, drop, get_or, inl, inr, length, subst, take, ◌<◌}
use Rattle.std.specs.Prelude.{not, min, nat_le, ◌||◌, ◌&&◌, if◌then◌else◌}
use Rattle.std.specs.Borrow.{Bor}
use Rattle.std.specs.BTreeMap.{BTreeMap, get_by}
use Rattle.std.specs.Cmp.Lexicographic.{nat_list_eq_equiv, slice_cmp}
use Rattle.std.specs.Map.{update}
use Rattle.std.specs.Ordering.{nat_cmp}
use Rattle.std.specs.List.{filter, list_any}
use Rattle.std.specs.Str.{bytes_eq}
use Rattle.std.proofs.lemmas.Bool.{cases_lt, le-leb, lt-leb, leb-false}
use Rattle.std.proofs.lemmas.List.{append-nil, drop_all, length-take, take_more}
use Rattle.std.proofs.lemmas.List.Folds.{list_any-append}
use Rattle.milter_fields.specs.declared.path.Path.{Path}
use Rattle.milter_message.specs.declared.edit.Edit.{Edit}
use Rattle.milter_message.specs.declared.edit.Edit.TheVariants.{AddHeader, InsertHeader, ChangeHeader, AddRcpt, AddRcptPar, DelRcpt, ChangeFrom, ReplaceBody, Quarantine, Progress}
use Rattle.milter_message.specs.Deletions.{HasLastDeletions, deletes, if_stays, is_from, kept_added, kept_by, new_recipient, stays}
use Rattle.milter_message.specs.EditedMessage.{edit_recipients, recipients_after, without}

-- the recipients that stay
abbrev staying : List Edit → List Path → List Path
staying edits recipients = filter (λ recipient. stays edits recipient.address) recipients

staying_append : (edits : List Edit) (xs ys : List Path) → staying edits (xs ++ ys) ≡ staying edits xs ++ staying edits ys
staying_append edits [] ys = refl
staying_append edits (x ∷ xs) ys = go (stays edits x.address) (staying_append edits xs ys)
  where
    go : (b : Bool) → staying edits (xs ++ ys) ≡ staying edits xs ++ staying edits ys
        → (if b then x ∷ staying edits (xs ++ ys) else staying edits (xs ++ ys))
        ≡ (if b then x ∷ staying edits xs else staying edits xs) ++ staying edits ys
    go true e = ap (λ rest. x ∷ rest) e
    go false e = e

all_stay : (recipients : List Path) → staying [] recipients ≡ recipients
all_stay [] = refl
all_stay (x ∷ xs) = ap (λ rest. x ∷ rest) (all_stay xs)

-- a deletion, and then those after it
without_staying : (address : List ℕ) (edits : List Edit) (recipients : List Path)
    → staying edits (without address recipients) ≡ staying (DelRcpt address ∷ edits) recipients
without_staying address edits [] = refl
without_staying address edits (x ∷ xs) =
    go (bytes_eq x.address address) (list_any (deletes x.address) edits) refl (without_staying address edits xs)
  where
    go : (own later : Bool) → list_any (deletes x.address) edits ≡ later
        → staying edits (without address xs) ≡ staying (DelRcpt address ∷ edits) xs
        → staying edits (if not own then x ∷ without address xs else without address xs)
        ≡ (if not (own || later) then x ∷ staying (DelRcpt address ∷ edits) xs else staying (DelRcpt address ∷ edits) xs)
    go true later is e = e
    go false later is e =
        ap (λ b. if not b then x ∷ staying edits (without address xs) else staying edits (without address xs)) is
        ∙ ap (λ rest. if not later then x ∷ rest else rest) e

-- ---- all edits

-- a recipient is added, and then those after it may delete it
added_staying : (edits : List Edit) (recipients : List Path) (path : Path)
    → staying edits (recipients ++ path ∷ []) ≡ staying edits recipients ++ if_stays edits (Some path)
added_staying edits recipients path = staying_append edits recipients (path ∷ []) ∙ ap (λ l. staying edits recipients ++ l) (go (stays edits path.address))
  where
    go : (b : Bool) → (if b then path ∷ [] else []) ≡ (if b then path ∷ [] else [])
    go b = refl

one_edit : (recipients : List Path) (edit : Edit) (edits : List Edit)
    → staying edits (edit_recipients recipients edit) ≡ staying (edit ∷ edits) recipients ++ if_stays edits (new_recipient edit)
one_edit recipients (AddRcpt address) edits = added_staying edits recipients _
one_edit recipients (AddRcptPar address arguments) edits = added_staying edits recipients _
one_edit recipients (DelRcpt address) edits =
    without_staying address edits recipients ∙ sym (append-nil (staying (DelRcpt address ∷ edits) recipients))
one_edit recipients (AddHeader header) edits = sym (append-nil (staying edits recipients))
one_edit recipients (InsertHeader index header) edits = sym (append-nil (staying edits recipients))
one_edit recipients (ChangeHeader index header) edits = sym (append-nil (staying edits recipients))
one_edit recipients (ChangeFrom address arguments) edits = sym (append-nil (staying edits recipients))
one_edit recipients (ReplaceBody bytes) edits = sym (append-nil (staying edits recipients))
one_edit recipients (Quarantine reason) edits = sym (append-nil (staying edits recipients))
one_edit recipients Progress edits = sym (append-nil (staying edits recipients))

in_turn : (recipients : List Path) (edits : List Edit)
    → recipients_after recipients edits ≡ staying edits recipients ++ kept_added edits
in_turn recipients [] = sym (append-nil (staying [] recipients) ∙ all_stay recipients)
in_turn recipients (edit ∷ edits) =
    in_turn (edit_recipients recipients edit) edits
    ∙ ap (λ l. l ++ kept_added edits) (one_edit recipients edit edits)
    ∙ append_assoc (staying (edit ∷ edits) recipients) (if_stays edits (new_recipient edit)) (kept_added edits)

kept_same : (last : BTreeMap (Bor (List ℕ)) ℕ) (edits : List Edit) (recipients : List Path) → HasLastDeletions edits last
    → kept_by last recipients ≡ staying edits recipients
kept_same last edits [] has = refl
kept_same last edits (x ∷ xs) has =
    ap (λ b. if not b then x ∷ kept_by last xs else kept_by last xs) (has x.address 0)
    ∙ ap (λ rest. if stays edits x.address then x ∷ rest else rest) (kept_same last edits xs has)

-- what the code leaves
pub all_kept : (last : BTreeMap (Bor (List ℕ)) ℕ) (recipients : List Path) (edits : List Edit) (kept changed : List Path)
    → HasLastDeletions edits last → kept ≡ kept_by last recipients → changed ≡ kept ++ kept_added edits
    → changed ≡ recipients_after recipients edits
all_kept last recipients edits kept changed has kept_is changed_is =
    changed_is ∙ ap (λ l. l ++ kept_added edits) (kept_is ∙ kept_same last edits recipients has) ∙ sym (in_turn recipients edits)

-- ---- the edits so far

no_drop : (edits : List Edit) → drop 0 edits ≡ edits
no_drop [] = refl
no_drop (edit ∷ edits) = refl

-- one edit more: those from an index on
more_from : (edit : Edit) (index : ℕ) (edits : List Edit) (address : List ℕ)
    → list_any (deletes address) (drop index (edits ++ edit ∷ []))
    ≡ (list_any (deletes address) (drop index edits) || (nat_le index (length edits) && deletes address edit))
more_from edit zero edits address =
    ap (list_any (deletes address)) (no_drop (edits ++ edit ∷ []))
    ∙ list_any-append (deletes address) edits (edit ∷ [])
    ∙ ap (λ b. list_any (deletes address) edits || b) (or_false (deletes address edit))
    ∙ sym (ap (λ b. list_any (deletes address) edits || (b && deletes address edit)) (le-leb 0 (length edits) (omega arith)))
    ∙ sym (ap (λ es. list_any (deletes address) es || (nat_le 0 (length edits) && deletes address edit)) (no_drop edits))
  where
    or_false : (b : Bool) → (b || false) ≡ b
    or_false true = refl
    or_false false = refl
more_from edit (suc index) [] address =
    ap (list_any (deletes address)) (drop_all index [] (omega arith))
    ∙ sym (ap (λ b. b && deletes address edit) (lt-leb (suc index) 0 (omega arith)))
more_from edit (suc index) (first ∷ edits) address =
    more_from edit index edits address
    ∙ ap (λ b. list_any (deletes address) (drop index edits) || (b && deletes address edit)) (same index (length edits))
  where
    same : (i n : ℕ) → nat_le i n ≡ nat_le (suc i) (suc n)
    same i n =
        elim (cases_lt n i) [
          | inl above ↦ lt-leb i n above ∙ sym (lt-leb (suc i) (suc n) (omega (arith, above)))
          | inr within ↦ le-leb i n within ∙ sym (le-leb (suc i) (suc n) (omega (arith, within)))
        ]

none_behind : (edits : List Edit) (index : ℕ) (address : List ℕ) → length edits < index
    → list_any (deletes address) (drop index edits) ≡ false
none_behind [] zero address behind = absurd (omega (arith, behind))
none_behind [] (suc index) address behind = refl
none_behind (edit ∷ edits) zero address behind = absurd (omega (arith, behind))
none_behind (edit ∷ edits) (suc index) address behind = none_behind edits index address (omega (arith, behind))

-- an edit that deletes no recipient
pub nothing_deleted : (edit : Edit) → ((text : List ℕ) → edit ≡ DelRcpt text → ⊥) → (address : List ℕ) → deletes address edit ≡ false
nothing_deleted (DelRcpt text) other address = absurd (other text refl)
nothing_deleted (AddRcpt text) other address = refl
nothing_deleted (AddRcptPar text arguments) other address = refl
nothing_deleted (AddHeader header) other address = refl
nothing_deleted (InsertHeader index header) other address = refl
nothing_deleted (ChangeHeader index header) other address = refl
nothing_deleted (ChangeFrom text arguments) other address = refl
nothing_deleted (ReplaceBody bytes) other address = refl
nothing_deleted (Quarantine reason) other address = refl
nothing_deleted Progress other address = refl

pub none_more : (edits : List Edit) (edit : Edit) (last : BTreeMap (Bor (List ℕ)) ℕ)
    → ((address : List ℕ) → deletes address edit ≡ false) → HasLastDeletions edits last
    → HasLastDeletions (edits ++ edit ∷ []) last
none_more edits edit last none has address index =
    has address index
    ∙ sym (more_from edit index edits address
    ∙ ap (λ b. list_any (deletes address) (drop index edits) || (nat_le index (length edits) && b)) (none address)
    ∙ nothing (list_any (deletes address) (drop index edits)) (nat_le index (length edits)))
  where
    nothing : (a b : Bool) → (a || (b && false)) ≡ a
    nothing true b = refl
    nothing false true = refl
    nothing false false = refl

-- what is looked up after one that deletes a recipient
pub one_more : (edits : List Edit) (text : List ℕ) (last more : BTreeMap (Bor (List ℕ)) ℕ)
    → ((address : List ℕ) → get_by (λ k. slice_cmp nat_cmp address k.now) more
    ≡ update bytes_eq (λ a. get_by (λ k. slice_cmp nat_cmp a k.now) last) text (Some (length edits)) address)
    → HasLastDeletions edits last → HasLastDeletions (edits ++ DelRcpt text ∷ []) more
one_more edits text last more put has address index =
    ap (is_from index) (put address)
    ∙ go (bytes_eq text address) (bytes_eq address text) (nat_le index (length edits)) (nat_list_eq_equiv.symm text address) refl
    ∙ sym (more_from (DelRcpt text) index edits address)
  where
    go : (one other from : Bool) → one ≡ other → nat_le index (length edits) ≡ from
        → is_from index (if one then Some (length edits) else get_by (λ k. slice_cmp nat_cmp address k.now) last)
        ≡ (list_any (deletes address) (drop index edits) || (from && other))
    go true true true same is = is ∙ sym (or_true (list_any (deletes address) (drop index edits)))
      where
        or_true : (b : Bool) → (b || true) ≡ true
        or_true true = refl
        or_true false = refl
    go true true false same is =
        is ∙ sym (ap (λ b. b || false) (none_behind edits index address (leb-false index (length edits) is)))
    go false false from same is =
        has address index ∙ sym (nothing (list_any (deletes address) (drop index edits)) from)
      where
        nothing : (a b : Bool) → (a || (b && false)) ≡ a
        nothing true b = refl
        nothing false true = refl
        nothing false false = refl
    go true false from same is = absurd cc
    go false true from same is = absurd cc

-- ---- a step of the loop

so_far : (edits : List Edit) (index : ℕ) (edit : Edit) → index < length edits → edit ≡ get_or edits index edit
    → take (index + 1) edits ≡ take index edits ++ edit ∷ []
so_far edits index edit below is = take_more edits index edit below ∙ ap (λ e. take index edits ++ e ∷ []) (sym is)

pub after_deletion : (edits : List Edit) (place index : ℕ) (edit : Edit) (text : List ℕ) (last more : BTreeMap (Bor (List ℕ)) ℕ)
    → place < length edits → edit ≡ get_or edits place edit → edit ≡ DelRcpt text → index ≡ place
    → ((address : List ℕ) → get_by (λ k. slice_cmp nat_cmp address k.now) more
    ≡ update bytes_eq (λ a. get_by (λ k. slice_cmp nat_cmp a k.now) last) text (Some index) address)
    → HasLastDeletions (take place edits) last → HasLastDeletions (take (place + 1) edits) more
after_deletion edits place index edit text last more below is deletion index_is put has =
    let len : length (take place edits) ≡ place = length-take place edits ∙ (let e : min place (length edits) ≡ place = omega (arith, below) in e) in
    subst (λ es. HasLastDeletions es more) (sym (so_far edits place edit below is ∙ ap (λ e. take place edits ++ e ∷ []) deletion))
    (one_more (take place edits) text last more
    (λ address. put address ∙ ap (λ n. update bytes_eq (λ a. get_by (λ k. slice_cmp nat_cmp a k.now) last) text (Some n) address) (index_is ∙ sym len))
    has)

pub after_other : (edits : List Edit) (place : ℕ) (edit : Edit) (last : BTreeMap (Bor (List ℕ)) ℕ)
    → place < length edits → edit ≡ get_or edits place edit → ((text : List ℕ) → edit ≡ DelRcpt text → ⊥)
    → HasLastDeletions (take place edits) last → HasLastDeletions (take (place + 1) edits) last
after_other edits place edit last below is other has =
    subst (λ es. HasLastDeletions es last) (sym (so_far edits place edit below is))
    (none_more (take place edits) edit last (nothing_deleted edit other) has)
