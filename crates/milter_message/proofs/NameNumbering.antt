-- Names by their numbers.
use Rattle.std.proofs.Common.{◌≡◌, ℕ, ◌+◌, ◌<◌, ◌==◌, Bool, true, false, if◌then◌else◌, List, [], ◌∷◌, ◌++◌, Option, Some, None, length, get_or, max, refl, sym, ap, subst, ◌∙◌, arith, inl, inr, take}
use Rattle.std.specs.Prelude.{IsSome, is_some, unwrap_or}
use Rattle.std.specs.Borrow.{Bor}
use Rattle.std.specs.BTreeMap.{BTreeMap}
use Rattle.std.specs.List.{All, filter_map}
use Rattle.std.specs.Map.{update}
use Rattle.std.specs.Str.{bytes_eq, str_to_ascii_lowercase}
use Rattle.std.proofs.lemmas.Bool.{cases_Bool, eqb-true, eqb-false, false≢true}
use Rattle.std.proofs.lemmas.List.{map-append, take_more}
use Rattle.std.proofs.lemmas.List.Elements.{All-nil, All-cons, All-head, All-tail, All-push, All-weaker}
use Rattle.std.proofs.lemmas.Option.{none-some, same_Some}
use Rattle.std.proofs.lemmas.Slice.Eq.{bytes_eq-Decides}
use Rattle.milter_message.specs.declared.edit.Edit.{Edit}
use Rattle.milter_message.specs.declared.edit.Edit.TheVariants.{ChangeHeader}
use Rattle.milter_message.specs.NameNumbers.{AreUpTo, HasNumbers, HasOwnNumber, IsNumbered, IsNumberFor, changed_name, first_or_zero, found, left_after, number_for, number_or_zero, numbers_of, others}

abbrev Numbers : Type 0
Numbers = BTreeMap (Bor (List ℕ)) ℕ

abbrev pub HasNumber : Numbers → List ℕ → Type 0
HasNumber numbers name = IsSome (found numbers name)

-- ---- a number of one name alone

differ : (numbers : Numbers) (a b : List ℕ) → (found numbers a ≡ found numbers b → ⊥) → bytes_eq a b ≡ false
differ numbers a b apart =
    elim (cases_Bool (bytes_eq a b)) [
      | inl e ↦ absurd (apart (ap (found numbers) ((bytes_eq-Decides a b).0 e)))
      | inr e ↦ e
    ]

not_zero : (n : ℕ) → 0 < n → (0 == n) ≡ false
not_zero n positive =
    elim (cases_Bool (0 == n)) [
      | inl e ↦ let is = eqb-true 0 n e in absurd (omega (arith, is, positive))
      | inr e ↦ e
    ]

compared : (names : List (List ℕ)) (numbers : Numbers) (a b : List ℕ) (x y : Option ℕ) → HasNumbers names numbers
    → found numbers a ≡ x → found numbers b ≡ y → IsSome y
    → (number_or_zero x == number_or_zero y) ≡ bytes_eq a b
compared names numbers a b x None has first second some = absurd (false≢true some)
compared names numbers a b None (Some n) has first second some =
    not_zero n (has.positive b n second)
    ∙ sym (differ numbers a b (λ same. none-some n (sym first ∙ same ∙ second)))
compared names numbers a b (Some m) (Some n) has first second some =
    elim (cases_Bool (m == n)) [
      | inl e ↦
          let same = has.apart a b n (first ∙ ap Some (eqb-true m n e)) second in
          e ∙ sym ((bytes_eq-Decides a b).1 same)
      | inr e ↦
          e ∙ sym (differ numbers a b (λ same. eqb-false m n e (same_Some m n (sym first ∙ same ∙ second))))
    ]

own_number : (names : List (List ℕ)) (numbers : Numbers) (name : List ℕ) → HasNumbers names numbers
    → IsSome (found numbers (str_to_ascii_lowercase name)) → HasOwnNumber numbers name
own_number names numbers name has some other =
    let a = str_to_ascii_lowercase other in
    let b = str_to_ascii_lowercase name in
    compared names numbers a b (found numbers a) (found numbers b) has refl refl some

-- the names that edits change
all_numbered : (names : List (List ℕ)) (numbers : Numbers) (edits : List Edit) → HasNumbers names numbers
    → All (HasNumber numbers) (filter_map changed_name edits) → All (IsNumbered numbers) edits
all_numbered names numbers [] has some = All-nil (IsNumbered numbers)
all_numbered names numbers (ChangeHeader index header ∷ edits) has some =
    let lower = str_to_ascii_lowercase header.name in
    All-cons (IsNumbered numbers) (ChangeHeader index header) edits
    (own_number names numbers header.name has (All-head (HasNumber numbers) lower (filter_map changed_name edits) some))
    (all_numbered names numbers edits has (All-tail (HasNumber numbers) lower (filter_map changed_name edits) some))
all_numbered names numbers (other ∷ edits) has some =
    All-cons (IsNumbered numbers) other edits tt (all_numbered names numbers edits has some)

pub edits_numbered : (names : List (List ℕ)) (numbers : Numbers) (edits : List Edit) → HasNumbers names numbers
    → names ≡ filter_map changed_name edits → All (IsNumbered numbers) edits
edits_numbered names numbers edits has is =
    all_numbered names numbers edits has (subst (All (HasNumber numbers)) is has.some)

-- ---- one name more

one_more : (names : List (List ℕ)) (text : List ℕ) (most : ℕ) (numbers more : Numbers)
    → ((name : List ℕ) → found more name ≡ update bytes_eq (found numbers) text (Some (most + 1)) name)
    → AreUpTo most numbers → HasNumbers names numbers
    → HasNumbers (names ++ text ∷ []) more × AreUpTo (most + 1) more
one_more names text most numbers more put few has = (
  record {
    some = All-push (HasNumber more) names text
        (All-weaker (HasNumber numbers) (HasNumber more) still names has.some)
        (ap is_some (here text ((bytes_eq-Decides text text).1 refl)));
    positive = λ name n e. elim (cases_Bool (bytes_eq text name)) [
      | inl same ↦ let eq = same_Some (most + 1) n (sym (here name same) ∙ e) in omega (arith, eq)
      | inr other ↦ has.positive name n (sym (elsewhere name other) ∙ e)
    ];
    apart = λ a b n first second. elim (cases_Bool (bytes_eq text a)) [
      | inl one ↦ elim (cases_Bool (bytes_eq text b)) [
        | inl two ↦ sym ((bytes_eq-Decides text a).0 one) ∙ (bytes_eq-Decides text b).0 two
        | inr two ↦ absurd (new_one a b n one two first second)
      ]
      | inr one ↦ elim (cases_Bool (bytes_eq text b)) [
        | inl two ↦ absurd (new_one b a n two one second first)
        | inr two ↦ has.apart a b n (sym (elsewhere a one) ∙ first) (sym (elsewhere b two) ∙ second)
      ]
    ];
  },
  λ name n e. elim (cases_Bool (bytes_eq text name)) [
    | inl same ↦ let eq = same_Some (most + 1) n (sym (here name same) ∙ e) in omega (arith, eq)
    | inr other ↦ let low = few name n (sym (elsewhere name other) ∙ e) in omega (arith, low)
  ],
)
  where
    here : (name : List ℕ) → bytes_eq text name ≡ true → found more name ≡ Some (most + 1)
    here name same = put name ∙ ap (λ (b : Bool). if b then Some (most + 1) else found numbers name) same

    elsewhere : (name : List ℕ) → bytes_eq text name ≡ false → found more name ≡ found numbers name
    elsewhere name other = put name ∙ ap (λ (b : Bool). if b then Some (most + 1) else found numbers name) other

    still : (name : List ℕ) → IsSome (found numbers name) → IsSome (found more name)
    still name some =
        elim (cases_Bool (bytes_eq text name)) [
          | inl same ↦ ap is_some (here name same)
          | inr other ↦ ap is_some (elsewhere name other) ∙ some
        ]

    new_one : (a b : List ℕ) (n : ℕ) → bytes_eq text a ≡ true → bytes_eq text b ≡ false → found more a ≡ Some n
        → found more b ≡ Some n → ⊥
    new_one a b n one two first second =
        let eq = same_Some (most + 1) n (sym (here a one) ∙ first) in
        let low = few b n (sym (elsewhere b two) ∙ second) in
        omega (arith, eq, low)

-- the names up to one more
next_taken : (names : List (List ℕ)) (index : ℕ) (name : List ℕ) → index < length names
    → name ≡ get_or names index name → take index names ++ name ∷ [] ≡ take (index + 1) names
next_taken names index name within here =
    sym (take_more names index name within ∙ ap (λ n. take index names ++ n ∷ []) (sym here))

-- ---- the step of the loop

abbrev Puts : Numbers → Numbers → List ℕ → ℕ → Type 0
Puts numbers more name number = (text : List ℕ) → found more text ≡ update bytes_eq (found numbers) name (Some number) text

put_here : (numbers more : Numbers) (name : List ℕ) (number : ℕ) → Puts numbers more name number
    → found more name ≡ Some number
put_here numbers more name number put =
    put name
    ∙ ap (λ (b : Bool). if b then Some number else found numbers name) ((bytes_eq-Decides name name).1 refl)

put_elsewhere : (numbers more : Numbers) (name : List ℕ) (number : ℕ) (text : List ℕ) → Puts numbers more name number
    → bytes_eq name text ≡ false → found more text ≡ found numbers text
put_elsewhere numbers more name number text put other =
    put text ∙ ap (λ (b : Bool). if b then Some number else found numbers text) other

-- a name that has a number keeps it
abbrev Keeps : Numbers → Numbers → List ℕ → Type 0
Keeps numbers more name = found more name ≡ found numbers name

kept_numbers : (numbers more : Numbers) (names : List (List ℕ)) → All (Keeps numbers more) names
    → numbers_of more names ≡ numbers_of numbers names
kept_numbers numbers more [] keep = refl
kept_numbers numbers more (name ∷ names) keep =
    ap (λ (o : Option ℕ). number_or_zero o ∷ numbers_of more names) (All-head (Keeps numbers more) name names keep)
    ∙ ap (λ (l : List ℕ). number_or_zero (found numbers name) ∷ l)
    (kept_numbers numbers more names (All-tail (Keeps numbers more) name names keep))

numbers_pushed : (numbers more : Numbers) (names : List (List ℕ)) (name : List ℕ) (number : ℕ) (of_names : List ℕ)
    → All (Keeps numbers more) names → found more name ≡ Some number → of_names ≡ numbers_of numbers names
    → of_names ++ number ∷ [] ≡ numbers_of more (names ++ name ∷ [])
numbers_pushed numbers more names name number of_names keep here are =
    ap (λ (l : List ℕ). l ++ number ∷ []) (are ∙ sym (kept_numbers numbers more names keep))
    ∙ ap (λ (o : Option ℕ). numbers_of more names ++ number_or_zero o ∷ []) (sym here)
    ∙ sym (map-append (λ (n : List ℕ). number_or_zero (found more n)) names (name ∷ []))

-- these names have numbers up to one, and these are theirs
pub record Numbered (names : List (List ℕ)) (most : ℕ) (numbers : Numbers) (of_names : List ℕ) : Type 0 where
  pub has : HasNumbers names numbers
  pub few : AreUpTo most numbers
  pub are : of_names ≡ numbers_of numbers names

-- a number that is put back
pub put_back : (name : List ℕ) (new old : ℕ) (numbers more again : Numbers)
    → ((text : List ℕ) → found more text ≡ update bytes_eq (found numbers) name (Some new) text)
    → ((text : List ℕ) → found again text ≡ update bytes_eq (found more) name (Some old) text)
    → (text : List ℕ) → found again text ≡ update bytes_eq (found numbers) name (Some old) text
put_back name new old numbers more again first second text =
    second text ∙ elim (cases_Bool (bytes_eq name text)) [
      | inl same ↦
          ap (λ (b : Bool). if b then Some old else found more text) same
          ∙ sym (ap (λ (b : Bool). if b then Some old else found numbers text) same)
      | inr other ↦
          ap (λ (b : Bool). if b then Some old else found more text) other
          ∙ first text ∙ ap (λ (b : Bool). if b then Some new else found numbers text) other
          ∙ sym (ap (λ (b : Bool). if b then Some old else found numbers text) other)
    ]

one_next : (names : List (List ℕ)) (most number : ℕ) (name : List ℕ) (numbers more : Numbers) (of_names : List ℕ)
    (old : Option ℕ) → found numbers name ≡ old → number ≡ unwrap_or old (most + 1) → Puts numbers more name number
    → Numbered names most numbers of_names
    → Numbered (names ++ name ∷ []) (max most number) more (of_names ++ number ∷ [])
one_next names most number name numbers more of_names None old is put before =
    let put_next : Puts numbers more name (most + 1) =
    λ text. put text ∙ ap (λ (n : ℕ). update bytes_eq (found numbers) name (Some n) text) is in
    let next = one_more names name most numbers more put_next before.few before.has in
    let high : most + 1 ≡ max most number = omega (arith, is) in
    record {
      has = next.0;
      few = subst (λ n. AreUpTo n more) high next.1;
      are =
          numbers_pushed numbers more names name number of_names
          (All-weaker (HasNumber numbers) (Keeps numbers more) keep names before.has.some)
          (put_here numbers more name number put) before.are;
    }
  where
    keep : (text : List ℕ) → HasNumber numbers text → Keeps numbers more text
    keep text some =
        put_elsewhere numbers more name number text put
        (differ numbers name text (λ same. false≢true (ap is_some (sym old ∙ same) ∙ some)))
one_next names most number name numbers more of_names (Some m) old is put before =
    record {
      has = record {
        some = All-push (HasNumber more) names name
            (All-weaker (HasNumber numbers) (HasNumber more) (λ text some. ap is_some (same text) ∙ some) names
            before.has.some)
            (ap is_some (put_here numbers more name number put));
        positive = λ text n e. before.has.positive text n (sym (same text) ∙ e);
        apart = λ a b n first second. before.has.apart a b n (sym (same a) ∙ first) (sym (same b) ∙ second);
      };
      few = λ text n e. let low = before.few text n (sym (same text) ∙ e) in omega (arith, low);
      are =
          numbers_pushed numbers more names name number of_names
          (All-weaker (HasNumber numbers) (Keeps numbers more) (λ text some. same text) names before.has.some)
          (put_here numbers more name number put) before.are;
    }
  where
    same : (text : List ℕ) → Keeps numbers more text
    same text =
        elim (cases_Bool (bytes_eq name text)) [
          | inl e ↦
              let eq = (bytes_eq-Decides name text).0 e in
              ap (found more) (sym eq) ∙ put_here numbers more name number put ∙ ap Some is ∙ sym old
              ∙ ap (found numbers) eq
          | inr e ↦ put_elsewhere numbers more name number text put e
        ]

pub numbered_next : (names : List (List ℕ)) (index most next number : ℕ) (name : List ℕ) (numbers more : Numbers)
    (of_names : List ℕ) → index < length names → name ≡ get_or names index name → next ≡ most + 1
    → number ≡ unwrap_or (found numbers name) next → Puts numbers more name number
    → Numbered (take index names) most numbers of_names
    → Numbered (take (index + 1) names) (max most number) more (of_names ++ number ∷ [])
numbered_next names index most next number name numbers more of_names within here next_is is put before =
    subst (λ ns. Numbered ns (max most number) more (of_names ++ number ∷ [])) (next_taken names index name within here)
    (one_next (take index names) most number name numbers more of_names (found numbers name) refl
    (is ∙ ap (λ (n : ℕ). unwrap_or (found numbers name) n) next_is) put before)

-- ---- the numbers left for the rest of the edits

abbrev pub AreLeft : Numbers → List ℕ → List Edit → Type 0
AreLeft numbers left edits = left ≡ numbers_of numbers (filter_map changed_name edits)

pub is_first_left : (numbers : Numbers) (edit : Edit) (edits : List Edit) (left : List ℕ)
    → AreLeft numbers left (edit ∷ edits) → IsNumberFor numbers (number_for edit left) edit
is_first_left numbers (ChangeHeader index header) edits left are = ap first_or_zero are
is_first_left numbers other edits left are = tt

pub still_left : (numbers : Numbers) (edit : Edit) (edits : List Edit) (left : List ℕ)
    → AreLeft numbers left (edit ∷ edits) → AreLeft numbers (left_after edit left) edits
still_left numbers (ChangeHeader index header) edits left are = ap others are
still_left numbers other edits left are = are
