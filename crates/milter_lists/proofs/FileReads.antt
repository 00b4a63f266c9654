-- What was read of a file, entry by entry.
use Rattle.std.proofs.Common.{◌≡◌, ℕ, suc, ◌≤◌, Bool, true, false, List, [], ◌∷◌, ◌++◌, length, map, refl, arith, sym, ◌∙◌, ap, subst, append_assoc, length-append, true≢false}
use Rattle.std.specs.Prelude.{◌&&◌, not, if◌then◌else◌}
use Rattle.std.specs.List.{filter}
use Rattle.std.proofs.lemmas.Bool.{and_from, and_parts}
use Rattle.std.proofs.lemmas.List.{append-nil, map-append}
use Rattle.std.proofs.lemmas.List.Folds.{list_all-append}
use Rattle.std.proofs.lemmas.List.Sums.{sum_by-append}
use Rattle.milter_text.specs.LineCursor.{all_contents}
use Rattle.milter_text.specs.Lines.{is_skipped}
use Rattle.milter_lists.specs.Entries.{bytes_of}
use Rattle.milter_lists.specs.declared.list_fault.ListFault.{ListFault}
use Rattle.milter_lists.specs.declared.list_fault.ListFault.TheVariants.{BadEntry, TooLarge, NoMemory}
use Rattle.milter_lists.specs.declared.list_kind.ListKind.{ListKind}
use Rattle.milter_lists.specs.Collected.{Collected, IsWithin, collected, joined, nothing, of_entry}
use Rattle.milter_lists.specs.ListFaults.{AreSmall, IsBad, IsFaultOf, IsSmallFile, IsTooMuch, Numbered, StopsAt, are_good, entries_of, has_good_entries, numbered_entries, numbered_from}
use Rattle.milter_lists.specs.Listed.{entries_in, is_entry, trimmed}
use Rattle.milter_lists.specs.ParsedEntries.{IsFaultAt}
use Rattle.milter_lists.proofs.CollectedEntries.{collected_more, small_within, within_small}

-- ---- the entries of a file

entries_numbered : (before : ℕ) (lines : List (List ℕ))
    → entries_of (numbered_from before lines) ≡ map trimmed (filter (λ line. not (is_skipped line)) lines)
entries_numbered before [] = refl
entries_numbered before (line ∷ lines) = go (is_skipped line) (entries_numbered (suc before) lines)
  where
    go : (skipped : Bool)
        → entries_of (numbered_from (suc before) lines) ≡ map trimmed (filter (λ l. not (is_skipped l)) lines)
        → entries_of (if skipped then numbered_from (suc before) lines
        else record { line = suc before; entry = trimmed line } ∷ numbered_from (suc before) lines)
        ≡ map trimmed (if not skipped then line ∷ filter (λ l. not (is_skipped l)) lines else filter (λ l. not (is_skipped l)) lines)
    go true rest = rest
    go false rest = ap (λ es. trimmed line ∷ es) rest

pub file_entries : (bytes : List ℕ) → entries_of (numbered_entries bytes) ≡ entries_in bytes
file_entries bytes = entries_numbered 0 (all_contents bytes)

-- ---- reading

-- the entries before the rest, of which this is kept, are good and within the limits
pub record HasRead (kind : ListKind) (bytes : List ℕ) (before : ℕ) (rest : List ℕ) (c : Collected) : Type 0 where
  pub taken : List Numbered
  pub in_order : numbered_entries bytes ≡ taken ++ numbered_from before (all_contents rest)
  pub good : are_good kind (entries_of taken) ≡ true
  pub is : c ≡ collected kind (entries_of taken)
  pub within : IsWithin c

pub begun : (kind : ListKind) (bytes : List ℕ) → HasRead kind bytes 0 bytes nothing
begun kind bytes = record {
  taken = [];
  in_order = refl;
  good = refl;
  is = refl;
  within = record { few_keys = omega arith; few_ranges = omega arith; short = omega arith };
}

pub more_read : (kind : ListKind) (bytes rest rest' entry : List ℕ) (before line : ℕ) (c c' : Collected)
    → HasRead kind bytes before rest c
    → numbered_from before (all_contents rest) ≡ record { line = line; entry = entry } ∷ numbered_from line (all_contents rest')
    → is_entry kind entry ≡ true → c' ≡ joined c (of_entry kind entry) → IsWithin c'
    → HasRead kind bytes line rest' c'
more_read kind bytes rest rest' entry before line c c' read next good is within =
    let n : Numbered = record { line = line; entry = entry } in
    let entries : entries_of (read.taken ++ n ∷ []) ≡ entries_of read.taken ++ entry ∷ [] =
    map-append (λ (m : Numbered). m.entry) read.taken (n ∷ []) in
    record {
      taken = read.taken ++ n ∷ [];
      in_order = read.in_order ∙ ap (λ ns. read.taken ++ ns) next
          ∙ sym (append_assoc read.taken (n ∷ []) (numbered_from line (all_contents rest')));
      good = ap (are_good kind) entries ∙ list_all-append (is_entry kind) (entries_of read.taken) (entry ∷ [])
          ∙ and_from (are_good kind (entries_of read.taken)) (is_entry kind entry && true) read.good (ap (λ b. b && true) good);
      is = is ∙ ap (λ k. joined k (of_entry kind entry)) read.is
          ∙ sym (ap (collected kind) entries ∙ collected_more kind (entries_of read.taken) entry);
      within = within;
    }

-- ---- all read

pub record IsWhole (kind : ListKind) (bytes : List ℕ) (c : Collected) : Type 0 where
  pub is : c ≡ collected kind (entries_in bytes)
  pub good : has_good_entries kind bytes ≡ true
  pub small : IsSmallFile kind bytes

pub all_read : (kind : ListKind) (bytes rest : List ℕ) (before : ℕ) (c : Collected) → HasRead kind bytes before rest c
    → numbered_from before (all_contents rest) ≡ [] → IsWhole kind bytes c
all_read kind bytes rest before c read end =
    let taken : entries_of read.taken ≡ entries_in bytes =
    sym (ap entries_of (read.in_order ∙ ap (λ ns. read.taken ++ ns) end ∙ append-nil read.taken)) ∙ file_entries bytes in
    record {
      is = read.is ∙ ap (collected kind) taken;
      good = sym (ap (are_good kind) taken) ∙ read.good;
      small = subst (AreSmall kind) taken
          (small_within kind (entries_of read.taken) read.good (subst IsWithin read.is read.within));
    }

-- ---- stopped

pub stopped : (kind : ListKind) (bytes rest after entry : List ℕ) (before line : ℕ) (c : Collected) (fault : ListFault)
    → HasRead kind bytes before rest c
    → numbered_from before (all_contents rest) ≡ record { line = line; entry = entry } ∷ numbered_from line (all_contents after)
    → IsFaultAt line kind c entry fault → IsFaultOf kind bytes fault
stopped kind bytes rest after entry before line c (BadEntry at) read next fault =
    subst (StopsAt (IsBad kind) kind bytes) (sym fault.0) record {
      before = read.taken;
      entry = entry;
      after = numbered_from line (all_contents after);
      in_order = read.in_order ∙ ap (λ ns. read.taken ++ ns) next;
      good = read.good;
      small = small_within kind (entries_of read.taken) read.good (subst IsWithin read.is read.within);
      is_wrong = fault.1;
    }
stopped kind bytes rest after entry before line c (TooLarge at) read next fault =
    subst (StopsAt (IsTooMuch kind) kind bytes) (sym fault.0) record {
      before = read.taken;
      entry = entry;
      after = numbered_from line (all_contents after);
      in_order = read.in_order ∙ ap (λ ns. read.taken ++ ns) next;
      good = read.good;
      small = small_within kind (entries_of read.taken) read.good (subst IsWithin read.is read.within);
      is_wrong = (
        fault.1,
        λ small. fault.2
            (subst IsWithin
            (collected_more kind (entries_of read.taken) entry ∙ sym (ap (λ k. joined k (of_entry kind entry)) read.is))
            (within_small kind (entries_of read.taken ++ entry ∷ []) small)),
      );
    }
stopped kind bytes rest after entry before line c NoMemory read next fault = tt

-- ---- a fault is one of a file that isn't good, or too large

stop_entries : {IsWrong : List (List ℕ) → List ℕ → Type 0} {kind : ListKind} (bytes : List ℕ) (line : ℕ)
    → (stop : StopsAt IsWrong kind bytes line)
    → entries_in bytes ≡ (entries_of stop.before ++ stop.entry ∷ []) ++ entries_of stop.after
stop_entries bytes line stop =
    sym (file_entries bytes) ∙ ap entries_of stop.in_order
    ∙ map-append (λ (m : Numbered). m.entry) stop.before (record { line = line; entry = stop.entry } ∷ stop.after)
    ∙ sym (append_assoc (entries_of stop.before) (stop.entry ∷ []) (entries_of stop.after))

small_before : (kind : ListKind) (xs ys : List (List ℕ)) → AreSmall kind (xs ++ ys) → AreSmall kind xs
small_before kind xs ys small =
    let len = length-append xs ys in
    let sum : bytes_of (collected kind xs).keys ≤ bytes_of (collected kind (xs ++ ys)).keys = shorter xs in
    record { few = omega (arith, len, small.few); short = omega (arith, sum, small.short) }
  where
    shorter : (zs : List (List ℕ)) → bytes_of (collected kind zs).keys ≤ bytes_of (collected kind (zs ++ ys)).keys
    shorter [] = omega arith
    shorter (z ∷ zs) =
        let rest = shorter zs in
        let a = sum_by-append length (of_entry kind z).keys (collected kind zs).keys in
        let b = sum_by-append length (of_entry kind z).keys (collected kind (zs ++ ys)).keys in
        omega (arith, rest, a, b)

bad_file : (kind : ListKind) (bytes : List ℕ) (line : ℕ) → StopsAt (IsBad kind) kind bytes line
    → has_good_entries kind bytes ≡ true → ⊥
bad_file kind bytes line stop good =
    let all : are_good kind ((entries_of stop.before ++ stop.entry ∷ []) ++ entries_of stop.after) ≡ true =
    sym (ap (are_good kind) (stop_entries bytes line stop)) ∙ good in
    let first = and_parts _ _ (sym (list_all-append (is_entry kind) (entries_of stop.before ++ stop.entry ∷ []) (entries_of stop.after)) ∙ all) in
    let own = and_parts _ _ (sym (list_all-append (is_entry kind) (entries_of stop.before) (stop.entry ∷ [])) ∙ first.0) in
    let last = and_parts (is_entry kind stop.entry) true own.1 in
    absurd (true≢false (sym last.0 ∙ stop.is_wrong))

large_file : (kind : ListKind) (bytes : List ℕ) (line : ℕ) → StopsAt (IsTooMuch kind) kind bytes line
    → IsSmallFile kind bytes → ⊥
large_file kind bytes line stop small =
    stop.is_wrong.1 (small_before kind (entries_of stop.before ++ stop.entry ∷ []) (entries_of stop.after)
    (subst (AreSmall kind) (stop_entries bytes line stop) small))

pub only_memory : (kind : ListKind) (bytes : List ℕ) (fault : ListFault) → IsFaultOf kind bytes fault
    → has_good_entries kind bytes ≡ true → IsSmallFile kind bytes → fault ≡ NoMemory
only_memory kind bytes (BadEntry line) stop good small = absurd (bad_file kind bytes line stop good)
only_memory kind bytes (TooLarge line) stop good small = absurd (large_file kind bytes line stop small)
only_memory kind bytes NoMemory stop good small = refl
