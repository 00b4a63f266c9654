-- Consecutive lines that have values, up to the first line that begins with another word.
use Rattle.std.proofs.Common.{◌≡◌, ◌≢◌, ℕ, true, List, [], ◌∷◌, ◌++◌, Option, Some, Result, Ok, Err, refl, sym, ap}
use Rattle.std.proofs.Common.{subst, ◌∙◌, append_assoc, append-nil}
use Rattle.std.specs.List.{concat}
use Rattle.std.specs.Result.{MatchResult}
use Rattle.std.proofs.lemmas.Bool.{false≢true}
use Rattle.std.proofs.lemmas.List.Folds.{concat-append}
use Rattle.std.proofs.lemmas.Option.{same_Some}
use Rattle.milter_text.specs.declared.word.Word.{Word}
use Rattle.milter_text.specs.Words.{HasWords}
use Rattle.milter_text.proofs.WordLaws.{words_same}
use Rattle.milter_mail_file.specs.declared.session_fault.SessionFault.{SessionFault}
use Rattle.milter_mail_file.specs.declared.session_fault.SessionFault.TheVariants.{NoMemory}
use Rattle.milter_text.specs.LineCursor.{HasNoNext, IsNextLine, LinesAhead, NextHasWords}
use Rattle.milter_text.specs.WordValues.{begins}
use Rattle.milter_mail_file.specs.LineGroups.{BeginWithValues, EndsBefore}
use Rattle.milter_mail_file.specs.SessionFault.{Reads}
use Rattle.milter_mail_file.specs.SessionFile.{AllHaveValues, LineHasValue}

-- ---- one line

value_of_words : {X : Type 0} (value_of : List Word → Option X) (line : List ℕ) (words : List Word) (x : X) → HasWords line words → LineHasValue value_of line x → value_of words ≡ Some x
value_of_words value_of line words x h k = ap value_of (words_same words k.words line h k.has_words) ∙ k.value

value_same : {X : Type 0} (value_of : List Word → Option X) (line : List ℕ) (x y : X) → LineHasValue value_of line x → LineHasValue value_of line y → x ≡ y
value_same value_of line x y h k = same_Some x y (sym h.value ∙ value_of_words value_of line h.words y h.has_words k)

pub first_in_words : (lines : List (List ℕ)) (line : List ℕ) (rest : List (List ℕ)) (words : List Word) → lines ≡ line ∷ rest → HasWords line words → NextHasWords lines
first_in_words lines line rest words e h = subst NextHasWords (sym e) (words, h)

pub first_there : (lines : List (List ℕ)) (line : List ℕ) (rest : List (List ℕ)) → lines ≡ line ∷ rest → lines ≢ []
first_there lines line rest e none = let both : line ∷ rest ≡ [] = sym e ∙ none in absurd cc

-- the words of the next line, and the lines after it
pub record NextWords (words others : List Word) (after rest : List (List ℕ)) : Type 0 where
  pub same : words ≡ others
  pub left : after ≡ rest

pub next_words : (before : LinesAhead) (number : ℕ) (words : List Word) (after : LinesAhead) (line : List ℕ) (rest : List (List ℕ)) (others : List Word)
    → IsNextLine before number words after → before.lines ≡ line ∷ rest → HasWords line others → NextWords words others after.lines rest
next_words before number words after line rest others next e h =
    let both : next.line ∷ after.lines ≡ line ∷ rest = sym next.first ∙ e in
    let same : next.line ≡ line = cc in
    let left : after.lines ≡ rest = cc in
    record { same = words_same words others line (subst (λ l. HasWords l words) same next.has_words) h; left = left }

-- the value of the next line, and the lines after it
pub record NextValue {X : Type 0} (value_of : List Word → Option X) (words : List Word) (x : X) (after rest : List (List ℕ)) : Type 0 where
  pub value : value_of words ≡ Some x
  pub left : after ≡ rest

pub next_value : {X : Type 0} (value_of : List Word → Option X) (before : LinesAhead) (number : ℕ) (words : List Word) (after : LinesAhead) (line : List ℕ) (rest : List (List ℕ)) (x : X)
    → IsNextLine before number words after → before.lines ≡ line ∷ rest → LineHasValue value_of line x → NextValue value_of words x after.lines rest
next_value value_of before number words after line rest x next e h =
    let n = next_words before number words after line rest h.words next e h.has_words in
    record { value = ap value_of n.same ∙ h.value; left = n.left }

-- a line that has a value is read as that value, unless memory is refused
pub reads_only : {X : Type 0} (value_of : List Word → Option X) (IsFit : X → Type 0) (words : List Word) (x : X) (after rest : List (List ℕ)) (result : Result X SessionFault)
    → Reads (value_of words) IsFit result → IsFit x → NextValue value_of words x after rest → MatchResult result (λ y. (y ≡ x) × (after ≡ rest)) (λ e. e ≡ NoMemory)
reads_only value_of IsFit words x after rest (Ok y) reads fit next = (same_Some y x (sym reads.0 ∙ next.value), next.left)
reads_only value_of IsFit words x after rest (Err e) reads fit next = reads x next.value fit

-- ---- one more line

values_more : {X : Type 0} (value_of : List Word → Option X) (prefix : List (List ℕ)) (xs : List X) (line : List ℕ) (x : X) → AllHaveValues value_of prefix xs → LineHasValue value_of line x
    → AllHaveValues value_of (prefix ++ line ∷ []) (xs ++ x ∷ [])
values_more value_of [] [] line x h k = (k, tt)
values_more value_of [] (y ∷ xs) line x h k = absurd h
values_more value_of (other ∷ prefix) [] line x h k = absurd h
values_more value_of (other ∷ prefix) (y ∷ xs) line x h k = (h.0, values_more value_of prefix xs line x h.1 k)

pub begin_none : {X : Type 0} (value_of : List Word → Option X) (lines : List (List ℕ)) → BeginWithValues value_of lines [] lines
begin_none value_of lines = record { prefix = []; in_order = refl; have_values = tt }

pub begin_more : {X : Type 0} (value_of : List Word → Option X) (lines : List (List ℕ)) (xs : List X) (before : LinesAhead) (number : ℕ) (words : List Word) (after : LinesAhead) (x : X)
    → BeginWithValues value_of lines xs before.lines → IsNextLine before number words after → value_of words ≡ Some x → BeginWithValues value_of lines (xs ++ x ∷ []) after.lines
begin_more value_of lines xs before number words after x h next e =
    record {
      prefix = h.prefix ++ next.line ∷ [];
      in_order = h.in_order ∙ ap (λ l. h.prefix ++ l) next.first ∙ sym (append_assoc h.prefix (next.line ∷ []) after.lines);
      have_values = values_more value_of h.prefix xs next.line x h.have_values (record { words = words; has_words = next.has_words; value = e });
    }

-- the lines read so far have the values that the group is made of
pub record ReadSoFar {X G : Type 0} (value_of : List Word → Option X) (IsMadeOf : G → List X → Type 0) (lines : List (List ℕ)) (group : G) (left : List (List ℕ)) : Type 0 where
  pub items : List X
  pub begun : BeginWithValues value_of lines items left
  pub made : IsMadeOf group items

-- ---- lines read so far are the first of all that have values

-- each line that has a value begins with the keyword
abbrev pub Opens : {X : Type 0} → List ℕ → (List Word → Option X) → Type 0
Opens {X} text value_of = (words : List Word) (x : X) → value_of words ≡ Some x → begins text words ≡ true

-- all lines that have values, up to the first that begins with another word
pub record Run {X : Type 0} (text : List ℕ) (value_of : List Word → Option X) (lines : List (List ℕ)) (xs : List X) (rest : List (List ℕ)) : Type 0 where
  pub prefix : List (List ℕ)
  pub in_order : lines ≡ prefix ++ rest
  pub have_values : AllHaveValues value_of prefix xs
  pub ends : EndsBefore text rest

-- the lines of a run that are left, and their values
pub record Left {X : Type 0} (value_of : List Word → Option X) (left rest : List (List ℕ)) (xs ys : List X) : Type 0 where
  pub lines : List (List ℕ)
  pub values : List X
  pub in_order : left ≡ lines ++ rest
  pub have_values : AllHaveValues value_of lines values
  pub all_are : ys ≡ xs ++ values

no_end : {X : Type 0} (text : List ℕ) (value_of : List Word → Option X) (line : List ℕ) (others rest : List (List ℕ)) (x : X) → Opens text value_of → LineHasValue value_of line x
    → line ∷ others ≡ rest → ¬ EndsBefore text rest
no_end text value_of line others rest x opens h e ends =
    let last : EndsBefore text (line ∷ others) = subst (EndsBefore text) (sym e) ends in
    false≢true (sym last.2 ∙ opens last.0 x (value_of_words value_of line last.0 x last.1 h))

align : {X : Type 0} (text : List ℕ) (value_of : List Word → Option X) (prefix others left rest : List (List ℕ)) (xs ys : List X) → Opens text value_of → prefix ++ left ≡ others ++ rest
    → AllHaveValues value_of prefix xs → AllHaveValues value_of others ys → EndsBefore text rest → Left value_of left rest xs ys
align text value_of [] others left rest [] ys opens e h k ends = record { lines = others; values = ys; in_order = e; have_values = k; all_are = refl }
align text value_of [] others left rest (x ∷ xs) ys opens e h k ends = absurd h
align text value_of (line ∷ prefix) others left rest [] ys opens e h k ends = absurd h
align text value_of (line ∷ prefix) [] left rest (x ∷ xs) ys opens e h k ends = absurd (no_end text value_of line (prefix ++ left) rest x opens h.0 e ends)
align text value_of (line ∷ prefix) (other ∷ others) left rest (x ∷ xs) [] opens e h k ends = absurd k
align text value_of (line ∷ prefix) (other ∷ others) left rest (x ∷ xs) (y ∷ ys) opens e h k ends =
    let same : line ≡ other = cc in
    let tails : prefix ++ left ≡ others ++ rest = cc in
    let next = align text value_of prefix others left rest xs ys opens tails h.1 k.1 ends in
    let first : x ≡ y = value_same value_of line x y h.0 (subst (λ l. LineHasValue value_of l y) (sym same) k.0) in
    record {
      lines = next.lines;
      values = next.values;
      in_order = next.in_order;
      have_values = next.have_values;
      all_are = ap (λ l. y ∷ l) next.all_are ∙ ap (λ (z : _). z ∷ (xs ++ next.values)) (sym first);
    }

pub left_of_run : {X : Type 0} (text : List ℕ) (value_of : List Word → Option X) (lines left rest : List (List ℕ)) (xs ys : List X) → Opens text value_of → BeginWithValues value_of lines xs left
    → Run text value_of lines ys rest → Left value_of left rest xs ys
left_of_run text value_of lines left rest xs ys opens h run =
    align text value_of h.prefix run.prefix left rest xs ys opens (sym h.in_order ∙ run.in_order) h.have_values run.have_values run.ends

-- the next line is in words
end_in_words : (text : List ℕ) (rest : List (List ℕ)) → EndsBefore text rest → NextHasWords rest
end_in_words text [] ends = tt
end_in_words text (line ∷ rest) ends = (ends.0, ends.1)

run_in_words : {X : Type 0} (text : List ℕ) (value_of : List Word → Option X) (lines rest : List (List ℕ)) (xs : List X) → AllHaveValues value_of lines xs → EndsBefore text rest
    → NextHasWords (lines ++ rest)
run_in_words text value_of [] rest xs h ends = end_in_words text rest ends
run_in_words text value_of (line ∷ lines) rest [] h ends = absurd h
run_in_words text value_of (line ∷ lines) rest (x ∷ xs) h ends = (h.0.words, h.0.has_words)

pub left_in_words : {X : Type 0} (text : List ℕ) (value_of : List Word → Option X) (lines left rest : List (List ℕ)) (xs ys : List X) → Run text value_of lines ys rest
    → Left value_of left rest xs ys → NextHasWords left
left_in_words text value_of lines left rest xs ys run h = subst NextHasWords (sym h.in_order) (run_in_words text value_of h.lines rest h.values h.have_values run.ends)

-- a next line that begins with the keyword has the next value
pub record NextOfRun {X : Type 0} (value_of : List Word → Option X) (words : List Word) (xs ys : List X) : Type 0 where
  pub item : X
  pub more : List X
  pub value : value_of words ≡ Some item
  pub all_are : ys ≡ xs ++ item ∷ more

next_by : {X : Type 0} (text : List ℕ) (value_of : List Word → Option X) (lines rest : List (List ℕ)) (xs ys values : List X) (before : LinesAhead) (number : ℕ) (words : List Word) (after : LinesAhead)
    → before.lines ≡ lines ++ rest → AllHaveValues value_of lines values → ys ≡ xs ++ values → EndsBefore text rest → IsNextLine before number words after → begins text words ≡ true
    → NextOfRun value_of words xs ys
next_by text value_of [] rest xs ys values before number words after e h all ends next begun =
    let last : EndsBefore text (next.line ∷ after.lines) = subst (EndsBefore text) (sym e ∙ next.first) ends in
    absurd (false≢true (sym last.2 ∙ ap (begins text) (words_same last.0 words next.line last.1 next.has_words) ∙ begun))
next_by text value_of (line ∷ lines) rest xs ys [] before number words after e h all ends next begun = absurd h
next_by text value_of (line ∷ lines) rest xs ys (x ∷ values) before number words after e h all ends next begun =
    record { item = x; more = values; value = (next_value value_of before number words after line (lines ++ rest) x next e h.0).value; all_are = all }

pub next_of_run : {X : Type 0} (text : List ℕ) (value_of : List Word → Option X) (all_lines rest : List (List ℕ)) (xs ys : List X) (before : LinesAhead) (number : ℕ) (words : List Word) (after : LinesAhead)
    → Run text value_of all_lines ys rest → Left value_of before.lines rest xs ys → IsNextLine before number words after → begins text words ≡ true → NextOfRun value_of words xs ys
next_of_run text value_of all_lines rest xs ys before number words after run left next begun =
    next_by text value_of left.lines rest xs ys left.values before number words after left.in_order left.have_values left.all_are run.ends next begun

-- where no next line begins with the keyword, the run is read
pub record RunEnd {X : Type 0} (left rest : List (List ℕ)) (xs ys : List X) : Type 0 where
  pub all_are : ys ≡ xs
  pub lines_are : left ≡ rest

end_by : {X : Type 0} (text : List ℕ) (value_of : List Word → Option X) (lines left rest : List (List ℕ)) (xs ys values : List X) → Opens text value_of → left ≡ lines ++ rest
    → AllHaveValues value_of lines values → ys ≡ xs ++ values → HasNoNext text left → RunEnd left rest xs ys
end_by text value_of [] left rest xs ys [] opens e h all none = record { all_are = all ∙ append-nil xs; lines_are = e }
end_by text value_of [] left rest xs ys (x ∷ values) opens e h all none = absurd h
end_by text value_of (line ∷ lines) left rest xs ys [] opens e h all none = absurd h
end_by text value_of (line ∷ lines) left rest xs ys (x ∷ values) opens e h all none =
    let no : HasNoNext text (line ∷ (lines ++ rest)) = subst (HasNoNext text) e none in
    absurd (false≢true (sym (no h.0.words h.0.has_words) ∙ opens h.0.words x h.0.value))

pub run_end : {X : Type 0} (text : List ℕ) (value_of : List Word → Option X) (left rest : List (List ℕ)) (xs ys : List X) → Opens text value_of → Left value_of left rest xs ys → HasNoNext text left
    → RunEnd left rest xs ys
run_end text value_of left rest xs ys opens h none = end_by text value_of h.lines left rest xs ys h.values opens h.in_order h.have_values h.all_are none

-- ---- one more text of a body

pub concat_more : (chunks : List (List ℕ)) (chunk : List ℕ) → concat chunks ++ chunk ≡ concat (chunks ++ chunk ∷ [])
concat_more chunks chunk =
    let single : concat (chunk ∷ []) ≡ chunk = append-nil chunk in
    ap (λ l. concat chunks ++ l) (sym single) ∙ sym (concat-append chunks (chunk ∷ []))
