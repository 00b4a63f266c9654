-- The lines of lists, as far as they were read.
use Rattle.std.specs.Prelude.{◌≡◌, ℕ, true, not, nat_lt, List, [], ◌∷◌, ◌++◌, codes, length, Some, refl}
use Rattle.std.specs.List.{list_any}
use Rattle.std.specs.Str.{bytes_eq}
use Rattle.std.proofs.Common.{ap, sym, subst, ◌∙◌, append_assoc, append-nil}
use Rattle.std.proofs.lemmas.Bool.{and_parts, false≢true, not-true}
use Rattle.milter_text.specs.declared.word.Word.{Word}
use Rattle.milter_text.specs.LineCursor.{HasNoNext, IsNextLine, LinesAhead, NextHasWords}
use Rattle.milter_text.specs.Words.{HasWords}
use Rattle.milter_text.specs.WordValues.{begins}
use Rattle.milter_text.proofs.WordLaws.{words_same}
use Rattle.milter_lists.specs.declared.sources.TheConstants.{LISTS_MAX}
use Rattle.milter_lists.specs.declared.sources.ListSource.{ListSource}
use Rattle.milter_lists.specs.ListLines.{HasSources, IsAdded, IsSourceLine, may_follow, source_of}
use Rattle.milter_lists.proofs.ListGrammar.{source_begins}

-- ---- what was read is what the lines give

-- one more line after those of these sources
pub sources_snoc : (before sources : List ListSource) (s : ListSource) (all left rest : List (List ℕ)) (line : List ℕ)
    → HasSources before sources all left → left ≡ line ∷ rest → IsSourceLine line s
    → may_follow (before ++ sources) s ≡ true → HasSources before (sources ++ s ∷ []) all rest
sources_snoc before [] s all left rest line has e is may =
    (line, rest, has ∙ e, is, subst (λ b. may_follow b s ≡ true) (append-nil before) may, refl)
sources_snoc before (x ∷ sources) s all left rest line has e is may =
    let order = sym (append_assoc before (x ∷ []) sources) in (
      has.0,
      has.1,
      has.2,
      has.3,
      has.4,
      sources_snoc (before ++ x ∷ []) sources s has.1 left rest line has.5 e is
          (subst (λ (b : List ListSource). may_follow b s ≡ true) order may),
    )

pub found_more : (all : List (List ℕ)) (before : LinesAhead) (number : ℕ) (words : List Word) (after : LinesAhead)
    (sources new : List ListSource) → HasSources [] sources all before.lines → IsNextLine before number words after
    → IsAdded words sources new → HasSources [] new all after.lines
found_more all before number words after sources new found next added =
    let is : IsSourceLine next.line added.source =
    record { words = words; has_words = next.has_words; gives = added.gives } in
    subst (λ (n : List ListSource). HasSources [] n all after.lines) (sym added.after_is)
    (sources_snoc [] sources added.source all before.lines after.lines next.line found next.first is added.may)

-- ---- what the lines give is what was read

-- of the sources that all lines give, the first are read, and the lines that are left give the others
pub record Left (left : List (List ℕ)) (found sources : List ListSource) (rest : List (List ℕ)) : Type 0 where
  pub after : List ListSource
  pub in_order : sources ≡ found ++ after
  pub has : HasSources found after left rest

-- the lines give these sources, and a line that is in words and doesn't begin so comes next
pub record GivesAll (all : List (List ℕ)) (sources : List ListSource) (rest : List (List ℕ)) : Type 0 where
  pub has : HasSources [] sources all rest
  pub in_words : NextHasWords rest
  pub no_more : HasNoNext (codes "list") rest

abbrev pub OnlySoFar : List (List ℕ) → List (List ℕ) → List ListSource → Type 0
OnlySoFar all left found =
    (sources : List ListSource) (rest : List (List ℕ)) → GivesAll all sources rest → Left left found sources rest

pub only_none : (all : List (List ℕ)) (found : List ListSource) → found ≡ [] → OnlySoFar all all found
only_none all found e sources rest gives =
    record {
      after = sources;
      in_order = sym (ap (λ (f : List ListSource). f ++ sources) e);
      has = subst (λ (f : List ListSource). HasSources f sources all rest) (sym e) gives.has;
    }

words_by : (found after : List ListSource) (left rest : List (List ℕ)) → HasSources found after left rest
    → NextHasWords rest → NextHasWords left
words_by found [] left rest has in_words = subst NextHasWords (sym has) in_words
words_by found (s ∷ after) left rest has in_words = subst NextHasWords (sym has.2) (has.3.words, has.3.has_words)

-- a line that is left is in words
pub left_in_words : (all left : List (List ℕ)) (found : List ListSource) → OnlySoFar all left found
    → (sources : List ListSource) (rest : List (List ℕ)) → GivesAll all sources rest → NextHasWords left
left_in_words all left found only sources rest gives =
    let l = only sources rest gives in
    words_by found l.after left rest l.has gives.in_words

-- where no line that is left begins so, all was read
pub record IsEnd (left : List (List ℕ)) (found sources : List ListSource) (rest : List (List ℕ)) : Type 0 where
  pub same : found ≡ sources
  pub rest_is : left ≡ rest

end_by : (found after sources : List ListSource) (left rest : List (List ℕ)) → sources ≡ found ++ after
    → HasSources found after left rest → HasNoNext (codes "list") left → IsEnd left found sources rest
end_by found [] sources left rest order has none =
    record { same = sym (order ∙ append-nil found); rest_is = has }
end_by found (s ∷ after) sources left rest order has none =
    let begun = subst (HasNoNext (codes "list")) has.2 none has.3.words has.3.has_words in
    absurd (false≢true (sym begun ∙ source_begins has.3.words s has.3.gives))

pub only_end : (all left : List (List ℕ)) (found : List ListSource) → OnlySoFar all left found
    → HasNoNext (codes "list") left → (sources : List ListSource) (rest : List (List ℕ)) → GivesAll all sources rest
    → IsEnd left found sources rest
only_end all left found only none sources rest gives =
    let l = only sources rest gives in
    end_by found l.after sources left rest l.in_order l.has none

-- the next line that is left gives the next of the sources
pub record NextGives (words : List Word) (left : List (List ℕ)) (found sources : List ListSource) (rest : List (List ℕ))
    : Type 0 where
  pub source : ListSource
  pub after : List ListSource
  pub in_order : sources ≡ found ++ source ∷ after
  pub gives : source_of words ≡ Some source
  pub may : may_follow found source ≡ true
  pub has : HasSources (found ++ source ∷ []) after left rest

lines_same : (x y : List ℕ) (xs ys : List (List ℕ)) → x ∷ xs ≡ y ∷ ys → (x ≡ y) × (xs ≡ ys)
lines_same x y xs ys e = (cc, cc)

next_by : (found after sources : List ListSource) (ahead left rest : List (List ℕ)) (line : List ℕ) (words : List Word)
    → sources ≡ found ++ after → HasSources found after ahead rest → HasNoNext (codes "list") rest → ahead ≡ line ∷ left
    → HasWords line words → begins (codes "list") words ≡ true → NextGives words left found sources rest
next_by found [] sources ahead left rest line words order has none first in_words begun =
    let no = subst (HasNoNext (codes "list")) (sym has ∙ first) none words in_words in
    absurd (false≢true (sym no ∙ begun))
next_by found (s ∷ after) sources ahead left rest line words order has none first in_words begun =
    let same = lines_same has.0 line has.1 left (sym has.2 ∙ first) in
    let read = subst (λ (l : List ℕ). HasWords l has.3.words) same.0 has.3.has_words in
    let written = words_same has.3.words words line read in_words in
    record {
      source = s;
      after = after;
      in_order = order;
      gives = subst (λ (w : List Word). source_of w ≡ Some s) written has.3.gives;
      may = has.4;
      has = subst (λ (l : List (List ℕ)). HasSources (found ++ s ∷ []) after l rest) same.1 has.5;
    }

pub next_gives : (all : List (List ℕ)) (before : LinesAhead) (number : ℕ) (words : List Word) (after : LinesAhead)
    (found : List ListSource) → OnlySoFar all before.lines found → IsNextLine before number words after
    → begins (codes "list") words ≡ true → (sources : List ListSource) (rest : List (List ℕ))
    → GivesAll all sources rest → NextGives words after.lines found sources rest
next_gives all before number words after found only next begun sources rest gives =
    let l = only sources rest gives in
    next_by found l.after sources before.lines after.lines rest next.line words l.in_order l.has gives.no_more
    next.first next.has_words begun

some_same : (s t : ListSource) → Some s ≡ Some t → s ≡ t
some_same s t e = cc

pub only_more : (all : List (List ℕ)) (before : LinesAhead) (number : ℕ) (words : List Word) (after : LinesAhead)
    (found new : List ListSource) → OnlySoFar all before.lines found → IsNextLine before number words after
    → begins (codes "list") words ≡ true → IsAdded words found new → OnlySoFar all after.lines new
only_more all before number words after found new only next begun added sources rest gives =
    let n = next_gives all before number words after found only next begun sources rest gives in
    let same = some_same n.source added.source (sym n.gives ∙ added.gives) in
    let new_is : new ≡ found ++ n.source ∷ [] =
    added.after_is ∙ ap (λ (s : ListSource). found ++ s ∷ []) (sym same) in
    record {
      after = n.after;
      in_order = n.in_order ∙ sym (append_assoc found (n.source ∷ []) n.after)
          ∙ ap (λ (f : List ListSource). f ++ n.after) (sym new_is);
      has = subst (λ (f : List ListSource). HasSources f n.after after.lines rest) (sym new_is) n.has;
    }

-- ---- names that are taken

-- a source whose name is one of those before may not follow
pub no_second : (before : List ListSource) (found source : ListSource) → Some found ≡ Some source
    → list_any (λ other. bytes_eq other.name found.name) before ≡ true → may_follow before source ≡ true → ⊥
no_second before found source e taken may =
    let same = some_same found source e in
    let free = subst (λ (s : ListSource). may_follow before s ≡ true) (sym same) may in
    let named = list_any (λ other. bytes_eq other.name found.name) before in
    let apart = (and_parts (nat_lt (length before) LISTS_MAX) (not named) free).1 in
    false≢true (sym (not-true named apart) ∙ taken)
