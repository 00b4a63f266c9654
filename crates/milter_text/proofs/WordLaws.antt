-- A line has its words in one way only, and how they are read from the left.
use Rattle.std.proofs.Common.{◌≡◌, ◌≢◌, ℕ, ◌<◌, ◌==◌, Bool, true, false, List, [], ◌∷◌, ◌++◌, length, Option, Some, None, position, unwrap_or, take, drop, refl, sym, ap, subst, ◌∙◌, arith, append_assoc, append-nil, length-append, take-append-drop, take_at}
use Rattle.std.specs.List.{list_all, position_or_len}
use Rattle.std.proofs.lemmas.Bool.{cond_both, eqb-true, false≢true}
use Rattle.std.proofs.lemmas.Option.{none-some, same_Some}
use Rattle.std.proofs.lemmas.List.Elements.{All-nil, All-cons, All-head, All-tail}
use Rattle.milter_text.specs.declared.word.Word.{Word}
use Rattle.milter_text.specs.declared.word.WordFault.{WordFault}
use Rattle.milter_text.specs.declared.word.WordFault.TheVariants.{BadWord, NoMemory}
use Rattle.milter_text.specs.Words.{AreBlanks, BeginsWith, HasWords, IsAfterWord, IsWordText, IsPlainWord, IsQuotedWord, QuotesText, is_plain}
use Rattle.milter_text.specs.UnquotedBytes.{behind_quote, byte_at, past_blanks}
use Rattle.milter_text.proofs.QuotedBytes.{quoted-byte_at, text_more, texts_same}
use Rattle.milter_text.proofs.WordBounds.{ArePlain, leading_blanks, ends_at_position, list_all-plain, plain-list_all, position_after_plain, unwrap_or-position, past_blanks-all, past_blanks-append, past_blanks-twice, plain_is_no_blank, plain_is_no_quote}

-- ---- a first word

-- plain words that begin alike are one
plain_same : (text others rest after : List ℕ) → ArePlain text → ArePlain others → IsAfterWord rest → IsAfterWord after → text ++ rest ≡ others ++ after → (text ≡ others) × (rest ≡ after)
plain_same [] [] rest after h k ends ends' e = (refl, e)
plain_same [] (c ∷ others) [] after h k ends ends' e = absurd cc
plain_same [] (c ∷ others) (b ∷ rest) after h k ends ends' e =
    let same : b ≡ c = cc in
    let n = plain_is_no_blank c (All-head (λ x. is_plain x ≡ true) c others k) in
    absurd (false≢true (sym n ∙ ap (λ (x : ℕ). x == 32) (sym same) ∙ ap (λ (x : ℕ). x == 32) ends))
plain_same (b ∷ text) [] rest [] h k ends ends' e = absurd cc
plain_same (b ∷ text) [] rest (c ∷ after) h k ends ends' e =
    let same : b ≡ c = cc in
    let n = plain_is_no_blank b (All-head (λ x. is_plain x ≡ true) b text h) in
    absurd (false≢true (sym n ∙ ap (λ (x : ℕ). x == 32) same ∙ ap (λ (x : ℕ). x == 32) ends'))
plain_same (b ∷ text) (c ∷ others) rest after h k ends ends' e =
    let same : b ≡ c = cc in
    let tails : text ++ rest ≡ others ++ after = cc in
    let p = plain_same text others rest after (All-tail (λ x. is_plain x ≡ true) b text h) (All-tail (λ x. is_plain x ≡ true) c others k) ends ends' tails in
    (ap (λ (n : ℕ). n ∷ text) same ∙ ap (λ (l : List ℕ). c ∷ l) p.0, p.1)

abbrev behind_first : List ℕ → List ℕ
behind_first [] = []
behind_first (byte ∷ bytes) = bytes

quoted_append : (body rest : List ℕ) → (34 ∷ body ++ 34 ∷ []) ++ rest ≡ 34 ∷ body ++ 34 ∷ rest
quoted_append body rest = ap (λ (l : List ℕ). 34 ∷ l) (append_assoc body (34 ∷ []) rest)

quoted_same : (text others x y rest after : List ℕ) → IsQuotedWord text x → IsQuotedWord others y → x ++ rest ≡ y ++ after → (text ≡ others) × (rest ≡ after)
quoted_same text others x y rest after h k e =
    let whole : 34 ∷ h.body ++ 34 ∷ rest ≡ 34 ∷ k.body ++ 34 ∷ after
    = sym (quoted_append h.body rest) ∙ ap (λ (l : List ℕ). l ++ rest) (sym h.bytes_are) ∙ e ∙ ap (λ (l : List ℕ). l ++ after) k.bytes_are ∙ quoted_append k.body after in
    let p = texts_same text others h.body k.body (34 ∷ rest) (34 ∷ after) h.is_written k.is_written refl refl (ap behind_first whole) in
    (p.0, ap behind_first p.1)

-- a plain word begins with a byte that is no quote
plain_no_quote : (text bytes : List ℕ) → text ≢ [] → ArePlain text → (rest : List ℕ) → text ++ rest ≡ 34 ∷ bytes → ⊥
plain_no_quote [] bytes some h rest e = some refl
plain_no_quote (b ∷ text) bytes some h rest e =
    let same : b ≡ 34 = cc in
    false≢true (sym (plain_is_no_quote b (All-head (λ x. is_plain x ≡ true) b text h)) ∙ ap (λ (x : ℕ). x == 34) same)

plain_and_quoted : (text others x y rest after : List ℕ) → IsPlainWord text x → IsQuotedWord others y → x ++ rest ≡ y ++ after → ⊥
plain_and_quoted text others x y rest after h k e =
    plain_no_quote text (k.body ++ 34 ∷ after) h.some h.plain rest
    (ap (λ (l : List ℕ). l ++ rest) (sym h.bytes_are) ∙ e ∙ ap (λ (l : List ℕ). l ++ after) k.bytes_are ∙ quoted_append k.body after)

record SameWord (quoted others_quoted : Bool) (text others rest after : List ℕ) : Type 0 where
  pub quoted_same : quoted ≡ others_quoted
  pub text_same : text ≡ others
  pub rest_same : rest ≡ after

either_same : (q p : Bool) (text others x y rest after : List ℕ) → IsWordText q text x → IsWordText p others y → IsAfterWord rest → IsAfterWord after → x ++ rest ≡ y ++ after
    → SameWord q p text others rest after
either_same false false text others x y rest after h k ends ends' e =
    let s = plain_same text others rest after h.plain k.plain ends ends' (ap (λ (l : List ℕ). l ++ rest) (sym h.bytes_are) ∙ e ∙ ap (λ (l : List ℕ). l ++ after) k.bytes_are) in
    record { quoted_same = refl; text_same = s.0; rest_same = s.1 }
either_same false true text others x y rest after h k ends ends' e = absurd (plain_and_quoted text others x y rest after h k e)
either_same true false text others x y rest after h k ends ends' e = absurd (plain_and_quoted others text y x after rest k h (sym e))
either_same true true text others x y rest after h k ends ends' e =
    let s = quoted_same text others x y rest after h k e in
    record { quoted_same = refl; text_same = s.0; rest_same = s.1 }

-- bytes begin with one word only
pub begins_same : (word other : Word) (rest after bytes : List ℕ) → BeginsWith word rest bytes → BeginsWith other after bytes → (word ≡ other) × (rest ≡ after)
begins_same word other rest after bytes h k =
    let s = either_same word.quoted other.quoted word.text other.text h.written k.written rest after h.is_written k.is_written h.ends k.ends (sym h.bytes_are ∙ k.bytes_are) in
    (λ i. record { text = s.text_same i; quoted = s.quoted_same i }, s.rest_same)

-- ---- the first byte of a word

record Starts (bytes : List ℕ) : Type 0 where
  pub first : ℕ
  pub tail : List ℕ
  pub bytes_are : bytes ≡ first ∷ tail
  pub no_blank : (first == 32) ≡ false

plain_starts : (text rest : List ℕ) → text ≢ [] → ArePlain text → Starts (text ++ rest)
plain_starts [] rest some h = absurd (some refl)
plain_starts (b ∷ text) rest some h = record { first = b; tail = text ++ rest; bytes_are = refl; no_blank = plain_is_no_blank b (All-head (λ x. is_plain x ≡ true) b text h) }

either_starts : (q : Bool) (text x rest : List ℕ) → IsWordText q text x → Starts (x ++ rest)
either_starts false text x rest h = rw h.bytes_are (plain_starts text rest h.some h.plain)
either_starts true text x rest h = record { first = 34; tail = (h.body ++ 34 ∷ []) ++ rest; bytes_are = ap (λ (l : List ℕ). l ++ rest) h.bytes_are; no_blank = refl }

begins_starts : (word : Word) (rest bytes : List ℕ) → BeginsWith word rest bytes → Starts bytes
begins_starts word rest bytes h = subst Starts (sym h.bytes_are) (either_starts word.quoted word.text h.written rest h.is_written)

starts_past : (bytes : List ℕ) → Starts bytes → past_blanks bytes ≡ bytes
starts_past bytes h = let n = h.no_blank in rw (h.bytes_are, n) refl

begins_past : (word : Word) (rest bytes : List ℕ) → BeginsWith word rest bytes → past_blanks bytes ≡ bytes
begins_past word rest bytes h = starts_past bytes (begins_starts word rest bytes h)

begins_some : (word : Word) (rest bytes : List ℕ) → BeginsWith word rest bytes → bytes ≢ []
begins_some word rest bytes h e = let s = (begins_starts word rest bytes h).bytes_are in absurd cc

either_has_length : (q : Bool) (text x : List ℕ) → IsWordText q text x → 0 < length x
either_has_length q text x h =
    let s = (either_starts q text x [] h).bytes_are in
    omega (arith, ap length s, length-append x [])

pub begins-shorter : (word : Word) (rest bytes : List ℕ) → BeginsWith word rest bytes → length rest < length bytes
begins-shorter word rest bytes h =
    omega (arith, either_has_length word.quoted word.text h.written h.is_written, ap length h.bytes_are, length-append h.written rest)

-- ---- a line

-- the first of the words comes after the blanks
first_word : (line : List ℕ) (word : Word) (words : List Word) (h : HasWords line (word ∷ words)) → BeginsWith word h.2 (past_blanks line)
first_word line word words h =
    let same : past_blanks line ≡ h.1 = ap past_blanks h.4 ∙ past_blanks-append h.0 h.1 h.3 ∙ begins_past word h.2 h.1 h.5 in
    rw same h.5

no_first : (line : List ℕ) (word : Word) (rest : List ℕ) → AreBlanks line → BeginsWith word rest (past_blanks line) → ⊥
no_first line word rest h b = begins_some word rest (past_blanks line) b (past_blanks-all line h)

pub words_same : (words others : List Word) (line : List ℕ) → HasWords line words → HasWords line others → words ≡ others
words_same [] [] line h k = refl
words_same [] (other ∷ others) line h k = absurd (no_first line other k.2 h (first_word line other others k))
words_same (word ∷ words) [] line h k = absurd (no_first line word h.2 k (first_word line word words h))
words_same (word ∷ words) (other ∷ others) line h k =
    let s = begins_same word other h.2 k.2 (past_blanks line) (first_word line word words h) (first_word line other others k) in
    let tails = words_same words others h.2 h.6 (rw s.1 k.6) in
    ap (λ (w : Word). w ∷ words) s.0 ∙ ap (λ (ws : List Word). other ∷ ws) tails

-- leading blanks change nothing
all_blanks : (blanks bytes : List ℕ) → AreBlanks blanks → AreBlanks bytes → AreBlanks (blanks ++ bytes)
all_blanks [] bytes h k = k
all_blanks (b ∷ blanks) bytes h k = All-cons (λ x. x ≡ 32) b (blanks ++ bytes) (All-head (λ x. x ≡ 32) b blanks h) (all_blanks blanks bytes (All-tail (λ x. x ≡ 32) b blanks h) k)

has_words-blanks : (blanks bytes : List ℕ) (words : List Word) → AreBlanks blanks → HasWords bytes words → HasWords (blanks ++ bytes) words
has_words-blanks blanks bytes [] h k = all_blanks blanks bytes h k
has_words-blanks blanks bytes (word ∷ words) h k =
    (blanks ++ k.0, k.1, k.2, all_blanks blanks k.0 h k.3, ap (λ (l : List ℕ). blanks ++ l) k.4 ∙ sym (append_assoc blanks k.0 k.1), k.5, k.6)

pub has_words-line : (line : List ℕ) (words : List Word) → HasWords (past_blanks line) words → HasWords line words
has_words-line line words h =
    let f = leading_blanks line in
    subst (λ (l : List ℕ). HasWords l words) (sym f.bytes_are) (has_words-blanks f.blanks (past_blanks line) words f.are_blanks h)

pub has_words-past : (line : List ℕ) (words : List Word) → HasWords line words → HasWords (past_blanks line) words
has_words-past line [] h = rw (past_blanks-all line h) (All-nil (λ x. x ≡ 32))
has_words-past line (word ∷ words) h = ([], past_blanks line, h.2, All-nil (λ x. x ≡ 32), refl, first_word line word words h, h.6)

pub has_words-more : (word : Word) (rest bytes : List ℕ) (words : List Word) → BeginsWith word rest bytes → HasWords rest words → HasWords bytes (word ∷ words)
has_words-more word rest bytes words b h = ([], bytes, rest, All-nil (λ x. x ≡ 32), refl, b, h)

-- ---- a first plain word, as it is read

abbrev position_of_blank : List ℕ → ℕ
position_of_blank bytes = position_or_len (λ byte. byte == 32) bytes

pub record PlainSplit (bytes plain rest : List ℕ) : Type 0 where
  pub plain_is : plain ≡ take (position_of_blank bytes) bytes
  pub rest_is : rest ≡ drop (position_of_blank bytes) bytes

pub plain_split : (bytes plain rest : List ℕ) (end : ℕ) → end ≡ unwrap_or (position (λ byte. byte == 32) bytes) (length bytes) → plain ≡ take end bytes → rest ≡ drop end bytes
    → PlainSplit bytes plain rest
plain_split bytes plain rest end e p r =
    let n = e ∙ unwrap_or-position (λ byte. byte == 32) bytes in
    record { plain_is = p ∙ ap (λ (k : ℕ). take k bytes) n; rest_is = r ∙ ap (λ (k : ℕ). drop k bytes) n }

pub plain_found : (bytes plain rest text : List ℕ) → PlainSplit bytes plain rest → length plain ≢ 0 → list_all is_plain plain ≡ true → text ≡ plain
    → BeginsWith record { text = text; quoted = false } rest bytes
plain_found bytes plain rest text f some all e =
    let n = position_of_blank bytes in
    let is_written : IsPlainWord text plain = record { some = λ x. some (ap length (sym e ∙ x)); plain = rw e (list_all-plain plain all); bytes_are = sym e } in
    record {
      written = plain;
      is_written = is_written;
      ends = rw f.rest_is (ends_at_position bytes);
      bytes_are = sym (take-append-drop n bytes) ∙ ap (λ (l : List ℕ). l ++ drop n bytes) (sym f.plain_is) ∙ ap (λ (l : List ℕ). plain ++ l) (sym f.rest_is);
    }

either_plain : (q : Bool) (text x : List ℕ) → q ≡ false → IsWordText q text x → IsPlainWord text x
either_plain false text x e h = h
either_plain true text x e h = absurd cc

-- a first plain word is what precedes the first blank
pub record PlainIsThere (plain : List ℕ) : Type 0 where
  pub some : length plain ≢ 0
  pub all : list_all is_plain plain ≡ true

some_length : (text : List ℕ) → text ≢ [] → length text ≢ 0
some_length [] h = absurd (h refl)
some_length (b ∷ text) h = omega arith

pub plain_only : (word : Word) (after bytes plain rest : List ℕ) → PlainSplit bytes plain rest → word.quoted ≡ false → BeginsWith word after bytes → PlainIsThere plain
plain_only word after bytes plain rest f q b =
    let h = either_plain word.quoted word.text b.written q b.is_written in
    let whole : bytes ≡ word.text ++ after = b.bytes_are ∙ ap (λ (l : List ℕ). l ++ after) h.bytes_are in
    let n : position_of_blank bytes ≡ length word.text = ap position_of_blank whole ∙ position_after_plain word.text after h.plain b.ends in
    let same : plain ≡ word.text = f.plain_is ∙ ap (λ (k : ℕ). take k bytes) n ∙ ap (take (length word.text)) whole ∙ take_at word.text after (length word.text) refl in
    record { some = rw same (some_length word.text h.some); all = rw same (plain-list_all word.text h.plain) }

-- ---- a first quoted word, as it is read

pub quote_found : (bytes rest : List ℕ) → Some rest ≡ behind_quote bytes → bytes ≡ 34 ∷ rest
quote_found [] rest e = absurd cc
quote_found (byte ∷ bytes) rest e =
    cond_both (byte == 34) (Some bytes) None (λ (read : Option (List ℕ)). Some rest ≡ read → byte ∷ bytes ≡ 34 ∷ rest)
    (λ q h. let same : byte ≡ 34 = eqb-true byte 34 q in let tails : rest ≡ bytes = same_Some rest bytes h in cc)
    (λ _ h. absurd cc) e

no_quote : (bytes rest : List ℕ) → None ≡ behind_quote bytes → bytes ≡ 34 ∷ rest → ⊥
no_quote bytes rest e h = none-some rest (e ∙ ap behind_quote h)

-- without a quote at the start, a first word is plain
either_unquoted : (q : Bool) (text x rest bytes : List ℕ) → IsWordText q text x → bytes ≡ x ++ rest → None ≡ behind_quote bytes → q ≡ false
either_unquoted false text x rest bytes h e n = refl
either_unquoted true text x rest bytes h e n = absurd (no_quote bytes (h.body ++ 34 ∷ rest) n (e ∙ ap (λ (l : List ℕ). l ++ rest) h.bytes_are ∙ quoted_append h.body rest))

pub begins_unquoted : (word : Word) (rest bytes : List ℕ) → None ≡ behind_quote bytes → BeginsWith word rest bytes → word.quoted ≡ false
begins_unquoted word rest bytes n b = either_unquoted word.quoted word.text b.written rest bytes b.is_written b.bytes_are n

-- the text that the first bytes are written for, and the bytes after them
pub record Consumed (text rest body : List ℕ) : Type 0 where
  pub before : List ℕ
  pub is_written : QuotesText text before
  pub body_is : body ≡ before ++ rest

pub consumed_more : (text rest body after : List ℕ) (byte : ℕ) → Consumed text rest body → byte_at rest ≡ Some (byte, after) → Consumed (text ++ byte ∷ []) after body
consumed_more text rest body after byte h e =
    let s = quoted-byte_at rest after byte e in
    record {
      before = h.before ++ s.first;
      is_written = text_more text h.before byte s.first h.is_written s.is_written;
      body_is = h.body_is ∙ ap (λ (l : List ℕ). h.before ++ l) s.bytes_are ∙ sym (append_assoc h.before s.first after);
    }

pub consumed_word : (text rest body after : List ℕ) → Consumed text rest body → rest ≡ 34 ∷ after → IsAfterWord after → BeginsWith record { text = text; quoted = true } after (34 ∷ body)
consumed_word text rest body after h e ends =
    let is_written : IsQuotedWord text (34 ∷ h.before ++ 34 ∷ []) = record { body = h.before; is_written = h.is_written; bytes_are = refl } in
    record {
      written = 34 ∷ h.before ++ 34 ∷ [];
      is_written = is_written;
      ends = ends;
      bytes_are = ap (λ (l : List ℕ). 34 ∷ l) (h.body_is ∙ ap (λ (l : List ℕ). h.before ++ l) e) ∙ sym (quoted_append h.before after);
    }

either_quoted : (q : Bool) (text x rest bytes : List ℕ) → IsWordText q text x → 34 ∷ bytes ≡ x ++ rest → IsQuotedWord text x
either_quoted false text x rest bytes h e = absurd (plain_no_quote text bytes h.some h.plain rest (ap (λ (l : List ℕ). l ++ rest) (sym h.bytes_are) ∙ sym e))
either_quoted true text x rest bytes h e = h

consumed_only : (word : Word) (after text rest body : List ℕ) → Consumed text rest body → byte_at rest ≡ None → BeginsWith word after (34 ∷ body)
    → (rest ≡ 34 ∷ after) × IsAfterWord after
consumed_only word after text rest body h n b =
    let k = either_quoted word.quoted word.text b.written after body b.is_written b.bytes_are in
    let whole : 34 ∷ body ≡ 34 ∷ k.body ++ 34 ∷ after = b.bytes_are ∙ ap (λ (l : List ℕ). l ++ after) k.bytes_are ∙ quoted_append k.body after in
    let p = texts_same text word.text h.before k.body rest (34 ∷ after) h.is_written k.is_written n refl (sym h.body_is ∙ ap behind_first whole) in
    (p.1, b.ends)

-- where the closing quote is missing, or no word may end there, there is no first word
pub no_quote_at_end : (word : Word) (after text rest body : List ℕ) → Consumed text rest body → None ≡ byte_at rest → None ≡ behind_quote rest → ¬ BeginsWith word after (34 ∷ body)
no_quote_at_end word after text rest body h n q b = no_quote rest after q (consumed_only word after text rest body h (sym n) b).0

pub no_end_after_quote : (word : Word) (after text rest body tail : List ℕ) → Consumed text rest body → None ≡ byte_at rest → Some tail ≡ behind_quote rest → ¬ IsAfterWord tail
    → ¬ BeginsWith word after (34 ∷ body)
no_end_after_quote word after text rest body tail h n q ends b =
    let p = consumed_only word after text rest body h (sym n) b in
    ends (subst IsAfterWord (ap behind_first (sym p.0 ∙ quote_found rest tail q)) p.1)

-- ---- the words that were read, and the bytes that are left

pub record ReadSo (line : List ℕ) (before : List Word) (rest : List ℕ) : Type 0 where
  pub found : (more : List Word) → HasWords rest more → HasWords line (before ++ more)
  pub only : (words : List Word) → HasWords line words → (more : List Word) × HasWords rest more
  pub no_blank : past_blanks rest ≡ rest

pub read_none : (line : List ℕ) → ReadSo line [] (past_blanks line)
read_none line = record { found = λ more h. has_words-line line more h; only = λ words h. (words, has_words-past line words h); no_blank = past_blanks-twice line }

words_behind : (word : Word) (after rest : List ℕ) (words : List Word) → BeginsWith word after rest → HasWords rest words → (more : List Word) × HasWords (past_blanks after) more
words_behind word after rest [] b h = absurd (no_first rest word after h (subst (BeginsWith word after) (sym (begins_past word after rest b)) b))
words_behind word after rest (other ∷ words) b h =
    let first : BeginsWith other h.2 rest = subst (BeginsWith other h.2) (begins_past word after rest b) (first_word rest other words h) in
    let same = begins_same other word h.2 after rest first b in
    (words, has_words-past after words (subst (λ (l : List ℕ). HasWords l words) same.1 h.6))

pub read_more : (line : List ℕ) (before : List Word) (rest : List ℕ) (word : Word) (after : List ℕ) → ReadSo line before rest → BeginsWith word after rest
    → ReadSo line (before ++ word ∷ []) (past_blanks after)
read_more line before rest word after r b =
    record {
      found = λ more h. rw append_assoc (r.found (word ∷ more) (has_words-more word after rest more b (has_words-line after more h)));
      only = λ words h. let left = r.only words h in words_behind word after rest left.0 b left.1;
      no_blank = past_blanks-twice after;
    }

pub read_all : (line : List ℕ) (before : List Word) (rest : List ℕ) → ReadSo line before rest → length rest ≡ 0 → HasWords line before
read_all line before [] r e = subst (HasWords line) (append-nil before) (r.found [] (All-nil (λ x. x ≡ 32)))
read_all line before (byte ∷ rest) r e = absurd (omega arith)

no_words_left : (rest : List ℕ) (words : List Word) → past_blanks rest ≡ rest → length rest ≢ 0 → ((word : Word) (after : List ℕ) → ¬ BeginsWith word after rest) → ¬ HasWords rest words
no_words_left rest [] no_blank some none h = some (ap length (sym no_blank ∙ past_blanks-all rest h))
no_words_left rest (word ∷ words) no_blank some none h = none word h.2 (subst (BeginsWith word h.2) no_blank (first_word rest word words h))

pub read_bad : (line : List ℕ) (before : List Word) (rest : List ℕ) → ReadSo line before rest → length rest ≢ 0 → ((word : Word) (after : List ℕ) → ¬ BeginsWith word after rest)
    → (words : List Word) → ¬ HasWords line words
read_bad line before rest r some none words h = let left = r.only words h in no_words_left rest left.0 r.no_blank some none left.1

pub other_fault : (fault : WordFault) → ¬ (fault ≡ BadWord) → fault ≡ NoMemory
other_fault BadWord h = absurd (h refl)
other_fault NoMemory h = refl
