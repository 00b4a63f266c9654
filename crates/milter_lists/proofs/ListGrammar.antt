-- What the words of a list's line give is the source that is written so, and the other way round.
use Rattle.std.specs.Prelude.{◌≡◌, ℕ, Bool, true, false, not, nat_lt, ◌&&◌, List, [], ◌∷◌, codes, length, refl}
use Rattle.std.specs.Prelude.{Option, None, Some, if◌then◌else◌}
use Rattle.std.specs.List.{list_all}
use Rattle.std.specs.Str.{bytes_eq}
use Rattle.std.proofs.Common.{ap, arith, sym, subst, ◌∙◌}
use Rattle.std.proofs.lemmas.Bool.{and_from, and_parts}
use Rattle.std.proofs.lemmas.Bool.Decides.{nat_tests}
use Rattle.std.proofs.lemmas.Slice.Eq.{bytes_eq-Decides}
use Rattle.milter_text.specs.declared.word.Word.{Word}
use Rattle.milter_text.specs.Words.{is_plain}
use Rattle.milter_text.specs.WordValues.{begins, is_keyword, is_plain_word, keyword}
use Rattle.milter_fields.specs.Bind.{◌>>=◌}
use Rattle.milter_lists.specs.declared.list_kind.ListKind.{ListKind}
use Rattle.milter_lists.specs.declared.list_kind.ListKind.TheVariants.{Addresses, Domains, Networks, Texts}
use Rattle.milter_lists.specs.ListKinds.{kind_name}
use Rattle.milter_lists.specs.declared.sources.ListSource.{ListSource}
use Rattle.milter_lists.specs.ListLines.{is_list_name, is_name_byte, is_source, kind_in, name_in, source_at}
use Rattle.milter_lists.specs.ListLines.{source_by, source_of, source_with, source_words}

-- ---- names

pub name_byte_plain : (byte : ℕ) → is_name_byte byte ≡ true → is_plain byte ≡ true
name_byte_plain byte is = grind (arith, nat_tests)

name_bytes_plain : (text : List ℕ) → list_all is_name_byte text ≡ true → list_all is_plain text ≡ true
name_bytes_plain [] all = refl
name_bytes_plain (byte ∷ text) all =
    let both = and_parts (is_name_byte byte) (list_all is_name_byte text) all in
    and_from (is_plain byte) (list_all is_plain text) (name_byte_plain byte both.0) (name_bytes_plain text both.1)

pub name_plain : (text : List ℕ) → is_list_name text ≡ true → is_plain_word text ≡ true
name_plain text is =
    let both = and_parts (nat_lt 0 (length text)) (list_all is_name_byte text) is in
    and_from (nat_lt 0 (length text)) (list_all is_plain text) both.0 (name_bytes_plain text both.1)

-- ---- from a source to its words and back

kind_read : (kind : ListKind) → kind_in (keyword (kind_name kind)) ≡ Some kind
kind_read Addresses = refl
kind_read Domains = refl
kind_read Networks = refl
kind_read Texts = refl

pub source_read : (s : ListSource) → is_source s ≡ true → source_of (source_words s) ≡ Some s
source_read s is =
    let file : Word = record { text = s.file; quoted = true } in
    let name : name_in (keyword s.name) ≡ Some s.name = rw is refl in
    let kind = kind_in (keyword (kind_name s.kind)) in
    ap (λ (n : Option (List ℕ)). n >>= λ (n : List ℕ). kind >>= λ (k : ListKind). source_at file n k) name
    ∙ ap (λ (k : Option ListKind). k >>= λ (k : ListKind). source_at file s.name k) (kind_read s.kind)

-- ---- from words to a source and back

keyword_word : (quoted : Bool) (text given : List ℕ) → (not quoted && bytes_eq given text) ≡ true
    → record { text = given; quoted = quoted } ≡ keyword text
keyword_word false text given is = ap keyword ((bytes_eq-Decides given text).0 is)
keyword_word true text given is = absurd cc

pub keyword_is : (text : List ℕ) (word : Word) → is_keyword text word ≡ true → word ≡ keyword text
keyword_is text word is = keyword_word word.quoted text word.text is

some_same : {X : Type 0} (x y : X) → Some x ≡ Some y → x ≡ y
some_same x y e = cc

-- the first of two cases gives the value, or the second does
from_case : {X : Type 0} (P : X → Type 0) (test : Bool) (first : X) (others : Option X) (x : X)
    → (if test then Some first else others) ≡ Some x → (test ≡ true → P first) → (others ≡ Some x → P x) → P x
from_case P true first others x is now later = subst P (some_same first x is) (now refl)
from_case P false first others x is now later = later is

nothing : {X : Type 0} (P : X → Type 0) (x : X) → None ≡ Some x → P x
nothing P x e = absurd cc

kind_is : (word : Word) (kind : ListKind) → kind_in word ≡ Some kind → word ≡ keyword (kind_name kind)
kind_is word kind is =
    from_case P (is_keyword (codes "addresses") word) Addresses _ kind is (λ k. keyword_is _ word k) (λ is.
    from_case P (is_keyword (codes "domains") word) Domains _ kind is (λ k. keyword_is _ word k) (λ is.
    from_case P (is_keyword (codes "networks") word) Networks _ kind is (λ k. keyword_is _ word k) (λ is.
    from_case P (is_keyword (codes "texts") word) Texts _ kind is (λ k. keyword_is _ word k) (nothing P kind))))
  where
    P : ListKind → Type 0
    P k = word ≡ keyword (kind_name k)

-- what a bind gives, its first part gives something
record IsBound {A B : Type 0} (first : Option A) (f : A → Option B) (b : B) : Type 0 where
  pub value : A
  pub first_is : first ≡ Some value
  pub gives : f value ≡ Some b

bound : {A B : Type 0} (first : Option A) (f : A → Option B) (b : B) → (first >>= f) ≡ Some b → IsBound first f b
bound None f b e = absurd cc
bound (Some a) f b e = record { value = a; first_is = refl; gives = e }

-- a word that is a name
record IsName (word : Word) (name : List ℕ) : Type 0 where
  pub word_is : word ≡ keyword name
  pub is_name : is_list_name name ≡ true

name_by : (test : Bool) (text name : List ℕ) → is_list_name text ≡ test → (if test then Some text else None) ≡ Some name
    → IsName (keyword text) name
name_by true text name e is =
    let same = some_same text name is in
    record { word_is = ap keyword same; is_name = subst (λ t. is_list_name t ≡ true) same e }
name_by false text name e is = absurd cc

name_word : (quoted : Bool) (text name : List ℕ) → name_in (record { text = text; quoted = quoted }) ≡ Some name
    → IsName (record { text = text; quoted = quoted }) name
name_word false text name is = name_by (is_list_name text) text name refl is
name_word true text name is = absurd cc

name_is : (word : Word) (name : List ℕ) → name_in word ≡ Some name → IsName word name
name_is word name is = name_word word.quoted word.text name is

-- the parts of a source are in its words
file_by : (quoted : Bool) (text name : List ℕ) (kind : ListKind) (s : ListSource)
    → source_at (record { text = text; quoted = quoted }) name kind ≡ Some s
    → (quoted ≡ true) × (source_by name kind text ≡ s)
file_by false text name kind s is = absurd cc
file_by true text name kind s is = (refl, some_same (source_by name kind text) s is)

pub record IsWritten (words : List Word) (s : ListSource) : Type 0 where
  pub words_are : words ≡ source_words s
  pub is_one : is_source s ≡ true

with_is : (name kind file : Word) (s : ListSource) → source_with name kind file ≡ Some s
    → IsWritten (keyword (codes "list") ∷ name ∷ kind ∷ file ∷ []) s
with_is name kind file s is =
    let n = bound (name_in name) (λ n. kind_in kind >>= λ k. source_at file n k) s is in
    let k = bound (kind_in kind) (λ k. source_at file n.value k) s n.gives in
    let f = file_by file.quoted file.text n.value k.value s k.gives in
    let named = name_is name n.value n.first_is in
    let kind_same = kind_is kind k.value k.first_is in
    let word : Bool → Word = λ quoted. record { text = file.text; quoted = quoted } in
    let quoted : file ≡ word true = ap word f.0 in
    let first = keyword (codes "list") in
    let whole : IsWritten (first ∷ name ∷ kind ∷ file ∷ []) (source_by n.value k.value file.text) = record {
      words_are = ap (λ (w : Word). first ∷ w ∷ kind ∷ file ∷ []) named.word_is
          ∙ ap (λ (w : Word). first ∷ keyword n.value ∷ w ∷ file ∷ []) kind_same
          ∙ ap (λ (w : Word). first ∷ keyword n.value ∷ keyword (kind_name k.value) ∷ w ∷ []) quoted;
      is_one = named.is_name;
    } in
    subst (IsWritten (keyword (codes "list") ∷ name ∷ kind ∷ file ∷ [])) f.1 whole

first_by : (test : Bool) (first name kind file : Word) (s : ListSource) → is_keyword (codes "list") first ≡ test
    → (if test then source_with name kind file else None) ≡ Some s → IsWritten (first ∷ name ∷ kind ∷ file ∷ []) s
first_by true first name kind file s e is =
    subst (λ (w : Word). IsWritten (w ∷ name ∷ kind ∷ file ∷ []) s) (sym (keyword_is (codes "list") first e))
    (with_is name kind file s is)
first_by false first name kind file s e is = absurd cc

pub source_is : (words : List Word) (s : ListSource) → source_of words ≡ Some s → IsWritten words s
source_is [] s is = absurd cc
source_is (first ∷ []) s is = absurd cc
source_is (first ∷ name ∷ []) s is = absurd cc
source_is (first ∷ name ∷ kind ∷ []) s is = absurd cc
source_is (first ∷ name ∷ kind ∷ file ∷ []) s is =
    first_by (is_keyword (codes "list") first) first name kind file s refl is
source_is (first ∷ name ∷ kind ∷ file ∷ more ∷ words) s is = absurd cc

-- a line that gives a source begins with `list`
pub source_begins : (words : List Word) (s : ListSource) → source_of words ≡ Some s → begins (codes "list") words ≡ true
source_begins words s is = ap (begins (codes "list")) (source_is words s is).words_are
