-- The lists that were read so far, and those that are left.
use Rattle.std.specs.Prelude.{◌≡◌, ◌<◌, ◌+◌, ℕ, List, [], ◌∷◌, ◌++◌, drop, length, refl}
use Rattle.std.proofs.Common.{add-one, ap, drop-cons, get_or, subst, sym, ◌∙◌}
use Rattle.std.proofs.Math.Seq.{append_snoc}
use Rattle.std.proofs.lemmas.List.{append-nil}
use Rattle.std.proofs.lemmas.List.Elements.{All-head, All-tail}
use Rattle.milter_filter_rules.specs.ListedValues.{sources_of}
use Rattle.milter_filter_rules.specs.declared.named_list.NamedList.{NamedList}
use Rattle.milter_rules.specs.declared.list_file.ListFile.{ListFile}
use Rattle.milter_rules.specs.ListFiles.{AreRead, CanBeList, CanBeRead, IsRead}

-- whatever is read of the lists that are left, after what was read it is what is read of all
abbrev pub ReadSoFar : List ListFile → List NamedList → List NamedList → List NamedList → Type 0
ReadSoFar files all left read = (more : List NamedList) → AreRead files (sources_of left) more
    → AreRead files (sources_of all) (read ++ more)

-- where all can be read, those that are left can
abbrev pub CanReadLeft : List ListFile → List NamedList → List NamedList → Type 0
CanReadLeft files all left = CanBeRead files (sources_of all) → CanBeRead files (sources_of left)

next_left : (all : List NamedList) (i : ℕ) (item : NamedList) → i < length all → item ≡ get_or all i item
    → drop i all ≡ item ∷ drop (i + 1) all
next_left all i item within is = rw (drop-cons all i item within, ← is, add-one) refl

pub read_more : (files : List ListFile) (all read pushed : List NamedList) (i : ℕ) (item one : NamedList)
    → i < length all → item ≡ get_or all i item → IsRead files item.source one → pushed ≡ read ++ one ∷ []
    → ReadSoFar files all (drop i all) read → ReadSoFar files all (drop (i + 1) all) pushed
read_more files all read pushed i item one within at is_read pushed_is so_far more left =
    let here = subst (λ lists. AreRead files (sources_of lists) (one ∷ more)) (sym (next_left all i item within at)) (is_read, left) in
    subst (λ lists. AreRead files (sources_of all) lists)
    (sym (append_snoc read one more) ∙ ap (λ lists. lists ++ more) (sym pushed_is)) (so_far (one ∷ more) here)

pub read_all : (files : List ListFile) (all left read : List NamedList) → left ≡ [] → ReadSoFar files all left read
    → AreRead files (sources_of all) read
read_all files all left read none so_far =
    let nothing : AreRead files (sources_of left) [] = subst (λ lists. AreRead files (sources_of lists) []) (sym none) tt in
    subst (λ lists. AreRead files (sources_of all) lists) (append-nil read) (so_far [] nothing)

pub can_read_item : (files : List ListFile) (all : List NamedList) (i : ℕ) (item : NamedList) → i < length all
    → item ≡ get_or all i item → CanReadLeft files all (drop i all) → CanBeRead files (sources_of all)
    → CanBeList files item.source
can_read_item files all i item within at left can =
    All-head (CanBeList files) item.source (sources_of (drop (i + 1) all))
    (subst (λ lists. CanBeRead files (sources_of lists)) (next_left all i item within at) (left can))

pub can_read_more : (files : List ListFile) (all : List NamedList) (i : ℕ) (item : NamedList) → i < length all
    → item ≡ get_or all i item → CanReadLeft files all (drop i all) → CanReadLeft files all (drop (i + 1) all)
can_read_more files all i item within at left can =
    All-tail (CanBeList files) item.source (sources_of (drop (i + 1) all))
    (subst (λ lists. CanBeRead files (sources_of lists)) (next_left all i item within at) (left can))
