-- What a search of all items found.
use Rattle.std.proofs.Common.{◌≡◌, ◌∙◌, ◌&&◌, ◌||◌, ℕ, Bool, List, [], ◌∷◌, length, map, take, refl, sym, ap}
use Rattle.std.specs.List.{list_any}
use Rattle.std.proofs.Math.Seq.{take-length}
use Rattle.milter_fields.specs.declared.header.Header.{Header}
use Rattle.milter_fields.specs.declared.path.Path.{Path}
use Rattle.milter_filter_search.specs.declared.header_key.HeaderKey.{HeaderKey}
use Rattle.milter_filter_search.specs.declared.needle.Needle.{Needle}
use Rattle.milter_filter_search.specs.declared.path_key.PathKey.{PathKey}
use Rattle.milter_filter_search.specs.declared.path_key.PathPart.{PathPart}
use Rattle.milter_filter_search.specs.declared.search.Search.{Search}
use Rattle.milter_filter_search.specs.Needles.{header_found, matches, part_of, path_found}
use Rattle.milter_filter_search.specs.Searches.{HasLooked}
use Rattle.milter_filter_search.specs.Texts.{is_named, values_named}
use Rattle.milter_filter_search.proofs.Values.{one_more}

any_congr : {X : Type 0} (p q : X → Bool) (xs : List X) → ((x : X) → p x ≡ q x) → list_any p xs ≡ list_any q xs
any_congr p q [] same = refl
any_congr p q (x ∷ xs) same = rw (same x, any_congr p q xs same) refl

any_mapped : {X Y : Type 0} (f : X → Y) (p : Y → Bool) (xs : List X) → list_any (λ x. p (f x)) xs ≡ list_any p (map f xs)
any_mapped f p [] = refl
any_mapped f p (x ∷ xs) = ap (λ b. p (f x) || b) (any_mapped f p xs)

found_in_all : {K T : Type 0} (finds : K → T → Bool) (items : List T) (s : Search K) → HasLooked finds items s
    → s.looked ≡ length items → s.found ≡ list_any (finds s.key) items
found_in_all finds items s (within, says) all =
    says ∙ ap (λ n. list_any (finds s.key) (take n items)) all ∙ ap (list_any (finds s.key)) (take-length items)

found_named : (name : List ℕ) (f : List ℕ → Bool) (headers : List Header)
    → list_any (λ header. is_named name header && f header.value) headers ≡ list_any f (values_named name headers)
found_named name f [] = refl
found_named name f (header ∷ headers) =
    ap (λ b. (is_named name header && f header.value) || b) (found_named name f headers)
    ∙ sym (one_more name f header headers)

pub headers_found : (name : List ℕ) (needle : Needle) (headers : List Header) (s : Search HeaderKey)
    → HasLooked header_found headers s → s.looked ≡ length headers
    → ((header : Header) → header_found s.key header ≡ (is_named name header && matches needle header.value))
    → s.found ≡ list_any (matches needle) (values_named name headers)
headers_found name needle headers s has all same =
    found_in_all header_found headers s has all
    ∙ any_congr (header_found s.key) (λ header. is_named name header && matches needle header.value) headers same
    ∙ found_named name (matches needle) headers

pub paths_found : (part : PathPart) (needle : Needle) (paths : List Path) (s : Search PathKey)
    → HasLooked path_found paths s → s.looked ≡ length paths
    → ((path : Path) → path_found s.key path ≡ matches needle (part_of part path))
    → s.found ≡ list_any (matches needle) (map (part_of part) paths)
paths_found part needle paths s has all same =
    found_in_all path_found paths s has all
    ∙ any_congr (path_found s.key) (λ path. matches needle (part_of part path)) paths same
    ∙ any_mapped (part_of part) (matches needle) paths
