-- The values of a field, one after the other.
use Rattle.std.specs.Prelude.{◌≡◌, ◌<◌, ◌+◌, ℕ, suc, Bool, true, false, ◌&&◌, ◌||◌, List, ◌∷◌, drop, length, refl}
use Rattle.std.specs.List.{list_any}
use Rattle.std.proofs.Common.{add-one, drop-cons, get_or}
use Rattle.milter_fields.specs.declared.header.Header.{Header}
use Rattle.milter_filter_search.specs.Texts.{is_named, values_named}

-- the first header field has the name and such a value, or one of the others
pub one_more : (name : List ℕ) (f : List ℕ → Bool) (header : Header) (headers : List Header)
    → list_any f (values_named name (header ∷ headers))
    ≡ ((is_named name header && f header.value) || list_any f (values_named name headers))
one_more name f header headers = by_name (is_named name header) refl
  where
    by_name : (is : Bool) → is_named name header ≡ is
        → list_any f (values_named name (header ∷ headers)) ≡ ((is && f header.value) || list_any f (values_named name headers))
    by_name true e = rw e refl
    by_name false e = rw e refl

pub next_header : (name : List ℕ) (f : List ℕ → Bool) (headers : List Header) (i : ℕ) (x : Header) → i < length headers
    → x ≡ get_or headers i x
    → list_any f (values_named name (drop i headers))
    ≡ ((is_named name x && f x.value) || list_any f (values_named name (drop (i + 1) headers)))
next_header name f headers i x within is = rw (drop-cons headers i x within, ← is, add-one) (one_more name f x (drop (suc i) headers))
