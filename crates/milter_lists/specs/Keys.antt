-- Numbers in the order of the texts whose first bytes they have.
use Rattle.std.specs.Prelude.{◌≡◌, ℕ, zero, suc, ◌+◌, ◌*◌, List, length, take, drop, slice_index}
use Rattle.std.specs.List.{All}
use Rattle.std.specs.Cmp.Lexicographic.{slice_cmp}
use Rattle.std.specs.declared.cmp.Ordering.{Ordering}
use Rattle.std.specs.Ordering.{nat_cmp, ordering_then}
use Rattle.milter_lists.specs.declared.span.Span.{Span}
use Rattle.milter_lists.specs.Entries.{entry_of}

-- the number whose digits, to the base 256, are these and so many bytes of the text; behind its end they are zeros
unfoldable pub number_from : ℕ → List ℕ → ℕ → ℕ
number_from digits text zero = digits
number_from digits text (suc n) = number_from (digits * 256 + slice_index text 0) (drop 1 text) n

-- the number of the text's first eight bytes
abbrev pub key_of : List ℕ → ℕ
key_of text = number_from 0 text 8

-- all entries begin with these bytes
abbrev pub BeginWith : List ℕ → List ℕ → List Span → Type 0
BeginWith bytes prefix spans = All (λ span. take (length prefix) (entry_of bytes span) ≡ prefix) spans

-- each has the key of its entry behind so many bytes
abbrev pub AreKeyed : List ℕ → ℕ → List Span → Type 0
AreKeyed bytes shared spans = All (λ span. span.key ≡ key_of (drop shared (entry_of bytes span))) spans

-- how two entries compare, first by their keys
abbrev pub keyed_cmp : List ℕ → Span → Span → Ordering
keyed_cmp bytes a b =
    ordering_then (nat_cmp a.key b.key) (slice_cmp nat_cmp (entry_of bytes a) (entry_of bytes b))
