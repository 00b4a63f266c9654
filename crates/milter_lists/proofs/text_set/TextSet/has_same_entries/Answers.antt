use Rattle.std.specs.Prelude.{List, ℕ}
use Rattle.std.proofs.Common.{◌∙◌, ap, sym}
use Rattle.std.proofs.lemmas.Slice.Eq.{bytes_eq-Decides, slice_eq-Decides}
use Rattle.milter_lists.specs.declared.span.Span.{Span}
use Rattle.milter_lists.specs.Entries.{entries_of}
use Rattle.milter_lists.proofs.EqualSpans.{equal_spans}
use Rattle.milter_lists.proofs.text_set.TextSet.has_same_entries.Goals as goal

pub returns-then-eq : goal.returns-then-eq
returns-then-eq c = λ same.
    let spans = sym c.as_slice.ensures.value
    ∙ (slice_eq-Decides equal_spans c.as_slice.result.now c.as_slice-2.result.now c.eq.result c.eq.ensures).0 c.if-eq.true
    ∙ c.as_slice-2.ensures.value in
    let bytes = sym c.as_slice-then-eq.ensures.value
    ∙ (bytes_eq-Decides c.as_slice-then-eq.result.now c.as_slice-then-eq-2.result.now).0 (sym c.eq-then-eq.ensures ∙ same)
    ∙ c.as_slice-then-eq-2.ensures.value in
    sym c.self.view_is ∙ ap (λ (all : List Span). entries_of c.self.inside.bytes.items all) spans
    ∙ ap (λ (all : List ℕ). entries_of all c.other.inside.spans.items) bytes ∙ c.other.view_is
