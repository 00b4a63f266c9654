use Rattle.std.proofs.Common.{◌∙◌, sym}
use Rattle.std.proofs.lemmas.Slice.Eq.{slice_eq-Decides}
use Rattle.milter_lists.proofs.EqualRanges.{equal_ranges}
use Rattle.milter_lists.proofs.range_set.RangeSet.has_same_ranges.Goals as goal

pub returns : goal.returns
returns c = λ same.
    sym c.self.view_is ∙ sym c.as_slice.ensures.value
    ∙ (slice_eq-Decides equal_ranges c.as_slice.result.now c.as_slice-2.result.now c.eq.result c.eq.ensures).0 same
    ∙ c.as_slice-2.ensures.value ∙ c.other.view_is
