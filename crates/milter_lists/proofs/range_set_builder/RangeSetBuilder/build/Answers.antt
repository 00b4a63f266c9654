use Rattle.std.proofs.Common.{ap, length, subst, sym, ◌∙◌}
use Rattle.std.proofs.lemmas.List.Sorted.{length_permutation, list_any-IsPermutation}
use Rattle.milter_lists.specs.Ranges.{AreRising, has_number, is_in}
use Rattle.milter_lists.proofs.RaisedRanges.{raised_has, raised_len, raised_rise}
use Rattle.milter_lists.proofs.range_set_builder.RangeSetBuilder.build.Goals as goal

pub new-requires : goal.new-requires
new-requires c =
    subst AreRising (sym c.raise_ends.ensures) (raised_rise 0 c.sort_ranges.new.ranges.items c.sort_ranges.ensures.sorted)

pub returns-clause-len : goal.returns-clause-len
returns-clause-len c =
    ap length (c.new.ensures ∙ c.raise_ends.ensures) ∙ raised_len 0 c.sort_ranges.new.ranges.items
    ∙ length_permutation _ _ c.sort_ranges.ensures.permutation ∙ ap length c.self.view_is

pub returns-clause-numbers : goal.returns-clause-numbers
returns-clause-numbers c = λ number.
    ap (λ xs. has_number xs number) (c.new.ensures ∙ c.raise_ends.ensures)
    ∙ raised_has c.sort_ranges.new.ranges.items number c.sort_ranges.ensures.sorted
    ∙ sym (list_any-IsPermutation (is_in number) _ _ c.sort_ranges.ensures.permutation)
    ∙ ap (λ xs. has_number xs number) c.self.view_is
