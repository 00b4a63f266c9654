use Rattle.std.proofs.Common.{rules}
use Rattle.std.specs.Cmp.Lexicographic.{slice_cmp}
use Rattle.std.specs.Ordering.{nat_cmp}
use Rattle.std.proofs.lemmas.Fn.{always_returns_same}
use Rattle.milter_lists.specs.Entries.{entry_of}
use Rattle.milter_lists.proofs.TextSetLookups.{found_is_entry}
use Rattle.milter_lists.proofs.span.is_entry.Goals as goal

pub returns : goal.returns
returns c =
    let found = c.binary_search_by.ensures.position
    (λ span. slice_cmp nat_cmp (entry_of c.args.bytes.now span) c.args.text.now)
    (always_returns_same _ _ _ (λ a r f k. search rules)) in
    rw c.is_ok.ensures.value
    (found_is_entry c.args.bytes.now c.args.text.now c.args.spans.now c.binary_search_by.result c.requires
    c.binary_search_by.ensures.bound found)
