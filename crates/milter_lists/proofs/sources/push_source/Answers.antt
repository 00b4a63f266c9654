use Rattle.std.proofs.Common.{ap, sym, ◌∙◌}
use Rattle.milter_lists.specs.ListLines.{source_of}
use Rattle.milter_lists.proofs.SourceLines.{no_second}
use Rattle.milter_lists.proofs.sources.push_source.Goals as goal

pub returns-then-has_name-clause-only : goal.returns-then-has_name-clause-only
returns-then-has_name-clause-only c = λ source gives may.
    let read = rw c.in-Some.is at c.in_ok-source.ensures in
    let taken = rw (c.as_slice-2.ensures, c.as_slice-3.ensures) at (sym c.has_name.ensures ∙ c.if-has_name.true) in
    let same = read ∙ ap source_of c.as_slice.ensures.value ∙ gives in
    absurd (no_second c.args.sources.now c.in-Some.source source same taken may)
