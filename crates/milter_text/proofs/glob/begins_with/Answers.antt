use Rattle.std.proofs.Common.{sym}
use Rattle.milter_text.proofs.Segments.{too_short}
use Rattle.milter_text.proofs.glob.begins_with.Goals as goal

pub returns-then-value-segment-clause-begins : goal.returns-then-value-segment-clause-begins
returns-then-value-segment-clause-begins c =
    sym (too_short c.args.case c.args.segment.now c.args.value.now c.if-value-segment.true)
