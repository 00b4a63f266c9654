use Rattle.std.proofs.Common.{◌+◌, drop, false}
use Rattle.milter_text.specs.TextWriter.{WritesAllBut}
use Rattle.milter_mta_client.specs.ReportsText.{texts_from}
use Rattle.milter_mta_client.proofs.reports_text.write_messages.Given as goal

abbrev pub invariant-loop-index : goal.invariant-loop-index
invariant-loop-index g l =
    WritesAllBut (texts_from 1 false l.messages) (texts_from (l.index + 1) l.is_named (drop l.index l.messages)) (g.W.Write.contents l.initial.writer)
    (g.W.Write.contents l.writer)
