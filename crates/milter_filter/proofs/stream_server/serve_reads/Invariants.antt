use Rattle.milter_filter.proofs.ServedBytes.{ServedSoFar}
use Rattle.milter_filter.proofs.stream_server.serve_reads.Given as goal

-- all replies to what was read are written
abbrev pub invariant-loop : goal.invariant-loop
invariant-loop g l = record {
  so_far : ServedSoFar l.fn.core.order_state.order (g.P.Policy.behavior l.fn.core.policy) l.fn.core.policy l.core (g.R.Read.remaining l.initial.reader) (g.R.Read.remaining l.reader) (g.W.Write.contents l.initial.writer) (g.W.Write.contents l.writer);
}
