use Rattle.std.proofs.Common.{◌≡◌, ◌≢◌, ◌<◌, ◌≤◌, ◌-◌, [], length, take}
use Rattle.milter_protocol.specs.declared.filter_fault.FilterFault.{FilterFault}
use Rattle.milter_protocol.specs.declared.filter_fault.FilterState.TheVariants.{Failed, Serving}
use Rattle.milter_filter.specs.ServedPieces.{Goes}
use Rattle.milter_filter.proofs.stream_server.serve_piece.Given as goal

-- what was taken so far, with all replies to it written; the mail server has not quit before the piece's end
abbrev pub invariant-loop-taken : goal.invariant-loop-taken
invariant-loop-taken g l = record {
  within : l.taken ≤ length l.piece;
  goes : Goes (g.P.Policy.behavior l.initial.core.policy) l.initial.core (take l.taken l.piece) l.core (g.W.Write.contents l.initial.writer) (g.W.Write.contents l.writer);
  nothing_pending : l.core.pending ≡ [];
  going : (fault : FilterFault) → l.core.order_state.state ≢ Failed fault;
  serving : l.taken < length l.piece → l.core.order_state.state ≡ Serving;
}

abbrev pub decreases-loop-taken : goal.decreases-loop-taken
decreases-loop-taken g l = length l.piece - l.taken
