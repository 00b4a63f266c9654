use Rattle.std.proofs.Common.{◌≡◌, ◌≤◌, ◌-◌, List, Option, ℕ, [], drop, length}
use Rattle.milter_protocol.specs.Questions.{IsTaking}
use Rattle.milter_filter.specs.Connections.{GoesBy, IsServing, connected}
use Rattle.milter_filter.proofs.steps.feed_piece.Given as goal

-- what was taken so far, with all replies to it written, and no question
abbrev pub invariant-loop-taken : goal.invariant-loop-taken
invariant-loop-taken g l = record {
  within : l.taken ≤ length l.piece;
  goes : (rest : Option (List ℕ)) → GoesBy (connected l.initial.filter l.piece) rest rest (g.W.Write.contents l.initial.writer) (g.W.Write.contents l.writer) (connected l.filter (drop l.taken l.piece));
  serving : IsServing l.filter;
  taking : IsTaking l.filter.state;
  nothing_pending : l.filter.pending ≡ [];
}

abbrev pub decreases-loop-taken : goal.decreases-loop-taken
decreases-loop-taken g l = length l.piece - l.taken
