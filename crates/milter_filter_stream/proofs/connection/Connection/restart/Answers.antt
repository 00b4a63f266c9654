use Rattle.std.proofs.Common.{refl}
use Rattle.milter_filter_stream.proofs.connection.Connection.restart.Goals as goal
use Rattle.milter_filter_stream.proofs.connection.Connection.restart.Goals.{then-self-gt-KEPT_MAX, else-self-gt-KEPT_MAX}

pub returns : goal.returns
returns c = elim c.if-self-gt-KEPT_MAX.branch [
  | then-self-gt-KEPT_MAX w ↦ rw (w.self-inside-is, w.new.ensures) refl
  | else-self-gt-KEPT_MAX w ↦ rw (w.self-inside-is, w.restart.ensures) refl
]
