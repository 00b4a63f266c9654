use Rattle.std.proofs.Common.{◌≡◌, ◌≤◌, All, List, length}
use Rattle.std.specs.Vec.{vec_len}
use Rattle.milter_mta_outcome.specs.declared.acted_verdicts.Acted.{Acted}
use Rattle.milter_mta.specs.CoreParts.{with_all_reports}
use Rattle.milter_mta.proofs.state.SessionState.report_all.Given as goal

-- what is left to report makes of it what all made of it before
abbrev pub invariant-loop-acted : goal.invariant-loop-acted
invariant-loop-acted l =
    (length l.self.queue.waiting ≤ l.self.queue.spare)
    × (length l.copies.items ≡ length l.self.queue.waiting)
    × ((acted : List Acted) → All (λ copy. copy ≡ acted) l.fn.copies.items →
    (with_all_reports acted l.verdict l.self ≡ with_all_reports acted l.verdict l.fn.self)
    × All (λ copy. copy ≡ acted) l.copies.items)

abbrev pub decreases-loop-acted : goal.decreases-loop-acted
decreases-loop-acted l = vec_len l.copies
