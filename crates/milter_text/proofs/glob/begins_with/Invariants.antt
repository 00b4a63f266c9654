use Rattle.std.proofs.Common.{◌≡◌, drop}
use Rattle.milter_text.specs.Segments.{begins_with}
use Rattle.milter_text.proofs.glob.begins_with.Given as goal

-- the bytes before this place are compared
abbrev pub invariant-loop-index : goal.invariant-loop-index
invariant-loop-index l =
    begins_with l.case (drop l.index l.segment) (drop l.index l.value) ≡ begins_with l.case l.segment l.value
