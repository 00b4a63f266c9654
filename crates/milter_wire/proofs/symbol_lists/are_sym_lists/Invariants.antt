use Rattle.std.proofs.Common.{◌≡◌, length}
use Rattle.std.specs.Prelude.{is_some}
use Rattle.milter_wire.specs.OptionsPayload.{sym_lists_in}
use Rattle.milter_wire.proofs.symbol_lists.are_sym_lists.Given as goal

abbrev pub invariant-loop-rest : goal.invariant-loop-rest
invariant-loop-rest l = is_some (sym_lists_in l.rest) ≡ is_some (sym_lists_in l.bytes)

abbrev pub decreases-loop-rest : goal.decreases-loop-rest
decreases-loop-rest l = length l.rest
