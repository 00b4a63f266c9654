use Rattle.std.proofs.Common.{◌≡◌, length}
use Rattle.milter_wire.specs.OptionsPayload.{sym_lists_in}
use Rattle.milter_fields.proofs.SequenceLaws.{after_prefix}
use Rattle.milter_wire.proofs.symbol_lists.take_sym_lists.Given as goal

abbrev pub invariant-loop-rest : goal.invariant-loop-rest
invariant-loop-rest l = after_prefix l.lists.items (sym_lists_in l.rest) ≡ sym_lists_in l.bytes

abbrev pub decreases-loop-rest : goal.decreases-loop-rest
decreases-loop-rest l = length l.rest
