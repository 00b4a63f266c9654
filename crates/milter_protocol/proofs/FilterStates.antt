-- The states of a filter's end are apart.
use Rattle.std.proofs.Common.{◌≡◌}
use Rattle.milter_protocol.specs.declared.filter_fault.FilterFault.{FilterFault}
use Rattle.milter_protocol.specs.declared.filter_fault.FilterState.TheVariants.{Failed, Quit, Serving}

pub quit_serving : Quit ≡ Serving → ⊥
quit_serving e = absurd cc

pub failed_serving : (fault : FilterFault) → Failed fault ≡ Serving → ⊥
failed_serving fault e = absurd cc

pub failed_quit : (fault : FilterFault) → Failed fault ≡ Quit → ⊥
failed_quit fault e = absurd cc

pub same_fault : (fault other : FilterFault) → Failed fault ≡ Failed other → fault ≡ other
same_fault fault other e = cc
