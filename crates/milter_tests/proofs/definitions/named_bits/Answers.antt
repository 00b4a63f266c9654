use Rattle.std.specs.Prelude.{refl}
use Rattle.bitflags.specs.Sets.{find_row}
use Rattle.milter_wire.specs.Bits.{each_found, with_bits}
use Rattle.milter_tests.proofs.definitions.named_bits.Goals as goal

pub returns-clause-none : goal.returns-clause-none
unfolding each_found with_bits find_row
returns-clause-none c = refl

pub returns-clause-repeated : goal.returns-clause-repeated
unfolding each_found with_bits find_row
returns-clause-repeated c = refl

pub returns-clause-eight : goal.returns-clause-eight
unfolding each_found with_bits find_row
returns-clause-eight c = refl

pub returns-clause-protocol : goal.returns-clause-protocol
unfolding each_found with_bits find_row
returns-clause-protocol c = refl

pub returns-clause-leading_space : goal.returns-clause-leading_space
unfolding each_found with_bits find_row
returns-clause-leading_space c = refl

pub returns-clause-empty : goal.returns-clause-empty
unfolding each_found with_bits find_row
returns-clause-empty c = refl

pub returns-clause-bar_after : goal.returns-clause-bar_after
unfolding each_found with_bits find_row
returns-clause-bar_after c = refl

pub returns-clause-bar_before : goal.returns-clause-bar_before
unfolding each_found with_bits find_row
returns-clause-bar_before c = refl

pub returns-clause-two_bars : goal.returns-clause-two_bars
unfolding each_found with_bits find_row
returns-clause-two_bars c = refl

pub returns-clause-blanks : goal.returns-clause-blanks
unfolding each_found with_bits find_row
returns-clause-blanks c = refl

pub returns-clause-lower_case : goal.returns-clause-lower_case
unfolding each_found with_bits find_row
returns-clause-lower_case c = refl

pub returns-clause-shorter : goal.returns-clause-shorter
unfolding each_found with_bits find_row
returns-clause-shorter c = refl

pub returns-clause-prefix : goal.returns-clause-prefix
unfolding each_found with_bits find_row
returns-clause-prefix c = refl

pub returns-clause-none_beside_another : goal.returns-clause-none_beside_another
unfolding each_found with_bits find_row
returns-clause-none_beside_another c = refl

pub returns-clause-number : goal.returns-clause-number
unfolding each_found with_bits find_row
returns-clause-number c = refl

pub returns-clause-letter : goal.returns-clause-letter
unfolding each_found with_bits find_row
returns-clause-letter c = refl
