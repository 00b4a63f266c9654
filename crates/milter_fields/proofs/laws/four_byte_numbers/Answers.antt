use Rattle.milter_fields.proofs.Numbers.{number_at-number, number_takes}
use Rattle.milter_fields.proofs.laws.four_byte_numbers.Goals as goal

pub returns-clause-read_back : goal.returns-clause-read_back
returns-clause-read_back c = number_at-number

pub returns-clause-encoded : goal.returns-clause-encoded
returns-clause-encoded c = number_takes
