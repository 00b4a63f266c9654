use Rattle.std.proofs.Common.{◌≡◌, length}
use Rattle.std.specs.Prelude.{option_map}
use Rattle.milter_address.specs.LocalPart.{quoted_content, quoted_rest}
use Rattle.milter_address.proofs.quotes.quoted_rest.Given as goal

abbrev pub invariant-loop-rest : goal.invariant-loop-rest
invariant-loop-rest l = option_map (λ part. part.rest) (quoted_content l.paired l.rest) ≡ quoted_rest l.bytes

abbrev pub decreases-loop-rest : goal.decreases-loop-rest
decreases-loop-rest l = length l.rest
