use Rattle.std.proofs.Common.{◌≡◌, false, length}
use Rattle.milter_address.specs.LocalPart.{quoted_content}
use Rattle.milter_address.specs.QuotedString.{onto_all}
use Rattle.milter_address.proofs.quotes.quoted_text.Given as goal

abbrev pub invariant-loop-rest : goal.invariant-loop-rest
invariant-loop-rest l = onto_all l.content.items (quoted_content l.paired l.rest) ≡ quoted_content false l.bytes

abbrev pub decreases-loop-rest : goal.decreases-loop-rest
decreases-loop-rest l = length l.rest
