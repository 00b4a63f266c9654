use Rattle.std.proofs.Common.{◌≡◌, length}
use Rattle.std.specs.Str.{str_to_ascii_lowercase}
use Rattle.milter_filter_search.specs.Texts.{contains}
use Rattle.milter_filter_search.proofs.text_case.contains_ignoring_case.Given as goal

abbrev pub invariant-loop-rest : goal.invariant-loop-rest
invariant-loop-rest l =
    contains (str_to_ascii_lowercase l.rest) (str_to_ascii_lowercase l.text)
    ≡ contains (str_to_ascii_lowercase l.bytes) (str_to_ascii_lowercase l.text)

abbrev pub decreases-loop-rest : goal.decreases-loop-rest
decreases-loop-rest l = length l.rest
