use Rattle.std.proofs.Common.{◌≡◌, Some, option_map, reverse, take}
use Rattle.milter_protocol.specs.Seen.{value_in}
use Rattle.milter_filter_stream.specs.MacroSearches.{nth_value}
use Rattle.milter_filter_stream.proofs.macro_values.last_pair.Given as goal

-- where the last value among the macros so far is
abbrev pub invariant-loop-index : goal.invariant-loop-index
invariant-loop-index l =
    option_map (nth_value l.pairs) l.last ≡ option_map Some (value_in (reverse (take l.index l.pairs)) l.name)
