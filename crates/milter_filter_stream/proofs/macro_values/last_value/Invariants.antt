use Rattle.std.proofs.Common.{◌≡◌, option_map, take}
use Rattle.milter_protocol.specs.Seen.{value_in}
use Rattle.milter_filter_stream.specs.MacroLists.{pairs_of}
use Rattle.milter_filter_stream.proofs.macro_values.last_value.Given as goal

-- the last value among the packets so far
abbrev pub invariant-loop-group : goal.invariant-loop-group
invariant-loop-group l = option_map (λ value. value.now) l.last ≡ value_in (pairs_of (take l.group-index l.groups)) l.name
