use Rattle.std.proofs.Common.{◌≡◌, take}
use Rattle.milter_message.proofs.insertions.fields_of.Given as goal

-- those so far
abbrev pub invariant-loop-header : goal.invariant-loop-header
invariant-loop-header l = l.fields ≡ take l.header-index l.headers
