use Rattle.std.proofs.Common.{◌≡◌, take}
use Rattle.milter_message.specs.EditedFields.{numbered_fields}
use Rattle.milter_message.proofs.indexed_edits.fields_of.Given as goal

-- the first fields
abbrev pub invariant-loop-header : goal.invariant-loop-header
invariant-loop-header l = l.fields ≡ numbered_fields l.numbers (take l.header-index l.headers)
