use Rattle.std.proofs.Common.{◌≡◌, drop}
use Rattle.milter_message.specs.EditedFields.{IsNumberedBy, headers_of}
use Rattle.milter_message.specs.EditedMessage.{headers_after}
use Rattle.milter_message.proofs.NameNumbering.{AreLeft}
use Rattle.milter_message.proofs.indexed_edits.headers_after_by_index.Given as goal

-- the rest of the edits makes of these fields what all make of the first, by the numbers that are left
abbrev pub invariant-loop-edit : goal.invariant-loop-edit
invariant-loop-edit l = record {
  numbered : IsNumberedBy l.numbers l.fields;
  rest : headers_after l.fn.leading_space (headers_of l.fields) (drop l.edit-index l.edits)
      ≡ headers_after l.fn.leading_space l.headers l.edits;
  left : AreLeft l.numbers l.left (drop l.edit-index l.edits);
}
