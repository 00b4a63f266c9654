-- An answer as a caller in C has it.
use Rattle.std.specs.Prelude.{◌≡◌, [], Some, IsSomeAnd}
use Rattle.milter_wire.specs.declared.verdict.Verdict.TheVariants.{Continue}
use Rattle.milter_message.specs.declared.edit.Edit.{Edit}
use Rattle.milter_protocol.specs.declared.answer.Answer.{Answer}
use Rattle.milter_c_objects.specs.declared.handle.Handle.{Handle}
use Rattle.milter_c_objects.specs.Objects.{answer_of}
use Rattle.milter_c_objects.specs.Edits.{with_edit}

-- Continue, without edits
abbrev pub plain_answer : Answer
plain_answer = record { edits = []; verdict = Continue }

-- the answer of a handle has one edit more
abbrev pub IsEdited : Handle → Handle → Edit → Type 0
IsEdited old new edit = IsSomeAnd (answer_of old) (λ before. answer_of new ≡ Some (with_edit before edit))
