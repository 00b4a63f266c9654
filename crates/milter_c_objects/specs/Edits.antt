-- What becomes of an answer that is built edit by edit.
use Rattle.std.specs.Prelude.{◌≡◌, ℕ, List, [], ◌∷◌, ◌++◌, Option, None, Some, Result, Ok, Err}
use Rattle.milter_fields.specs.declared.fault.NoMemory.{NoMemory}
use Rattle.milter_wire.specs.declared.verdict.Verdict.{Verdict}
use Rattle.milter_message.specs.declared.edit.Edit.{Edit}
use Rattle.milter_protocol.specs.declared.answer.Answer.{Answer}

abbrev pub with_verdict : Answer → Verdict → Answer
with_verdict answer verdict = record answer { verdict = verdict }

-- with one edit more, after those before
abbrev pub with_edit : Answer → Edit → Answer
with_edit answer edit = record answer { edits = answer.edits ++ edit ∷ [] }

-- one edit more, or as it was where memory is refused
abbrev pub AddsEdit : Answer → Edit → Answer → Result Unit NoMemory → Type 0
AddsEdit old edit new (Ok done) = new ≡ with_edit old edit
AddsEdit old edit new (Err refused) = new ≡ old

-- ESMTP parameters as one text, none where it has no bytes
abbrev pub parameters_of : List ℕ → Option (List ℕ)
parameters_of [] = None
parameters_of (byte ∷ bytes) = Some (byte ∷ bytes)
