-- The rules that an answer breaks.
use Rattle.std.specs.Prelude.{◌≡◌, ◌≢◌, ◌<◌, ◌⊎◌, false, List, [], length, Contains}
use Rattle.std.specs.List.{sum_by}
use Rattle.milter_fields.specs.declared.number.TheConstants.{PAYLOAD_MAX}
use Rattle.milter_wire.specs.declared.stage.Stage.{Stage}
use Rattle.milter_wire.specs.declared.stage.Stage.TheVariants.{Eob}
use Rattle.milter_wire.specs.declared.verdict.Verdict.{Verdict}
use Rattle.milter_wire.specs.declared.reply.Reply.{Reply}
use Rattle.milter_wire.specs.Reply.{FieldsFit, payload_of}
use Rattle.milter_wire.specs.Verdicts as verdicts
use Rattle.milter_wire.specs.Verdicts.{given_at}
use Rattle.milter_message.specs.declared.edit.Edit.{Edit}
use Rattle.milter_message.specs.EditReplies as edits
use Rattle.milter_message.specs.EditReplies.{weight_of}
use Rattle.milter_message.specs.declared.message.TheConstants.{WEIGHT_MAX}
use Rattle.milter_protocol.specs.declared.answer.Answer.{Answer}
use Rattle.milter_filter_stream.specs.declared.answer_fault.AnswerFault.{AnswerFault}
use Rattle.milter_filter_stream.specs.declared.answer_fault.AnswerFault.TheVariants as faults

-- a text in it has a NUL, or is no reply code; or it has more bytes than a packet
abbrev pub ReplyBreaks : Reply → AnswerFault → Type 0
ReplyBreaks reply faults.BadText = FieldsFit reply → ⊥
ReplyBreaks reply faults.TooLong = PAYLOAD_MAX < length (payload_of reply)
ReplyBreaks reply other = ⊥

abbrev pub VerdictBreaks : Verdict → AnswerFault → Type 0
VerdictBreaks verdict fault = ReplyBreaks (verdicts.reply_of verdict) fault

abbrev pub EditBreaks : Edit → AnswerFault → Type 0
EditBreaks edit fault = ReplyBreaks (edits.reply_of edit) fault

-- one of the edits does, or all of them together have too many bytes
abbrev pub EditsBreak : List Edit → AnswerFault → Type 0
EditsBreak all faults.TooMuch = WEIGHT_MAX < sum_by weight_of all
EditsBreak all fault = (edit : Edit) × Contains all edit × EditBreaks edit fault

-- the rule that it breaks, where a question about this stage is open
abbrev pub Breaks : Stage → Answer → AnswerFault → Type 0
Breaks stage answer faults.EditsBeforeEnd = (stage ≢ Eob) × (answer.edits ≢ [])
Breaks stage answer faults.NotGivenThere = given_at answer.verdict stage ≡ false
Breaks stage answer fault = VerdictBreaks answer.verdict fault ⊎ EditsBreak answer.edits fault
