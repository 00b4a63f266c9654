-- What a filter may answer by what was negotiated.
use Rattle.std.specs.Prelude.{◌==◌, Bool, Some, if◌then◌else◌}
use Rattle.std.specs.List.{filter}
use Rattle.std.specs.Int.Bits.{bit_and}
use Rattle.milter_wire.specs.declared.options.TheConstants.Protocol.{SKIP}
use Rattle.milter_wire.specs.declared.negotiation.Negotiated.{Negotiated}
use Rattle.milter_wire.specs.declared.verdict.Verdict.{Verdict}
use Rattle.milter_wire.specs.declared.verdict.Verdict.TheVariants.{Continue, Skip}
use Rattle.milter_wire.specs.Negotiation.{has}
use Rattle.milter_message.specs.declared.edit.Edit.{Edit}
use Rattle.milter_message.specs.EditReplies.{needed_by}
use Rattle.milter_protocol.specs.declared.answer.Answer.{Answer}

-- the action that the edit needs was negotiated; progress needs none
abbrev pub is_permitted : Negotiated → Edit → Bool
is_permitted negotiated edit = bit_and negotiated.options.actions.0 (needed_by edit) == needed_by edit

-- a body is skipped only where that was negotiated; else the filter goes on
abbrev pub permitted_verdict : Negotiated → Verdict → Verdict
permitted_verdict negotiated Skip = if has negotiated (Some SKIP) then Skip else Continue
permitted_verdict negotiated other = other

-- the answer without the edits that were not negotiated
abbrev pub permitted : Negotiated → Answer → Answer
permitted negotiated answer =
    record {
      edits = filter (is_permitted negotiated) answer.edits;
      verdict = permitted_verdict negotiated answer.verdict;
    }
