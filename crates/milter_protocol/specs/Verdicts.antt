-- What an answer means for the message that it is given to.
use Rattle.std.specs.Prelude.{Bool, true, false, Option, None, Some}
use Rattle.milter_wire.specs.declared.stage.Stage.{Stage}
use Rattle.milter_wire.specs.declared.stage.Stage.TheVariants.{Rcpt, Eob}
use Rattle.milter_wire.specs.declared.verdict.Verdict.{Verdict}
use Rattle.milter_wire.specs.declared.verdict.Verdict.TheVariants.{Continue, Accept, Reject, Tempfail, Discard, Skip, Code}
use Rattle.milter_protocol.specs.declared.answer.Answer.{Answer}

-- what was asked about is refused: for good, for now, or with a text
abbrev pub is_refusal : Verdict → Bool
is_refusal Reject = true
is_refusal Tempfail = true
is_refusal (Code text) = true
is_refusal other = false

abbrev pub is_skip : Verdict → Bool
is_skip Skip = true
is_skip other = false

-- Whether nothing more of a message is sent after a verdict at a stage. The end of a message always is its last; a
-- refused recipient alone ends nothing.
abbrev pub is_final_at : Stage → Verdict → Bool
is_final_at Eob verdict = true
is_final_at Rcpt Accept = true
is_final_at Rcpt Discard = true
is_final_at Rcpt other = false
is_final_at stage Continue = false
is_final_at stage Skip = false
is_final_at stage other = true

-- there is an answer, and its verdict is such
abbrev pub has_verdict : (Verdict → Bool) → Option Answer → Bool
has_verdict test None = false
has_verdict test (Some answer) = test answer.verdict
