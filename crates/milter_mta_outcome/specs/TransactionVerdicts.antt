-- The verdicts on a message that were acted on, and what they let be sent.
use Rattle.std.specs.Prelude.{ℕ, ◌+◌, ◌-◌, ◌==◌, Bool, true, false, not, ◌&&◌, ◌||◌, List, [], ◌∷◌, ◌++◌, length, slice_get, Option, None, Some, if◌then◌else◌}
use Rattle.std.specs.List.{filter, list_all, list_any}
use Rattle.milter_wire.specs.declared.command.Command.{Command}
use Rattle.milter_wire.specs.declared.stage.Stage.{Stage}
use Rattle.milter_wire.specs.declared.stage.Stage.TheVariants.{Connect, Helo, Rcpt}
use Rattle.milter_wire.specs.declared.verdict.Verdict.{Verdict}
use Rattle.milter_protocol.specs.StageOrder.{rank_of}
use Rattle.milter_protocol.specs.Dialogue.{is_rcpt}
use Rattle.milter_protocol.specs.Verdicts.{is_final_at, is_refusal, is_skip}
use Rattle.milter_mta_outcome.specs.declared.acted_verdicts.Acted.{Acted}
use Rattle.milter_mta_outcome.specs.ActedVerdicts.{rcpt_verdicts}
use Rattle.milter_mta_outcome.specs.PlanCursor.{without_body}

-- on the client or its greeting
abbrev pub is_of_connection : Stage → Bool
is_of_connection Connect = true
is_of_connection Helo = true
is_of_connection other = false

abbrev pub is_rcpt_stage : Stage → Bool
is_rcpt_stage Rcpt = true
is_rcpt_stage other = false

-- the verdicts that each message of the connection begins with
abbrev pub on_connection : List Acted → List Acted
on_connection acted = filter (λ a. is_of_connection a.stage) acted

-- the number of a verdict among those on its stage: one more than that of the last verdict, where that is on the stage
abbrev pub number_after : Stage → Option Acted → ℕ
number_after stage None = 1
number_after stage (Some last) = if rank_of last.stage == rank_of stage then last.nth + 1 else 1

abbrev pub last_verdict : List Acted → Option Acted
last_verdict acted = slice_get acted (length acted - 1)

abbrev pub with_verdict : Stage → Verdict → List Acted → List Acted
with_verdict stage verdict acted =
    acted ++ record { stage = stage; nth = number_after stage (last_verdict acted); verdict = verdict } ∷ []

-- the last recipient, where all were refused
abbrev pub are_all_refused : Stage → List Acted → List Command → Bool
are_all_refused Rcpt acted left = not (list_any is_rcpt left) && list_all is_refusal (rcpt_verdicts acted)
are_all_refused other acted left = false

-- nothing more of the message is sent after the last of these verdicts, where these commands are left
abbrev pub ends_dialogue : Stage → Verdict → List Acted → List Command → Bool
ends_dialogue stage verdict acted left = is_final_at stage verdict || are_all_refused stage acted left

-- what is left of the commands: after a skip no chunk of the body
abbrev pub left_after : Verdict → List Command → List Command
left_after verdict left = if is_skip verdict then without_body left else left
