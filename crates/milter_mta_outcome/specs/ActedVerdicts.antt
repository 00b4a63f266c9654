-- What the verdicts that were acted on leave of a message.
use Rattle.std.specs.Prelude.{Bool, false, List, [], ◌∷◌, Option, None, Some, if◌then◌else◌}
use Rattle.std.specs.List.{filter_map}
use Rattle.milter_fields.specs.declared.path.Path.{Path}
use Rattle.milter_wire.specs.declared.stage.Stage.{Stage}
use Rattle.milter_wire.specs.declared.stage.Stage.TheVariants.{Rcpt}
use Rattle.milter_wire.specs.declared.verdict.Verdict.{Verdict}
use Rattle.milter_message.specs.MailObject.{MailObject}
use Rattle.milter_protocol.specs.Verdicts.{is_refusal}
use Rattle.milter_mta_outcome.specs.declared.acted_verdicts.Acted.{Acted}

-- the verdict on a recipient
abbrev pub verdict_at_rcpt : Stage → Verdict → Option Verdict
verdict_at_rcpt Rcpt verdict = Some verdict
verdict_at_rcpt other verdict = None

abbrev pub rcpt_verdict : Acted → Option Verdict
rcpt_verdict acted = verdict_at_rcpt acted.stage acted.verdict

-- the verdicts on recipients, in their order
abbrev pub rcpt_verdicts : List Acted → List Verdict
rcpt_verdicts acted = filter_map rcpt_verdict acted

-- the first of the verdicts, if there is one, refuses
abbrev pub is_refused_first : List Verdict → Bool
is_refused_first [] = false
is_refused_first (verdict ∷ verdicts) = is_refusal verdict

-- the recipients, beside the verdicts on them, that are not refused: one without a verdict isn't
abbrev pub kept_recipients : List Path → List Verdict → List Path
kept_recipients [] verdicts = []
kept_recipients (recipient ∷ recipients) [] = recipient ∷ recipients
kept_recipients (recipient ∷ recipients) (verdict ∷ verdicts) =
    if is_refusal verdict then kept_recipients recipients verdicts
    else recipient ∷ kept_recipients recipients verdicts

-- the message without the recipients that were refused
abbrev pub kept : MailObject → List Acted → MailObject
kept message acted = record message { recipients = kept_recipients message.recipients (rcpt_verdicts acted) }
