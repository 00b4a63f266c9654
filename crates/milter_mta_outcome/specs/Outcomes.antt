-- What settles a message: the last verdict on it, or the default for a lost filter.
use Rattle.std.specs.Prelude.{Bool, List, None}
use Rattle.milter_wire.specs.declared.stage.Stage.{Stage}
use Rattle.milter_wire.specs.declared.stage.Stage.TheVariants as stages
use Rattle.milter_wire.specs.declared.verdict.Verdict.{Verdict}
use Rattle.milter_wire.specs.declared.verdict.Verdict.TheVariants as verdicts
use Rattle.milter_message.specs.declared.edit.Edit.{Edit}
use Rattle.milter_message.specs.EditedMessage.{edited_message}
use Rattle.milter_message.specs.MailObject.{MailObject}
use Rattle.milter_protocol.specs.declared.answer.Answer.{Answer}
use Rattle.milter_mta_outcome.specs.declared.fallback.OnLoss.{OnLoss}
use Rattle.milter_mta_outcome.specs.declared.fallback.OnLoss.TheVariants as defaults
use Rattle.milter_mta_outcome.specs.declared.outcome.Outcome.{Outcome}
use Rattle.milter_mta_outcome.specs.declared.outcome.Outcome.TheVariants.{Released, Discarded, Refused, NoRecipients, RefusedAtConnection}
use Rattle.milter_mta_outcome.specs.declared.outcome.Refusal.TheVariants as refusals
use Rattle.milter_mta_outcome.specs.Refusals.{refusal_of}

-- as it is, and not quarantined
abbrev pub released : MailObject → Outcome
released message = Released (record { message = message; quarantine = None })

-- ---- by a verdict that lets nothing more of the message be sent

-- a verdict on the client or its greeting, for every message that is left
abbrev pub at_connection : Verdict → MailObject → Outcome
at_connection verdicts.Accept message = released message
at_connection other message = RefusedAtConnection

-- a recipient that is taken or thrown away takes the message with it; else all recipients were refused
abbrev pub at_recipient : Verdict → MailObject → Outcome
at_recipient verdicts.Accept message = released message
at_recipient verdicts.Discard message = Discarded
at_recipient other message = NoRecipients

abbrev pub at_end : Bool → Verdict → List Edit → MailObject → Outcome
at_end leading_space verdicts.Continue edits message = Released (edited_message leading_space message edits)
at_end leading_space verdicts.Accept edits message = Released (edited_message leading_space message edits)
at_end leading_space verdicts.Discard edits message = Discarded
at_end leading_space other edits message = Refused (refusal_of other)

abbrev pub at_other : Verdict → MailObject → Outcome
at_other verdicts.Accept message = released message
at_other verdicts.Discard message = Discarded
at_other other message = Refused (refusal_of other)

-- what the last answer makes of a message without its refused recipients
abbrev pub outcome : Bool → Stage → Answer → MailObject → Outcome
outcome leading_space stages.Connect answer message = at_connection answer.verdict message
outcome leading_space stages.Helo answer message = at_connection answer.verdict message
outcome leading_space stages.Rcpt answer message = at_recipient answer.verdict message
outcome leading_space stages.Eob answer message = at_end leading_space answer.verdict answer.edits message
outcome leading_space other answer message = at_other answer.verdict message

-- ---- by default

abbrev pub fallback : OnLoss → MailObject → Outcome
fallback defaults.Accept message = released message
fallback defaults.Tempfail message = Refused refusals.Tempfail
fallback defaults.Reject message = Refused refusals.Reject
