use Rattle.std.proofs.Common.{[], ◌∷◌, refl, arith}
use Rattle.milter_mta_connection.specs.declared.filter_event.FilterEvent.TheVariants as events
use Rattle.milter_mta_connection.proofs.ReceivedFrames.{early}
use Rattle.milter_mta_connection.proofs.ReceivedEvents.{owed-waits, verdict-answers}
use Rattle.milter_mta_connection.proofs.channel_laws.verdicts_follow_commands.Goals as goal

pub returns-clause-answered : goal.returns-clause-answered
returns-clause-answered c channel bytes verdict is = verdict-answers c.received_replies.ensures.verdict channel bytes verdict is

pub returns-clause-early : goal.returns-clause-early
returns-clause-early c channel [] owed some = absurd (some refl)
returns-clause-early c channel (x ∷ bytes) owed some = early events.Nothing channel (x ∷ bytes) owed (omega arith)

pub returns-clause-once : goal.returns-clause-once
returns-clause-once c channel bytes owed = owed-waits c.received_replies.ensures.verdict channel bytes owed
