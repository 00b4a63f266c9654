-- Worked schedules.
use Rattle.std.specs.Prelude.{ℕ, ◌+◌, ◌*◌, List, [], ◌∷◌, codes, length, map, replicate, if◌then◌else◌, ◌==◌}
use Rattle.milter_wire.specs.declared.stage.Stage.{Stage}
use Rattle.milter_wire.specs.declared.stage.Stage.TheVariants.{Body, Connect, Rcpt}
use Rattle.milter_wire.specs.declared.verdict.Verdict.{Verdict}
use Rattle.milter_wire.specs.declared.verdict.Verdict.TheVariants.{Accept, Continue, Reject, Skip}
use Rattle.milter_message.specs.declared.message.TheConstants.{CHUNK_LEN}
use Rattle.milter_message.specs.declared.edit.Edit.TheVariants.{AddRcpt, DelRcpt}
use Rattle.milter_message.specs.MailObject.{MailObject}
use Rattle.milter_protocol.specs.Behavior.{Behavior}
use Rattle.milter_protocol.specs.Pass.{pass}
use Rattle.milter_protocol.specs.Worked.{deciding, edits_at_end}
use Rattle.milter_mta_outcome.specs.declared.fallback.OnLoss.{OnLoss}
use Rattle.milter_mta_outcome.specs.declared.loss.By.{By}
use Rattle.milter_mta_outcome.specs.declared.outcome.Outcome.{Outcome}
use Rattle.milter_wire.specs.declared.options.TheConstants.Protocol.{SKIP}
use Rattle.milter_mta.specs.Worked.{greatest, message, session}
use Rattle.milter_world.specs.declared.event_line.Event.{Event}
use Rattle.milter_world.specs.Schedule.{Scenario, run_reports}

abbrev pub scenario : Behavior → OnLoss → List MailObject → Scenario
scenario b on_loss messages = record { filter = b; config = greatest on_loss; session = session messages }

-- the first of two recipients is refused
abbrev decided : Stage → List ℕ → Verdict
decided Rcpt count = if length count == 1 then Reject else Continue
decided other count = Continue

abbrev pub refuses_first : Behavior
refuses_first = record pass {
  decide = λ at seen. record { edits = []; verdict = decided at (map (λ r. 0) seen.recipients) };
}

-- the client is taken
abbrev takes_client : Stage → Verdict
takes_client Connect = Accept
takes_client other = Continue

abbrev pub accepts_client : Behavior
accepts_client = record pass { decide = λ at seen. record { edits = []; verdict = takes_client at } }

-- each recipient is refused
abbrev refuses_recipient : Stage → Verdict
refuses_recipient Rcpt = Reject
refuses_recipient other = Continue

abbrev pub refuses_each : Behavior
refuses_each = record pass { decide = λ at seen. record { edits = []; verdict = refuses_recipient at } }

-- at the end of a message another recipient is put in the place of the first; the packet of each edit has 9 bytes
abbrev pub moves_recipient : Behavior
moves_recipient =
    deciding 0 (edits_at_end (AddRcpt (codes "c@y") ∷ DelRcpt (codes "b@y") ∷ []) Continue)

-- no chunk of a body is wanted after the first
abbrev skips_body : Stage → Verdict
skips_body Body = Skip
skips_body other = Continue

abbrev pub skips : Behavior
skips = deciding SKIP.0 (λ at seen. record { edits = []; verdict = skips_body at })

-- three chunks of a body of the letter A, the last one of one byte
abbrev pub three_chunks : MailObject
three_chunks = record message { body = replicate (2 * CHUNK_LEN + 1) 65 }

-- what is reported of a message, in short
pub record Summary : Type 0 where
  pub verdicts : List Verdict
  pub outcome : Outcome
  pub by : By

abbrev pub summaries : Scenario → List Event → List Summary
summaries p events =
    map (λ r. record { verdicts = map (λ a. a.verdict) r.acted; outcome = r.outcome; by = r.settled_by })
    (run_reports p events)
