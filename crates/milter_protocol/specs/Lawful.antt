-- What every policy keeps to, so that all its answers can be sent.
use Rattle.std.specs.Prelude.{◌≡◌, ◌≢◌, ◌≤◌, true, [], All}
use Rattle.std.specs.Int.Bits.{bit_and}
use Rattle.std.specs.List.{sum_by}
use Rattle.milter_wire.specs.declared.options.TheConstants.Actions.{SETSYMLIST}
use Rattle.milter_wire.specs.declared.reply.Reply.TheVariants as replies
use Rattle.milter_wire.specs.declared.stage.Stage.{Stage}
use Rattle.milter_wire.specs.declared.stage.Stage.TheVariants.{Eob}
use Rattle.milter_wire.specs.Negotiation.{has_bit}
use Rattle.milter_wire.specs.Reply.{Fits}
use Rattle.milter_wire.specs.Verdicts as verdicts
use Rattle.milter_wire.specs.Verdicts.{given_at}
use Rattle.milter_message.specs.EditReplies as edits
use Rattle.milter_message.specs.EditReplies.{weight_of}
use Rattle.milter_message.specs.declared.message.TheConstants.{WEIGHT_MAX}
use Rattle.milter_protocol.specs.Behavior.{Behavior}
use Rattle.milter_protocol.specs.Seen.{Seen}
use Rattle.milter_protocol.specs.declared.answer.Answer.{Answer}
use Rattle.milter_protocol.specs.declared.permitted.TheConstants.{ACTIONS_MAX, PROTOCOL_MAX, VERSION_MAX, VERSION_MIN}

-- a version that the library knows and bits that it knows; symbol lists only with their action, and a reply that has
-- room for them
pub record WantsWithin (b : Behavior) : Type 0 where
  pub version_from : VERSION_MIN ≤ b.wants.version
  pub version_to : b.wants.version ≤ VERSION_MAX
  pub actions : bit_and b.wants.actions.0 ACTIONS_MAX ≡ b.wants.actions.0
  pub protocol : bit_and b.wants.protocol.0 PROTOCOL_MAX ≡ b.wants.protocol.0
  pub lists : b.lists ≢ [] → has_bit b.wants.actions.0 SETSYMLIST.0 ≡ true
  pub reply : Fits (replies.Options b.wants b.lists)

-- edits at the end of a message alone, a verdict that the stage can have, and packets with room for each; the edits
-- together have at most 16 MiB
pub record AnswerFits (stage : Stage) (answer : Answer) : Type 0 where
  pub at_end : stage ≢ Eob → answer.edits ≡ []
  pub given : given_at answer.verdict stage ≡ true
  pub verdict : Fits (verdicts.reply_of answer.verdict)
  pub edits : All (λ edit. Fits (edits.reply_of edit)) answer.edits
  pub weight : sum_by weight_of answer.edits ≤ WEIGHT_MAX

pub record IsLawful (b : Behavior) : Type 0 where
  pub wants : WantsWithin b
  pub answers : (stage : Stage) (seen : Seen) → AnswerFits stage (b.decide stage seen)
