-- The order of commands, and which exchanges a mail server has.
use Rattle.std.specs.Prelude.{◌≡◌, ◌≤◌, ℕ, Bool, true, false, List, [], ◌∷◌, All, is_some, Option, None, Some}
use Rattle.milter_wire.specs.declared.negotiation.Negotiated.{Negotiated}
use Rattle.milter_wire.specs.declared.command.Command.{Command}
use Rattle.milter_wire.specs.declared.stage.Stage.{Stage}
use Rattle.milter_wire.specs.Negotiation.{is_asked}
use Rattle.milter_wire.specs.Stages.{stage_of}
use Rattle.milter_message.specs.declared.edit.Edit.{Edit}
use Rattle.milter_message.specs.declared.message.TheConstants.{WEIGHT_MAX}
use Rattle.milter_protocol.specs.declared.answer.Answer.{Answer}
use Rattle.milter_protocol.specs.Exchanges.{Exchange, commands_of, onto}
use Rattle.milter_protocol.specs.Transcripts.{rank_at}
use Rattle.milter_protocol.specs.Permitted.{is_permitted}
use Rattle.milter_protocol.specs.StageOrder.{rank_of}
use Rattle.milter_protocol.specs.Dialogue.{has_end, is_body, is_end_command, is_skipping}
use Rattle.milter_mta_outcome.specs.ReceivedReplies.{is_given}
use Rattle.milter_mta_outcome.specs.EditWeights.{weight_of_all}

-- each of the commands is of a stage of this rank or a lower one, or of none
abbrev pub ReachAtMost : ℕ → List Command → Type 0
ReachAtMost rank [] = Unit {0}
ReachAtMost rank (command ∷ before) = (rank_at (stage_of command) ≤ rank) × ReachAtMost rank before

-- none of the commands before one of this stage is of a later stage
abbrev pub ComeBefore : Option Stage → List Command → Type 0
ComeBefore None before = Unit {0}
ComeBefore (Some stage) before = ReachAtMost (rank_of stage) before

-- commands, the latest first, in the order of their stages
abbrev pub AreInOrder : List Command → Type 0
AreInOrder [] = Unit {0}
AreInOrder (command ∷ before) = ComeBefore (stage_of command) before × AreInOrder before

-- edits that may come: at the end of a message alone, each with an action that was negotiated, and of 16 MiB at most
pub record MayEdit (negotiated : Negotiated) (at_end : Bool) (edits : List Edit) : Type 0 where
  pub only_at_end : at_end ≡ false → edits ≡ []
  pub permitted : All (λ edit. is_permitted negotiated edit ≡ true) edits
  pub weight : weight_of_all edits ≤ WEIGHT_MAX

-- an answer that may be given to the command: a verdict that the stage allows, after such edits
pub record MayAnswer (negotiated : Negotiated) (command : Command) (answer : Answer) : Type 0 where
  pub given : (stage : Stage) → stage_of command ≡ Some stage → is_given negotiated stage answer.verdict ≡ true
  pub edits : MayEdit negotiated (is_end_command command) answer.edits

-- it has an answer where its command is asked about, and one that may be given; and only a chunk of the body is
-- answered by Skip
pub record IsProper (negotiated : Negotiated) (exchange : Exchange) : Type 0 where
  pub answered : is_some exchange.answer ≡ is_asked negotiated exchange.command
  pub may : (answer : Answer) → exchange.answer ≡ Some answer → MayAnswer negotiated exchange.command answer
  pub skipped : is_skipping exchange ≡ true → is_body exchange.command ≡ true

abbrev pub AreProper : Negotiated → List Exchange → Type 0
AreProper negotiated [] = Unit {0}
AreProper negotiated (exchange ∷ before) = IsProper negotiated exchange × AreProper negotiated before

-- exchanges about a message, the latest first
pub record IsDialogueSoFar (negotiated : Negotiated) (dialogue : List Exchange) : Type 0 where
  pub proper : AreProper negotiated dialogue
  pub in_order : AreInOrder (commands_of dialogue)

-- and the commands that are left, which go on to its end
pub record IsDialogue (negotiated : Negotiated) (dialogue : List Exchange) (left : List Command) : Type 0 where
  pub proper : AreProper negotiated dialogue
  pub in_order : AreInOrder (onto left (commands_of dialogue))
  pub ends : has_end left ≡ true
