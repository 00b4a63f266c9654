-- A filter's end and a dialogue at the same place: what the filter has of the connection where a mail server's dialogue
-- about a message has come so far.
use Rattle.std.specs.Prelude.{◌≡◌, ◌≤◌, ◌+◌, ◌&&◌, ℕ, true, false, List, [], ◌∷◌, All, Some}
use Rattle.std.specs.List.{filter}
use Rattle.milter_wire.specs.declared.negotiation.Negotiated.{Negotiated}
use Rattle.milter_wire.specs.declared.command.Command.{Command}
use Rattle.milter_wire.specs.Command.{Fits, bytes_of}
use Rattle.milter_wire.specs.Stages.{stage_of}
use Rattle.milter_message.specs.declared.message.TheConstants.{WEIGHT_MAX}
use Rattle.milter_mail.specs.MailSession.{MailSession}
use Rattle.milter_mail.specs.Plan.{opening}
use Rattle.milter_protocol.specs.Aborts.{is_after_refused_data, is_greeting_or_sender, is_in_message}
use Rattle.milter_protocol.specs.Behavior.{Behavior}
use Rattle.milter_protocol.specs.Commands.{is_of_connection}
use Rattle.milter_protocol.specs.Exchanges.{Exchange, commands_of}
use Rattle.milter_protocol.specs.OrderStates.{rank_by}
use Rattle.milter_protocol.specs.Transcripts.{negotiated_in, last_rank, of_connection, shown}
use Rattle.milter_mta_outcome.specs.PlanOrder.{AreInTurn}
use Rattle.milter_mta.specs.Settled.{ends_with_message}
use Rattle.milter_mta.specs.Dialogues.{opening_of}

-- after a last stage of this rank, no greeting and no sender of these commands, nor macros of one, comes within a
-- message
abbrev pub NoneWithin : ℕ → List Command → Type 0
NoneWithin last [] = Unit {0}
NoneWithin last (command ∷ left) =
    ((is_greeting_or_sender command && is_in_message last) ≡ false)
    × NoneWithin (rank_by last (stage_of command)) left

-- after this transcript the dialogue about a message has come so far, and what is left of its plan can follow, alike in
-- either order
pub record IsAt (b : Behavior) (negotiated : Negotiated) (session : MailSession) (transcript dialogue : List Exchange)
    (left : List Command) : Type 0 where
  pub negotiated_is : negotiated_in b transcript ≡ Some negotiated
  pub shown_is : shown transcript ≡ commands_of dialogue
  pub kept_is : of_connection transcript ≡ commands_of (opening_of dialogue)
  pub in_turn : AreInTurn (last_rank transcript) left
  pub none_within : NoneWithin (last_rank transcript) left
  pub data_goes_on : is_after_refused_data transcript ≡ false
  pub amount : bytes_of (shown transcript) + bytes_of left ≤ WEIGHT_MAX
  pub opened : bytes_of (of_connection transcript) + bytes_of (filter is_of_connection left)
      ≤ bytes_of (opening negotiated session)
  pub fits : All Fits left
  pub goes_on : ends_with_message dialogue ≡ false

-- and where the dialogue ended
pub record IsOver (b : Behavior) (negotiated : Negotiated) (session : MailSession) (transcript dialogue : List Exchange)
    : Type 0 where
  pub negotiated_is : negotiated_in b transcript ≡ Some negotiated
  pub kept_is : of_connection transcript ≡ commands_of (opening_of dialogue)
  pub opened : bytes_of (of_connection transcript) ≤ bytes_of (opening negotiated session)
  pub nothing_shown : ends_with_message dialogue ≡ true → shown transcript ≡ of_connection transcript
  pub low : ends_with_message dialogue ≡ true → last_rank transcript ≤ 2
  pub data_went_on : ends_with_message dialogue ≡ true → is_after_refused_data transcript ≡ false
