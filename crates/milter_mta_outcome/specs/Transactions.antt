-- What is left to send of a message under way.
use Rattle.std.specs.Prelude.{◌≡◌, ◌≤◌, ◌+◌, Bool, false, List, [], ◌∷◌, All, length, slice_get, Option, None, Some}
use Rattle.milter_wire.specs.declared.negotiation.Negotiated.{Negotiated}
use Rattle.milter_wire.specs.declared.command.Command.{Command}
use Rattle.milter_wire.specs.declared.stage.Stage.{Stage}
use Rattle.milter_wire.specs.Negotiation.{is_asked}
use Rattle.milter_wire.specs.Command.{Fits}
use Rattle.milter_wire.specs.Stages.{stage_of}
use Rattle.milter_message.specs.declared.message.TheConstants.{WEIGHT_MAX}
use Rattle.milter_mta_outcome.specs.declared.plan_cursor.ClientInfo.{ClientInfo}
use Rattle.milter_mta_outcome.specs.declared.transaction.Transaction.{Transaction}
use Rattle.milter_mta_outcome.specs.PlanCursor.{Outgoing, steps_at, steps_from}

abbrev pub outgoing_transaction : ClientInfo → Transaction → Outgoing
outgoing_transaction client_info transaction =
    record {
      negotiated = transaction.negotiated;
      macros = transaction.macros;
      client = client_info.client;
      helo = client_info.helo;
      message = transaction.message;
    }

-- the commands that were not sent
abbrev pub left_of : ClientInfo → Transaction → List Command
left_of client_info transaction =
    steps_from (outgoing_transaction client_info transaction) transaction.cursor.stage transaction.cursor.step

-- each of them fits a packet, and there are no more than a message has bytes
pub record Sends (client_info : ClientInfo) (transaction : Transaction) : Type 0 where
  pub fits : All Fits (left_of client_info transaction)
  pub room : transaction.cursor.step + length (left_of client_info transaction) ≤ WEIGHT_MAX

-- ---- the first of these commands

abbrev pub first_of : List Command → Option Command
first_of [] = None
first_of (command ∷ left) = Some command

-- it has a reply
abbrev pub asks_first : Negotiated → List Command → Bool
asks_first negotiated [] = false
asks_first negotiated (command ∷ left) = is_asked negotiated command

abbrev pub stage_first : List Command → Option Stage
stage_first [] = None
stage_first (command ∷ left) = stage_of command

-- the cursor stands on it
abbrev pub IsThere : ClientInfo → Transaction → Type 0
IsThere client_info transaction =
    slice_get (steps_at (outgoing_transaction client_info transaction) transaction.cursor.stage) transaction.cursor.step
    ≡ first_of (left_of client_info transaction)
