-- What an answer leaves of a message under way.
use Rattle.std.specs.Prelude.{◌≡◌, true, false, drop, Option, None, Some, Result, Ok, Err}
use Rattle.milter_wire.specs.declared.stage.Stage.{Stage}
use Rattle.milter_fields.specs.declared.fault.NoMemory.{NoMemory}
use Rattle.milter_protocol.specs.declared.answer.Answer.{Answer}
use Rattle.milter_mta_outcome.specs.declared.plan_cursor.ClientInfo.{ClientInfo}
use Rattle.milter_mta_outcome.specs.declared.transaction.Transaction.{Transaction}
use Rattle.milter_mta_outcome.specs.Transactions.{left_of}
use Rattle.milter_mta_outcome.specs.TransactionVerdicts.{ends_dialogue, left_after, with_verdict}

-- the verdict is the last that was acted on
pub record HasActed (stage : Stage) (answer : Answer) (old new : Transaction) : Type 0 where
  pub acted : new.acted ≡ with_verdict stage answer.verdict old.acted
  pub same : new ≡ record old { acted = new.acted; cursor = new.cursor }

-- nothing where the dialogue goes on, and the answer where it ends by it; where memory was refused no verdict is acted
-- on
abbrev pub ActsOn : ClientInfo → Stage → Answer → Transaction → Transaction → Result (Option Answer) NoMemory → Type 0
ActsOn client_info stage answer old new (Ok None) =
    HasActed stage answer old new
    × (ends_dialogue stage answer.verdict new.acted (drop 1 (left_of client_info old)) ≡ false)
    × (left_of client_info new ≡ left_after answer.verdict (drop 1 (left_of client_info old)))
ActsOn client_info stage answer old new (Ok (Some ending)) =
    HasActed stage answer old new
    × (ends_dialogue stage answer.verdict new.acted (drop 1 (left_of client_info old)) ≡ true)
    × (ending ≡ answer)
ActsOn client_info stage answer old new (Err refused) = new ≡ record old { cursor = new.cursor }
