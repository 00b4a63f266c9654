-- The numbers of what a mail server can't take, and of how a filter is lost.
use Rattle.std.specs.Prelude.{ℕ, Bool, true, false}
use Rattle.milter_mta_outcome.specs.declared.loss.By.{By}
use Rattle.milter_mta_outcome.specs.declared.loss.By.TheVariants.{Connection}
use Rattle.milter_mta_outcome.specs.declared.loss.MtaFault.{MtaFault}
use Rattle.milter_mta_outcome.specs.declared.loss.MtaFault.TheVariants.{Wire, Version, ActionsNotOffered, ProtocolNotOffered, NotAtThisStage, EditNotNegotiated, TooManyEdits, Early}
use Rattle.milter_mta_outcome.specs.declared.loss.Loss.{Loss}
use Rattle.milter_mta_outcome.specs.declared.loss.Loss.TheVariants.{Reset, Timeout, Memory, Fault}

abbrev pub mta_fault_number : MtaFault → ℕ
mta_fault_number (Wire fault) = 1
mta_fault_number Version = 2
mta_fault_number ActionsNotOffered = 3
mta_fault_number ProtocolNotOffered = 4
mta_fault_number NotAtThisStage = 5
mta_fault_number EditNotNegotiated = 6
mta_fault_number TooManyEdits = 7
mta_fault_number Early = 8

abbrev pub loss_number : Loss → ℕ
loss_number Reset = 1
loss_number Timeout = 2
loss_number Memory = 3
loss_number (Fault fault) = 4

-- whether a verdict on the client settled the message
abbrev pub is_by_client : By → Bool
is_by_client Connection = true
is_by_client other = false
