-- What the failure of a read or a write means.
use Rattle.std.specs.declared.io.ErrorKind.{ErrorKind}
use Rattle.std.specs.declared.io.ErrorKind.TheVariants as kinds
use Rattle.milter_mta_outcome.specs.declared.loss.Loss.{Loss}
use Rattle.milter_mta_outcome.specs.declared.loss.Loss.TheVariants.{Reset, Timeout}
use Rattle.milter_mta_client.specs.declared.link_calls.Stop.{Stop}
use Rattle.milter_mta_client.specs.declared.link_calls.Stop.TheVariants.{Interrupted, Lost, Over}

abbrev pub stop_of : ErrorKind → Stop
stop_of kinds.Interrupted = Interrupted
stop_of kinds.WouldBlock = Lost Timeout
stop_of kinds.TimedOut = Lost Timeout
stop_of _ = Lost Reset

-- the causes by which a call ends a connection
abbrev pub IsCallLoss : Loss → Type 0
IsCallLoss Reset = Unit {0}
IsCallLoss Timeout = Unit {0}
IsCallLoss loss = ⊥

-- a call that failed was interrupted, or ends the connection
abbrev pub IsCallFailure : Stop → Type 0
IsCallFailure Interrupted = Unit {0}
IsCallFailure (Lost loss) = IsCallLoss loss
IsCallFailure Over = ⊥
