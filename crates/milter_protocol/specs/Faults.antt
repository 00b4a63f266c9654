-- The commands at which a filter gives a connection up.
use Rattle.std.specs.Prelude.{ℕ, nat_lt, Bool, true, not, ◌&&◌, Option, None, Some, if◌then◌else◌}
use Rattle.milter_message.specs.declared.message.TheConstants.{WEIGHT_MAX}
use Rattle.milter_wire.specs.declared.negotiation.Negotiated.{Negotiated}
use Rattle.milter_wire.specs.declared.command.Command.{Command}
use Rattle.milter_wire.specs.declared.command.Command.TheVariants as commands
use Rattle.milter_wire.specs.declared.stage.Stage.{Stage}
use Rattle.milter_wire.specs.Stages.{stage_of}
use Rattle.milter_protocol.specs.StageOrder.{may_follow}
use Rattle.milter_protocol.specs.declared.filter_fault.FilterFault.{FilterFault}
use Rattle.milter_protocol.specs.declared.filter_fault.FilterFault.TheVariants.{NotNegotiated, NegotiatedTwice, OutOfOrder, TooMuch, Version}
use Rattle.milter_protocol.specs.Commands.{is_shown}
use Rattle.milter_protocol.specs.declared.permitted.TheConstants.{VERSION_MIN}

-- a command of no stage comes anywhere
abbrev pub is_in_order : ℕ → Option Stage → Bool
is_in_order last None = true
is_in_order last (Some stage) = may_follow last stage

-- order first, and then the amount: the bytes of all that is shown, those of this command among them
abbrev pub fault_in_message : ℕ → ℕ → Command → Option FilterFault
fault_in_message last amount command =
    if not (is_in_order last (stage_of command)) then Some OutOfOrder
    else if is_shown command && nat_lt WEIGHT_MAX amount then Some TooMuch
    else None

-- the fault of a command, by what was negotiated before it, the rank of the last stage, and the amount with this
-- command
abbrev pub fault_of : Option Negotiated → ℕ → ℕ → Command → Option FilterFault
fault_of None last amount (commands.Options offer) = if nat_lt offer.version VERSION_MIN then Some Version else None
fault_of None last amount commands.Quit = None
fault_of None last amount other = Some NotNegotiated
fault_of (Some negotiated) last amount (commands.Options offer) = Some NegotiatedTwice
fault_of (Some negotiated) last amount other = fault_in_message last amount other
