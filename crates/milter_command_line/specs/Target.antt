-- What is offered to a filter, and where it is, by the texts of the command line.
use Rattle.std.specs.Prelude.{◌≡◌, ℕ, List, Option, None, Some, IsSome, Result, Ok, Err}
use Rattle.bitflags.specs.Sets.{Row}
use Rattle.clap.specs.Words.{Text}
use Rattle.milter_wire.specs.Bits.{actions_table, bits_named, protocol_table}
use Rattle.milter_protocol.specs.declared.permitted.TheConstants.{ACTIONS_MAX, PROTOCOL_MAX}
use Rattle.milter_command_line.specs.Address.{IsAddress}
use Rattle.milter_command_line.specs.declared.address.Address.{Address}
use Rattle.milter_command_line.specs.declared.target.Offer.{Offer}
use Rattle.milter_command_line.specs.declared.target.Target.{Target}
use Rattle.milter_command_line.specs.declared.usage_error.UsageError.{UsageError}
use Rattle.milter_command_line.specs.declared.usage_error.UsageError.TheVariants.{BadActions, BadProtocol, BadAddress}

-- the set that a text names, if it names one, or all bits where there is no text
abbrev pub bits_given : List Row → ℕ → Option Text → Option ℕ
bits_given table all None = Some all
bits_given table all (Some text) = bits_named table text

abbrev pub actions_given : Option Text → Option ℕ
actions_given text = bits_given actions_table ACTIONS_MAX text

abbrev pub protocol_given : Option Text → Option ℕ
protocol_given text = bits_given protocol_table PROTOCOL_MAX text

-- an offer has the bits of both texts; else the first text that names no set is at fault
abbrev pub IsOffer : Option Text → Option Text → Result Offer UsageError → Type 0
IsOffer actions protocol (Ok offer) =
    (actions_given actions ≡ Some offer.actions.0) × (protocol_given protocol ≡ Some offer.protocol.0)
IsOffer actions protocol (Err BadActions) = actions_given actions ≡ None
IsOffer actions protocol (Err BadProtocol) = IsSome (actions_given actions) × (protocol_given protocol ≡ None)
IsOffer actions protocol (Err other) = ⊥

-- An offer is at fault before an address is.
abbrev pub IsTarget : Text → Option Text → Option Text → Result Target UsageError → Type 0
IsTarget address actions protocol (Ok target) =
    IsOffer actions protocol (Ok target.offer) × IsAddress address target.address
IsTarget address actions protocol (Err BadAddress) =
    IsSome (actions_given actions) × IsSome (protocol_given protocol) × ((at : Address) → ¬ IsAddress address at)
IsTarget address actions protocol (Err other) = IsOffer actions protocol (Err other)
