-- What two ends negotiated, and what follows of it for each stage.
use Rattle.std.specs.Prelude.{ℕ, ◌==◌, nat_lt, Bool, true, false, not, List, [], Option, None, Some, if◌then◌else◌}
use Rattle.std.specs.Int.Bits.{bit_and}
use Rattle.milter_wire.specs.declared.options.Options.{Options}
use Rattle.milter_wire.specs.declared.options.Protocol.{Protocol}
use Rattle.milter_wire.specs.declared.options.TheConstants.Actions.{SETSYMLIST}
use Rattle.milter_wire.specs.declared.options.TheConstants.Protocol.{HDR_LEADSPC}
use Rattle.milter_wire.specs.SharedOptions.{common}
use Rattle.milter_wire.specs.declared.negotiation.Negotiated.{Negotiated}
use Rattle.milter_wire.specs.declared.command.Command.{Command}
use Rattle.milter_wire.specs.declared.stage.Stage.{Stage}
use Rattle.milter_wire.specs.declared.stage.Stage.TheVariants.{DataCmd}
use Rattle.milter_wire.specs.declared.symbol_lists.SymList.{SymList}
use Rattle.milter_wire.specs.Stages.{not_answered_of, not_sent_of, stage_of}

-- whether a set has one of these bits
abbrev pub has_bit : ℕ → ℕ → Bool
has_bit set bit = not (bit_and set bit == 0)

-- what both ends have, and the filter's symbol lists, where the mail server offers to take some
abbrev pub negotiate : Options → Options → List SymList → Negotiated
negotiate offer wants lists =
    record {
      options = common offer wants;
      lists = if has_bit offer.actions.0 SETSYMLIST.0 then lists else [];
    }

-- whether the bit, if there is one, was negotiated
abbrev pub has : Negotiated → Option Protocol → Bool
has negotiated None = false
has negotiated (Some bit) = has_bit negotiated.options.protocol.0 bit.0

-- whether the version that was negotiated has the stage: before version 4 there was no DATA
abbrev pub is_of_version : Negotiated → Stage → Bool
is_of_version negotiated DataCmd = not (nat_lt negotiated.options.version 4)
is_of_version negotiated other = true

-- whether the commands of a stage are sent
abbrev pub is_sent : Negotiated → Stage → Bool
is_sent negotiated stage = if has negotiated (not_sent_of stage) then false else is_of_version negotiated stage

-- whether the commands of a stage are answered
abbrev pub is_answered : Negotiated → Stage → Bool
is_answered negotiated stage = not (has negotiated (not_answered_of stage))

-- whether a command of the plan is answered: macros never are
abbrev pub is_asked_at : Negotiated → Option Stage → Bool
is_asked_at negotiated None = false
is_asked_at negotiated (Some stage) = is_answered negotiated stage

abbrev pub is_asked : Negotiated → Command → Bool
is_asked negotiated command = is_asked_at negotiated (stage_of command)

-- whether values of header fields are sent with the blank that they begin with
abbrev pub has_leading_space : Negotiated → Bool
has_leading_space negotiated = has negotiated (Some HDR_LEADSPC)
