-- The next packet fits.
use Rattle.std.proofs.Common.{◌≡◌, Bool, true, false, List, [], ◌∷◌, All, Some, arith, subst}
use Rattle.std.proofs.lemmas.List.Elements.{All-head}
use Rattle.std.proofs.lemmas.Option.{same_Some}
use Rattle.milter_wire.specs.declared.options.Options.{Options}
use Rattle.milter_wire.specs.OptionsPayload.{OptionsFit}
use Rattle.milter_wire.specs.declared.command.Command.{Command}
use Rattle.milter_wire.specs.declared.command.Command.TheVariants as commands
use Rattle.milter_wire.specs.Command.{Fits}
use Rattle.milter_message.specs.declared.edit.Edit.{Edit}
use Rattle.milter_mta_connection.proofs.Offered as offers
use Rattle.milter_mta_outcome.specs.declared.plan_cursor.ClientInfo.{ClientInfo}
use Rattle.milter_mta_outcome.specs.Transactions.{first_of, left_of}
use Rattle.milter_mta.specs.declared.state.Position.{Position as PositionParts}
use Rattle.milter_mta.specs.declared.state.Position.TheVariants as parts
use Rattle.milter_mta.specs.CoreParts.{CanSend, position_of}
use Rattle.milter_mta.specs.Output.{command_at}

first_fits : (left : List Command) (command : Command) → All Fits left → first_of left ≡ Some command → Fits command
first_fits [] command fit e = absurd cc
first_fits (first ∷ left) command fit e = subst Fits (same_Some first command e) (All-head Fits first left fit)

-- options whose numbers fit four bytes
pub options_fit : (o : Options) → OptionsFit o → Fits (commands.Options o)
options_fit o fit = offers.options_fit o fit

pub next_fits : (offer : Options) (client_info : ClientInfo) (aborts : Bool) (edits : List Edit) (next : PositionParts) (command : Command) → OptionsFit offer
    → CanSend client_info next → command_at offer aborts (position_of client_info edits next) ≡ Some command → Fits command
next_fits offer client_info true edits next command offered can e =
    subst Fits (same_Some commands.Abort command e) (record { fields = tt; payload = omega arith })
next_fits offer client_info false edits parts.Offering command offered can e =
    subst Fits (same_Some (commands.Options offer) command e) (options_fit offer offered)
next_fits offer client_info false edits (parts.Sending transaction) command offered can e =
    first_fits (left_of client_info transaction) command can.sends.fits e
next_fits offer client_info false edits parts.Quitting command offered can e =
    subst Fits (same_Some commands.Quit command e) (record { fields = tt; payload = omega arith })
next_fits offer client_info false edits parts.Ended command offered can e = absurd cc
