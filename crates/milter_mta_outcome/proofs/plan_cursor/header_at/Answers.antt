use Rattle.std.proofs.Common.{◌≡◌, Bool, true, false, Some, length, slice_get, refl, ap, ◌∙◌}
use Rattle.std.specs.Option.{option_map}
use Rattle.std.proofs.lemmas.Option.{slice_get-map, slice_get_read}
use Rattle.milter_fields.specs.declared.header.Header.{Header}
use Rattle.milter_wire.specs.declared.command.Command.{Command}
use Rattle.milter_wire.specs.declared.command.Command.TheVariants as commands
use Rattle.milter_message.specs.LeadingSpace.{sent_header}
use Rattle.milter_mta_outcome.proofs.plan_cursor.header_at.Goals as goal

-- a field is sent by its name, and by its value as it is sent
by_parts : (leading_space : Bool) (header : Header) → record { name = header.name; value = (sent_header leading_space header).value } ≡ sent_header leading_space header
by_parts true header = refl
by_parts false header = refl

pub returns : goal.returns
returns c =
    let header = c.in_ok-header.header.now in
    let sent : Header → Command = λ field. commands.Header (sent_header c.args.leading_space field) in
    let parts = by_parts c.args.leading_space header in
    let lookup = c.in_ok-header.ensures.lookup in
    let there : slice_get c.args.headers.now c.args.n ≡ Some header = slice_get_read c.args.headers.now (length c.args.headers.now) c.args.n header refl lookup.3.0 lookup.1 in
    let found = slice_get-map sent c.args.headers.now c.args.n ∙ ap (option_map sent) there in
    cc
