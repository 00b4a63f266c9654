use Rattle.std.proofs.lemmas.List.Sums.{fold-append}
use Rattle.milter_mta_connection.specs.declared.filter_event.FilterEvent.TheVariants as events
use Rattle.milter_mta_connection.specs.Received.{goes_on, received_byte}
use Rattle.milter_mta_connection.proofs.channel_laws.pieces_go_on.Goals as goal

pub returns : goal.returns
returns c channel first second = fold-append received_byte (goes_on events.Nothing channel) first second
