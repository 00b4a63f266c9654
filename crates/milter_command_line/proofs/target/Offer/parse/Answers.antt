use Rattle.std.proofs.Common.{rules}
use Rattle.milter_command_line.specs.CommandLine.{text_of}
use Rattle.milter_command_line.proofs.OfferLaws.{actions_offered, protocol_offered}
use Rattle.milter_command_line.proofs.target.Offer.parse.Goals as goal

pub returns-clause-known : goal.returns-clause-known
returns-clause-known c = (
  actions_offered (text_of c.args.actions) c.in_ok-actions.actions.0 (search rules),
  protocol_offered (text_of c.args.protocol) c.in_ok-protocol.protocol.0 (search rules),
)
