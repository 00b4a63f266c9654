use Rattle.std.proofs.Common.{map}
use Rattle.milter_command_line.proofs.RequestLaws.{some_request}
use Rattle.milter_command_line.proofs.command_line.parse.Goals as goal

pub unwrap-requires : goal.unwrap-requires
unwrap-requires g c =
    let matched = c.in_ok-matches.ensures in
    some_request matched.0 (map g.S.AsStr.text c.args.words.now) _ c.in_ok-request_of.field-0 matched.2 c.in_ok-request_of.ensures
