use Rattle.std.proofs.Common.{codes, rules}
use Rattle.clap.specs.Words.{found_of}
use Rattle.milter_command_line.proofs.RequestLaws.{no_session, value_given}
use Rattle.milter_command_line.proofs.command_line.session_request.Goals as goal

pub returns-in-Some : goal.returns-in-Some
returns-in-Some c = (search rules, value_given (found_of c.args.given.now) (codes "file") _ c.in-Some.ensures)

pub returns-in-None : goal.returns-in-None
returns-in-None c = no_session (found_of c.args.given.now) c.in-None.ensures
