use Rattle.milter_wire.specs.declared.command.Command.TheVariants as commands
use Rattle.milter_wire.specs.Command.{Fits}
use Rattle.milter_mail_file.specs.LineValues.{client_of}
use Rattle.milter_mail_file.proofs.LineRuns.{next_value, reads_only}
use Rattle.milter_mail_file.proofs.session_file.read_client.Goals as goal

pub returns-in-Some-clause-only : goal.returns-in-Some-clause-only
returns-in-Some-clause-only c = λ line rest x order has fit.
    let words = c.in-Some.line.words.items in
    let after = c.next.new.self in
    let found = rw c.in-Some.is at c.in_ok-line.ensures.found in
    let next = next_value client_of c.args.lines.now c.in-Some.line.number words after line rest x found order has in
    reads_only client_of (λ y. Fits (commands.Connect y)) words x after.lines rest c.client_in.result c.client_in.ensures.reads fit next
