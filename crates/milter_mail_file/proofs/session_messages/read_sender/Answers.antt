use Rattle.std.proofs.Common.{codes}
use Rattle.milter_wire.specs.declared.command.Command.TheVariants as commands
use Rattle.milter_wire.specs.Command.{Fits}
use Rattle.milter_mail_file.specs.LineValues.{path_of}
use Rattle.milter_mail_file.proofs.LineRuns.{next_value, reads_only}
use Rattle.milter_mail_file.proofs.session_messages.read_sender.Goals as goal

pub returns-clause-only : goal.returns-clause-only
returns-clause-only c = λ line rest sender order has fit.
    let value_of = path_of (codes "sender") in
    let words = c.in_ok-line.line.words.items in
    let after = c.next_line.new.lines in
    let next = next_value value_of c.args.lines.now c.in_ok-line.line.number words after line rest sender c.in_ok-line.ensures.found order has in
    reads_only value_of (λ path. Fits (commands.Rcpt path)) words sender after.lines rest c.path_in.result c.path_in.ensures.reads (record { fields = fit.fields; payload = fit.payload }) next
