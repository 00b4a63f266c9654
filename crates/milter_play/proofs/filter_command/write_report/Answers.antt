use Rattle.milter_cli.specs.ConnectionLine.{report_line}
use Rattle.milter_play.proofs.FilteringLaws.{unwritten}
use Rattle.milter_play.proofs.filter_command.write_report.Goals as goal

pub returns-in_err-writeln : goal.returns-in_err-writeln
returns-in_err-writeln g c = unwritten (report_line c.args.report.number c.args.report.served) (g.W.Write.contents c.args.writer.now) c.from_residual.result c.from_residual.ensures.0
