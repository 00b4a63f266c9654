use Rattle.std.proofs.Common.{ap, refl}
use Rattle.milter_text.proofs.TextWriters.{WritesAllBut-none}
use Rattle.milter_mta_client.specs.ReportsText.{released_text, report_text, settled_lines}
use Rattle.milter_mta_client.proofs.WrittenParts.{all_is_written, is_written, last_is_written, nothing_released, part_fails, part_is_written}
use Rattle.milter_mta_client.proofs.reports_text.write_report.Goals as goal

pub returns-in_err-write_lines : goal.returns-in_err-write_lines
unfolding report_text
returns-in_err-write_lines g c =
    let report = c.args.report.now in
    let none = WritesAllBut-none (report_text c.args.place.is_named c.args.place.number report) (g.W.Write.contents c.args.writer.now) in
    part_fails _ (settled_lines c.args.place.is_named c.args.place.number report) (released_text report.outcome) none c.in_err-write_lines.ensures c.from_residual.ensures.0 refl

pub returns-in-Released : goal.returns-in-Released
unfolding report_text
returns-in-Released g c =
    let report = c.args.report.now in
    let none = WritesAllBut-none (report_text c.args.place.is_named c.args.place.number report) (g.W.Write.contents c.args.writer.now) in
    let lines = part_is_written (settled_lines c.args.place.is_named c.args.place.number report) (released_text report.outcome) none c.in_ok-write_lines.ensures refl in
    let message = is_written _ _ _ _ c.write_message.ensures.done c.write_message.ensures.begun in
    last_is_written _ _ _ lines message (ap released_text c.in-Released.is)

pub returns-in_default : goal.returns-in_default
unfolding report_text
returns-in_default g c =
    let report = c.args.report.now in
    let none = WritesAllBut-none (report_text c.args.place.is_named c.args.place.number report) (g.W.Write.contents c.args.writer.now) in
    let lines = part_is_written (settled_lines c.args.place.is_named c.args.place.number report) (released_text report.outcome) none c.in_ok-write_lines.ensures refl in
    all_is_written lines (nothing_released report.outcome c.in_default.not-Released)
