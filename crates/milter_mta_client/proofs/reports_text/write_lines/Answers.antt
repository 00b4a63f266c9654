use Rattle.std.proofs.Common.{◌≡◌, rules}
use Rattle.milter_mta_client.specs.ReportsText.{settled_lines}
use Rattle.milter_text.proofs.TextWriters.{text_is_cut, text_is_flushed}
use Rattle.milter_mta_client.proofs.reports_text.write_lines.Goals as goal

pub returns-in_err-put_lines : goal.returns-in_err-put_lines
returns-in_err-put_lines g c =
    let same : c.put_lines.new.output.writer.now ≡ c.writer-1.given.0 = search rules in
    let cut = text_is_cut g.W.Write.contents (settled_lines c.args.place.is_named c.args.place.number c.args.report.now) _ _ _ _ c.in_err-put_lines.ensures c.from_residual.ensures.0 c.new-output.ensures.empty in
    rw (c.new-output.ensures.contents, same) at cut

pub returns : goal.returns
returns g c =
    let same : c.flush.new.self.writer.now ≡ c.writer-2-1.given.0 = search rules in
    let all = text_is_flushed g.W.Write.contents (settled_lines c.args.place.is_named c.args.place.number c.args.report.now) _ _ _ _ c.in_ok-put_lines.ensures c.flush.ensures.puts c.new-output.ensures.empty c.flush.ensures.empty in
    rw (c.new-output.ensures.contents, same) at all
