use Rattle.std.proofs.Common.{◌≡◌, rules}
use Rattle.milter_mail.specs.HeldText.{held_text}
use Rattle.milter_text.proofs.TextWriters.{on_err, on_ok, text_is_cut, text_is_flushed}
use Rattle.milter_mail.proofs.held_text.write_message.Goals as goal

pub returns-in_err-put_held-clause-begun : goal.returns-in_err-put_held-clause-begun
returns-in_err-put_held-clause-begun g c =
    let same : c.put_held.new.output.writer.now ≡ c.writer-1.given.0 = search rules in
    let cut = on_err _ _ _ _ (text_is_cut g.W.Write.contents (held_text c.args.held.now) _ _ _ _ c.in_err-put_held.ensures c.from_residual.ensures.0 c.new-output.ensures.empty) in
    rw (c.new-output.ensures.contents, same) at cut

pub returns-clause-done : goal.returns-clause-done
returns-clause-done g c =
    let same : c.flush.new.self.writer.now ≡ c.writer-2-1.given.0 = search rules in
    let all = on_ok _ _ _ _ (text_is_flushed g.W.Write.contents (held_text c.args.held.now) _ _ _ _ c.in_ok-put_held.ensures c.flush.ensures.puts c.new-output.ensures.empty c.flush.ensures.empty) in
    rw (c.new-output.ensures.contents, same) at all

pub returns-clause-begun : goal.returns-clause-begun
returns-clause-begun g c =
    let same : c.flush.new.self.writer.now ≡ c.writer-2-1.given.0 = search rules in
    let begun = on_err _ _ _ _ (text_is_flushed g.W.Write.contents (held_text c.args.held.now) _ _ _ _ c.in_ok-put_held.ensures c.flush.ensures.puts c.new-output.ensures.empty c.flush.ensures.empty) in
    rw (c.new-output.ensures.contents, same) at begun
