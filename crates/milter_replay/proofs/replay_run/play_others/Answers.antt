use Rattle.std.proofs.Common.{◌+◌, ◌∙◌}
use Rattle.milter_replay.specs.Sending.{first_loss}
use Rattle.milter_replay.proofs.SendingLaws.{Plays-cut, Plays-more, on_error}
use Rattle.milter_replay.proofs.replay_run.play_others.Goals as goal

pub returns-in_err-write_exchange-clause-cut_off : goal.returns-in_err-write_exchange-clause-cut_off
returns-in_err-write_exchange-clause-cut_off g c =
    on_error c.from_residual.result
    (Plays-cut c.args.replayed.now.loss c.args.replayed.now.negotiated c.args.exchanges.now (c.loop-exchange.exchange-index + 1) (g.L.Write.contents c.args.link.now) (g.L.Write.contents c.play-answer.new.link) c.note.new.self.loss
    (Plays-more c.args.replayed.now.loss c.args.replayed.now.negotiated c.loop-exchange.replayed.negotiated c.args.exchanges.now c.loop-exchange.exchange-index c.exchange-item.result
    (g.L.Write.contents c.args.link.now) (g.L.Write.contents c.loop-exchange.link) (g.L.Write.contents c.play-answer.new.link) c.loop-exchange.replayed.loss
    (first_loss c.loop-exchange.replayed.loss c.play-answer.result.loss) c.note.new.self.loss c.loop-exchange.invariant.terms c.loop-exchange-test.true c.exchange-item.is
    c.loop-exchange.invariant.played c.play-answer.ensures c.note.ensures.loss))

pub loop-exchange-preserved : goal.loop-exchange-preserved
loop-exchange-preserved g c = record {
  terms = c.note.ensures.terms ∙ c.loop-exchange.invariant.terms;
  noted = c.note.ensures.noted c.loop-exchange.invariant.noted;
  played = Plays-more c.args.replayed.now.loss c.args.replayed.now.negotiated c.loop-exchange.replayed.negotiated c.args.exchanges.now c.loop-exchange.exchange-index c.exchange-item.result
      (g.L.Write.contents c.args.link.now) (g.L.Write.contents c.loop-exchange.link) (g.L.Write.contents c.play-answer.new.link) c.loop-exchange.replayed.loss
      (first_loss c.loop-exchange.replayed.loss c.play-answer.result.loss) c.note.new.self.loss c.loop-exchange.invariant.terms c.loop-exchange-test.true c.exchange-item.is
      c.loop-exchange.invariant.played c.play-answer.ensures c.note.ensures.loss;
}
