use Rattle.milter_wire.specs.Command.{Fits}
use Rattle.milter_replay.proofs.SendingLaws.{All-others, all_sent, offer_cut, on_error, others_cut}
use Rattle.milter_replay.proofs.replay_run.play_all.Goals as goal

pub returns-in_err-write_exchange-clause-cut_off : goal.returns-in_err-write_exchange-clause-cut_off
returns-in_err-write_exchange-clause-cut_off g c =
    on_error c.from_residual.result
    (offer_cut c.args.offer.now c.args.others.now (g.L.Write.contents c.args.link.now) (g.L.Write.contents c.ask-answer.new.link) c.ask-answer.result.loss c.ask-answer.ensures)

pub returns-in_err-replayed-clause-cut_off : goal.returns-in_err-replayed-clause-cut_off
returns-in_err-replayed-clause-cut_off g c =
    on_error c.from_residual-in_err-replayed.result
    (offer_cut c.args.offer.now c.args.others.now (g.L.Write.contents c.args.link.now) (g.L.Write.contents c.ask-answer.new.link) c.ask-answer.result.loss c.ask-answer.ensures)

pub play_others-requires-clause-fit : goal.play_others-requires-clause-fit
play_others-requires-clause-fit g c = All-others (λ exchange. Fits exchange.recorded.command) c.args.offer.now c.args.others.now c.requires

pub returns-in_err-play_others-clause-cut_off : goal.returns-in_err-play_others-clause-cut_off
returns-in_err-play_others-clause-cut_off g c =
    on_error c.from_residual-in_err-play_others.result
    (others_cut c.in_ok-replayed.field-0 c.args.offer.now c.args.others.now (g.L.Write.contents c.args.link.now) (g.L.Write.contents c.ask-answer.new.link) (g.L.Write.contents c.play_others.new.link)
    c.ask-answer.result.loss c.note.new.self.loss c.ask-answer.ensures c.note.ensures.loss c.in_err-play_others.ensures.cut_off)

pub returns-clause-sent : goal.returns-clause-sent
returns-clause-sent g c =
    all_sent c.in_ok-replayed.field-0 c.play_others.new.replayed.negotiated c.args.offer.now c.args.others.now (g.L.Write.contents c.args.link.now) (g.L.Write.contents c.ask-answer.new.link)
    (g.L.Write.contents c.play_others.new.link) c.ask-answer.result.loss c.note.new.self.loss c.play_others.new.replayed.loss c.ask-answer.ensures c.note.ensures.loss
    c.in_ok-play_others.ensures.played c.in_ok-play_others.ensures.terms
