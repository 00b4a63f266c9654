use Rattle.std.proofs.Common.{OnErr, OnOk, subst}
use Rattle.milter_filter.specs.ServedConnections.{ServedBy}
use Rattle.milter_play.specs.FilterRuns.{ServedAll, ServedSome}
use Rattle.milter_play.proofs.filter_command.filter_run.Goals as goal

pub returns-clause-done : goal.returns-clause-done
returns-clause-done g c =
    subst
    (λ (by : ServedBy g.row.P.Denot). OnOk c.serve_all.result (ServedAll (λ it. g.C.Connections.serves it by.order) (g.P.Policy.behavior by.policy) c.args.count c.args.connections.now c.serve_all.new.connections (g.W.Write.contents c.args.writer.now) (g.W.Write.contents c.serve_all.new.writer)))
    c.new-server.ensures c.serve_all.ensures.done

pub returns-clause-cut_off : goal.returns-clause-cut_off
returns-clause-cut_off g c =
    subst
    (λ (by : ServedBy g.row.P.Denot). OnErr c.serve_all.result (ServedSome (λ it. g.C.Connections.serves it by.order) (g.P.Policy.behavior by.policy) c.args.count c.args.connections.now c.serve_all.new.connections (g.W.Write.contents c.args.writer.now) (g.W.Write.contents c.serve_all.new.writer)))
    c.new-server.ensures c.serve_all.ensures.cut_off
