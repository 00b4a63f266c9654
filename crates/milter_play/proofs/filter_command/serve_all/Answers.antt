use Rattle.std.proofs.Common.{◌+◌, ◌-◌, ◌∙◌, arith, rules, subst}
use Rattle.milter_filter.specs.ServedConnections.{ServedBy}
use Rattle.milter_play.proofs.FilteringLaws.{cut_off, none_left, on_error, one_more}
use Rattle.milter_play.proofs.filter_command.serve_all.Goals as goal

pub returns-in_err-write_report-clause-cut_off : goal.returns-in_err-write_report-clause-cut_off
returns-in_err-write_report-clause-cut_off g c =
    let served = subst (λ (by : ServedBy g.row.P.Denot). g.C.Connections.serves c.loop-number.connections by.order (g.P.Policy.behavior by.policy) c.serve_next-served.result c.serve_next-served.new.self) c.loop-number.invariant.server c.serve_next-served.ensures.served in
    on_error c.from_residual.result
    (cut_off (λ it. g.C.Connections.serves it c.args.server.now.order) (g.P.Policy.behavior c.args.server.now.policy) (c.loop-number.number - 1) c.loop-number.number c.args.count
    c.args.connections.now c.loop-number.connections c.serve_next-served.new.self
    (g.W.Write.contents c.args.writer.now) (g.W.Write.contents c.loop-number.writer) (g.W.Write.contents c.write_report.new.writer)
    c.serve_next-served.result c.loop-number.invariant.so_far served c.in_err-write_report.ensures
    (omega (arith, c.loop-number.auto.number)) c.loop-number-test.true)

pub loop-number-preserved : goal.loop-number-preserved
loop-number-preserved g c =
    let served = subst (λ (by : ServedBy g.row.P.Denot). g.C.Connections.serves c.loop-number.connections by.order (g.P.Policy.behavior by.policy) c.serve_next-served.result c.serve_next-served.new.self) c.loop-number.invariant.server c.serve_next-served.ensures.served in
    record {
      so_far = one_more (λ it. g.C.Connections.serves it c.args.server.now.order) (g.P.Policy.behavior c.args.server.now.policy) (c.loop-number.number - 1) c.loop-number.number (c.loop-number.number + 1 - 1)
          c.args.connections.now c.loop-number.connections c.serve_next-served.new.self
          (g.W.Write.contents c.args.writer.now) (g.W.Write.contents c.loop-number.writer) (g.W.Write.contents c.write_report.new.writer)
          c.serve_next-served.result c.loop-number.invariant.so_far served c.in_ok-write_report.ensures
          (omega (arith, c.loop-number.auto.number)) (omega arith);
      within = omega (arith, c.loop-number-test.true);
      server = c.serve_next-served.ensures.same ∙ c.loop-number.invariant.server;
    }

pub returns-clause-done : goal.returns-clause-done
returns-clause-done g c =
    none_left (λ it. g.C.Connections.serves it c.args.server.now.order) (g.P.Policy.behavior c.args.server.now.policy) (c.loop-number.number - 1) c.args.count c.args.connections.now c.loop-number.connections
    (g.W.Write.contents c.args.writer.now) (g.W.Write.contents c.loop-number.writer) c.loop-number.invariant.so_far
    (omega (arith, c.loop-number.invariant.within, c.loop-number-test.false))

pub returns-in_ok-write_report-clause-done : goal.returns-in_ok-write_report-clause-done
returns-in_ok-write_report-clause-done g c =
    let served = subst (λ (by : ServedBy g.row.P.Denot). g.C.Connections.serves c.loop-number.connections by.order (g.P.Policy.behavior by.policy) c.serve_next-served.result c.serve_next-served.new.self) c.loop-number.invariant.server c.serve_next-served.ensures.served in
    one_more (λ it. g.C.Connections.serves it c.args.server.now.order) (g.P.Policy.behavior c.args.server.now.policy) (c.loop-number.number - 1) c.loop-number.number c.args.count
    c.args.connections.now c.loop-number.connections c.serve_next-served.new.self
    (g.W.Write.contents c.args.writer.now) (g.W.Write.contents c.loop-number.writer) (g.W.Write.contents c.write_report.new.writer)
    c.serve_next-served.result c.loop-number.invariant.so_far served c.in_ok-write_report.ensures
    (omega (arith, c.loop-number.auto.number)) (search rules)
