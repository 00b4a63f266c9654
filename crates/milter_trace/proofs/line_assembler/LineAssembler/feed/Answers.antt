use Rattle.std.proofs.Common.{◌≢◌, ℕ, ◌+◌, true, ◌∷◌, ◌++◌, length, take, drop, Err, sym, ap, ◌∙◌, arith, length-drop}
use Rattle.std.proofs.lemmas.List.{take_rest}
use Rattle.std.proofs.lemmas.List.Elements.{All-append, All-nil}
use Rattle.std.proofs.lemmas.Result.{err_from_is_err_and, on_ok_weaker}
use Rattle.milter_trace.specs.ParsedLine.{parsed_line}
use Rattle.milter_trace.specs.PrinterState.{printer_state}
use Rattle.milter_trace.specs.TraceState.{TraceState, trace_to_come}
use Rattle.milter_trace.proofs.LineLaws.{ends_at, no_end}
use Rattle.milter_trace.proofs.PieceLaws.{ContinuesTrace-fault, ContinuesTrace-rest, ContinuesTrace-same, next_state-lines, on_ok_both, ready_rest, split_more, trace_to_come-ended}
use Rattle.milter_trace.proofs.line_assembler.LineAssembler.feed.Goals as goal

pub returns-in_err-end_line-clause-feeds : goal.returns-in_err-end_line-clause-feeds
returns-in_err-end_line-clause-feeds c = λ more.
    let p = err_from_is_err_and c.from_residual.result c.from_residual.ensures.1 in
    let rest = c.loop-end.rest.now in
    let text = c.loop-end.self.printer.text.items in
    let state = printer_state c.loop-end.self.printer in
    let begun = c.loop-end.self.begun.items in
    let ends = ends_at rest c.in-Some.end (sym c.line_end.ensures ∙ c.in-Some.is) in
    let none = All-append (λ (b : ℕ). b ≢ 10) begun (take c.in-Some.end rest) c.loop-end.invariant.between_pieces.begun ends.prefix in
    let before = ap (trace_to_come text state begun) (sym (split_more rest more c.in-Some.end ends)) ∙ c.loop-end.invariant.going more in
    let new = c.end_line.new.self.printer.text.items in
    let after = trace_to_come new (printer_state c.end_line.new.self.printer) c.end_line.new.self.begun.items more in
    let fault = c.in_err-end_line.field-0.0 in
    let whole = trace_to_come c.args.self.now.printer.text.items (printer_state c.args.self.now.printer) c.args.self.now.begun.items (c.args.piece.now ++ more) in
    rw (p.1, p.2) (ContinuesTrace-same (trace_to_come text state begun (take c.in-Some.end rest ++ 10 ∷ (drop (c.in-Some.end + 1) rest ++ more))) whole after new (Err fault) before
    (ContinuesTrace-fault text new begun (take c.in-Some.end rest) (drop (c.in-Some.end + 1) rest ++ more) state after fault none c.in_err-end_line.ensures.appends))

pub loop-end-preserved : goal.loop-end-preserved
loop-end-preserved c =
    let rest = c.loop-end.rest.now in
    let text = c.loop-end.self.printer.text.items in
    let state = printer_state c.loop-end.self.printer in
    let begun = c.loop-end.self.begun.items in
    let ends = ends_at rest c.in-Some.end (sym c.line_end.ensures ∙ c.in-Some.is) in
    let none = All-append (λ (b : ℕ). b ≢ 10) begun (take c.in-Some.end rest) c.loop-end.invariant.between_pieces.begun ends.prefix in
    let with_unread = c.in_ok-end_line.ensures in
    rw take_rest record {
      going = λ more. rw (with_unread.state, with_unread.begun)
          (trace_to_come-ended text c.end_line.new.self.printer.text.items begun (take c.in-Some.end rest) (drop (c.in-Some.end + 1) rest ++ more) state none with_unread.appends
          ∙ ap (trace_to_come text state begun) (sym (split_more rest more c.in-Some.end ends)) ∙ c.loop-end.invariant.going more);
      between_pieces = record { begun = rw with_unread.begun (All-nil (λ (b : ℕ). b ≢ 10)); short = omega (arith, ap length with_unread.begun); unfinished = with_unread.unfinished };
      few = omega (arith, ap (λ (h : TraceState). h.lines) with_unread.state, next_state-lines state (parsed_line (record { bytes = begun ++ take c.in-Some.end rest; ended = true })), ends.within, c.loop-end.invariant.few, length-drop (c.in-Some.end + 1) rest);
    }

pub returns-clause-feeds : goal.returns-clause-feeds
returns-clause-feeds c = λ more.
    let none = no_end c.loop-end.rest.now (sym c.line_end.ensures ∙ c.in_default.is) in
    let whole = All-append (λ (b : ℕ). b ≢ 10) c.loop-end.self.begun.items c.loop-end.rest.now c.loop-end.invariant.between_pieces.begun none in
    rw c.begin_line.ensures.printer (ContinuesTrace-same _ _ _ _ _ (c.loop-end.invariant.going more)
    (ContinuesTrace-rest c.loop-end.self.printer.text.items c.loop-end.self.begun.items c.loop-end.rest.now c.begin_line.new.self.begun.items more (printer_state c.loop-end.self.printer) c.begin_line.result whole c.begin_line.ensures.ok c.begin_line.ensures.err))

pub returns-clause-between_pieces : goal.returns-clause-between_pieces
returns-clause-between_pieces c =
    let none = no_end c.loop-end.rest.now (sym c.line_end.ensures ∙ c.in_default.is) in
    on_ok_weaker c.begin_line.result (λ p. record {
      begun = ready_rest c.loop-end.self.begun.items c.loop-end.rest.now c.begin_line.new.self.begun.items c.loop-end.invariant.between_pieces.begun none p.0;
      short = p.1;
      unfinished = rw c.begin_line.ensures.printer c.loop-end.invariant.between_pieces.unfinished;
    }) (on_ok_both _ _ c.begin_line.result c.begin_line.ensures.ok c.begin_line.ensures.short)
