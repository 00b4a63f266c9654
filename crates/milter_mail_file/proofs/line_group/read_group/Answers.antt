use Rattle.std.proofs.Common.{◌≡◌, ◌∷◌, ◌++◌, [], ap, arith, subst, sym, true, ◌∙◌}
use Rattle.std.proofs.lemmas.Result.{err_from_is_err_and}
use Rattle.milter_text.specs.LineCursor.{HasNoNext, LinesAhead}
use Rattle.milter_text.specs.WordValues.{begins}
use Rattle.milter_mail_file.specs.SessionFault.{of_line_fault}
use Rattle.milter_mail_file.proofs.LineRuns.{Run, begin_more, left_in_words, left_of_run, next_of_run, run_end}
use Rattle.milter_mail_file.proofs.line_group.read_group.Goals as goal

pub returns-in_err-line-clause-only : goal.returns-in_err-line-clause-only
returns-in_err-line-clause-only g c = λ prefix rest items order values can ends.
    let text = g.G.LineGroup.text in
    let value_of = g.G.LineGroup.value_of in
    let all = c.args.lines.now.lines in
    let read = c.loop-group.invariant.read in
    let run : Run text value_of all items rest = record { prefix = prefix; in_order = order; have_values = values; ends = ends } in
    let left = left_of_run text value_of all c.loop-group.lines.lines rest read.items items g.met.G.LineGroup.opens read.begun run in
    let p = err_from_is_err_and c.from_residual.result c.from_residual.ensures.1 in
    rw (p.1, p.2.2, p.2.1) (ap of_line_fault (c.in_err-line.ensures.only (left_in_words text value_of all c.loop-group.lines.lines rest read.items items run left)))

pub returns-in_err-add-clause-only : goal.returns-in_err-add-clause-only
returns-in_err-add-clause-only g c = λ prefix rest items order values can ends.
    let text = g.G.LineGroup.text in
    let value_of = g.G.LineGroup.value_of in
    let all = c.args.lines.now.lines in
    let read = c.loop-group.invariant.read in
    let words = c.in-Some.line.words.items in
    let found = rw c.in-Some.is at c.in_ok-line.ensures.found in
    let begun = subst (λ l. begins l words ≡ true) c.keyword.ensures.text found.1 in
    let run : Run text value_of all items rest = record { prefix = prefix; in_order = order; have_values = values; ends = ends } in
    let left = left_of_run text value_of all c.loop-group.lines.lines rest read.items items g.met.G.LineGroup.opens read.begun run in
    let next = next_of_run text value_of all rest read.items items c.loop-group.lines c.in-Some.line.number words c.next_if.new.self run left found.0 begun in
    let p = err_from_is_err_and c.from_residual-in_err-add.result c.from_residual-in_err-add.ensures.1 in
    rw (p.1, p.2) (c.in_err-add.ensures.only read.items next.more next.item read.made next.value (rw next.all_are at can))

pub loop-group-preserved : goal.loop-group-preserved
loop-group-preserved g c =
    let read = c.loop-group.invariant.read in
    let words = c.in-Some.line.words.items in
    let found = rw c.in-Some.is at c.in_ok-line.ensures.found in
    let added = c.in_ok-add.ensures.found read.items read.made in
    record {
      read = record {
        items = read.items ++ added.0 ∷ [];
        begun = begin_more g.G.LineGroup.value_of c.args.lines.now.lines read.items c.loop-group.lines c.in-Some.line.number words c.next_if.new.self added.0 read.begun found.0 added.1;
        made = added.2;
      };
      end = omega (arith, c.next_if.ensures.end, c.loop-group.invariant.end);
    }

pub returns-clause-only : goal.returns-clause-only
returns-clause-only g c = λ prefix rest items order values can ends.
    let text = g.G.LineGroup.text in
    let value_of = g.G.LineGroup.value_of in
    let all = c.args.lines.now.lines in
    let read = c.loop-group.invariant.read in
    let found = rw c.in_default.is at c.in_ok-line.ensures.found in
    let none = subst (λ l. HasNoNext l c.loop-group.lines.lines) c.keyword.ensures.text found.0 in
    let run : Run text value_of all items rest = record { prefix = prefix; in_order = order; have_values = values; ends = ends } in
    let left = left_of_run text value_of all c.loop-group.lines.lines rest read.items items g.met.G.LineGroup.opens read.begun run in
    let end = run_end text value_of c.loop-group.lines.lines rest read.items items g.met.G.LineGroup.opens left none in
    (subst (g.G.LineGroup.IsMadeOf c.loop-group.group) (sym end.all_are) read.made, ap (λ (l : LinesAhead). l.lines) found.1 ∙ end.lines_are)
