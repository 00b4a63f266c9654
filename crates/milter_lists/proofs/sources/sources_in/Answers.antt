use Rattle.std.proofs.Common.{ap, arith, ◌∙◌}
use Rattle.std.proofs.lemmas.Result.{err_from_is_err_and}
use Rattle.milter_lists.specs.SourceFault.{of_line_fault}
use Rattle.milter_lists.proofs.SourceLines.{GivesAll, found_more, left_in_words, next_gives, only_end, only_more}
use Rattle.milter_lists.proofs.sources.sources_in.Goals as goal

pub returns-in_err-line-clause-only : goal.returns-in_err-line-clause-only
returns-in_err-line-clause-only c = λ sources rest has in_words no_more.
    let l = c.loop-sources in
    let all = c.args.lines.now.lines in
    let gives : GivesAll all sources rest = record { has = has; in_words = in_words; no_more = no_more } in
    let p = err_from_is_err_and c.from_residual.result c.from_residual.ensures.1 in
    let in_words = left_in_words all l.lines.lines l.sources l.invariant.only sources rest gives in
    rw (p.1, p.2.2, p.2.1) (ap of_line_fault (c.in_err-line.ensures.only in_words))

pub returns-in_err-push_source-clause-only : goal.returns-in_err-push_source-clause-only
returns-in_err-push_source-clause-only c = λ sources rest has in_words no_more.
    let l = c.loop-sources in
    let all = c.args.lines.now.lines in
    let gives : GivesAll all sources rest = record { has = has; in_words = in_words; no_more = no_more } in
    let next = rw c.in-Some.is at c.in_ok-line.ensures.found in
    let n = next_gives all l.lines c.in-Some.line.number c.in-Some.line.words.items c.next_if.new.self l.sources
    l.invariant.only next.0 next.1 sources rest gives in
    let left = c.from_residual-in_err-push_source in
    let p = err_from_is_err_and left.result left.ensures.1 in
    rw (p.1, p.2) (c.in_err-push_source.ensures.only n.source n.gives n.may)

pub loop-sources-preserved : goal.loop-sources-preserved
loop-sources-preserved c =
    let l = c.loop-sources in
    let all = c.args.lines.now.lines in
    let next = rw c.in-Some.is at c.in_ok-line.ensures.found in
    let number = c.in-Some.line.number in
    let words = c.in-Some.line.words.items in
    let after = c.next_if.new.self in
    let new = c.push_source.new.sources in
    let added = c.in_ok-push_source.ensures.found in
    record {
      found = found_more all l.lines number words after l.sources new l.invariant.found next.0 added;
      only = only_more all l.lines number words after l.sources new l.invariant.only next.0 next.1 added;
      end = omega (arith, c.next_if.ensures.end, l.invariant.end);
    }

pub returns-clause-only : goal.returns-clause-only
returns-clause-only c = λ sources rest has in_words no_more.
    let l = c.loop-sources in
    let all = c.args.lines.now.lines in
    let gives : GivesAll all sources rest = record { has = has; in_words = in_words; no_more = no_more } in
    let none = rw c.in_default.is at c.in_ok-line.ensures.found in
    let end = only_end all l.lines.lines l.sources l.invariant.only none.0 sources rest gives in
    (end.same, ap (λ ahead. ahead.lines) none.1 ∙ end.rest_is)
