use Rattle.std.proofs.Common.{drop, subst, sym}
use Rattle.std.proofs.lemmas.List.{drop_all}
use Rattle.std.proofs.lemmas.Result.{err_from_is_err_and}
use Rattle.milter_filter_rules.specs.ListedValues.{sources_of}
use Rattle.milter_rules.specs.ListFiles.{AreRead}
use Rattle.milter_rules.proofs.ReadLists.{can_read_item, can_read_more, read_all, read_more}
use Rattle.milter_rules.proofs.list_file.read_list_files.Goals as goal

pub returns-in_err-read_list-clause-only : goal.returns-in_err-read_list-clause-only
returns-in_err-read_list-clause-only c = λ can.
    let p = err_from_is_err_and c.from_residual.result c.from_residual.ensures.1 in
    rw (p.1, p.2)
    (c.in_err-read_list.ensures.only
    (can_read_item c.args.files.now c.args.lists.now c.loop-index.index c.index-lists-index.result c.loop-index-test.true
    c.index-lists-index.is c.loop-index.invariant.only can))

pub loop-index-preserved : goal.loop-index-preserved
loop-index-preserved c =
    let files = c.args.files.now in
    let all = c.args.lists.now in
    let i = c.loop-index.index in
    let item = c.index-lists-index.result in
    record {
      found = read_more files all c.loop-index.read.items c.push.new.self.items i item c.in_ok-read_list.field-0
          c.loop-index-test.true c.index-lists-index.is c.in_ok-read_list.ensures.found c.in_ok-push.ensures.items
          c.loop-index.invariant.found;
      only = can_read_more files all i item c.loop-index-test.true c.index-lists-index.is c.loop-index.invariant.only;
    }

pub returns-clause-found : goal.returns-clause-found
returns-clause-found c =
    let files = c.args.files.now in
    let all = c.args.lists.now in
    let i = c.loop-index.index in
    let read = read_all files all (drop i all) c.loop-index.read.items (drop_all i all c.loop-index-test.false) c.loop-index.invariant.found in
    subst (λ lists. AreRead files (sources_of all) lists) (sym c.new.ensures) read
