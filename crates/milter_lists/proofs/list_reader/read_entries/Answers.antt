use Rattle.std.proofs.Common.{arith, rules}
use Rattle.milter_lists.proofs.FileReads.{IsWhole, all_read, more_read, stopped}
use Rattle.milter_lists.proofs.list_reader.read_entries.Goals as goal
use Rattle.milter_lists.proofs.list_reader.read_entries.Goals.{In_default}

pub returns-in_err-push_entry-clause-fault : goal.returns-in_err-push_entry-clause-fault
returns-in_err-push_entry-clause-fault c =
    let fault =
    stopped c.args.kind c.args.bytes.now c.loop-next.rest.now c.in-Some.next.rest.now c.in-Some.next.entry.now
    c.loop-next.before c.in-Some.next.line c.loop-next.builder c.in_err-push_entry.field-0.0 c.loop-next.invariant.read
    c.in-Some.ensures.found c.in_err-push_entry.ensures.fault in
    search (rules, fault)

pub loop-next-preserved : goal.loop-next-preserved
loop-next-preserved c =
    let counted = c.in-Some.ensures.counted in
    let before = c.loop-next.invariant.counted in
    record {
      read = more_read c.args.kind c.args.bytes.now c.loop-next.rest.now c.in-Some.next.rest.now c.in-Some.next.entry.now
          c.loop-next.before c.in-Some.next.line c.loop-next.builder c.push_entry.new.builder c.loop-next.invariant.read
          c.in-Some.ensures.found c.in_ok-push_entry.ensures.good c.in_ok-push_entry.ensures.ok
          c.in_ok-push_entry.ensures.within;
      counted = omega (arith, counted, before);
    }

whole : (c : In_default) → IsWhole c.args.kind c.args.bytes.now c.loop-next.builder
whole c =
    all_read c.args.kind c.args.bytes.now c.loop-next.rest.now c.loop-next.before c.loop-next.builder
    c.loop-next.invariant.read c.in_default.ensures.found

pub returns-clause-entries : goal.returns-clause-entries
returns-clause-entries c = (whole c).is

pub returns-clause-good : goal.returns-clause-good
returns-clause-good c = (whole c).good

pub returns-clause-small : goal.returns-clause-small
returns-clause-small c = (whole c).small
