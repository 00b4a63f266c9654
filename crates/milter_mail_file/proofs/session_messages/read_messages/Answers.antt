use Rattle.std.proofs.Common.{arith}
use Rattle.std.proofs.lemmas.Result.{err_from_is_err_and}
use Rattle.milter_mail.specs.WeightParts.{IsSendableWith}
use Rattle.milter_mail_file.proofs.MessageRuns.{messages_all, messages_more, messages_only, next_message}
use Rattle.milter_mail_file.proofs.session_messages.read_messages.Goals as goal

pub returns-in_err-read_message-clause-only : goal.returns-in_err-read_message-clause-only
returns-in_err-read_message-clause-only c = λ messages parse fit.
    let left = c.loop-alloc.lines.lines in
    let some = c.is_at_end.ensures.some c.loop-alloc-test.true in
    let o = c.loop-alloc.invariant.read.only messages parse fit in
    let n = next_message (IsSendableWith c.args.overhead.now) left o.0 some o.2 o.3 in
    let p = err_from_is_err_and c.from_residual.result c.from_residual.ensures.1 in
    rw (p.1, p.2) (c.in_err-read_message.ensures.only n.prefix n.rest n.m n.in_order n.parses n.sendable)

pub loop-alloc-preserved : goal.loop-alloc-preserved
loop-alloc-preserved c =
    let left = c.loop-alloc.lines.lines in
    let some = c.is_at_end.ensures.some c.loop-alloc-test.true in
    let found = c.in_ok-read_message.ensures.found in
    rw c.in_ok-push.ensures.items
    record {
      read = messages_more (IsSendableWith c.args.overhead.now) c.args.lines.now.lines c.loop-alloc.messages.items left c.in_ok-read_message.field-0 c.read_message.new.lines.lines
          c.loop-alloc.invariant.read some found.0 found.1 c.in_ok-read_message.ensures.only;
      end = omega (arith, c.read_message.ensures.end, c.loop-alloc.invariant.end);
    }

pub returns-clause-found : goal.returns-clause-found
returns-clause-found c =
    let none = c.is_at_end.ensures.none c.loop-alloc-test.false in
    let read = c.loop-alloc.invariant.read in
    (messages_all (IsSendableWith c.args.overhead.now) c.args.lines.now.lines c.loop-alloc.messages.items c.loop-alloc.lines.lines read none, read.sendable)

pub returns-clause-only : goal.returns-clause-only
returns-clause-only c = λ messages parse fit.
    let none = c.is_at_end.ensures.none c.loop-alloc-test.false in
    messages_only (IsSendableWith c.args.overhead.now) c.args.lines.now.lines c.loop-alloc.messages.items c.loop-alloc.lines.lines messages c.loop-alloc.invariant.read none parse fit
