use Rattle.std.proofs.lemmas.Result.{err_from_is_err_and}
use Rattle.milter_mail.specs.WeightParts.{IsSendableWith}
use Rattle.milter_mail_file.proofs.MessageRuns.{admitted, admitted_only, message_of_parts, parts_of_message}
use Rattle.milter_mail_file.proofs.session_messages.read_message.Goals as goal

pub returns-in_err-message-clause-only : goal.returns-in_err-message-clause-only
returns-in_err-message-clause-only c = λ prefix rest m order parses sendable.
    let parts = parts_of_message c.args.lines.now.lines prefix rest m order parses in
    let p = err_from_is_err_and c.from_residual.result c.from_residual.ensures.1 in
    rw (p.1, p.2) (c.in_err-message.ensures.only m parses.last rest parts parses.last_is sendable.whole sendable.whole_fields)

pub returns-in_err-number-clause-only : goal.returns-in_err-number-clause-only
returns-in_err-number-clause-only c = λ prefix rest m order parses sendable.
    let parts = parts_of_message c.args.lines.now.lines prefix rest m order parses in
    let read = c.in_ok-message.ensures.only m parses.last rest parts parses.last_is sendable.whole sendable.whole_fields in
    let p = err_from_is_err_and c.from_residual-in_err-number.result c.from_residual-in_err-number.ensures.1 in
    rw (p.1, p.2) (c.in_err-number.ensures.only parses.last rest read.1 parses.last_is)

pub returns-clause-found : goal.returns-clause-found
returns-clause-found c =
    let all = c.args.lines.now.lines in
    let rest = c.read_keyword.new.lines.lines in
    let message = c.in_ok-message.message in
    let last = c.in_ok-number.ensures.found in
    let begun = message_of_parts all c.read_parts.new.lines.lines rest last.0 message c.in_ok-message.ensures.found last.1 last.2 in
    admitted (IsSendableWith c.args.overhead.now) all rest message c.admit.result begun c.admit.ensures.found

pub returns-clause-only : goal.returns-clause-only
returns-clause-only c = λ prefix rest m order parses sendable.
    let parts = parts_of_message c.args.lines.now.lines prefix rest m order parses in
    let read = c.in_ok-message.ensures.only m parses.last rest parts parses.last_is sendable.whole sendable.whole_fields in
    let left = c.in_ok-number.ensures.only parses.last rest read.1 parses.last_is in
    admitted_only (IsSendableWith c.args.overhead.now) c.read_keyword.new.lines.lines rest c.in_ok-message.message m c.admit.result read.0 left sendable c.admit.ensures.found c.admit.ensures.only
