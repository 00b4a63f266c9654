use Rattle.std.proofs.Common.{◌∙◌}
use Rattle.std.proofs.lemmas.Result.{err_from_is_err_and}
use Rattle.milter_mail.specs.WeightParts.{IsOverhead}
use Rattle.milter_mail_file.proofs.SessionParts.{HasParts, parts_sendable, same_session}
use Rattle.milter_mail.proofs.MailLaws.{all_sendable}
use Rattle.milter_mail_file.proofs.session_file.with_messages.Goals as goal

pub returns-in_err-messages-clause-only : goal.returns-in_err-messages-clause-only
returns-in_err-messages-clause-only c = λ s e1 e2 e3 parse session.
    let overhead = c.unwrap-overhead.result in
    let measured : IsOverhead c.args.client c.args.helo c.args.macros overhead = rw c.unwrap-overhead.ensures at c.new.ensures.overhead in
    let parts : HasParts c.args.client c.args.helo c.args.macros s = record { client_is = e1; helo_is = e2; macros_are = e3 } in
    let sendable = parts_sendable c.args.client c.args.helo c.args.macros overhead s measured parts session in
    let p = err_from_is_err_and c.from_residual.result c.from_residual.ensures.1 in
    rw (p.1, p.2) (c.in_err-messages.ensures.only s.messages parse sendable)

pub from_parts-requires : goal.from_parts-requires
from_parts-requires c =
    let overhead = c.unwrap-overhead.result in
    let measured : IsOverhead c.args.client c.args.helo c.args.macros overhead = rw c.unwrap-overhead.ensures at c.new.ensures.overhead in
    record {
      client_fits = c.requires.client;
      helo_fits = c.requires.helo;
      macros_fit = c.requires.macros;
      are_sendable = all_sendable c.args.client c.args.helo c.args.macros overhead c.in_ok-messages.messages.items measured c.in_ok-messages.ensures.found.1;
    }

pub returns-clause-only : goal.returns-clause-only
returns-clause-only c = λ s e1 e2 e3 parse session.
    let overhead = c.unwrap-overhead.result in
    let measured : IsOverhead c.args.client c.args.helo c.args.macros overhead = rw c.unwrap-overhead.ensures at c.new.ensures.overhead in
    let parts : HasParts c.args.client c.args.helo c.args.macros s = record { client_is = e1; helo_is = e2; macros_are = e3 } in
    let sendable = parts_sendable c.args.client c.args.helo c.args.macros overhead s measured parts session in
    c.from_parts.ensures ∙ same_session c.args.client c.args.helo c.args.macros c.in_ok-messages.messages.items s parts (c.in_ok-messages.ensures.only s.messages parse sendable)
