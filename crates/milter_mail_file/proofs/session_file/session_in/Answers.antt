use Rattle.std.proofs.Common.{◌∙◌, ◌∷◌, ◌++◌, subst, sym}
use Rattle.std.proofs.lemmas.Result.{err_from_is_err_and}
use Rattle.milter_mail.specs.MailSession.{MacrosFit}
use Rattle.milter_mail_file.specs.SessionFile.{ParsesAsMessageList}
use Rattle.milter_mail_file.proofs.SessionParts.{OpeningLines, no_macros, session_found}
use Rattle.milter_mail_file.proofs.session_file.session_in.Goals as goal

pub returns-in_err-client-clause-only : goal.returns-in_err-client-clause-only
returns-in_err-client-clause-only c = λ s parses session.
    let p = err_from_is_err_and c.from_residual.result c.from_residual.ensures.1 in
    rw (p.1, p.2) (c.in_err-client.ensures.only parses.client (parses.helo ∷ (parses.macros ++ parses.messages)) s.client parses.in_order parses.client_is session.client_fits)

pub returns-in_err-helo-clause-only : goal.returns-in_err-helo-clause-only
returns-in_err-helo-clause-only c = λ s parses session.
    let rest = parses.macros ++ parses.messages in
    let client = c.in_ok-client.ensures.only parses.client (parses.helo ∷ rest) s.client parses.in_order parses.client_is session.client_fits in
    let p = err_from_is_err_and c.from_residual-in_err-helo.result c.from_residual-in_err-helo.ensures.1 in
    rw (p.1, p.2) (c.in_err-helo.ensures.only parses.helo rest s.helo client.1 parses.helo_is session.helo_fits)

pub returns-in_err-lists-clause-only : goal.returns-in_err-lists-clause-only
returns-in_err-lists-clause-only c = λ s parses session.
    let rest = parses.macros ++ parses.messages in
    let client = c.in_ok-client.ensures.only parses.client (parses.helo ∷ rest) s.client parses.in_order parses.client_is session.client_fits in
    let helo = c.in_ok-helo.ensures.only parses.helo rest s.helo client.1 parses.helo_is session.helo_fits in
    let fit = subst MacrosFit parses.macros_are session.macros_fit in
    let ends = no_macros parses.messages s.messages parses.messages_are in
    let p = err_from_is_err_and c.from_residual-in_err-lists.result c.from_residual-in_err-lists.ensures.1 in
    rw (p.1, p.2) (c.in_err-lists.ensures.only parses.macros parses.messages parses.macro_lines helo.1 parses.macros_have_values fit ends)

pub returns-clause-found : goal.returns-clause-found
returns-clause-found c =
    let all = c.args.lines.now.lines in
    let rest = c.read_group.new.lines.lines in
    let client = c.in_ok-client.ensures.found in
    let helo = c.in_ok-helo.ensures.found in
    let lists = c.in_ok-lists.ensures.found in
    let opening : OpeningLines all c.in_ok-client.client c.in_ok-helo.helo c.into_macros.result rest = record {
      client_line = client.0;
      helo_line = helo.0;
      after_client = c.read_client.new.lines.lines;
      after_helo = c.read_helo.new.lines.lines;
      first = client.1;
      client_is = client.2;
      second = helo.1;
      helo_is = helo.2;
      macro_lines = lists.0;
      begun = lists.1;
      macros_are = c.into_macros.ensures.macros ∙ lists.2;
    } in
    session_found all rest c.in_ok-client.client c.in_ok-helo.helo c.into_macros.result c.with_messages.result opening c.with_messages.ensures.found

pub returns-clause-only : goal.returns-clause-only
returns-clause-only c = λ s parses session.
    let rest = parses.macros ++ parses.messages in
    let client = c.in_ok-client.ensures.only parses.client (parses.helo ∷ rest) s.client parses.in_order parses.client_is session.client_fits in
    let helo = c.in_ok-helo.ensures.only parses.helo rest s.helo client.1 parses.helo_is session.helo_fits in
    let fit = subst MacrosFit parses.macros_are session.macros_fit in
    let ends = no_macros parses.messages s.messages parses.messages_are in
    let lists = c.in_ok-lists.ensures.only parses.macros parses.messages parses.macro_lines helo.1 parses.macros_have_values fit ends in
    let macros = parses.macros_are ∙ sym lists.0 ∙ sym c.into_macros.ensures.macros in
    let messages = subst (λ l. ParsesAsMessageList l s.messages) (sym lists.1) parses.messages_are in
    c.with_messages.ensures.only s (sym client.0) (sym helo.0) macros messages session
