use Rattle.milter_mail.proofs.Weights.{all_sendable_with, all_sendable}
use Rattle.milter_mail.proofs.weight.is_session.Goals as goal

pub returns : goal.returns
returns c =
    let measured = c.in-Some.ensures.overhead in
    let client = c.args.client.now in
    let helo = c.args.helo.now in
    let macros = c.args.macros.now in
    let messages = c.args.messages.now in (
      λ sendable. record {
        client_fits = c.in-Some.ensures.fits.0;
        helo_fits = c.in-Some.ensures.fits.1;
        macros_fit = c.in-Some.ensures.fits.2;
        are_sendable = all_sendable client helo macros c.in-Some.overhead messages measured (c.are_sendable.ensures.0 sendable);
      },
      λ session. c.are_sendable.ensures.1 (all_sendable_with client helo macros c.in-Some.overhead messages measured session.are_sendable),
    )
