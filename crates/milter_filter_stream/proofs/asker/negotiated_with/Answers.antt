use Rattle.std.proofs.Common.{◌∙◌, ap, sym, subst}
use Rattle.milter_wire.specs.declared.negotiation.Negotiated.{Negotiated}
use Rattle.milter_wire.specs.Negotiation.{negotiate}
use Rattle.milter_wire.specs.Reply.{Fits}
use Rattle.milter_protocol.specs.Replies.{options_reply}
use Rattle.milter_filter_stream.proofs.NegotiatedOptions.{negotiated_fits}
use Rattle.milter_filter_stream.proofs.asker.negotiated_with.Goals as goal

pub returns-clause-fits : goal.returns-clause-fits
returns-clause-fits c =
    let w = c.args.wants.now in
    let offer = c.args.offer in
    let fits = negotiated_fits offer w.options w.lists c.requires c.options.ensures.within.reply in
    let is = c.negotiate.ensures ∙ ap (λ o. negotiate offer o c.in_ok-lists.lists) c.options.ensures.options ∙ ap (negotiate offer w.options) (c.in_ok-lists.ensures ∙ c.lists.ensures) in
    subst (λ (n : Negotiated). Fits (options_reply n)) (sym is) fits
