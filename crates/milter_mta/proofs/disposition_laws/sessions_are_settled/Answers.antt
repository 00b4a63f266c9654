use Rattle.std.proofs.Common.{List, [], ◌∷◌, Some, ap, map, refl, sym, ◌++◌, ◌∙◌}
use Rattle.milter_wire.specs.declared.negotiation.Negotiated.{Negotiated}
use Rattle.milter_wire.specs.Negotiation.{negotiate}
use Rattle.milter_message.specs.MailObject.{MailObject}
use Rattle.milter_mail.specs.Plan.{plan}
use Rattle.milter_mta.specs.Mta.{at_packet}
use Rattle.milter_mta.specs.Mta.Position.{Offering}
use Rattle.milter_mta.specs.Replies.{at}
use Rattle.milter_mta.specs.Lines.{offer_line}
use Rattle.milter_mta.specs.Sessions.{connection_after, lines_from, reports_by}
use Rattle.milter_mta.specs.Dialogues.{at_dialogue}
use Rattle.milter_mta_outcome.proofs.NegotiatedOptions.{negotiated-fits, negotiated-received}
use Rattle.milter_mta.proofs.Answers.{ReceivesReplies}
use Rattle.milter_mta.proofs.Bare.{offered}
use Rattle.milter_mta.proofs.Ordered.{plan-ends, plan-ordered}
use Rattle.milter_mta.proofs.SettledSessions.{each, plays-append}
use Rattle.milter_mta.proofs.disposition_laws.sessions_are_settled.Goals as goal

pub returns : goal.returns
returns c b m message messages lawful from to e =
    let receives_bytes : ReceivesReplies = λ m filter_connection reply owed unread some fits. c.replies_are_received.ensures m filter_connection reply owed unread some fits in
    let negotiated : Negotiated = negotiate m.config.offer b.wants b.lists in
    let opens = offered receives_bytes m negotiated message messages e (negotiated-fits m.config.offer b lawful.wants from to) (negotiated-received m.config.offer b lawful.wants from to) in
    let is = each receives_bytes b lawful negotiated m.session messages message []
    (plan negotiated m.session message) m (ap (λ (ms : List MailObject). record m.session { messages = ms }) e)
    (record { proper = tt; in_order = plan-ordered negotiated m.session message; ends = plan-ends negotiated m.session message }) refl in
    record {
      new = is.new;
      plays = plays-append (offer_line m.config.offer negotiated ∷ []) (lines_from b negotiated m.session messages [] (plan negotiated m.session message))
          (at (at_packet Offering) m) (at_dialogue negotiated [] (plan negotiated m.session message) m) is.new opens is.plays;
      ended = is.ended;
      reports = is.reports ∙ ap (λ (ms : List MailObject). map Some m.reports ++ reports_by b negotiated m.session ms) (sym e);
      connection = is.connection ∙ ap (λ (ms : List MailObject). connection_after b negotiated m.session ms m.connection) (sym e);
    }
