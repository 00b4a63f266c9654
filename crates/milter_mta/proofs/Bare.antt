-- Lines beside those of a message: the offer, an abort, and the end of the connection.
use Rattle.std.proofs.Common.{◌≡◌, ◌≢◌, ℕ, true, List, ◌++◌, [], ◌∷◌, Ok, Result, refl, sym, ap, ◌∙◌}
use Rattle.milter_wire.specs.declared.negotiation.Negotiated.{Negotiated}
use Rattle.milter_wire.specs.declared.command.Command.{Command}
use Rattle.milter_wire.specs.declared.command.Command.TheVariants as commands
use Rattle.milter_wire.specs.Command as sent_to
use Rattle.milter_wire.specs.Reply.{Fits, encoding}
use Rattle.milter_message.specs.MailObject.{MailObject}
use Rattle.milter_mail.specs.Plan.{plan}
use Rattle.milter_protocol.specs.Replies.{options_reply}
use Rattle.milter_mta_outcome.specs.declared.loss.MtaFault.{MtaFault}
use Rattle.milter_mta_outcome.specs.ReceivedReplies.{options_received}
use Rattle.milter_mta.specs.Mta.{FilterConnection, Mta, Position, at_packet, connection_at}
use Rattle.milter_mta.specs.Mta.Position.{Ended, Offering, Quitting, Sending}
use Rattle.milter_mta.specs.Replies.{After, negotiated_on, at, goes_on, received, opening_position}
use Rattle.milter_mta.specs.Lines.{Plays, abort_line, after_line, offer_line, quit_line, sent_whole}
use Rattle.milter_mta.specs.Dialogues.{at_dialogue}
use Rattle.milter_mta.proofs.Answers.{ReceivesReplies, owed_at}
use Rattle.milter_mta.proofs.Exchanges.{all_sent, some_bytes}
use Rattle.milter_mta.proofs.PartAnswers.{KeepsPrefixes}
use Rattle.milter_mta.proofs.Refusals.{keep_all}

pub aborted : (m : Mta) (position : Position) → Plays (at (connection_at true position) m) (abort_line ∷ []) (at (at_packet position) m)
aborted m position =
    let sends = all_sent (sent_to.encoding commands.Abort) (record (connection_at true position) { pending = sent_to.encoding commands.Abort }) (some_bytes commands.Abort) in
    let goes = ap (λ (l : FilterConnection). goes_on (at l m)) sends in
    (refl, ap (λ (a : After). a.loss) goes, ap (λ (a : After). a.mta) goes)

-- of the reply to the offer fewer bytes than all are kept
pub offer-part : KeepsPrefixes → (m : Mta) (negotiated : Negotiated) (bytes more : List ℕ) → Fits (options_reply negotiated) → more ≢ [] → bytes ++ more ≡ encoding (options_reply negotiated)
    → after_line bytes (at (at_packet Offering) m) ≡ goes_on (at (record (at_packet Offering) { owed = true; unread = bytes }) m)
offer-part keeps m negotiated bytes more fits remains e =
    let offer = commands.Options m.config.offer in
    let sends : sent_whole (at (at_packet Offering) m) ≡ owed_at Offering m =
    ap (λ (l : FilterConnection). at l m) (all_sent (sent_to.encoding offer) (record (at_packet Offering) { pending = sent_to.encoding offer }) (some_bytes offer)) in
    ap (λ (n : Mta). received n bytes) sends
    ∙ keeps m (record (at_packet Offering) { owed = true }) (options_reply negotiated) bytes more refl refl fits remains e

pub quitted : (m : Mta) → Plays (at (at_packet Quitting) m) (quit_line ∷ []) (at (at_packet Ended) m)
quitted m =
    let sends = all_sent (sent_to.encoding commands.Quit) (record (at_packet Quitting) { pending = sent_to.encoding commands.Quit }) (some_bytes commands.Quit) in
    let goes = ap (λ (l : FilterConnection). goes_on (at l m)) sends in
    (refl, ap (λ (a : After). a.loss) goes, ap (λ (a : After). a.mta) goes)

pub offered : ReceivesReplies → (m : Mta) (negotiated : Negotiated) (message : MailObject) (messages : List MailObject) → m.session.messages ≡ message ∷ messages
    → Fits (options_reply negotiated) → options_received m.config.offer (options_reply negotiated) ≡ Ok negotiated
    → Plays (at (at_packet Offering) m) (offer_line m.config.offer negotiated ∷ []) (at_dialogue negotiated [] (plan negotiated m.session message) m)
offered receives_bytes m negotiated message messages e fits is =
    let offer = commands.Options m.config.offer in
    let some : m.session.messages ≢ [] = λ none. let no : message ∷ messages ≡ [] = sym e ∙ none in absurd cc in
    let sends : sent_whole (at (at_packet Offering) m) ≡ owed_at Offering m =
    ap (λ (l : FilterConnection). at l m) (all_sent (sent_to.encoding offer) (record (at_packet Offering) { pending = sent_to.encoding offer }) (some_bytes offer)) in
    let goes : after_line (encoding (options_reply negotiated)) (at (at_packet Offering) m) ≡ goes_on (at_dialogue negotiated [] (plan negotiated m.session message) m) =
    ap (λ (n : Mta). received n (encoding (options_reply negotiated))) sends
    ∙ receives_bytes m (record (at_packet Offering) { owed = true }) (options_reply negotiated) refl refl some fits
    ∙ ap (λ (r : Result Negotiated MtaFault). negotiated_on r (owed_at Offering m)) is
    ∙ ap (λ (ms : List MailObject). goes_on (at (at_packet (opening_position negotiated m.session ms)) m)) e
    ∙ ap (λ (l : List Command). goes_on (at (at_packet (Sending negotiated [] [] l)) m)) (sym (keep_all (plan negotiated m.session message))) in
    (refl, ap (λ (a : After). a.loss) goes, ap (λ (a : After). a.mta) goes)
