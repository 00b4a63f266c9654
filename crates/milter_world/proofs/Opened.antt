-- A mail server's end follows the list of entries from the moment that a connection is made.
use Rattle.std.proofs.Common.{true, ◌≡◌, ◌≢◌, ℕ, List, [], ◌∷◌, ◌++◌, Option, None, Ok, refl, sym, ◌∙◌, ap, subst, append-nil}
use Rattle.milter_wire.specs.declared.negotiation.Negotiated.{Negotiated}
use Rattle.milter_wire.specs.declared.command.Command.{Command}
use Rattle.milter_wire.specs.declared.command.Command.TheVariants as commands
use Rattle.milter_wire.specs.Negotiation.{negotiate}
use Rattle.milter_wire.specs.Command as sent_to
use Rattle.milter_wire.specs.Reply.{Fits, encoding}
use Rattle.milter_message.specs.MailObject.{MailObject}
use Rattle.milter_mail.specs.MailSession.{MailSession}
use Rattle.milter_mail.specs.Plan.{plan}
use Rattle.milter_protocol.specs.Behavior.{Behavior}
use Rattle.milter_protocol.specs.Replies.{options_reply}
use Rattle.milter_mta_outcome.specs.declared.loss.By.TheVariants.{Default}
use Rattle.milter_mta_outcome.specs.declared.loss.Loss.{Loss}
use Rattle.milter_mta_outcome.specs.ReceivedReplies.{options_received}
use Rattle.milter_mta_outcome.specs.Dialogues.{given_up}
use Rattle.milter_mta.specs.Mta.{Configuration, FilterConnection, Mta, at_packet}
use Rattle.milter_mta.specs.Mta.Position.{Offering}
use Rattle.milter_mta.specs.Replies.{After, at, goes_on}
use Rattle.milter_mta.specs.Output.{dialled}
use Rattle.milter_mta.specs.Dispositions.{acted_at, defaulted, lost, report}
use Rattle.milter_mta.specs.Lines.{Plays, after_line, offer_line}
use Rattle.milter_mta.specs.Order.{IsDialogue}
use Rattle.milter_mta.specs.Dialogues.{at_dialogue}
use Rattle.milter_world.specs.ConnectionEntries.{entries_from, connection_entries}
use Rattle.milter_world.proofs.EntryLines.{some_bytes}
use Rattle.milter_world.specs.FollowedLines.{Follows, IsWaiting}
use Rattle.milter_world.proofs.DialogueFollowed.{DialogueLaws, each}

-- what the laws say of the offer
pub record OfferLaws (b : Behavior) (config : Configuration) (negotiated : Negotiated) : Type 0 where
  pub fits : Fits (options_reply negotiated)
  pub received_is : options_received config.offer (options_reply negotiated) ≡ Ok negotiated
  pub dialogue_so_far : (s : MailSession) (message : MailObject) → IsDialogue negotiated [] (plan negotiated s message)
  pub dialled_is : (m : Mta) (message : MailObject) (messages : List MailObject) → m.filter_connection ≡ None → m.session.messages ≡ message ∷ messages → dialled m ≡ at (at_packet Offering) m
  pub opened : (m : Mta) (message : MailObject) (messages : List MailObject) → m.session.messages ≡ message ∷ messages → Fits (options_reply negotiated)
      → options_received m.config.offer (options_reply negotiated) ≡ Ok negotiated
      → Plays (at (at_packet Offering) m) (offer_line m.config.offer negotiated ∷ []) (at_dialogue negotiated [] (plan negotiated m.session message) m)
  pub part : (m : Mta) (bytes more : List ℕ) → Fits (options_reply negotiated) → more ≢ [] → bytes ++ more ≡ encoding (options_reply negotiated)
      → after_line bytes (at (at_packet Offering) m) ≡ goes_on (at (record (at_packet Offering) { owed = true; unread = bytes }) m)
  pub losses : (m : Mta) (filter_connection other : FilterConnection) (loss : Loss) → acted_at filter_connection.position ≡ acted_at other.position → lost loss (at filter_connection m) ≡ lost loss (at other m)

module _ (b : Behavior) (s : MailSession) (config : Configuration) (laws : DialogueLaws b (negotiate config.offer b.wants b.lists))
    (offers : OfferLaws b config (negotiate config.offer b.wants b.lists)) where
  abbrev g : Negotiated
  g = negotiate config.offer b.wants b.lists

  module _ (m : Mta) (message : MailObject) (messages : List MailObject) (unconnected : m.filter_connection ≡ None) (c : m.config ≡ config)
      (e : m.session ≡ record s { messages = message ∷ messages }) where
    left-is : m.session.messages ≡ message ∷ messages
    left-is = ap (λ (z : MailSession). z.messages) e

    dialled-is : dialled m ≡ at (at_packet Offering) m
    dialled-is = offers.dialled_is m message messages unconnected left-is

    offer-is : commands.Options m.config.offer ≡ commands.Options config.offer
    offer-is = ap (λ (k : Configuration). commands.Options k.offer) c

    waits-in : (bytes more : List ℕ) → more ≢ [] → bytes ++ more ≡ encoding (options_reply g) → IsWaiting (at (at_packet Offering) m) (after_line bytes (at (at_packet Offering) m))
    waits-in bytes more some is =
        subst (IsWaiting (at (at_packet Offering) m))
        (sym (offers.part m bytes more offers.fits some is))
        (record {
          goes_on = refl;
          waits = refl;
          reports = refl;
          settles = λ loss. offers.losses m (record (at_packet Offering) { owed = true; unread = bytes }) (at_packet Offering) loss refl;
        })

    abbrev opened_at : Mta
    opened_at = at_dialogue g [] (plan g m.session message) m

    opens : after_line (encoding (options_reply g)) (at (at_packet Offering) m) ≡ goes_on opened_at
    opens =
        let received_here : options_received m.config.offer (options_reply g) ≡ Ok g = ap (λ (k : Configuration). options_received k.offer (options_reply g)) c ∙ offers.received_is in
        let p = offers.opened m message messages left-is offers.fits received_here in
        goes-on-as (after_line (encoding (options_reply g)) (at (at_packet Offering) m)) opened_at p.1 p.2
      where
        goes-on-as : (a : After) (n : Mta) → a.loss ≡ None → a.mta ≡ n → a ≡ goes_on n
        goes-on-as a n x y = ap (λ (l : Option Loss). record { mta = a.mta; loss = l }) x ∙ ap goes_on y

    pub opened-follows : Follows config.on_loss (dialled m) (connection_entries b config.offer s (message ∷ messages))
    opened-follows =
        subst (λ (n : Mta). Follows config.on_loss n (connection_entries b config.offer s (message ∷ messages))) (sym dialled-is) (
          record {
            sends = record {
              wanted = refl;
              none_pending = refl;
              packet = ap sent_to.encoding offer-is;
              some = some_bytes (commands.Options config.offer);
              part = waits-in;
              whole = ap (λ (a : After). a.loss) opens;
            };
            settles = ap (λ (a : After). a.mta.reports) opens ∙ sym (append-nil m.reports);
            gives_up = λ loss.
                ap (λ (l : List MailObject). (record (defaulted loss [] l (at (at_packet Offering) m)) { filter_connection = None }).reports) left-is
                ∙ ap (λ (k : Configuration). m.reports ++ report [] (given_up k.on_loss message []) (Default loss) ∷ []) c;
          },
          subst (λ (a : After). Follows config.on_loss a.mta (entries_from b g s message messages [] (plan g s message))) (sym opens)
              (subst (λ (l : List Command). Follows config.on_loss (at_dialogue g [] l m) (entries_from b g s message messages [] (plan g s message)))
              (ap (λ (z : MailSession). plan g z message) (sym e))
              (each config.on_loss b g laws s config refl messages message [] (plan g s message) m e c (offers.dialogue_so_far s message))),
        )
