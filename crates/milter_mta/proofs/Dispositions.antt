-- What is settled from one time to another, by a loss or by the last answer of a dialogue.
use Rattle.std.specs.Prelude.{if◌then◌else◌}
use Rattle.std.proofs.Common.{◌≡◌, ◌≢◌, inl, inr, Bool, true, false, List, [], ◌∷◌, ◌++◌, drop, map, is_some, Option, None, Some, refl, sym, ap, ◌∙◌, subst, arith, append-nil, append_assoc}
use Rattle.std.specs.List.{AllZip}
use Rattle.std.proofs.lemmas.List.Elements.{All-nil}
use Rattle.std.proofs.lemmas.Bool.{true≢false}
use Rattle.milter_wire.specs.declared.negotiation.Negotiated.{Negotiated}
use Rattle.milter_wire.specs.declared.stage.Stage.{Stage}
use Rattle.milter_wire.specs.Negotiation.{has_leading_space}
use Rattle.milter_wire.specs.Stages.{stage_of}
use Rattle.milter_wire.specs.declared.command.Command.{Command}
use Rattle.milter_message.specs.MailObject.{MailObject}
use Rattle.milter_mail.specs.MailSession.{MailSession}
use Rattle.milter_mail.specs.Plan.{macros_of, plan}
use Rattle.milter_mail.specs.Steps.{message_steps}
use Rattle.milter_protocol.specs.declared.answer.Answer.{Answer}
use Rattle.milter_protocol.specs.Exchanges.{Exchange, commands_of}
use Rattle.milter_protocol.specs.declared.permitted.TheConstants.{VERSION_MIN}
use Rattle.milter_protocol.specs.Permitted.{is_permitted}
use Rattle.milter_protocol.specs.Dialogue.{IsEnded, IsOpen}
use Rattle.milter_protocol.proofs.Lists.{same-head}
use Rattle.milter_protocol.specs.Dialogue.{sendable}
use Rattle.milter_mta_outcome.specs.declared.acted_verdicts.Acted.{Acted}
use Rattle.milter_mta_outcome.specs.declared.loss.By.TheVariants.{Connection, Default, Filter}
use Rattle.milter_mta_outcome.specs.declared.loss.Loss.{Loss}
use Rattle.milter_mta_outcome.specs.declared.outcome.Outcome.{Outcome}
use Rattle.milter_mta_outcome.specs.declared.outcome.Report.{Report}
use Rattle.milter_mta_outcome.specs.ActedVerdicts.{kept}
use Rattle.milter_mta_outcome.specs.Outcomes.{fallback}
use Rattle.milter_mta_outcome.specs.Dialogues.{acted, ruled}
use Rattle.milter_mta_outcome.specs.ReceivedReplies.{IsWithinOffer}
use Rattle.milter_mta_outcome.specs.TransactionVerdicts as plan_stages
use Rattle.milter_mta.specs.Mta.{Configuration, FilterConnection, Mta, Position}
use Rattle.milter_mta.specs.Mta.Position.{Ended, Offering, Quitting, Sending}
use Rattle.milter_mta.specs.Dispositions.{acted_at, acted_in, default_report, defaulted, lost, report, settled_all, settled_in}
use Rattle.milter_mta.specs.AnyFilter.{without_messages, GoesOnDialogues, IsConnectionOnDialogue, IsOnDialogue, IsOptionOnDialogue, IsPositionOnDialogue, IsReportByDialogue, SettlesByDialogues, is_end_next}
use Rattle.milter_mta.specs.Order.{IsDialogueSoFar, MayEdit}
use Rattle.milter_mta.specs.Settled.{ends_with_client, next_connection}
use Rattle.milter_mta.specs.Dialogues.{opening_of, settled_at, settled_by}
use Rattle.milter_mta.proofs.Closed.{ended-client, opening-ended}
use Rattle.milter_mta.proofs.Openings.{opening-proper, opening-reaches}
use Rattle.milter_mta.proofs.Ordered.{message-ends, message-ordered, order-before}
use Rattle.milter_mta.proofs.Settled.{all-settled-dialogue, one-settled-dialogue, reported}
use Rattle.milter_mta.proofs.SettledSessions.{or_none, some-is}
use Rattle.milter_mta.specs.Beginnings.{IsSentOf}
use Rattle.milter_mta.proofs.SentParts.{sent-next-dialogue, sent-other-dialogue, sent-start}
use Rattle.milter_mta.proofs.LeftToSend.{kept-end, kept-order, sendable-twice}

pub not_owed : {A : Type 0} → false ≡ true → A
not_owed e = absurd (true≢false (sym e))

-- before any edit came
pub no-edits : (negotiated : Negotiated) (at_end : Bool) → MayEdit negotiated at_end []
no-edits negotiated at_end =
    record { only_at_end = λ other. refl; permitted = All-nil (λ edit. is_permitted negotiated edit ≡ true); weight = omega arith }

-- ---- what is settled from one time to another

pub nothing-settled : (old new : Mta) → new.session.messages ≡ old.session.messages → new.reports ≡ old.reports → new.config ≡ old.config
    → without_messages new.session ≡ without_messages old.session → SettlesByDialogues old new
nothing-settled old new messages reports config session =
    record {
      settled = [];
      added = [];
      messages_are = sym messages;
      reports_are = reports ∙ sym (append-nil old.reports);
      by_dialogues = tt;
      same_config = config;
      same_session = session;
    }

pub stays : (m : Mta) → IsOnDialogue m → GoesOnDialogues m m
stays m on = record { on_dialogue = on; settles = nothing-settled m m refl refl refl refl }

zip-append : (P : MailObject → Report → Type 0) (xs more : List MailObject) (rs others : List Report) → AllZip P xs rs → AllZip P more others → AllZip P (xs ++ more) (rs ++ others)
zip-append P [] more [] others all next = next
zip-append P (x ∷ xs) more (r ∷ rs) others all next = (all.0, zip-append P xs more rs others all.1 next)
zip-append P [] more (r ∷ rs) others all next = absurd all
zip-append P (x ∷ xs) more [] others all next = absurd all

settles-on : (a b c : Mta) → SettlesByDialogues a b → SettlesByDialogues b c → SettlesByDialogues a c
settles-on a b c first next =
    record {
      settled = first.settled ++ next.settled;
      added = first.added ++ next.added;
      messages_are = first.messages_are ∙ ap (λ (l : List MailObject). first.settled ++ l) next.messages_are ∙ sym (append_assoc first.settled next.settled c.session.messages);
      reports_are = next.reports_are ∙ ap (λ (l : List Report). l ++ next.added) first.reports_are ∙ append_assoc a.reports first.added next.added;
      by_dialogues = zip-append (IsReportByDialogue a.config (without_messages a.session)) first.settled next.settled first.added next.added first.by_dialogues
          (subst (λ (k : Configuration). AllZip (IsReportByDialogue k (without_messages a.session)) next.settled next.added) first.same_config
          (subst (λ (s : MailSession). AllZip (IsReportByDialogue b.config s) next.settled next.added) first.same_session next.by_dialogues));
      same_config = next.same_config ∙ first.same_config;
      same_session = next.same_session ∙ first.same_session;
    }

pub goes-on : (a b c : Mta) → GoesOnDialogues a b → GoesOnDialogues b c → GoesOnDialogues a c
goes-on a b c first next = record { on_dialogue = next.on_dialogue; settles = settles-on a b c first.settles next.settles }

-- ---- a loss

module _ (m : Mta) (loss : Loss) where
  -- where nothing was negotiated, the lowest version without a bit stands for it
  abbrev any_negotiated : Negotiated
  any_negotiated = record { options = record { version = VERSION_MIN; actions = record { 0 = 0 }; protocol = record { 0 = 0 } }; lists = [] }

  -- the verdicts that were acted on are a dialogue's
  record Verdicts (verdicts : List Acted) : Type 0 where
    negotiated : Negotiated
    dialogue : List Exchange
    within : dialogue ≢ [] → IsWithinOffer m.config.offer negotiated
    so_far_is : IsDialogueSoFar negotiated dialogue
    verdicts_are : verdicts ≡ acted dialogue
    of_plan : (message : MailObject) (others : List MailObject) → m.session.messages ≡ message ∷ others
        → (left : List Command) × IsSentOf (plan negotiated (without_messages m.session) message) dialogue left × IsOpen dialogue left

  -- before anything was sent of it
  nothing_acted : Verdicts []
  nothing_acted =
      record {
        negotiated = any_negotiated;
        dialogue = [];
        within = λ some. absurd (some refl);
        so_far_is = record { proper = tt; in_order = tt };
        verdicts_are = refl;
        of_plan = λ message others e. (plan any_negotiated (without_messages m.session) message, sent-start (plan any_negotiated (without_messages m.session) message), tt);
      }

  at-position : (position : Position) → IsPositionOnDialogue m.config.offer (without_messages m.session) m.session.messages position → Verdicts (acted_at position)
  at-position Offering on = nothing_acted
  at-position Quitting on = nothing_acted
  at-position Ended on = nothing_acted
  at-position (Sending negotiated verdicts es left) on =
      let is = on.0 in
      record {
        negotiated = negotiated;
        dialogue = is.dialogue;
        within = λ some. is.within;
        so_far_is = record { proper = is.is_dialogue.proper; in_order = order-before left (commands_of is.dialogue) is.is_dialogue.in_order };
        verdicts_are = is.verdicts_are;
        of_plan = λ message others e. (left, is.of_plan message others e, is.is_open);
      }

  in-filter_connection : (filter_connection : Option FilterConnection) → IsOptionOnDialogue m.config.offer (without_messages m.session) m.session.messages filter_connection → Verdicts (acted_in filter_connection)
  in-filter_connection None on = nothing_acted
  in-filter_connection (Some filter_connection) on = at-position filter_connection.position on.position

  abbrev lost_with : List Acted → List MailObject → Mta
  lost_with verdicts messages = record (defaulted loss verdicts messages m) { filter_connection = None }

  by_messages : (messages : List MailObject) (verdicts : List Acted) → m.session.messages ≡ messages → Verdicts verdicts → SettlesByDialogues m (lost_with verdicts messages)
  by_messages [] verdicts e is = nothing-settled m (lost_with verdicts []) refl refl refl refl
  by_messages (message ∷ messages) verdicts e is =
      record {
        settled = message ∷ [];
        added = default_report m.config.on_loss loss message verdicts ∷ [];
        messages_are = e ∙ ap (λ (l : List MailObject). message ∷ drop 1 l) (sym e);
        reports_are = refl;
        by_dialogues = (
          inr (record {
            negotiated = is.negotiated;
            dialogue = is.dialogue;
            within = is.within;
            left = (is.of_plan message messages e).0;
            dialogue_so_far = is.so_far_is;
            is_open = (is.of_plan message messages e).2;
            of_plan = (is.of_plan message messages e).1;
            loss = loss;
            report_is = ap (λ (a : List Acted). report a (fallback m.config.on_loss (kept message a)) (Default loss)) is.verdicts_are;
          }),
          tt,
        );
        same_config = refl;
        same_session = refl;
      }

  no_connection : (messages : List MailObject) (verdicts : List Acted) → IsOnDialogue (lost_with verdicts messages)
  no_connection [] verdicts = tt
  no_connection (message ∷ messages) verdicts = tt

  pub lost-goes : IsOnDialogue m → GoesOnDialogues m (lost loss m)
  lost-goes on =
      record {
        on_dialogue = no_connection m.session.messages (acted_in m.filter_connection);
        settles = by_messages m.session.messages (acted_in m.filter_connection) refl (in-filter_connection m.filter_connection on);
      }

-- ---- by the last answer of a dialogue

abbrev SameParts : Mta → Mta → Type 0
SameParts new old = (new.config ≡ old.config) × (without_messages new.session ≡ without_messages old.session)

same-parts : (negotiated : Negotiated) (dialogue : List Exchange) (m : Mta) → SameParts (settled_by negotiated dialogue m) m
same-parts negotiated [] m = (refl, refl)
same-parts negotiated (last ∷ before) m = by_stage (stage_of last.command) last.answer
  where
    by_messages : (stage : Stage) (answer : Answer) (messages : List MailObject)
        → SameParts (settled_in negotiated stage answer.edits answer.verdict (acted (last ∷ before)) messages m) m
    by_messages stage answer [] = (refl, refl)
    by_messages stage answer (message ∷ messages) = (refl, refl)

    by_client : (stage : Stage) (answer : Answer) (client : Bool)
        → SameParts (if client then settled_all answer.verdict (acted (last ∷ before)) m
        else settled_in negotiated stage answer.edits answer.verdict (acted (last ∷ before)) m.session.messages m) m
    by_client stage answer true = (refl, refl)
    by_client stage answer false = by_messages stage answer m.session.messages

    by_stage : (at : Option Stage) (answer : Option Answer) → SameParts (settled_at negotiated at answer (acted (last ∷ before)) m) m
    by_stage None answer = (refl, refl)
    by_stage (Some stage) None = (refl, refl)
    by_stage (Some stage) (Some answer) = by_client stage answer (plan_stages.is_of_connection stage)

zip-map : (P : MailObject → Report → Type 0) (f : MailObject → Report) (xs : List MailObject) → ((x : MailObject) → P x (f x)) → AllZip P xs (map f xs)
zip-map P f [] all = tt
zip-map P f (x ∷ xs) all = (all x, zip-map P f xs all)

-- a dialogue that ended settles what it rules
module _ (negotiated : Negotiated) (w : List Exchange) (m : Mta) (within : IsWithinOffer m.config.offer negotiated) (all : IsDialogueSoFar negotiated w) (some : m.session.messages ≢ [])
    (rules : (each : MailObject) → is_some (ruled (has_leading_space negotiated) each w) ≡ true)
    (of_plan : (message : MailObject) (others : List MailObject) → m.session.messages ≡ message ∷ others
    → (left : List Command) × IsSentOf (plan negotiated (without_messages m.session) message) w left × IsEnded w left) where
  abbrev outcome_of : MailObject → Outcome
  outcome_of each = or_none (ruled (has_leading_space negotiated) each w)

  is_ruled : (each : MailObject) → ruled (has_leading_space negotiated) each w ≡ Some (outcome_of each)
  is_ruled each = some-is (ruled (has_leading_space negotiated) each w) (rules each)

  ruled-report : (each : MailObject) (client : Bool) → ends_with_client w ≡ client
      → (left : List Command) × IsSentOf (plan negotiated (without_messages m.session) each) w left × IsEnded w left
      → IsReportByDialogue m.config (without_messages m.session) each (report (acted w) (outcome_of each) (if client then Connection else Filter))
  ruled-report each client e sent =
      inl (record {
        negotiated = negotiated;
        within = within;
        dialogue = w;
        left = sent.0;
        dialogue_so_far = all;
        ended = sent.2;
        of_plan = sent.1;
        outcome = outcome_of each;
        ruled_is = is_ruled each;
        report_is = ap (λ (k : Bool). report (acted w) (outcome_of each) (if k then Connection else Filter)) (sym e);
      })

  -- a dialogue that ends with the client ends that of each message
  other-message : (message : MailObject) (messages : List MailObject) → m.session.messages ≡ message ∷ messages → ends_with_client w ≡ true → (each : MailObject)
      → (left : List Command) × IsSentOf (plan negotiated (without_messages m.session) each) w left × IsEnded w left
  other-message message messages e client each =
      let is = of_plan message messages e in
      let other = sent-other-dialogue negotiated (without_messages m.session) message w is.0 is.1 client each in
      (other.0, other.1, ended-client w is.0 other.0 all.in_order client is.2)

  by_client : (message : MailObject) (messages : List MailObject) → m.session.messages ≡ message ∷ messages → ends_with_client w ≡ true
      → GoesOnDialogues m (settled_by negotiated w m)
  by_client message messages e client =
      let n = settled_by negotiated w m in
      let is = all-settled-dialogue negotiated w m message outcome_of all client is_ruled in
      let f : MailObject → Report = λ each. report (acted w) (outcome_of each) Connection in
      record {
        on_dialogue = subst (IsOptionOnDialogue n.config.offer (without_messages n.session) n.session.messages) (sym is.quits) (record { position = is.none_left; asked = λ o. not_owed o });
        settles = record {
          settled = m.session.messages;
          added = map f m.session.messages;
          messages_are = sym (ap (λ (l : List MailObject). m.session.messages ++ l) is.none_left ∙ append-nil m.session.messages);
          reports_are = is.reported;
          by_dialogues = zip-map (IsReportByDialogue m.config (without_messages m.session)) f m.session.messages
              (λ each. ruled-report each true client (other-message message messages e client each));
          same_config = (same-parts negotiated w m).0;
          same_session = (same-parts negotiated w m).1;
        };
      }

  some_dialogue : MailObject → w ≢ []
  some_dialogue message none = true≢false (sym (rules message) ∙ ap (λ (z : List Exchange). is_some (ruled (has_leading_space negotiated) message z)) none)

  -- the next message begins after the exchanges about the client
  next-on : (settled : MailObject) (messages : List MailObject) → m.session.messages ≡ settled ∷ messages → ends_with_client w ≡ false
      → IsConnectionOnDialogue m.config.offer (without_messages m.session) messages (next_connection negotiated w m.session messages)
  next-on settled [] e client = record { position = refl; asked = λ o. not_owed o }
  next-on settled (message ∷ messages) e client =
      let steps = message_steps negotiated (macros_of negotiated m.session) message in
      let o = opening_of w in
      record {
        position = (
          record {
            within = within;
            dialogue = o;
            is_open = opening-ended w (of_plan settled (message ∷ messages) e).0 (sendable o steps) client (of_plan settled (message ∷ messages) e).2;
            is_dialogue = record {
              proper = opening-proper negotiated w all.proper;
              in_order = kept-order o steps (commands_of o) (message-ordered negotiated m.session message (commands_of o) (opening-reaches w all.in_order));
              ends = kept-end o steps (message-ends negotiated (macros_of negotiated m.session) message);
            };
            is_sendable = sendable-twice o steps;
            verdicts_are = refl;
            of_plan = λ next others is.
                subst (λ (x : MailObject). IsSentOf (plan negotiated (without_messages m.session) x) o (sendable o steps)) (same-head message next messages others is)
                (sent-next-dialogue negotiated (without_messages m.session) settled w (of_plan settled (message ∷ messages) e).0 (of_plan settled (message ∷ messages) e).1 client
                (some_dialogue settled) all.proper message);
          },
          λ none. absurd cc,
          no-edits negotiated (is_end_next (sendable o steps)),
        );
        asked = λ owed. not_owed owed;
      }

  by_message : (message : MailObject) (messages : List MailObject) → m.session.messages ≡ message ∷ messages → ends_with_client w ≡ false
      → GoesOnDialogues m (settled_by negotiated w m)
  by_message message messages e client =
      let r = report (acted w) (outcome_of message) Filter in
      let n = reported r (next_connection negotiated w m.session messages) messages m in
      subst (GoesOnDialogues m) (sym (one-settled-dialogue negotiated w m message messages (outcome_of message) all.proper client e (is_ruled message)))
      (record {
        on_dialogue = next-on message messages e client;
        settles = record {
          settled = message ∷ [];
          added = r ∷ [];
          messages_are = e;
          reports_are = refl;
          by_dialogues = (ruled-report message false client (of_plan message messages e), tt);
          same_config = refl;
          same_session = refl;
        };
      })

  pub settled-goes : GoesOnDialogues m (settled_by negotiated w m)
  settled-goes = by_messages m.session.messages refl
    where
      by_end : (message : MailObject) (messages : List MailObject) → m.session.messages ≡ message ∷ messages → (client : Bool) → ends_with_client w ≡ client
          → GoesOnDialogues m (settled_by negotiated w m)
      by_end message messages e true client = by_client message messages e client
      by_end message messages e false client = by_message message messages e client

      by_messages : (messages : List MailObject) → m.session.messages ≡ messages → GoesOnDialogues m (settled_by negotiated w m)
      by_messages [] e = absurd (some e)
      by_messages (message ∷ messages) e = by_end message messages e (ends_with_client w) refl
