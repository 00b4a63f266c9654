-- Whatever a filter sends, a mail server's end stays on a dialogue, and settles messages by it.
use Rattle.std.specs.Prelude.{if◌then◌else◌}
use Rattle.std.specs.List.{fold}
use Rattle.std.proofs.Common.{◌≡◌, ◌≢◌, ℕ, Bool, true, false, List, [], ◌∷◌, ◌++◌, drop, Option, None, Some, Result, Ok, Err, refl, sym, ap, ◌∙◌, subst, append-nil, ◌≤◌, ◌+◌, ◌||◌, arith}
use Rattle.std.proofs.lemmas.Bool.{true≢false}
use Rattle.std.proofs.lemmas.List.Elements.{All-append, All-cons, All-nil}
use Rattle.std.proofs.lemmas.List.Sums.{sum_by-append, sum_by-cons}
use Rattle.std.proofs.lemmas.Option.{same_Some}
use Rattle.milter_fields.specs.declared.fault.WireFault.{WireFault}
use Rattle.milter_fields.specs.Stream.{Frame, first_frame, length_fault}
use Rattle.milter_wire.specs.declared.options.Options.{Options}
use Rattle.milter_wire.specs.declared.negotiation.Negotiated.{Negotiated}
use Rattle.milter_wire.specs.declared.command.Command.{Command}
use Rattle.milter_wire.specs.declared.command.Command.TheVariants as commands
use Rattle.milter_wire.specs.declared.reply.Reply.{Reply}
use Rattle.milter_wire.specs.declared.stage.Stage.{Stage}
use Rattle.milter_wire.specs.declared.stage.Stage.TheVariants.{Connect, Helo, Mail, Rcpt, DataCmd, Header, Eoh, Body, Eob}
use Rattle.milter_wire.specs.declared.verdict.Verdict.{Verdict}
use Rattle.milter_wire.specs.declared.verdict.Verdict.TheVariants.{Skip}
use Rattle.milter_wire.specs.Negotiation.{has_leading_space, is_asked}
use Rattle.milter_wire.specs.Frames.{frame_reply}
use Rattle.milter_wire.specs.Stages.{stage_of}
use Rattle.milter_message.specs.declared.edit.Edit.{Edit}
use Rattle.milter_message.specs.declared.message.TheConstants.{WEIGHT_MAX}
use Rattle.milter_message.specs.EditReplies.{weight_of}
use Rattle.milter_message.specs.MailObject.{MailObject}
use Rattle.milter_protocol.specs.declared.answer.Action.{Action}
use Rattle.milter_protocol.specs.declared.answer.Action.TheVariants as received_as
use Rattle.milter_protocol.specs.Permitted.{is_permitted}
use Rattle.milter_mail.specs.Plan.{plan}
use Rattle.milter_protocol.specs.declared.answer.Answer.{Answer}
use Rattle.milter_protocol.specs.Exchanges.{Exchange, commands_of}
use Rattle.milter_protocol.specs.Dialogue.{IsOpen, is_body, is_closed, is_end_command, is_rcpt, sendable}
use Rattle.milter_protocol.specs.Verdicts.{is_skip}
use Rattle.milter_protocol.proofs.Lists.{same-head}
use Rattle.milter_protocol.proofs.Sendable.{end_left, same-open, same_rcpts, sendable-closed}
use Rattle.milter_mta_outcome.specs.declared.acted_verdicts.Acted.{Acted}
use Rattle.milter_mta_outcome.specs.declared.loss.Loss.{Loss}
use Rattle.milter_mta_outcome.specs.declared.loss.Loss.TheVariants.{Fault}
use Rattle.milter_mta_outcome.specs.declared.loss.MtaFault.{MtaFault}
use Rattle.milter_mta_outcome.specs.declared.loss.MtaFault.TheVariants.{Early, NotAtThisStage, Wire}
use Rattle.milter_mta_outcome.specs.ReceivedReplies.{IsWithinOffer, is_end, is_given, options_received, reply_received}
use Rattle.milter_mta_outcome.specs.Dialogues.{acted}
use Rattle.milter_mta_outcome.specs.EditWeights.{weight_of_all}
use Rattle.milter_mta_outcome.specs.Transactions.{asks_first, stage_first}
use Rattle.milter_mta_outcome.specs.TransactionVerdicts.{with_verdict}
use Rattle.milter_mta.specs.declared.mta_core.Want.{Want}
use Rattle.milter_mta.specs.declared.mta_core.Want.TheVariants as wants
use Rattle.milter_mta.specs.Mta.{FilterConnection, Mta, Position, at_packet}
use Rattle.milter_mta.specs.Mta.Position.{Ended, Offering, Quitting, Sending}
use Rattle.milter_mta.specs.Replies.{negotiated_on, at, byte_at, fails, framed, received, received_at, received_byte, opening_position, replied, replied_at, ruled_on, unread_is}
use Rattle.milter_mta.specs.Output.{advanced, advanced_in, after_packet, asks_at, dialled, dialled_if, finished, made, sent, sent_from, sent_in, sent_of, want, want_at, want_if_owed, want_in, want_unconnected}
use Rattle.milter_mta.specs.AnyFilter.{without_messages, GoesOnDialogues, IsAfterDialogue, IsConnectionOnDialogue, IsOnDialogue, IsOptionOnDialogue, IsPositionOnDialogue, is_end_next}
use Rattle.milter_mta.specs.Order.{AreInOrder, AreProper, MayAnswer, MayEdit}
use Rattle.milter_mta.specs.Dialogues.{at_dialogue}
use Rattle.milter_mta.proofs.Exchanges.{no_acted, ruled-as, dialogue_so_far}
use Rattle.milter_mta.proofs.Ordered.{order-before, plan-ends, plan-ordered}
use Rattle.milter_mta.proofs.Closed.{closed-rules, unanswered-open}
use Rattle.milter_mta.proofs.Played.{is_body_at}
use Rattle.milter_mta.proofs.Refusals.{keep_all, same-sendable}
use Rattle.milter_mta.proofs.LeftToSend.{kept-end, kept-order, next-sendable, no_end_unasked, sendable-twice}
use Rattle.milter_mta.specs.Beginnings.{IsSentOf}
use Rattle.milter_mail.specs.MailSession.{MailSession}
use Rattle.milter_mta.proofs.SentParts.{sent-more, sent-start}
use Rattle.milter_mta.proofs.Answers.{end_at, end_by_stage}
use Rattle.milter_mta.proofs.Dispositions.{no-edits, goes-on, lost-goes, not_owed, nothing-settled, settled-goes}

-- ---- what is sent

pub dialled-goes : (m : Mta) → IsOnDialogue m → GoesOnDialogues m (dialled m)
dialled-goes m on = by_want (want m)
  where
    same : GoesOnDialogues m m
    same = record { on_dialogue = on; settles = nothing-settled m m refl refl refl refl }

    by_want : (w : Want) → GoesOnDialogues m (dialled_if w m)
    by_want wants.Dial =
        record {
          on_dialogue = record { position = tt; asked = λ e. not_owed e };
          settles = nothing-settled m (record m { filter_connection = Some (at_packet Offering) }) refl refl refl refl;
        }
    by_want wants.Send = same
    by_want wants.Receive = same
    by_want wants.Done = same

pub advanced-goes : (m : Mta) → IsOnDialogue m → GoesOnDialogues m (advanced m)
advanced-goes m on = by_filter_connection m.filter_connection on
  where
    same : GoesOnDialogues m m
    same = record { on_dialogue = on; settles = nothing-settled m m refl refl refl refl }

    by_want : (filter_connection : FilterConnection) → IsConnectionOnDialogue m.config.offer (without_messages m.session) m.session.messages filter_connection → (w : Want) → GoesOnDialogues m (advanced_in (Some filter_connection) w m)
    by_want filter_connection is wants.Send =
        record {
          on_dialogue = record { position = is.position; asked = is.asked };
          settles = nothing-settled m (record m { filter_connection = Some (made m.config filter_connection) }) refl refl refl refl;
        }
    by_want filter_connection is wants.Dial = same
    by_want filter_connection is wants.Receive = same
    by_want filter_connection is wants.Done = same

    by_filter_connection : (filter_connection : Option FilterConnection) → IsOptionOnDialogue m.config.offer (without_messages m.session) m.session.messages filter_connection → GoesOnDialogues m (advanced_in filter_connection (want m) m)
    by_filter_connection None is = same
    by_filter_connection (Some filter_connection) is = by_want filter_connection is (want m)

-- no edit came
unedited : (negotiated : Negotiated) (es : List Edit) (at_end : Bool) → es ≡ [] → MayEdit negotiated at_end es
unedited negotiated es at_end none = subst (MayEdit negotiated at_end) (sym none) (no-edits negotiated at_end)

-- a command that is not asked about was sent
after-position : (offer : Options) (s : MailSession) (messages : List MailObject) (position : Position) → asks_at position ≡ false → IsPositionOnDialogue offer s messages position
    → IsPositionOnDialogue offer s messages (after_packet position)
after-position offer s messages Offering asks on = tt
after-position offer s messages Quitting asks on = on
after-position offer s messages Ended asks on = on
after-position offer s messages (Sending negotiated verdicts es []) asks on = not_owed on.0.is_dialogue.ends
after-position offer s messages (Sending negotiated verdicts es (command ∷ left)) asks on =
    let is = on.0 in
    let last : Exchange = record { command = command; answer = None } in (
      record {
        within = is.within;
        dialogue = last ∷ is.dialogue;
        is_open = (unanswered-open last is.dialogue left refl, is.is_open);
        is_dialogue = record {
          proper = (record { answered = sym asks; may = λ answer none. absurd cc; skipped = λ skip. not_owed skip }, is.is_dialogue.proper);
          in_order = is.is_dialogue.in_order;
          ends = end_left command left (no_end_unasked negotiated command asks) is.is_dialogue.ends;
        };
        is_sendable = same-sendable last is.dialogue left refl ∙ (next-sendable is.dialogue command left is.is_sendable).1;
        verdicts_are = is.verdicts_are ∙ sym (append-nil (acted is.dialogue)) ∙ ap (λ (l : List Acted). acted is.dialogue ++ l) (sym (no_acted (stage_of command) (last ∷ is.dialogue)));
        of_plan = λ message others e.
            subst (IsSentOf (plan negotiated s message) (last ∷ is.dialogue)) (same-sendable last is.dialogue left refl ∙ (next-sendable is.dialogue command left is.is_sendable).1)
            (sent-more (plan negotiated s message) is.dialogue last left (is.of_plan message others e) (next-sendable is.dialogue command left is.is_sendable).1);
      },
      on.1,
      unedited negotiated es (is_end_next left) (on.2.only_at_end (no_end_unasked negotiated command asks)),
    )

finished-on : (offer : Options) (s : MailSession) (messages : List MailObject) (filter_connection : FilterConnection) → IsConnectionOnDialogue offer s messages filter_connection → IsConnectionOnDialogue offer s messages (finished filter_connection)
finished-on offer s messages filter_connection on = by_tests filter_connection.aborts (asks_at filter_connection.position) refl
  where
    by_tests : (aborts asks : Bool) → asks_at filter_connection.position ≡ asks
        → IsConnectionOnDialogue offer s messages (if aborts then record filter_connection { aborts = false; pending = []; owed = false }
        else if asks then record filter_connection { pending = []; owed = true }
        else record filter_connection { position = after_packet filter_connection.position; pending = []; owed = false })
    by_tests true asks e = record { position = on.position; asked = λ o. not_owed o }
    by_tests false true e = record { position = on.position; asked = λ o. e }
    by_tests false false e = record { position = after-position offer s messages filter_connection.position e on.position; asked = λ o. not_owed o }

sent_from-on : (offer : Options) (s : MailSession) (messages : List MailObject) (filter_connection : FilterConnection) (left : List ℕ) → IsConnectionOnDialogue offer s messages filter_connection
    → IsConnectionOnDialogue offer s messages (sent_from filter_connection left)
sent_from-on offer s messages filter_connection [] on = finished-on offer s messages filter_connection on
sent_from-on offer s messages filter_connection (byte ∷ bytes) on = record { position = on.position; asked = on.asked }

sent_of-on : (offer : Options) (s : MailSession) (messages : List MailObject) (filter_connection : FilterConnection) (count : ℕ) (bytes : List ℕ) → IsConnectionOnDialogue offer s messages filter_connection
    → IsConnectionOnDialogue offer s messages (sent_of count bytes filter_connection)
sent_of-on offer s messages filter_connection count [] on = on
sent_of-on offer s messages filter_connection count (byte ∷ bytes) on = sent_from-on offer s messages filter_connection (drop count (byte ∷ bytes)) on

pub sent-goes : (m : Mta) (count : ℕ) → IsOnDialogue m → GoesOnDialogues m (sent count m)
sent-goes m count on = by_filter_connection m.filter_connection on
  where
    by_filter_connection : (filter_connection : Option FilterConnection) → IsOptionOnDialogue m.config.offer (without_messages m.session) m.session.messages filter_connection → GoesOnDialogues m (sent_in count filter_connection m)
    by_filter_connection None is = record { on_dialogue = on; settles = nothing-settled m m refl refl refl refl }
    by_filter_connection (Some filter_connection) is =
        record {
          on_dialogue = sent_of-on m.config.offer (without_messages m.session) m.session.messages filter_connection count filter_connection.pending is;
          settles = nothing-settled m (record m { filter_connection = Some (sent_of count filter_connection.pending filter_connection) }) refl refl refl refl;
        }

-- ---- a verdict

skip-body : (negotiated : Negotiated) (command : Command) (stage : Stage) (verdict : Verdict) → stage_of command ≡ Some stage → is_given negotiated stage verdict ≡ true
    → is_skip verdict ≡ true → is_body command ≡ true
skip-body negotiated command Body Skip at given skip = is_body_at command at
skip-body negotiated command Connect Skip at given skip = not_owed given
skip-body negotiated command Helo Skip at given skip = not_owed given
skip-body negotiated command Mail Skip at given skip = not_owed given
skip-body negotiated command Rcpt Skip at given skip = not_owed given
skip-body negotiated command DataCmd Skip at given skip = not_owed given
skip-body negotiated command Header Skip at given skip = not_owed given
skip-body negotiated command Eoh Skip at given skip = not_owed given
skip-body negotiated command Eob Skip at given skip = not_owed given
skip-body negotiated command stage other at given skip = not_owed skip

no_end_open : (command : Command) (answer : Answer) (dialogue : List Exchange) (left : List Command)
    → is_closed (record { command = command; answer = Some answer } ∷ dialogue) left ≡ false → is_end_command command ≡ false
no_end_open (commands.Eob bytes) answer dialogue left e = absurd (true≢false e)
no_end_open other answer dialogue left e = refl

module _ (m : Mta) (some : m.session.messages ≢ []) (negotiated : Negotiated) (verdicts : List Acted) (es : List Edit) (command : Command) (left : List Command)
    (is : IsAfterDialogue m.config.offer (without_messages m.session) m.session.messages negotiated verdicts (command ∷ left)) (stage : Stage) (verdict : Verdict) (at_stage : stage_of command ≡ Some stage)
    (asked : is_asked negotiated command ≡ true) (given : is_given negotiated stage verdict ≡ true) (edited : MayEdit negotiated (is_end_command command) es) where
  abbrev answer : Answer
  answer = record { edits = es; verdict = verdict }

  abbrev last : Exchange
  last = record { command = command; answer = Some answer }

  proper : AreProper negotiated (last ∷ is.dialogue)
  proper = (
    record {
      answered = sym asked;
      may = λ other same. subst (MayAnswer negotiated command) (same_Some answer other same)
          (record {
            given = λ at other_stage. subst (λ (s : Stage). is_given negotiated s verdict ≡ true) (same_Some stage at (sym at_stage ∙ other_stage)) given;
            edits = edited;
          });
      skipped = λ skip. skip-body negotiated command stage verdict at_stage given skip;
    },
    is.is_dialogue.proper,
  )

  abbrev order : AreInOrder (command ∷ commands_of is.dialogue)
  order = order-before left (command ∷ commands_of is.dialogue) is.is_dialogue.in_order

  ruled-is : ruled_on negotiated stage (with_verdict stage verdict verdicts) es left verdict m ≡ dialogue_so_far negotiated (last ∷ is.dialogue) left m (is_closed (last ∷ is.dialogue) left)
  ruled-is =
      let next = next-sendable is.dialogue command left is.is_sendable in
      ap (λ (a : List Acted). ruled_on negotiated stage (with_verdict stage verdict a) es left verdict m) is.verdicts_are
      ∙ ap (λ (l : List Command). ruled_on negotiated stage (with_verdict stage verdict (acted is.dialogue)) es l verdict m) (sym next.1)
      ∙ ruled-as negotiated m last is.dialogue left next.0 stage answer at_stage refl asked proper order

  of_plan : (message : MailObject) (others : List MailObject) → m.session.messages ≡ message ∷ others
      → IsSentOf (plan negotiated (without_messages m.session) message) (last ∷ is.dialogue) (sendable (last ∷ is.dialogue) left)
  of_plan message others e =
      sent-more (plan negotiated (without_messages m.session) message) is.dialogue last left (is.of_plan message others e) (next-sendable is.dialogue command left is.is_sendable).1

  -- before the last exchange it was open, with what is left then
  before-open : IsOpen is.dialogue (command ∷ sendable (last ∷ is.dialogue) left)
  before-open =
      same-open is.dialogue (command ∷ left) (command ∷ sendable (last ∷ is.dialogue) left)
      (ap (λ (b : Bool). is_rcpt command || b) (sym (same_rcpts (last ∷ is.dialogue) left))) is.is_open

  dialogue_so_far-goes : (closed : Bool) → is_closed (last ∷ is.dialogue) left ≡ closed → GoesOnDialogues m (dialogue_so_far negotiated (last ∷ is.dialogue) left m closed)
  dialogue_so_far-goes true e = settled-goes negotiated (last ∷ is.dialogue) m is.within (record { proper = proper; in_order = order }) some (closed-rules last is.dialogue left e (has_leading_space negotiated))
      (λ message others is_first. (sendable (last ∷ is.dialogue) left, of_plan message others is_first, (sendable-closed (last ∷ is.dialogue) (last ∷ is.dialogue) left ∙ e, before-open)))
  dialogue_so_far-goes false e =
      let w = last ∷ is.dialogue in
      record {
        on_dialogue = record {
          position = (
            record {
              within = is.within;
              dialogue = w;
              is_open = (sendable-closed w w left ∙ e, before-open);
              is_dialogue = record {
                proper = proper;
                in_order = kept-order w left (commands_of w) is.is_dialogue.in_order;
                ends = kept-end w left (end_left command left (no_end_open command answer is.dialogue left e) is.is_dialogue.ends);
              };
              is_sendable = sendable-twice w left;
              verdicts_are = refl;
              of_plan = of_plan;
            },
            some,
            no-edits negotiated (is_end_next (sendable w left)),
          );
          asked = λ owed. not_owed owed;
        };
        settles = nothing-settled m (at_dialogue negotiated w left m) refl refl refl refl;
      }

  verdict-goes : GoesOnDialogues m (ruled_on negotiated stage (with_verdict stage verdict verdicts) es left verdict m)
  verdict-goes = subst (GoesOnDialogues m) (sym ruled-is) (dialogue_so_far-goes (is_closed (last ∷ is.dialogue) left) refl)

-- ---- what is received

-- A verdict that is received is given at its stage; an edit comes at the end of a message, by what was negotiated, and
-- there is room for it; and what is negotiated is within the offer.
pub record ReceivedFacts : Type 0 where
  pub given : (negotiated : Negotiated) (stage : Stage) (weight : ℕ) (reply : Reply) (verdict : Verdict) → reply_received negotiated stage weight reply ≡ Ok (received_as.Verdict verdict)
      → is_given negotiated stage verdict ≡ true
  pub at_end : (negotiated : Negotiated) (stage : Stage) (weight : ℕ) (reply : Reply) (edit : Edit) → reply_received negotiated stage weight reply ≡ Ok (received_as.Edit edit)
      → is_end stage ≡ true
  pub permitted : (negotiated : Negotiated) (stage : Stage) (weight : ℕ) (reply : Reply) (edit : Edit) → reply_received negotiated stage weight reply ≡ Ok (received_as.Edit edit)
      → is_permitted negotiated edit ≡ true
  pub light : (negotiated : Negotiated) (stage : Stage) (weight : ℕ) (reply : Reply) (edit : Edit) → reply_received negotiated stage weight reply ≡ Ok (received_as.Edit edit)
      → weight + weight_of edit ≤ WEIGHT_MAX
  pub within : (offer : Options) (reply : Reply) (negotiated : Negotiated) → options_received offer reply ≡ Ok negotiated → IsWithinOffer offer negotiated

end-next : (left : List Command) (stage : Stage) → stage_first left ≡ Some stage → is_end stage ≡ true → is_end_next left ≡ true
end-next [] stage at end = absurd cc
end-next (command ∷ left) stage at end = end_by_stage command ∙ ap end_at at ∙ end

-- with an edit more
one-edit : (negotiated : Negotiated) (at_end : Bool) (es : List Edit) (edit : Edit) → at_end ≡ true → is_permitted negotiated edit ≡ true → weight_of_all es + weight_of edit ≤ WEIGHT_MAX
    → MayEdit negotiated at_end es → MayEdit negotiated at_end (es ++ edit ∷ [])
one-edit negotiated at_end es edit end may light is =
    let longer = sum_by-append weight_of es (edit ∷ []) in
    let single = sum_by-cons weight_of edit [] in
    record {
      only_at_end = λ other. not_owed (sym other ∙ end);
      permitted = All-append (λ e. is_permitted negotiated e ≡ true) es (edit ∷ []) is.permitted (All-cons (λ e. is_permitted negotiated e ≡ true) edit [] may (All-nil (λ e. is_permitted negotiated e ≡ true)));
      weight = omega (arith, longer, single, light);
    }

module _ (facts : ReceivedFacts) (m : Mta) (on : IsOnDialogue m) where
  failed : (fault : MtaFault) → GoesOnDialogues m (fails fault m).mta
  failed fault = lost-goes m (Fault fault) on

  received_at-goes : (negotiated : Negotiated) (stage : Stage) (verdicts : List Acted) (es : List Edit) (left : List Command) (reply : Reply) (is : Result Action MtaFault)
      → reply_received negotiated stage (weight_of_all es) reply ≡ is → stage_first left ≡ Some stage → IsAfterDialogue m.config.offer (without_messages m.session) m.session.messages negotiated verdicts left → m.session.messages ≢ []
      → MayEdit negotiated (is_end_next left) es → asks_first negotiated left ≡ true → GoesOnDialogues m (received_at negotiated stage verdicts es left is m).mta
  received_at-goes negotiated stage verdicts es left reply (Err fault) e first dialogue some edited asks = failed fault
  received_at-goes negotiated stage verdicts es left reply (Ok (received_as.Edit edit)) e first dialogue some edited asks =
      let now = one-edit negotiated (is_end_next left) es edit (end-next left stage first (facts.at_end negotiated stage (weight_of_all es) reply edit e))
      (facts.permitted negotiated stage (weight_of_all es) reply edit e) (facts.light negotiated stage (weight_of_all es) reply edit e) edited in
      record {
        on_dialogue = record { position = (dialogue, some, now); asked = λ owed. asks };
        settles = nothing-settled m (at (record (at_packet (Sending negotiated verdicts (es ++ edit ∷ []) left)) { owed = true }) m) refl refl refl refl;
      }
  received_at-goes negotiated stage verdicts es [] reply (Ok (received_as.Verdict verdict)) e first dialogue some edited asks = not_owed asks
  received_at-goes negotiated stage verdicts es (command ∷ left) reply (Ok (received_as.Verdict verdict)) e first dialogue some edited asks =
      verdict-goes m some negotiated verdicts es command left dialogue stage verdict first asks (facts.given negotiated stage (weight_of_all es) reply verdict e) edited

  replied_at-goes : (negotiated : Negotiated) (verdicts : List Acted) (es : List Edit) (left : List Command) (stage : Option Stage) (reply : Reply)
      → stage_first left ≡ stage → IsAfterDialogue m.config.offer (without_messages m.session) m.session.messages negotiated verdicts left → m.session.messages ≢ [] → MayEdit negotiated (is_end_next left) es → asks_first negotiated left ≡ true
      → GoesOnDialogues m (replied_at negotiated verdicts es left stage reply m).mta
  replied_at-goes negotiated verdicts es left None reply first dialogue some edited asks = failed NotAtThisStage
  replied_at-goes negotiated verdicts es left (Some stage) reply first dialogue some edited asks =
      received_at-goes negotiated stage verdicts es left reply (reply_received negotiated stage (weight_of_all es) reply) refl first dialogue some edited asks

  opened-on : (negotiated : Negotiated) → IsWithinOffer m.config.offer negotiated → (messages : List MailObject) → IsConnectionOnDialogue m.config.offer (without_messages m.session) messages (at_packet (opening_position negotiated m.session messages))
  opened-on negotiated within [] = record { position = refl; asked = λ owed. not_owed owed }
  opened-on negotiated within (message ∷ messages) =
      record {
        position = (
          record {
            within = within;
            dialogue = [];
            is_open = tt;
            is_dialogue = record { proper = tt; in_order = plan-ordered negotiated m.session message; ends = plan-ends negotiated m.session message };
            is_sendable = keep_all (plan negotiated m.session message);
            verdicts_are = refl;
            of_plan = λ next others is.
                subst (λ (x : MailObject). IsSentOf (plan negotiated (without_messages m.session) x) [] (plan negotiated m.session message)) (same-head message next messages others is)
                (sent-start (plan negotiated m.session message));
          },
          λ none. absurd cc,
          no-edits negotiated (is_end_next (plan negotiated m.session message)),
        );
        asked = λ owed. not_owed owed;
      }

  negotiated-goes : (is : Result Negotiated MtaFault) → ((negotiated : Negotiated) → is ≡ Ok negotiated → IsWithinOffer m.config.offer negotiated) → GoesOnDialogues m (negotiated_on is m).mta
  negotiated-goes (Err fault) within = failed fault
  negotiated-goes (Ok negotiated) within =
      record {
        on_dialogue = opened-on negotiated (within negotiated refl) m.session.messages;
        settles = nothing-settled m (at (at_packet (opening_position negotiated m.session m.session.messages)) m) refl refl refl refl;
      }

  replied-goes : (position : Position) (reply : Reply) → IsPositionOnDialogue m.config.offer (without_messages m.session) m.session.messages position → asks_at position ≡ true → GoesOnDialogues m (replied position reply m).mta
  replied-goes Offering reply is asks = negotiated-goes (options_received m.config.offer reply) (λ negotiated e. facts.within m.config.offer reply negotiated e)
  replied-goes (Sending negotiated verdicts es left) reply is asks = replied_at-goes negotiated verdicts es left (stage_first left) reply refl is.0 is.1 is.2 asks
  replied-goes Quitting reply is asks = failed Early
  replied-goes Ended reply is asks = failed Early

  framed-goes : (position : Position) (found : Result Reply WireFault) → IsPositionOnDialogue m.config.offer (without_messages m.session) m.session.messages position → asks_at position ≡ true
      → GoesOnDialogues m (framed position found m).mta
  framed-goes position (Err fault) is asks = failed (Wire fault)
  framed-goes position (Ok reply) is asks = replied-goes position reply is asks

  unread-goes : (filter_connection : FilterConnection) (unread : List ℕ) (fault : Option WireFault) (frame : Option (Frame × List ℕ)) → IsConnectionOnDialogue m.config.offer (without_messages m.session) m.session.messages filter_connection → filter_connection.owed ≡ true
      → GoesOnDialogues m (unread_is filter_connection unread fault frame m).mta
  unread-goes filter_connection unread (Some fault) frame is owed = failed (Wire fault)
  unread-goes filter_connection unread None None is owed =
      record {
        on_dialogue = record { position = is.position; asked = is.asked };
        settles = nothing-settled m (at (record filter_connection { unread = unread }) m) refl refl refl refl;
      }
  unread-goes filter_connection unread None (Some first) is owed = framed-goes filter_connection.position (frame_reply first.0) is.position (is.asked owed)

  pub byte-goes : (byte : ℕ) → GoesOnDialogues m (byte_at m.filter_connection byte m).mta
  byte-goes byte = by_filter_connection m.filter_connection on
    where
      by_owed : (filter_connection : FilterConnection) → IsConnectionOnDialogue m.config.offer (without_messages m.session) m.session.messages filter_connection → (owed : Bool) → filter_connection.owed ≡ owed
          → GoesOnDialogues m (if owed then unread_is filter_connection (filter_connection.unread ++ byte ∷ []) (length_fault (filter_connection.unread ++ byte ∷ [])) (first_frame (filter_connection.unread ++ byte ∷ [])) m else fails Early m).mta
      by_owed filter_connection is true e = unread-goes filter_connection _ _ _ is e
      by_owed filter_connection is false e = failed Early

      by_filter_connection : (filter_connection : Option FilterConnection) → IsOptionOnDialogue m.config.offer (without_messages m.session) m.session.messages filter_connection → GoesOnDialogues m (byte_at filter_connection byte m).mta
      by_filter_connection None is = failed Early
      by_filter_connection (Some filter_connection) is = by_owed filter_connection is filter_connection.owed refl

-- a piece, after a loss or without one
received-on-goes : ReceivedFacts → (bytes : List ℕ) (m : Mta) (loss : Option Loss) → IsOnDialogue m → GoesOnDialogues m (fold received_byte (record { mta = m; loss = loss }) bytes).mta
received-on-goes facts [] m loss on = record { on_dialogue = on; settles = nothing-settled m m refl refl refl refl }
received-on-goes facts (byte ∷ bytes) m (Some loss) on = received-on-goes facts bytes m (Some loss) on
received-on-goes facts (byte ∷ bytes) m None on =
    let after = byte_at m.filter_connection byte m in
    let first = byte-goes facts m on byte in
    goes-on m after.mta (fold received_byte after bytes).mta first (received-on-goes facts bytes after.mta after.loss first.on_dialogue)

pub received-goes : ReceivedFacts → (m : Mta) (bytes : List ℕ) → IsOnDialogue m → GoesOnDialogues m (received m bytes).mta
received-goes facts m bytes on = received-on-goes facts bytes m None on

-- ---- at the end

-- nothing is left to be done only where every message is settled
pub done-settles : (m : Mta) → IsOnDialogue m → want m ≡ wants.Done → m.session.messages ≡ []
done-settles m on e = by_filter_connection m.filter_connection on e
  where
    unconnected : (messages : List MailObject) → want_unconnected messages ≡ wants.Done → messages ≡ []
    unconnected [] e = refl
    unconnected (message ∷ messages) e = absurd cc

    unless_owed : {A : Type 0} (owed : Bool) → want_if_owed owed ≡ wants.Done → A
    unless_owed true e = absurd cc
    unless_owed false e = absurd cc

    by_position : (messages : List MailObject) (aborts : Bool) (position : Position) (owed : Bool) → IsPositionOnDialogue m.config.offer (without_messages m.session) messages position
        → want_at aborts position owed ≡ wants.Done → messages ≡ []
    by_position messages false Ended owed on e = on
    by_position messages false Offering owed on e = unless_owed owed e
    by_position messages false Quitting owed on e = unless_owed owed e
    by_position messages false (Sending negotiated verdicts es left) owed on e = unless_owed owed e
    by_position messages true position owed on e = unless_owed owed e

    by_filter_connection : (filter_connection : Option FilterConnection) → IsOptionOnDialogue m.config.offer (without_messages m.session) m.session.messages filter_connection → want_in filter_connection m.session.messages ≡ wants.Done → m.session.messages ≡ []
    by_filter_connection None on e = unconnected m.session.messages e
    by_filter_connection (Some filter_connection) on e = by_position m.session.messages filter_connection.aborts filter_connection.position filter_connection.owed on.position e
