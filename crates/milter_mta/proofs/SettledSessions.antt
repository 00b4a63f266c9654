-- A session against one filter that is never lost: each message is settled by its own dialogue.
use Rattle.std.specs.Prelude.{if◌then◌else◌, option_map}
use Rattle.std.proofs.Common.{◌≡◌, ◌≢◌, Bool, true, false, not, List, [], ◌∷◌, ◌++◌, map, is_some, Option, None, Some, refl, sym, ap, ◌∙◌, subst, append-nil, append_assoc}
use Rattle.std.proofs.lemmas.Bool.{true≢false}
use Rattle.milter_mta.proofs.Lists.{map-negotiate, map-append, map-map}
use Rattle.milter_wire.specs.declared.negotiation.Negotiated.{Negotiated}
use Rattle.milter_wire.specs.declared.command.Command.{Command}
use Rattle.milter_wire.specs.Negotiation.{has_leading_space}
use Rattle.milter_message.specs.MailObject.{MailObject}
use Rattle.milter_mail.specs.MailSession.{MailSession}
use Rattle.milter_mail.specs.Plan.{macros_of}
use Rattle.milter_mail.specs.Steps.{message_steps}
use Rattle.milter_protocol.specs.Behavior.{Behavior}
use Rattle.milter_protocol.specs.Exchanges.{Exchange, commands_of, onto}
use Rattle.milter_protocol.specs.Lawful.{IsLawful}
use Rattle.milter_protocol.specs.Dialogue.{dialogue_with}
use Rattle.milter_mta_outcome.specs.declared.loss.By.{By}
use Rattle.milter_mta_outcome.specs.declared.loss.By.TheVariants.{Connection, Filter}
use Rattle.milter_mta_outcome.specs.declared.outcome.Outcome.{Outcome}
use Rattle.milter_mta_outcome.specs.declared.outcome.Outcome.TheVariants.{NoRecipients}
use Rattle.milter_mta_outcome.specs.declared.outcome.Report.{Report}
use Rattle.milter_mta_outcome.specs.Dialogues.{acted, ruled}
use Rattle.milter_mta.specs.declared.mta_core.Want.TheVariants as wants
use Rattle.milter_mta.specs.Mta.{FilterConnection, Mta, Position, at_packet, connection_at}
use Rattle.milter_mta.specs.Mta.Position.{Ended, Quitting}
use Rattle.milter_mta.specs.Replies.{at}
use Rattle.milter_mta.specs.Output.{want}
use Rattle.milter_mta.specs.Dispositions.{report}
use Rattle.milter_mta.specs.Lines.{Line, Plays, abort_line, line_of, quit_line}
use Rattle.milter_mta.specs.Order.{IsDialogue, IsDialogueSoFar}
use Rattle.milter_mta.specs.Sessions.{connection_after, lines_after, lines_from, report_by, settled_through, dialogue_of}
use Rattle.milter_mta.specs.Settled.{AreAllSettled, ends_with_client, ends_with_message, next_position, dialogue_verdict}
use Rattle.milter_mta.specs.Dialogues.{at_dialogue, opening_of, settled_by}
use Rattle.milter_mta.proofs.Answers.{ReceivesReplies}
use Rattle.milter_mta.proofs.Bare.{aborted, quitted}
use Rattle.milter_mta.proofs.Opened.{dialogue-next, dialogue-same}
use Rattle.milter_mta.proofs.Openings.{opening-proper, opening-reaches}
use Rattle.milter_mta.proofs.Ordered.{message-ends, message-ordered}
use Rattle.milter_mta.proofs.Played.{played}
use Rattle.milter_mta.proofs.Settled.{all-settled-dialogue, one-settled-dialogue}

pub plays-append : (xs ys : List Line) (m n k : Mta) → Plays m xs n → Plays n ys k → Plays m (xs ++ ys) k
plays-append [] ys m n k first more = subst (λ (z : Mta). Plays z ys k) (sym first) more
plays-append (x ∷ xs) ys m n k first more = (first.0, first.1, plays-append xs ys _ n k first.2 more)

abbrev pub or_none : Option Outcome → Outcome
or_none None = NoRecipients
or_none (Some o) = o

pub some-is : (found : Option Outcome) → is_some found ≡ true → found ≡ Some (or_none found)
some-is None e = absurd (true≢false (sym e))
some-is (Some o) e = refl

-- ---- to the end

module _ (b : Behavior) (negotiated : Negotiated) (s : MailSession) where
  abbrev whole : MailObject → List Exchange
  whole message = dialogue_of b negotiated s message

  abbrev reported_by : List MailObject → List (Option Report)
  reported_by messages = map (λ message. report_by negotiated (whole message) message) messages

  -- it comes to an end by these lines, and these messages are settled each by its own dialogue
  pub record Finishes (old : Mta) (lines : List Line) (messages : List MailObject) : Type 0 where
    pub new : Mta
    pub plays : Plays old lines new
    pub ended : want new ≡ wants.Done
    pub reports : map Some new.reports ≡ map Some old.reports ++ reported_by messages
    pub connection : new.connection ≡ connection_after b negotiated s messages old.connection

  -- others before them
  after-lines : (first more : List Line) (old middle : Mta) (messages : List MailObject) → Plays old first middle → map Some middle.reports ≡ map Some old.reports
      → middle.connection ≡ old.connection → Finishes middle more messages → Finishes old (first ++ more) messages
  after-lines first more old middle messages goes same connected rest =
      record {
        new = rest.new;
        plays = plays-append first more old middle rest.new goes rest.plays;
        ended = rest.ended;
        reports = rest.reports ∙ ap (λ (l : List (Option Report)). l ++ reported_by messages) same;
        connection = rest.connection ∙ ap (connection_after b negotiated s messages) connected;
      }

  quits : (m : Mta) → Finishes (at (at_packet Quitting) m) (quit_line ∷ []) []
  quits m =
      record {
        new = at (at_packet Ended) m;
        plays = quitted m;
        ended = refl;
        reports = sym (append-nil (map Some m.reports));
        connection = refl;
      }

  module _ (messages : List MailObject) (message : MailObject) (w : List Exchange) (m : Mta) (e : m.session ≡ record s { messages = message ∷ messages })
      (all : IsDialogueSoFar negotiated w) (same : w ≡ whole message) (rules : (each : MailObject) → is_some (ruled (has_leading_space negotiated) each w) ≡ true) where
    abbrev outcome_of : MailObject → Outcome
    outcome_of each = or_none (ruled (has_leading_space negotiated) each w)

    is_ruled : (each : MailObject) → ruled (has_leading_space negotiated) each w ≡ Some (outcome_of each)
    is_ruled each = some-is (ruled (has_leading_space negotiated) each w) (rules each)

    all_messages : m.session.messages ≡ message ∷ messages
    all_messages = ap (λ (z : MailSession). z.messages) e

    report-is : (by : By) → settled_through w ≡ by → (each : MailObject) → Some (report (acted w) (outcome_of each) by) ≡ report_by negotiated w each
    report-is by through each =
        ap (λ (x : By). Some (report (acted w) (outcome_of each) x)) (sym through)
        ∙ ap (λ (found : Option Outcome). option_map (λ o. report (acted w) o (settled_through w)) found) (sym (is_ruled each))

    -- ---- by the client

    settled-all : ends_with_client w ≡ true → AreAllSettled w outcome_of m (settled_by negotiated w m)
    settled-all client = all-settled-dialogue negotiated w m message outcome_of all client is_ruled

    each-is : ends_with_client w ≡ true → (each : MailObject) → Some (report (acted w) (outcome_of each) Connection) ≡ report_by negotiated (whole each) each
    each-is client each =
        report-is Connection (ap (λ (k : Bool). if k then Connection else Filter) client) each
        ∙ ap (λ (z : List Exchange). report_by negotiated z each) (same ∙ sym (dialogue-same b negotiated s message each (ap ends_with_client (sym same) ∙ client)))

    client-reports : ends_with_client w ≡ true → map Some (settled_by negotiated w m).reports ≡ map Some m.reports ++ reported_by (message ∷ messages)
    client-reports client =
        ap (map Some) (settled-all client).reported
        ∙ map-append Some m.reports (map (λ each. report (acted w) (outcome_of each) Connection) m.session.messages)
        ∙ ap (λ (l : List (Option Report)). map Some m.reports ++ l) (map-map Some (λ each. report (acted w) (outcome_of each) Connection) m.session.messages)
        ∙ ap (λ (l : List (Option Report)). map Some m.reports ++ l) (map-negotiate (λ each. Some (report (acted w) (outcome_of each) Connection)) (λ each. report_by negotiated (whole each) each) (each-is client) m.session.messages)
        ∙ ap (λ (l : List MailObject). map Some m.reports ++ reported_by l) all_messages

    client-connection : ends_with_client w ≡ true → (settled_by negotiated w m).connection ≡ connection_after b negotiated s (message ∷ messages) m.connection
    client-connection client =
        (settled-all client).connection
        ∙ ap (λ (k : Bool). if k then dialogue_verdict w else m.connection) (sym client)
        ∙ ap (λ (z : List Exchange). if ends_with_client z then dialogue_verdict z else m.connection) same

    client-done : (next : List Line) → ends_with_client w ≡ true → (old : Mta) → (first : List Line) → old.reports ≡ m.reports → old.connection ≡ m.connection → Plays old first (settled_by negotiated w m)
        → Finishes old (first ++ lines_after w next) (message ∷ messages)
    client-done next client old first kept connected goes =
        let n = settled_by negotiated w m in
        let n_is : n ≡ at (at_packet Quitting) n = ap (λ (l : Option FilterConnection). record n { filter_connection = l }) (settled-all client).quits in
        let quit : Plays n (quit_line ∷ []) (at (at_packet Ended) n) = subst (λ (z : Mta). Plays z (quit_line ∷ []) (at (at_packet Ended) n)) (sym n_is) (quitted n) in
        record {
          new = at (at_packet Ended) n;
          plays = subst (λ (l : List Line). Plays old (first ++ l) (at (at_packet Ended) n)) (sym (ap (λ (k : Bool). if k then quit_line ∷ [] else (if ends_with_message w then next else abort_line ∷ next)) client))
              (plays-append first (quit_line ∷ []) old n (at (at_packet Ended) n) goes quit);
          ended = refl;
          reports = client-reports client ∙ ap (λ (l : List Report). map Some l ++ reported_by (message ∷ messages)) (sym kept);
          connection = client-connection client ∙ ap (connection_after b negotiated s (message ∷ messages)) (sym connected);
        }

    -- ---- by the message

    abbrev r : Report
    r = report (acted w) (outcome_of message) Filter

    -- settled, before the next message
    abbrev base : Mta
    base = record m { session = record m.session { messages = messages }; reports = m.reports ++ r ∷ [] }

    abbrev goes_to : Position
    goes_to = next_position negotiated (opening_of w) m.session messages

    one-is : ends_with_client w ≡ false → settled_by negotiated w m ≡ at (connection_at (not (ends_with_message w)) goes_to) base
    one-is client = one-settled-dialogue negotiated w m message messages (outcome_of message) all.proper client all_messages (is_ruled message)

    one-report : ends_with_client w ≡ false → map Some (m.reports ++ r ∷ []) ++ reported_by messages ≡ map Some m.reports ++ reported_by (message ∷ messages)
    one-report client =
        ap (λ (l : List (Option Report)). l ++ reported_by messages) (map-append Some m.reports (r ∷ []))
        ∙ append_assoc (map Some m.reports) (Some r ∷ []) (reported_by messages)
        ∙ ap (λ (x : Option Report). map Some m.reports ++ x ∷ reported_by messages) (report-is Filter (ap (λ (k : Bool). if k then Connection else Filter) client) message ∙ ap (λ (z : List Exchange). report_by negotiated z message) same)

    -- perhaps after an abort
    after-abort : (next : List Line) (over : Bool) → Finishes (at (at_packet goes_to) base) next messages
        → Finishes (at (connection_at (not over) goes_to) base) (if over then next else abort_line ∷ next) messages
    after-abort next true rest = rest
    after-abort next false rest = after-lines (abort_line ∷ []) next (at (connection_at true goes_to) base) (at (at_packet goes_to) base) messages (aborted base goes_to) refl refl rest

    -- nor does another message's dialogue end with the client
    no_connection : (others : List MailObject) → ends_with_client w ≡ false → connection_after b negotiated s others m.connection ≡ m.connection
    no_connection [] client = refl
    no_connection (other ∷ others) client = by_other (ends_with_client (whole other)) refl
      where
        by_other : (ends : Bool) → ends_with_client (whole other) ≡ ends → (if ends then dialogue_verdict (whole other) else m.connection) ≡ m.connection
        by_other false e = refl
        by_other true e = absurd (true≢false (sym e ∙ ap ends_with_client (sym (dialogue-same b negotiated s other message e) ∙ sym same) ∙ client))

    one-connection : ends_with_client w ≡ false → connection_after b negotiated s messages m.connection ≡ connection_after b negotiated s (message ∷ messages) m.connection
    one-connection client =
        no_connection messages client
        ∙ ap (λ (k : Bool). if k then dialogue_verdict w else m.connection) (sym client)
        ∙ ap (λ (z : List Exchange). if ends_with_client z then dialogue_verdict z else m.connection) same

    one-done : (next : List Line) → ends_with_client w ≡ false → Finishes (at (at_packet goes_to) base) next messages
        → (old : Mta) → (first : List Line) → old.reports ≡ m.reports → old.connection ≡ m.connection → Plays old first (settled_by negotiated w m)
        → Finishes old (first ++ lines_after w next) (message ∷ messages)
    one-done next client rest old first kept connected goes =
        let more = after-abort next (ends_with_message w) rest in
        let goes_there = subst (λ (z : Mta). Plays old first z) (one-is client) goes in
        let lines : lines_after w next ≡ (if ends_with_message w then next else abort_line ∷ next) = ap (λ (k : Bool). if k then quit_line ∷ [] else (if ends_with_message w then next else abort_line ∷ next)) client in
        record {
          new = more.new;
          plays = subst (λ (l : List Line). Plays old (first ++ l) more.new) (sym lines) (plays-append first _ old _ more.new goes_there more.plays);
          ended = more.ended;
          reports = more.reports ∙ one-report client ∙ ap (λ (l : List Report). map Some l ++ reported_by (message ∷ messages)) (sym kept);
          connection = more.connection ∙ one-connection client ∙ ap (connection_after b negotiated s (message ∷ messages)) (sym connected);
        }

    pub done : (next : List Line) → (ends_with_client w ≡ false → Finishes (at (at_packet goes_to) base) next messages)
        → (old : Mta) → (first : List Line) → old.reports ≡ m.reports → old.connection ≡ m.connection → Plays old first (settled_by negotiated w m)
        → Finishes old (first ++ lines_after w next) (message ∷ messages)
    done next rest old first kept connected goes = by_end (ends_with_client w) refl
      where
        by_end : (client : Bool) → ends_with_client w ≡ client → Finishes old (first ++ lines_after w next) (message ∷ messages)
        by_end true is = client-done next is old first kept connected goes
        by_end false is = one-done next is (rest is) old first kept connected goes

-- ---- message after message

module _ (receives_bytes : ReceivesReplies) (b : Behavior) (lawful : IsLawful b) (negotiated : Negotiated) (s : MailSession) where
  some_messages : (message : MailObject) (messages : List MailObject) (m : Mta) → m.session ≡ record s { messages = message ∷ messages } → m.session.messages ≢ []
  some_messages message messages m e none =
      let no : message ∷ messages ≡ [] = sym (ap (λ (z : MailSession). z.messages) e) ∙ none in absurd cc

  -- with the report of a message alone
  abbrev settled_alone : List Exchange → MailObject → List MailObject → Mta → Mta
  settled_alone w message messages m =
      record m {
        session = record m.session { messages = messages };
        reports = m.reports ++ report (acted w) (or_none (ruled (has_leading_space negotiated) message w)) Filter ∷ [];
      }

  pub each : (messages : List MailObject) (message : MailObject) (dialogue : List Exchange) (left : List Command) (m : Mta)
      → m.session ≡ record s { messages = message ∷ messages } → IsDialogue negotiated dialogue left → onto (dialogue_with b negotiated dialogue left) dialogue ≡ dialogue_of b negotiated s message
      → Finishes b negotiated s (at_dialogue negotiated dialogue left m) (lines_from b negotiated s messages dialogue left) (message ∷ messages)
  each [] message dialogue left m e is same =
      let p = played receives_bytes b lawful negotiated m (some_messages message [] m e) left dialogue is.proper is.in_order is.ends in
      let w = onto (dialogue_with b negotiated dialogue left) dialogue in
      let n : Mta = settled_alone w message [] m in
      done b negotiated s [] message w m e (record { proper = p.all; in_order = p.order }) same (λ each. p.rules (has_leading_space negotiated) each)
      (quit_line ∷ []) (λ client. quits b negotiated s n) (at_dialogue negotiated dialogue left m) (map line_of (dialogue_with b negotiated dialogue left)) refl refl p.plays
  each (next ∷ messages) message dialogue left m e is same =
      let p = played receives_bytes b lawful negotiated m (some_messages message (next ∷ messages) m e) left dialogue is.proper is.in_order is.ends in
      let w = onto (dialogue_with b negotiated dialogue left) dialogue in
      let steps = message_steps negotiated (macros_of negotiated s) next in
      let n : Mta = settled_alone w message (next ∷ messages) m in
      let macros : message_steps negotiated (macros_of negotiated m.session) next ≡ steps = ap (λ (z : MailSession). message_steps negotiated (macros_of negotiated z) next) e in
      done b negotiated s (next ∷ messages) message w m e (record { proper = p.all; in_order = p.order }) same (λ each. p.rules (has_leading_space negotiated) each)
      (lines_from b negotiated s messages (opening_of w) steps)
      (λ client. subst (λ (l : List Command). Finishes b negotiated s (at_dialogue negotiated (opening_of w) l n) (lines_from b negotiated s messages (opening_of w) steps) (next ∷ messages)) (sym macros)
      (each messages next (opening_of w) steps n (ap (λ (z : MailSession). record z { messages = next ∷ messages }) e)
      (record {
        proper = opening-proper negotiated w p.all;
        in_order = message-ordered negotiated s next (commands_of (opening_of w)) (opening-reaches w p.order);
        ends = message-ends negotiated (macros_of negotiated s) next;
      })
      (ap (λ (z : List Exchange). onto (dialogue_with b negotiated (opening_of z) steps) (opening_of z)) same ∙ dialogue-next b negotiated s message next (ap ends_with_client (sym same) ∙ client))))
      (at_dialogue negotiated dialogue left m) (map line_of (dialogue_with b negotiated dialogue left)) refl refl p.plays
