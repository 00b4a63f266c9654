-- A mail server's end follows the list of the entries of a session with a lawful filter.
use Rattle.std.proofs.Common.{◌≡◌, ◌≢◌, ℕ, Bool, true, false, if◌then◌else◌, not, List, [], ◌∷◌, ◌++◌, map, is_some, Option, None, Some, refl, sym, ◌∙◌, ap, subst, append-nil}
use Rattle.std.specs.List.{cons_option, filter_map}
use Rattle.std.specs.Option.{option_map}
use Rattle.std.proofs.lemmas.Bool.{true≢false}
use Rattle.milter_wire.specs.declared.negotiation.Negotiated.{Negotiated}
use Rattle.milter_wire.specs.declared.command.Command.{Command}
use Rattle.milter_wire.specs.declared.command.Command.TheVariants as commands
use Rattle.milter_wire.specs.Negotiation.{has_leading_space}
use Rattle.milter_message.specs.declared.edit.Edit.{Edit}
use Rattle.milter_message.specs.MailObject.{MailObject}
use Rattle.milter_mail.specs.MailSession.{MailSession}
use Rattle.milter_mail.specs.Plan.{macros_of}
use Rattle.milter_mail.specs.Steps.{message_steps}
use Rattle.milter_protocol.specs.declared.answer.Answer.{Answer}
use Rattle.milter_protocol.specs.Behavior.{Behavior, exchange_of}
use Rattle.milter_protocol.specs.Exchanges.{Exchange, commands_of, onto}
use Rattle.milter_protocol.specs.Dialogue.{has_end, is_closed, is_left_out, sendable, dialogue_with}
use Rattle.milter_protocol.proofs.WholeDialogues.{dialogue_with-some}
use Rattle.milter_mta_outcome.specs.declared.fallback.OnLoss.{OnLoss}
use Rattle.milter_mta_outcome.specs.declared.loss.By.{By}
use Rattle.milter_mta_outcome.specs.declared.loss.By.TheVariants.{Connection, Default, Filter}
use Rattle.milter_mta_outcome.specs.declared.loss.Loss.{Loss}
use Rattle.milter_mta_outcome.specs.declared.outcome.Outcome.{Outcome}
use Rattle.milter_mta_outcome.specs.declared.outcome.Outcome.TheVariants.{NoRecipients}
use Rattle.milter_mta_outcome.specs.declared.outcome.Report.{Report}
use Rattle.milter_mta_outcome.specs.Dialogues.{acted, given_up, ruled}
use Rattle.milter_mta.specs.Mta.{Configuration, FilterConnection, Mta, Position, at_packet, connection_at}
use Rattle.milter_mta.specs.Mta.Position.{Ended, Quitting}
use Rattle.milter_mta.specs.Replies.{After, at, goes_on}
use Rattle.milter_mta.specs.Output.{want}
use Rattle.milter_mta.specs.Dispositions.{acted_at, defaulted, report}
use Rattle.milter_mta.specs.Lines.{Plays, abort_line, after_line, answer_bytes, line_of, next_packet, quit_line}
use Rattle.milter_mta.specs.Order.{AreProper, IsDialogue, IsDialogueSoFar}
use Rattle.milter_mta.specs.PartAnswers.{IsPartReceived}
use Rattle.milter_mta.specs.Sessions.{report_by, settled_through}
use Rattle.milter_mta.specs.Settled.{AreAllSettled, ends_with_client, ends_with_message, next_connection, next_position}
use Rattle.milter_mta.specs.Dialogues.{after_dialogue, at_dialogue, opening_of, settled_by}
use Rattle.milter_world.specs.ConnectionEntries as connection_entries_of
use Rattle.milter_world.specs.ConnectionEntries.{Entry, default_reports, entries_after, entries_from, entry_of, exchange_entries}
use Rattle.milter_world.proofs.EntryLines.{some_bytes}
use Rattle.milter_world.specs.FollowedLines.{Follows, IsWaiting, SendsLine, TakesEntry}

-- ---- the laws of dialogues

-- what they say of one filter, by what was negotiated with it
pub record DialogueLaws (b : Behavior) (negotiated : Negotiated) : Type 0 where
  pub packet : (m : Mta) (dialogue : List Exchange) (command : Command) (left : List Command) → is_left_out dialogue command ≡ false
      → next_packet (at_dialogue negotiated dialogue (command ∷ left) m) ≡ (line_of (exchange_of b negotiated (commands_of dialogue) command)).out
  pub answer : (m : Mta) (dialogue : List Exchange) (command : Command) (left : List Command) → m.session.messages ≢ [] → IsDialogue negotiated dialogue (command ∷ left)
      → is_left_out dialogue command ≡ false
      → after_line (line_of (exchange_of b negotiated (commands_of dialogue) command)).back (at_dialogue negotiated dialogue (command ∷ left) m)
      ≡ goes_on (after_dialogue negotiated (exchange_of b negotiated (commands_of dialogue) command ∷ dialogue) left m)
  pub left_out : (m : Mta) (dialogue : List Exchange) (command : Command) (left : List Command) → is_left_out dialogue command ≡ true
      → at_dialogue negotiated dialogue (command ∷ left) m ≡ at_dialogue negotiated dialogue left m
  pub open_dialogue : (dialogue : List Exchange) (command : Command) (left : List Command) → IsDialogue negotiated dialogue (command ∷ left)
      → is_closed (exchange_of b negotiated (commands_of dialogue) command ∷ dialogue) left ≡ false → IsDialogue negotiated (exchange_of b negotiated (commands_of dialogue) command ∷ dialogue) left
  pub dialogue_without : (dialogue : List Exchange) (command : Command) (left : List Command) → IsDialogue negotiated dialogue (command ∷ left) → is_left_out dialogue command ≡ true
      → IsDialogue negotiated dialogue left
  pub part : (m : Mta) (dialogue : List Exchange) (command : Command) (left : List Command) (answer : Answer) (bytes more : List ℕ) → m.session.messages ≢ []
      → is_left_out dialogue command ≡ false → more ≢ [] → (exchange_of b negotiated (commands_of dialogue) command).answer ≡ Some answer → bytes ++ more ≡ answer_bytes (Some answer)
      → IsPartReceived negotiated (acted dialogue) (sendable dialogue (command ∷ left)) m [] answer.edits bytes (after_line bytes (at_dialogue negotiated dialogue (command ∷ left) m))
  pub waits : (dialogue : List Exchange) (left : List Command) (m : Mta) (edits : List Edit) (bytes : List ℕ) (after : After)
      → IsPartReceived negotiated (acted dialogue) (sendable dialogue left) m [] edits bytes after → IsWaiting (at_dialogue negotiated dialogue left m) after
  pub whole : (m : Mta) (dialogue : List Exchange) (left : List Command) → m.session.messages ≢ [] → IsDialogue negotiated dialogue left → IsDialogueSoFar negotiated (onto (dialogue_with b negotiated dialogue left) dialogue)
  pub rules : (dialogue : List Exchange) (left : List Command) (message : MailObject) → has_end left ≡ true
      → is_some (ruled (has_leading_space negotiated) message (onto (dialogue_with b negotiated dialogue left) dialogue)) ≡ true
  pub one : (dialogue : List Exchange) (m : Mta) (message : MailObject) (messages : List MailObject) (outcome : Outcome) → AreProper negotiated dialogue → ends_with_client dialogue ≡ false
      → m.session.messages ≡ message ∷ messages → ruled (has_leading_space negotiated) message dialogue ≡ Some outcome
      → settled_by negotiated dialogue m ≡ record m {
        session = record m.session { messages = messages };
        reports = m.reports ++ report (acted dialogue) outcome Filter ∷ [];
        filter_connection = Some (next_connection negotiated dialogue m.session messages);
      }
  pub all : (dialogue : List Exchange) (m : Mta) (message : MailObject) (messages : List MailObject) (outcome_of : MailObject → Outcome) → IsDialogueSoFar negotiated dialogue
      → ends_with_client dialogue ≡ true → m.session.messages ≡ message ∷ messages
      → ((each : MailObject) → ruled (has_leading_space negotiated) each dialogue ≡ Some (outcome_of each)) → AreAllSettled dialogue outcome_of m (settled_by negotiated dialogue m)
  pub next : (dialogue : List Exchange) (s : MailSession) (message : MailObject) → IsDialogueSoFar negotiated dialogue
      → IsDialogue negotiated (opening_of dialogue) (message_steps negotiated (macros_of negotiated s) message)
  pub abort : (m : Mta) (position : Position) → Plays (at (connection_at true position) m) (abort_line ∷ []) (at (at_packet position) m)
  pub quit : (m : Mta) → Plays (at (at_packet Quitting) m) (quit_line ∷ []) (at (at_packet Ended) m)

abbrev or_none : Option Outcome → Outcome
or_none None = NoRecipients
or_none (Some o) = o

some-is : (found : Option Outcome) → is_some found ≡ true → found ≡ Some (or_none found)
some-is None e = absurd (true≢false (sym e))
some-is (Some o) e = refl

no_bytes : (bytes rest : List ℕ) → bytes ++ rest ≡ [] → rest ≡ []
no_bytes [] rest e = e
no_bytes (x ∷ bytes) rest e = absurd cc

module _ (on_loss : OnLoss) (b : Behavior) (negotiated : Negotiated) (laws : DialogueLaws b negotiated) where
  -- the end of the connection
  quits : (m : Mta) → m.session.messages ≡ [] → Follows on_loss (at (at_packet Quitting) m) (entry_of quit_line [] [] ∷ [])
  quits m none_left =
      let p = laws.quit m in (
        record {
          sends = record {
            wanted = refl;
            none_pending = refl;
            packet = p.0;
            some = some_bytes commands.Quit;
            part = λ bytes more some e. absurd (some (no_bytes bytes more e));
            whole = p.1;
          };
          settles = ap (λ (n : Mta). n.reports) p.2 ∙ sym (append-nil m.reports);
          gives_up = λ loss. ap (λ (l : List MailObject). (record (defaulted loss [] l (at (at_packet Quitting) m)) { filter_connection = None }).reports) none_left ∙ sym (append-nil m.reports);
        },
        (ap want p.2, ap (λ (n : Mta). n.session.messages) p.2 ∙ none_left),
      )

  module _ (s : MailSession) (config : Configuration) (loses : config.on_loss ≡ on_loss) where
    -- ---- one exchange

    module _ (m : Mta) (message : MailObject) (messages : List MailObject) (e : m.session ≡ record s { messages = message ∷ messages }) (c : m.config ≡ config)
        (dialogue : List Exchange) (command : Command) (left : List Command) (stays : is_left_out dialogue command ≡ false) (is : IsDialogue negotiated dialogue (command ∷ left)) where
      left-is : m.session.messages ≡ message ∷ messages
      left-is = ap (λ (z : MailSession). z.messages) e

      some : m.session.messages ≢ []
      some none = let no : message ∷ messages ≡ [] = sym left-is ∙ none in absurd cc

      abbrev exchange : Exchange
      exchange = exchange_of b negotiated (commands_of dialogue) command

      goes-to : after_line (line_of exchange).back (at_dialogue negotiated dialogue (command ∷ left) m) ≡ goes_on (after_dialogue negotiated (exchange ∷ dialogue) left m)
      goes-to = laws.answer m dialogue command left some is stays

      waits-in : (bytes more : List ℕ) → more ≢ [] → bytes ++ more ≡ answer_bytes exchange.answer
          → IsWaiting (at_dialogue negotiated dialogue (command ∷ left) m) (after_line bytes (at_dialogue negotiated dialogue (command ∷ left) m))
      waits-in bytes more remains e = by_answer exchange.answer refl
        where
          by_answer : (found : Option Answer) → exchange.answer ≡ found → IsWaiting (at_dialogue negotiated dialogue (command ∷ left) m) (after_line bytes (at_dialogue negotiated dialogue (command ∷ left) m))
          by_answer None f = absurd (remains (no_bytes bytes more (e ∙ ap answer_bytes f)))
          by_answer (Some answer) f =
              laws.waits dialogue (command ∷ left) m answer.edits bytes (after_line bytes (at_dialogue negotiated dialogue (command ∷ left) m))
              (laws.part m dialogue command left answer bytes more some stays remains f (e ∙ ap answer_bytes f))

      sends-it : SendsLine (at_dialogue negotiated dialogue (command ∷ left) m) (line_of exchange)
      sends-it =
          record {
            wanted = refl;
            none_pending = refl;
            packet = laws.packet m dialogue command left stays;
            some = some_bytes command;
            part = waits-in;
            whole = ap (λ (a : After). a.loss) goes-to;
          }

      takes-it : (reports : List Report) → (after_line (line_of exchange).back (at_dialogue negotiated dialogue (command ∷ left) m)).mta.reports ≡ m.reports ++ reports
          → TakesEntry on_loss (at_dialogue negotiated dialogue (command ∷ left) m) (record { line = line_of exchange; left = message ∷ messages; dialogue = dialogue; reports = reports })
      takes-it reports then_is =
          record {
            sends = sends-it;
            settles = then_is;
            gives_up = λ loss.
                ap (λ (l : List MailObject). (record (defaulted loss (acted dialogue) l (at_dialogue negotiated dialogue (command ∷ left) m)) { filter_connection = None }).reports) left-is
                ∙ ap (λ (k : Configuration). m.reports ++ report (acted dialogue) (given_up k.on_loss message dialogue) (Default loss) ∷ []) c
                ∙ ap (λ (l : OnLoss). m.reports ++ report (acted dialogue) (given_up l message dialogue) (Default loss) ∷ []) loses;
          }

    -- ---- a dialogue

    abbrev x : List Exchange → Command → Exchange
    x dialogue command = exchange_of b negotiated (commands_of dialogue) command

    entries-cons : (reports : List Report) (l : List MailObject) (dialogue : List Exchange) (e : Exchange) (more : List Exchange) → more ≢ []
        → exchange_entries reports l dialogue (e ∷ more) ≡ entry_of (line_of e) l dialogue ∷ exchange_entries reports l (e ∷ dialogue) more
    entries-cons reports l dialogue e [] some = absurd (some refl)
    entries-cons reports l dialogue e (y ∷ more) some = refl

    module _ (m : Mta) (message : MailObject) (messages : List MailObject) (e : m.session ≡ record s { messages = message ∷ messages }) (c : m.config ≡ config)
        (reports : List Report) (rest : List Entry) where
      abbrev Then : List Exchange → Type 0
      Then all = Follows on_loss (settled_by negotiated all m) rest × ((settled_by negotiated all m).reports ≡ m.reports ++ reports)

      abbrev Transactions : List Command → Type 0
      Transactions left = (dialogue : List Exchange) → IsDialogue negotiated dialogue left → Then (onto (dialogue_with b negotiated dialogue left) dialogue)
          → Follows on_loss (at_dialogue negotiated dialogue left m) (exchange_entries reports (message ∷ messages) dialogue (dialogue_with b negotiated dialogue left) ++ rest)

      pub dialogues : (left : List Command) → Transactions left
      unfolding dialogue_with
      dialogues [] dialogue is ends_so = absurd (true≢false (sym is.ends))
      dialogues (command ∷ left) dialogue is ends_so = by_out (is_left_out dialogue command) refl is ends_so (dialogues left)
        where
          by_closed : (stays : is_left_out dialogue command ≡ false) (closed : Bool) → is_closed ((x dialogue command) ∷ dialogue) left ≡ closed → IsDialogue negotiated dialogue (command ∷ left)
              → Then (onto (if closed then [] else dialogue_with b negotiated ((x dialogue command) ∷ dialogue) left) ((x dialogue command) ∷ dialogue)) → Transactions left
              → Follows on_loss (at_dialogue negotiated dialogue (command ∷ left) m)
              (exchange_entries reports (message ∷ messages) dialogue ((x dialogue command) ∷ (if closed then [] else dialogue_with b negotiated ((x dialogue command) ∷ dialogue) left)) ++ rest)
          by_closed stays true f is ends_so goes_further =
              let to = goes-to m message messages e c dialogue command left stays is ∙ ap (λ (k : Bool). goes_on (if k then settled_by negotiated (x dialogue command ∷ dialogue) m else at_dialogue negotiated (x dialogue command ∷ dialogue) left m)) f in (
                takes-it m message messages e c dialogue command left stays is reports (ap (λ (a : After). a.mta.reports) to ∙ ends_so.1),
                subst (λ (a : After). Follows on_loss a.mta rest) (sym to) ends_so.0,
              )
          by_closed stays false f is ends_so goes_further =
              let to = goes-to m message messages e c dialogue command left stays is ∙ ap (λ (k : Bool). goes_on (if k then settled_by negotiated (x dialogue command ∷ dialogue) m else at_dialogue negotiated (x dialogue command ∷ dialogue) left m)) f in
              let next_dialogue : IsDialogue negotiated ((x dialogue command) ∷ dialogue) left = laws.open_dialogue dialogue command left is f in
              let more = goes_further ((x dialogue command) ∷ dialogue) next_dialogue ends_so in
              subst (λ (l : List Entry). Follows on_loss (at_dialogue negotiated dialogue (command ∷ left) m) (l ++ rest))
              (sym (entries-cons reports (message ∷ messages) dialogue (x dialogue command) (dialogue_with b negotiated ((x dialogue command) ∷ dialogue) left) (dialogue_with-some b negotiated ((x dialogue command) ∷ dialogue) left next_dialogue.ends))) (
                takes-it m message messages e c dialogue command left stays is [] (ap (λ (a : After). a.mta.reports) to ∙ sym (append-nil m.reports)),
                subst (λ (a : After). Follows on_loss a.mta (exchange_entries reports (message ∷ messages) ((x dialogue command) ∷ dialogue) (dialogue_with b negotiated ((x dialogue command) ∷ dialogue) left) ++ rest)) (sym to) more,
              )

          by_out : (out : Bool) → is_left_out dialogue command ≡ out → IsDialogue negotiated dialogue (command ∷ left)
              → Then (onto (if out then dialogue_with b negotiated dialogue left else (x dialogue command) ∷ (if is_closed ((x dialogue command) ∷ dialogue) left then [] else dialogue_with b negotiated ((x dialogue command) ∷ dialogue) left)) dialogue)
              → Transactions left
              → Follows on_loss (at_dialogue negotiated dialogue (command ∷ left) m)
              (exchange_entries reports (message ∷ messages) dialogue (if out then dialogue_with b negotiated dialogue left else (x dialogue command) ∷ (if is_closed ((x dialogue command) ∷ dialogue) left then [] else dialogue_with b negotiated ((x dialogue command) ∷ dialogue) left)) ++ rest)
          by_out true f is ends_so goes_further =
              subst (λ (n : Mta). Follows on_loss n (exchange_entries reports (message ∷ messages) dialogue (dialogue_with b negotiated dialogue left) ++ rest)) (sym (laws.left_out m dialogue command left f))
              (goes_further dialogue (laws.dialogue_without dialogue command left is f) ends_so)
          by_out false f is ends_so goes_further = by_closed f (is_closed ((x dialogue command) ∷ dialogue) left) refl is ends_so goes_further

    -- ---- after a message

    module _ (messages : List MailObject) (message : MailObject) (w : List Exchange) (m : Mta) (e : m.session ≡ record s { messages = message ∷ messages }) (c : m.config ≡ config)
        (all : IsDialogueSoFar negotiated w) (rules : (each : MailObject) → is_some (ruled (has_leading_space negotiated) each w) ≡ true) where
      abbrev outcome_of : MailObject → Outcome
      outcome_of each = or_none (ruled (has_leading_space negotiated) each w)

      is_ruled : (each : MailObject) → ruled (has_leading_space negotiated) each w ≡ Some (outcome_of each)
      is_ruled each = some-is (ruled (has_leading_space negotiated) each w) (rules each)

      all_messages : m.session.messages ≡ message ∷ messages
      all_messages = ap (λ (z : MailSession). z.messages) e

      report-is : (by : By) → settled_through w ≡ by → (each : MailObject) → report_by negotiated w each ≡ Some (report (acted w) (outcome_of each) by)
      report-is by through each =
          ap (λ (found : Option Outcome). option_map (λ o. report (acted w) o (settled_through w)) found) (is_ruled each)
          ∙ ap (λ (x : By). Some (report (acted w) (outcome_of each) x)) through

      all-reports : (by : By) → settled_through w ≡ by → (l : List MailObject) → filter_map (report_by negotiated w) l ≡ map (λ each. report (acted w) (outcome_of each) by) l
      all-reports by through [] = refl
      all-reports by through (each ∷ l) =
          ap (λ (found : Option Report). cons_option found (filter_map (report_by negotiated w) l)) (report-is by through each)
          ∙ ap (λ (rs : List Report). report (acted w) (outcome_of each) by ∷ rs) (all-reports by through l)

      abbrev goes_to : Position
      goes_to = next_position negotiated (opening_of w) m.session messages

      abbrev base : Mta
      base = record m { session = record m.session { messages = messages }; reports = m.reports ++ report (acted w) (outcome_of message) Filter ∷ [] }

      -- perhaps after an abort
      after-abort : (next_entries : List Entry) (over : Bool) → Follows on_loss (at (at_packet goes_to) base) next_entries
          → Follows on_loss (at (connection_at (not over) goes_to) base) (if over then next_entries else entry_of abort_line messages (opening_of w) ∷ next_entries)
      after-abort next_entries true rest = rest
      after-abort next_entries false rest =
          let p = laws.abort base goes_to in (
            record {
              sends = record {
                wanted = refl;
                none_pending = refl;
                packet = p.0;
                some = some_bytes commands.Abort;
                part = λ bytes more some e. absurd (some (no_bytes bytes more e));
                whole = p.1;
              };
              settles = ap (λ (n : Mta). n.reports) p.2 ∙ sym (append-nil base.reports);
              gives_up = λ loss. by_messages loss messages;
            },
            subst (λ (n : Mta). Follows on_loss n next_entries) (sym p.2) rest,
          )
        where
          by_messages : (loss : Loss) (l : List MailObject)
              → (record (defaulted loss (acted_at (next_position negotiated (opening_of w) m.session l)) l (at (connection_at true goes_to) base)) { filter_connection = None }).reports
              ≡ base.reports ++ default_reports on_loss loss l (opening_of w)
          by_messages loss [] = sym (append-nil base.reports)
          by_messages loss (next_message ∷ l) =
              ap (λ (k : Configuration). base.reports ++ report (acted (opening_of w)) (given_up k.on_loss next_message (opening_of w)) (Default loss) ∷ []) c
              ∙ ap (λ (o : OnLoss). base.reports ++ report (acted (opening_of w)) (given_up o next_message (opening_of w)) (Default loss) ∷ []) loses

      pub settled-then : (next_entries : List Entry) → (ends_with_client w ≡ false → Follows on_loss (at (at_packet goes_to) base) next_entries)
          → Follows on_loss (settled_by negotiated w m) (entries_after w messages next_entries)
          × ((settled_by negotiated w m).reports ≡ m.reports ++ connection_entries_of.reports_of negotiated w message messages)
      settled-then next_entries rest = by_client (ends_with_client w) refl
        where
          by_client : (client : Bool) → ends_with_client w ≡ client
              → Follows on_loss (settled_by negotiated w m)
              (if client then entry_of quit_line [] [] ∷ [] else (if ends_with_message w then next_entries else entry_of abort_line messages (opening_of w) ∷ next_entries))
              × ((settled_by negotiated w m).reports ≡ m.reports ++ filter_map (report_by negotiated w) (if client then message ∷ messages else message ∷ []))
          by_client true f =
              let done = laws.all w m message messages outcome_of all f all_messages is_ruled in
              let n = settled_by negotiated w m in
              let n_is : n ≡ at (at_packet Quitting) n = ap (λ (l : Option FilterConnection). record n { filter_connection = l }) done.quits in (
                subst (λ (z : Mta). Follows on_loss z (entry_of quit_line [] [] ∷ [])) (sym n_is) (quits n done.none_left),
                done.reported
                    ∙ ap (λ (l : List MailObject). m.reports ++ map (λ each. report (acted w) (outcome_of each) Connection) l) all_messages
                    ∙ ap (λ (rs : List Report). m.reports ++ rs) (sym (all-reports Connection (ap (λ (k : Bool). if k then Connection else Filter) f) (message ∷ messages))),
              )
          by_client false f =
              let one = laws.one w m message messages (outcome_of message) all.proper f all_messages (is_ruled message) in (
                subst (λ (z : Mta). Follows on_loss z (if ends_with_message w then next_entries else entry_of abort_line messages (opening_of w) ∷ next_entries)) (sym one)
                    (after-abort next_entries (ends_with_message w) (rest f)),
                ap (λ (z : Mta). z.reports) one
                    ∙ ap (λ (rs : List Report). m.reports ++ rs) (sym (all-reports Filter (ap (λ (k : Bool). if k then Connection else Filter) f) (message ∷ []))),
              )

    -- ---- message after message

    pub each : (messages : List MailObject) (message : MailObject) (dialogue : List Exchange) (left : List Command) (m : Mta)
        → m.session ≡ record s { messages = message ∷ messages } → m.config ≡ config → IsDialogue negotiated dialogue left
        → Follows on_loss (at_dialogue negotiated dialogue left m) (entries_from b negotiated s message messages dialogue left)
    each [] message dialogue left m e c is =
        let none = some-messages message [] m e in
        let w = onto (dialogue_with b negotiated dialogue left) dialogue in
        let ws : IsDialogueSoFar negotiated w = laws.whole m dialogue left none is in
        let rules : (each : MailObject) → is_some (ruled (has_leading_space negotiated) each w) ≡ true = λ each. laws.rules dialogue left each is.ends in
        dialogues m message [] e c (connection_entries_of.reports_of negotiated w message []) (entries_after w [] (entry_of quit_line [] [] ∷ [])) left dialogue is
        (settled-then [] message w m e c ws rules
        (entry_of quit_line [] [] ∷ []) (λ client. quits (base [] message w m e c ws rules) refl))
      where
        some-messages : (message : MailObject) (messages : List MailObject) (m : Mta) → m.session ≡ record s { messages = message ∷ messages } → m.session.messages ≢ []
        some-messages message messages m e none = let no : message ∷ messages ≡ [] = sym (ap (λ (z : MailSession). z.messages) e) ∙ none in absurd cc
    each (next_message ∷ messages) message dialogue left m e c is =
        let none = some-messages message (next_message ∷ messages) m e in
        let w = onto (dialogue_with b negotiated dialogue left) dialogue in
        let ws : IsDialogueSoFar negotiated w = laws.whole m dialogue left none is in
        let rules : (each : MailObject) → is_some (ruled (has_leading_space negotiated) each w) ≡ true = λ each. laws.rules dialogue left each is.ends in
        let steps = message_steps negotiated (macros_of negotiated s) next_message in
        let n = base (next_message ∷ messages) message w m e c ws rules in
        let macros : message_steps negotiated (macros_of negotiated m.session) next_message ≡ steps = ap (λ (z : MailSession). message_steps negotiated (macros_of negotiated z) next_message) e in
        let next_entries = entries_from b negotiated s next_message messages (opening_of w) steps in
        dialogues m message (next_message ∷ messages) e c (connection_entries_of.reports_of negotiated w message (next_message ∷ messages)) (entries_after w (next_message ∷ messages) next_entries) left dialogue is
        (settled-then (next_message ∷ messages) message w m e c ws rules next_entries
        (λ client. subst (λ (l : List Command). Follows on_loss (at_dialogue negotiated (opening_of w) l n) next_entries) (sym macros)
        (each messages next_message (opening_of w) steps n (ap (λ (z : MailSession). record z { messages = next_message ∷ messages }) e) c
        (laws.next w s next_message ws))))
      where
        some-messages : (message : MailObject) (messages : List MailObject) (m : Mta) → m.session ≡ record s { messages = message ∷ messages } → m.session.messages ≢ []
        some-messages message messages m e none = let no : message ∷ messages ≡ [] = sym (ap (λ (z : MailSession). z.messages) e) ∙ none in absurd cc
