-- What the entries of a list of entries settle: the first messages that are left, by their dialogues or by default.
use Rattle.std.proofs.Common.{◌≡◌, ◌≢◌, ℕ, ◌+◌, ◌-◌, ◌≤◌, Bool, true, false, if◌then◌else◌, List, [], ◌∷◌, ◌++◌, drop, length, Option, None, Some, refl, sym, ◌∙◌, ap, subst, arith, append-nil, append_assoc, length-append, is_some}
use Rattle.std.specs.List.{AllZip, cons_option, filter_map}
use Rattle.std.specs.Option.{option_map}
use Rattle.std.proofs.lemmas.Bool.{le-leb, lt-leb, true≢false}
use Rattle.milter_wire.specs.declared.command.Command.{Command}
use Rattle.milter_message.specs.MailObject.{MailObject}
use Rattle.milter_mail.specs.Plan.{macros_of, plan}
use Rattle.milter_mail.specs.Steps.{message_steps}
use Rattle.milter_protocol.specs.Exchanges.{Exchange, onto}
use Rattle.milter_protocol.specs.Dialogue.{has_end, dialogue_with}
use Rattle.milter_mta_outcome.specs.declared.loss.Loss.{Loss}
use Rattle.milter_mta_outcome.specs.declared.outcome.Report.{Report}
use Rattle.std.proofs.lemmas.List.Concat.{flat_map-cons}
use Rattle.milter_wire.specs.Negotiation.{has_leading_space}
use Rattle.milter_mta_outcome.specs.declared.outcome.Outcome.{Outcome}
use Rattle.milter_mta_outcome.specs.Dialogues.{acted, ruled}
use Rattle.milter_mta.specs.Dispositions.{report}
use Rattle.milter_mta.specs.Order.{IsDialogue}
use Rattle.milter_mta.specs.Lines.{Line, abort_line, quit_line}
use Rattle.milter_mta.specs.Sessions.{report_by, settled_through}
use Rattle.milter_mta.specs.Settled.{ends_with_client, ends_with_message}
use Rattle.milter_mta.specs.Dialogues.{opening_of}
use Rattle.milter_world.specs.DialogueReports.{Begins, IsDefaultAfter, IsRuledBy, negotiated_of, dialogue_about}
use Rattle.milter_world.specs.ByteCounts.{to_mta}
use Rattle.milter_protocol.proofs.WholeDialogues.{dialogue_with-some}
use Rattle.milter_world.specs.Schedule.{Scenario}
use Rattle.milter_world.specs.ConnectionEntries.{Entry, exchange_entries, default_reports, lines_of, default_within, connection_entries, reports_of, reports_within, entry_of, entries_after, entries_from}
use Rattle.milter_world.proofs.CountedBytes.{by_lt}

pub drop-past : {A : Type 0} (xs ys : List A) → drop (length xs) (xs ++ ys) ≡ ys
drop-past [] ys = refl
drop-past (x ∷ xs) ys = drop-past xs ys

-- ---- what is reported grows with what is received

pub record Grows (entries : List Entry) (h k : ℕ) : Type 0 where
  pub more : List Report
  pub is : reports_within entries (h + k) ≡ reports_within entries h ++ more

pub grows : (entries : List Entry) (h k : ℕ) → Grows entries h k
grows [] h k = record { more = []; is = refl }
grows (entry ∷ entries) h k =
    let n = length entry.line.back in
    by_lt h n
    (λ less.
    let none : reports_within (entry ∷ entries) h ≡ [] = rw (lt-leb n h less) refl in
    record {
      more = reports_within (entry ∷ entries) (h + k);
      is = sym (ap (λ (l : List Report). l ++ reports_within (entry ∷ entries) (h + k)) none);
    })
    (λ past.
    let rest = grows entries (h - n) k in
    let e : h + k - n ≡ (h - n) + k = omega arith in
    record {
      more = rest.more;
      is = rw (le-leb n h past, le-leb n (h + k) (omega arith), e, rest.is) (sym (append_assoc entry.reports (reports_within entries (h - n)) rest.more));
    })

pub added : (entries : List Entry) (h k : ℕ)
    → reports_within entries h ++ drop (length (reports_within entries h)) (reports_within entries (h + k)) ≡ reports_within entries (h + k)
added entries h k =
    let g = grows entries h k in
    ap (λ (l : List Report). reports_within entries h ++ drop (length (reports_within entries h)) l) g.is
    ∙ ap (λ (l : List Report). reports_within entries h ++ l) (drop-past (reports_within entries h) g.more)
    ∙ sym g.is

pub zip-append : {A B : Type 0} (R : A → B → Type 0) (xs ys : List A) (us vs : List B) → AllZip R xs us → AllZip R ys vs → AllZip R (xs ++ ys) (us ++ vs)
zip-append R [] ys [] vs a b = b
zip-append R [] ys (u ∷ us) vs a b = absurd a
zip-append R (x ∷ xs) ys [] vs a b = absurd a
zip-append R (x ∷ xs) ys (u ∷ us) vs a b = (a.0, zip-append R xs ys us vs a.1 b)

-- some of these messages are settled so, and these are left
pub record Settles (p : Scenario) (messages : List MailObject) (R : MailObject → Report → Type 0) (reports : List Report) (rest : List MailObject) : Type 0 where
  pub done : List MailObject
  pub messages_are : messages ≡ done ++ rest
  pub each : AllZip R done reports

pub settles-none : (p : Scenario) (messages : List MailObject) (R : MailObject → Report → Type 0) → Settles p messages R [] messages
settles-none p messages R = record { done = []; messages_are = refl; each = tt }

pub settles-more : (p : Scenario) (messages mid rest : List MailObject) (R : MailObject → Report → Type 0) (us vs : List Report)
    → Settles p messages R us mid → Settles p mid R vs rest → Settles p messages R (us ++ vs) rest
settles-more p messages mid rest R us vs a b =
    record {
      done = a.done ++ b.done;
      messages_are = a.messages_are ∙ ap (λ (l : List MailObject). a.done ++ l) b.messages_are ∙ sym (append_assoc a.done b.done rest);
      each = zip-append R a.done b.done us vs a.each b.each;
    }

-- ---- entry by entry

-- these exchanges begin the dialogue about the message, and more of it follows
abbrev pub IsOpenAfter : Scenario → MailObject → List Exchange → Type 0
IsOpenAfter p message dialogue = (b : Begins p message dialogue) × (b.more ≢ [])

-- with each entry the first messages that are left are settled by their dialogues, and the dialogue of the first is a
-- beginning of its dialogue
abbrev pub Accounts : Scenario → List MailObject → List Entry → Type 0
Accounts p left [] = left ≡ []
Accounts p left (entry ∷ entries) =
    (entry.left ≡ left)
    × ((message : MailObject) (others : List MailObject) → left ≡ message ∷ others → IsOpenAfter p message entry.dialogue)
    × ((rest : List MailObject) × Settles p left (IsRuledBy p) entry.reports rest × Accounts p rest entries)

pub record Within (p : Scenario) (left : List MailObject) (entries : List Entry) (received : ℕ) : Type 0 where
  pub rest : List MailObject
  pub settled : Settles p left (IsRuledBy p) (reports_within entries received) rest
  pub lost : (loss : Loss) → (after : List MailObject) × Settles p rest (IsDefaultAfter p) (default_within p.config.on_loss loss entries received) after

pub given-up : (p : Scenario) (loss : Loss) (left : List MailObject) (dialogue : List Exchange)
    → ((message : MailObject) (others : List MailObject) → left ≡ message ∷ others → IsOpenAfter p message dialogue)
    → (after : List MailObject) × Settles p left (IsDefaultAfter p) (default_reports p.config.on_loss loss left dialogue) after
given-up p loss [] dialogue begins = ([], record { done = []; messages_are = refl; each = tt })
given-up p loss (message ∷ others) dialogue begins = (
  others,
  record {
    done = message ∷ [];
    messages_are = refl;
    each = (
      record {
        dialogue = dialogue;
        begins = (begins message others refl).0;
        unfinished = (begins message others refl).1;
        loss = loss;
        report_is = refl;
      },
      tt,
    );
  },
)

unfoldable pub within : (p : Scenario) (entries : List Entry) (left : List MailObject) → Accounts p left entries → (received : ℕ) → Within p left entries received
within p [] left acc received = record { rest = left; settled = settles-none p left (IsRuledBy p); lost = λ loss. (left, settles-none p left (IsDefaultAfter p)) }
within p (entry ∷ entries) left acc received =
    let n = length entry.line.back in
    by_lt received n
    (λ wait.
    let none : reports_within (entry ∷ entries) received ≡ [] = rw (lt-leb n received wait) refl in
    let lost_is : (loss : Loss) → default_within p.config.on_loss loss (entry ∷ entries) received ≡ default_reports p.config.on_loss loss entry.left entry.dialogue = λ loss. rw (lt-leb n received wait) refl in
    record {
      rest = left;
      settled = subst (λ (l : List Report). Settles p left (IsRuledBy p) l left) (sym none) (settles-none p left (IsRuledBy p));
      lost = λ loss.
          let g = given-up p loss left entry.dialogue acc.1 in (
            g.0,
            subst (λ (l : List Report). Settles p left (IsDefaultAfter p) l g.0)
                (sym (lost_is loss ∙ ap (λ (l : List MailObject). default_reports p.config.on_loss loss l entry.dialogue) acc.0)) g.1,
          );
    })
    (λ past.
    let more = within p entries acc.2.0 acc.2.2 (received - n) in
    let all : reports_within (entry ∷ entries) received ≡ entry.reports ++ reports_within entries (received - n) = rw (le-leb n received past) refl in
    let lost_is : (loss : Loss) → default_within p.config.on_loss loss (entry ∷ entries) received ≡ default_within p.config.on_loss loss entries (received - n) = λ loss. rw (le-leb n received past) refl in
    record {
      rest = more.rest;
      settled = subst (λ (l : List Report). Settles p left (IsRuledBy p) l more.rest) (sym all)
          (settles-more p left acc.2.0 more.rest (IsRuledBy p) entry.reports (reports_within entries (received - n)) acc.2.1 more.settled);
      lost = λ loss. ((more.lost loss).0, subst (λ (l : List Report). Settles p more.rest (IsDefaultAfter p) l (more.lost loss).0) (sym (lost_is loss)) (more.lost loss).1);
    })

-- where all is received all are settled by their dialogues
pub all-ruled : (p : Scenario) (entries : List Entry) (left : List MailObject) → Accounts p left entries → (received : ℕ) → length (to_mta (lines_of entries)) ≤ received
    → AllZip (IsRuledBy p) left (reports_within entries received)
all-ruled p [] left acc received le = subst (λ (l : List MailObject). AllZip (IsRuledBy p) l []) (sym acc) tt
all-ruled p (entry ∷ entries) left acc received le =
    let n = length entry.line.back in
    let m = ap length (flat_map-cons (λ (l : Line). l.back) entry.line (lines_of entries)) in
    let a = length-append entry.line.back (to_mta (lines_of entries)) in
    let rest = all-ruled p entries acc.2.0 acc.2.2 (received - n) (omega arith) in
    let all : reports_within (entry ∷ entries) received ≡ entry.reports ++ reports_within entries (received - n) = rw (le-leb n received (omega arith)) refl in
    subst (λ (l : List MailObject). AllZip (IsRuledBy p) l (reports_within (entry ∷ entries) received)) (sym acc.2.1.messages_are)
    (subst (λ (l : List Report). AllZip (IsRuledBy p) (acc.2.1.done ++ acc.2.0) l) (sym all)
    (zip-append (IsRuledBy p) acc.2.1.done acc.2.0 entry.reports (reports_within entries (received - n)) acc.2.1.each rest))

-- ---- the entries of a session

-- what the dialogues of a scenario keep to
pub record DialogueLaws (p : Scenario) : Type 0 where
  pub ruled : (message : MailObject) → is_some (report_by (negotiated_of p) (dialogue_about p message) message) ≡ true
  pub next : (message other : MailObject) → ends_with_client (dialogue_about p message) ≡ false
      → onto (dialogue_with p.filter (negotiated_of p) (opening_of (dialogue_about p message)) (message_steps (negotiated_of p) (macros_of (negotiated_of p) p.session) other)) (opening_of (dialogue_about p message))
      ≡ dialogue_about p other
  pub same : (message other : MailObject) → ends_with_client (dialogue_about p message) ≡ true → dialogue_about p other ≡ dialogue_about p message
  pub steps_end : (message : MailObject) → has_end (message_steps (negotiated_of p) (macros_of (negotiated_of p) p.session) message) ≡ true
  pub plan_end : (message : MailObject) → has_end (plan (negotiated_of p) p.session message) ≡ true

module _ (p : Scenario) (laws : DialogueLaws p) where
  or_report : (found : Option Report) → is_some found ≡ true → (r : Report) × (found ≡ Some r)
  or_report None e = absurd (true≢false (sym e))
  or_report (Some r) e = (r, refl)

  rules : (message : MailObject) → (r : Report) × IsRuledBy p message r
  rules message = or_report (report_by (negotiated_of p) (dialogue_about p message) message) (laws.ruled message)

  -- the reports by a dialogue that is each message's dialogue
  by-dialogue : (w : List Exchange) (l : List MailObject) → ((message : MailObject) → dialogue_about p message ≡ w) → AllZip (IsRuledBy p) l (filter_map (report_by (negotiated_of p) w) l)
  by-dialogue w [] same = tt
  by-dialogue w (message ∷ l) same =
      let r = rules message in
      subst (λ (found : Option Report). AllZip (IsRuledBy p) (message ∷ l) (cons_option found (filter_map (report_by (negotiated_of p) w) l)))
      (sym (ap (λ (z : List Exchange). report_by (negotiated_of p) z message) (sym (same message)) ∙ r.1))
      (r.1, by-dialogue w l same)

  one-dialogue : (w : List Exchange) (message : MailObject) → dialogue_about p message ≡ w → AllZip (IsRuledBy p) (message ∷ []) (filter_map (report_by (negotiated_of p) w) (message ∷ []))
  one-dialogue w message same =
      let r = rules message in
      subst (λ (found : Option Report). AllZip (IsRuledBy p) (message ∷ []) (cons_option found []))
      (sym (ap (λ (z : List Exchange). report_by (negotiated_of p) z message) (sym same) ∙ r.1)) (r.1, tt)

  quit-entries : Accounts p [] (entry_of quit_line [] [] ∷ [])
  quit-entries = (refl, λ message others e. absurd (let no : [] ≡ message ∷ others = e in cc), ([], settles-none p [] (IsRuledBy p), refl))

  first-same : (x y : MailObject) (xs ys : List MailObject) → x ∷ xs ≡ y ∷ ys → x ≡ y
  first-same x y xs ys e = cc

  exchanges : (us : List Report) (message : MailObject) (messages rest : List MailObject) (next : List Entry) → Settles p (message ∷ messages) (IsRuledBy p) us rest → Accounts p rest next
      → (more dialogue : List Exchange) → more ≢ [] → onto more dialogue ≡ dialogue_about p message → Accounts p (message ∷ messages) (exchange_entries us (message ∷ messages) dialogue more ++ next)
  exchanges us message messages rest next settles acc [] dialogue some e = absurd (some refl)
  exchanges us message messages rest next settles acc (x ∷ []) dialogue some e = (
    refl,
    λ other others is. subst (λ (m : MailObject). IsOpenAfter p m dialogue) (first-same message other messages others is)
        (record { more = x ∷ []; whole = e }, λ none. absurd (let no : x ∷ [] ≡ [] = none in cc)),
    (rest, settles, acc),
  )
  exchanges us message messages rest next settles acc (x ∷ y ∷ more) dialogue some e = (
    refl,
    λ other others is. subst (λ (m : MailObject). IsOpenAfter p m dialogue) (first-same message other messages others is)
        (record { more = x ∷ y ∷ more; whole = e }, λ none. absurd (let no : x ∷ y ∷ more ≡ [] = none in cc)),
    (
      message ∷ messages,
      settles-none p (message ∷ messages) (IsRuledBy p),
      exchanges us message messages rest next settles acc (y ∷ more) (x ∷ dialogue) (λ none. absurd (let no : y ∷ more ≡ [] = none in cc)) e,
    ),
  )

  -- ---- after a message

  module _ (message : MailObject) (messages : List MailObject) (w : List Exchange) (is : dialogue_about p message ≡ w) (next : List Entry) (acc : ends_with_client w ≡ false → Accounts p messages next) where
    record After : Type 0 where
      rest : List MailObject
      settles : Settles p (message ∷ messages) (IsRuledBy p) (reports_of (negotiated_of p) w message messages) rest
      follows : Accounts p rest (entries_after w messages next)

    after : After
    after = by_client (ends_with_client w) refl
      where
        by_message : (over : Bool) → ends_with_client w ≡ false → Accounts p messages (if over then next else entry_of abort_line messages (opening_of w) ∷ next)
        by_message true client = acc client
        by_message false client = (
          refl,
          λ other others e. (
            record {
              more = dialogue_with p.filter (negotiated_of p) (opening_of w) (message_steps (negotiated_of p) (macros_of (negotiated_of p) p.session) other);
              whole =
                  ap (λ (z : List Exchange). onto (dialogue_with p.filter (negotiated_of p) (opening_of z) (message_steps (negotiated_of p) (macros_of (negotiated_of p) p.session) other)) (opening_of z)) (sym is)
                  ∙ laws.next message other (ap ends_with_client is ∙ client);
            },
            dialogue_with-some p.filter (negotiated_of p) (opening_of w) (message_steps (negotiated_of p) (macros_of (negotiated_of p) p.session) other) (laws.steps_end other),
          ),
          (messages, settles-none p messages (IsRuledBy p), acc client),
        )

        by_client : (client : Bool) → ends_with_client w ≡ client → After
        by_client true e =
            record {
              rest = [];
              settles = subst (λ (k : Bool). Settles p (message ∷ messages) (IsRuledBy p) (filter_map (report_by (negotiated_of p) w) (if k then message ∷ messages else message ∷ [])) []) (sym e)
                  (record {
                    done = message ∷ messages;
                    messages_are = sym (append-nil (message ∷ messages));
                    each = by-dialogue w (message ∷ messages) (λ other. laws.same message other (ap ends_with_client is ∙ e) ∙ is);
                  });
              follows = subst (λ (k : Bool). Accounts p [] (if k then entry_of quit_line [] [] ∷ [] else (if ends_with_message w then next else entry_of abort_line messages (opening_of w) ∷ next))) (sym e) quit-entries;
            }
        by_client false e =
            record {
              rest = messages;
              settles = subst (λ (k : Bool). Settles p (message ∷ messages) (IsRuledBy p) (filter_map (report_by (negotiated_of p) w) (if k then message ∷ messages else message ∷ [])) messages) (sym e)
                  (record { done = message ∷ []; messages_are = refl; each = one-dialogue w message is });
              follows = subst (λ (k : Bool). Accounts p messages (if k then entry_of quit_line [] [] ∷ [] else (if ends_with_message w then next else entry_of abort_line messages (opening_of w) ∷ next))) (sym e) (by_message (ends_with_message w) e);
            }

  -- ---- message after message

  from : (messages : List MailObject) (message : MailObject) (dialogue : List Exchange) (left : List Command) → has_end left ≡ true
      → onto (dialogue_with p.filter (negotiated_of p) dialogue left) dialogue ≡ dialogue_about p message
      → Accounts p (message ∷ messages) (entries_from p.filter (negotiated_of p) p.session message messages dialogue left)
  from [] message dialogue left end e =
      let more = dialogue_with p.filter (negotiated_of p) dialogue left in
      let w = onto more dialogue in
      let a = after message [] w (sym e) (entry_of quit_line [] [] ∷ []) (λ client. quit-entries) in
      exchanges (reports_of (negotiated_of p) w message []) message [] a.rest (entries_after w [] (entry_of quit_line [] [] ∷ [])) a.settles a.follows more dialogue (dialogue_with-some p.filter (negotiated_of p) dialogue left end) e
  from (next ∷ messages) message dialogue left end e =
      let more = dialogue_with p.filter (negotiated_of p) dialogue left in
      let w = onto more dialogue in
      let steps = message_steps (negotiated_of p) (macros_of (negotiated_of p) p.session) next in
      let next_entries = entries_from p.filter (negotiated_of p) p.session next messages (opening_of w) steps in
      let a = after message (next ∷ messages) w (sym e) next_entries
      (λ client. from messages next (opening_of w) steps (laws.steps_end next)
      (ap (λ (z : List Exchange). onto (dialogue_with p.filter (negotiated_of p) (opening_of z) steps) (opening_of z)) e
      ∙ laws.next message next (ap ends_with_client (sym e) ∙ client))) in
      exchanges (reports_of (negotiated_of p) w message (next ∷ messages)) message (next ∷ messages) a.rest (entries_after w (next ∷ messages) next_entries) a.settles a.follows more dialogue (dialogue_with-some p.filter (negotiated_of p) dialogue left end) e

  pub session : (messages : List MailObject) → Accounts p messages (connection_entries p.filter p.config.offer p.session messages)
  session [] = refl
  session (message ∷ messages) =
      let first = plan (negotiated_of p) p.session message in (
        refl,
        λ other others is. subst (λ (m : MailObject). IsOpenAfter p m []) (first-same message other messages others is)
            (record { more = dialogue_with p.filter (negotiated_of p) [] first; whole = refl }, dialogue_with-some p.filter (negotiated_of p) [] first (laws.plan_end message)),
        (message ∷ messages, settles-none p (message ∷ messages) (IsRuledBy p), from messages message [] first (laws.plan_end message) refl),
      )

-- ---- from the laws of dialogues

module _ (p : Scenario) (dialogue_so_far : (message : MailObject) → IsDialogue (negotiated_of p) [] (plan (negotiated_of p) p.session message))
    (after : (message : MailObject) → IsDialogue (negotiated_of p) [] (message_steps (negotiated_of p) (macros_of (negotiated_of p) p.session) message))
    (rules : (message : MailObject) → has_end (plan (negotiated_of p) p.session message) ≡ true → is_some (ruled (has_leading_space (negotiated_of p)) message (dialogue_about p message)) ≡ true)
    (next : (message other : MailObject) → ends_with_client (dialogue_about p message) ≡ false
    → onto (dialogue_with p.filter (negotiated_of p) (opening_of (dialogue_about p message)) (message_steps (negotiated_of p) (macros_of (negotiated_of p) p.session) other)) (opening_of (dialogue_about p message))
    ≡ dialogue_about p other)
    (same : (message other : MailObject) → ends_with_client (dialogue_about p message) ≡ true → dialogue_about p other ≡ dialogue_about p message) where
  some-report : (found : Option Outcome) (message : MailObject) → is_some found ≡ true
      → is_some (option_map (λ outcome. report (acted (dialogue_about p message)) outcome (settled_through (dialogue_about p message))) found) ≡ true
  some-report None message e = absurd cc
  some-report (Some o) message e = refl

  pub dialogue_with-laws : DialogueLaws p
  dialogue_with-laws =
      record {
        ruled = λ message. some-report (ruled (has_leading_space (negotiated_of p)) message (dialogue_about p message)) message (rules message (dialogue_so_far message).ends);
        next = next;
        same = same;
        steps_end = λ message. (after message).ends;
        plan_end = λ message. (dialogue_so_far message).ends;
      }
