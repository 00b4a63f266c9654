-- Each event leaves both ends where the counts say.
use Rattle.std.proofs.Common.{◌≡◌, inl, ℕ, ◌+◌, ◌≤◌, ◌<◌, min, nat_lt, Bool, true, false, if◌then◌else◌, List, [], ◌∷◌, ◌++◌, Option, None, Some, refl, sym, ◌∙◌, ap, subst, arith, length, take, drop, append_assoc, append-nil, length-append, length-drop, length-take, length-take-le, take-append-drop}
use Rattle.std.specs.List.{AllZip}
use Rattle.std.proofs.lemmas.Bool.{le-ltb, true≢false}
use Rattle.std.proofs.lemmas.List.Concat.{flat_map-cons}
use Rattle.milter_message.specs.MailObject.{MailObject}
use Rattle.milter_mail.specs.MailSession.{MailSession}
use Rattle.milter_mta_outcome.specs.declared.loss.Loss.{Loss}
use Rattle.milter_mta_outcome.specs.declared.outcome.Report.{Report}
use Rattle.milter_mta.specs.declared.mta_core.Want.{Want}
use Rattle.milter_mta.specs.declared.mta_core.Want.TheVariants as wants
use Rattle.milter_mta.specs.Mta.{FilterConnection, Mta, fresh}
use Rattle.milter_mta.specs.Replies.{After as ReceivedReply, received}
use Rattle.milter_mta.specs.Output.{advanced, dialled, dialled_if, sent, want, want_in, want_unconnected}
use Rattle.milter_mta.specs.Dispositions.{lost}
use Rattle.milter_mta.specs.AnyFilter.{ConnectionIsReported, GoesOnDialogues, IsOnDialogue, IsReportByDialogue, without_messages}
use Rattle.milter_mta.specs.Lines.{Line}
use Rattle.milter_protocol.specs.declared.stage_order.CommandOrder.{CommandOrder}
use Rattle.milter_protocol.specs.Behavior.{Behavior}
use Rattle.milter_filter.specs.Cores.{Core, GoesOn, fresh_core_in}
use Rattle.milter_world.specs.declared.event_line.Event.{Event}
use Rattle.milter_world.specs.declared.event_line.Event.TheVariants.{Dial, ToMta}
use Rattle.milter_world.specs.ByteCounts.{owed, to_filter, to_mta}
use Rattle.milter_world.specs.FollowedLines.{Follows, SendsLines}
use Rattle.milter_world.specs.Rounds.{AreCounts}
use Rattle.milter_world.specs.Ends.{IsAt, IsFilterIn, IsIdle, IsLinked, IsReportedByDialogues, IsPossible, Ends, Steps}
use Rattle.milter_world.specs.Schedule as states
use Rattle.milter_world.specs.declared.state.Counts.{Counts}
use Rattle.milter_world.specs.declared.state.State.{State}
use Rattle.milter_world.specs.Schedule.{Scenario, happens, idle_at, lines_at, entries_at}
use Rattle.milter_world.specs.declared.state.State.TheVariants.{Idle, Linked, Done}
use Rattle.milter_world.specs.ConnectionEntries.{Entry, lines_of, default_within, reports_within}
use Rattle.milter_world.proofs.CountedBytes.{by_lt, owed-le, positive}
use Rattle.milter_world.proofs.EntryAccounts.{added, drop-past}
use Rattle.milter_world.proofs.FollowedPieces.{AddsUp, at-nothing}
use Rattle.milter_world.proofs.PieceMoves.{received-counts, received-way, receives_bytes-piece, is-owed}
use Rattle.milter_world.proofs.Reported.{SendingSettlesNothing, lost-place, reports-place, sends-lines}

-- ---- the laws of the ends that each event needs

abbrev pub GoOnByBoth : Type 0
GoOnByBoth = (old between new : Mta) → GoesOnDialogues old between → GoesOnDialogues between new → GoesOnDialogues old new

pub record DialLaws (P : Type 0) : Type 0 where
  pub both : GoOnByBoth
  pub dialled_on : (m : Mta) → IsOnDialogue m → GoesOnDialogues m (dialled m)
  pub dialled_reported : (m : Mta) → ConnectionIsReported m → ConnectionIsReported (dialled m)
  pub begins : (b : Behavior) (order : CommandOrder) (policy : P) → GoesOn b (fresh_core_in order policy) [] [] (fresh_core_in order policy)

pub record SendLaws : Type 0 where
  pub both : GoOnByBoth
  pub advanced_on : (m : Mta) → IsOnDialogue m → GoesOnDialogues m (advanced m)
  pub sent_on : (m : Mta) (count : ℕ) → IsOnDialogue m → GoesOnDialogues m (sent count m)
  pub advanced_reported : (m : Mta) → ConnectionIsReported m → ConnectionIsReported (advanced m)
  pub sent_reported : (m : Mta) (count : ℕ) → ConnectionIsReported m → ConnectionIsReported (sent count m)
  pub adds_up : AddsUp

pub record ReceivedLaws : Type 0 where
  pub both : GoOnByBoth
  pub received_on : (m : Mta) (bytes : List ℕ) → IsOnDialogue m → GoesOnDialogues m (received m bytes).mta
  pub received_reported : (m : Mta) (bytes : List ℕ) → IsOnDialogue m → ConnectionIsReported m → ConnectionIsReported (received m bytes).mta

pub record LossLaws : Type 0 where
  pub both : GoOnByBoth
  pub lost_on : (m : Mta) (loss : Loss) → IsOnDialogue m → GoesOnDialogues m (lost loss m)
  pub lost_reported : (m : Mta) (loss : Loss) → ConnectionIsReported m → ConnectionIsReported (lost loss m)
  pub unconnected : (loss : Loss) (m : Mta) → (lost loss m).filter_connection ≡ None
  pub settles_nothing : SendingSettlesNothing

lt-of : (n k : ℕ) → nat_lt n k ≡ true → n < k
lt-of n k e = by_lt n k (λ less. less) (λ le. absurd (true≢false (sym e ∙ le-ltb n k le)))

-- ---- what is left

zip-length : {A B : Type 0} (R : A → B → Type 0) (xs : List A) (ys : List B) → AllZip R xs ys → length xs ≡ length ys
zip-length R [] [] all = refl
zip-length R [] (y ∷ ys) all = absurd all
zip-length R (x ∷ xs) [] all = absurd all
zip-length R (x ∷ xs) (y ∷ ys) all = let r = zip-length R xs ys all.1 in omega arith

module _ (p : Scenario) (m : Mta) (is : IsReportedByDialogues p m) where
  counted : length m.reports ≡ length is.dialogues.settles.settled
  counted =
      ap (λ (l : List Report). length l) is.dialogues.settles.reports_are
      ∙ sym (zip-length (IsReportByDialogue p.config (without_messages p.session)) is.dialogues.settles.settled is.dialogues.settles.added is.dialogues.settles.by_dialogues)

  pub messages-left : m.session.messages ≡ drop (length m.reports) p.session.messages
  messages-left =
      sym (drop-past is.dialogues.settles.settled m.session.messages)
      ∙ ap (drop (length is.dialogues.settles.settled)) (sym is.dialogues.settles.messages_are)
      ∙ ap (λ (n : ℕ). drop n p.session.messages) (sym counted)

  pub session-is : m.session ≡ record p.session { messages = drop (length m.reports) p.session.messages }
  session-is =
      ap (λ (s : MailSession). record s { messages = m.session.messages }) is.dialogues.settles.same_session
      ∙ ap (λ (l : List MailObject). record p.session { messages = l }) messages-left

  pub config-is : m.config ≡ p.config
  config-is = is.dialogues.settles.same_config

-- ---- the events

module _ {P : Type 0} (p : Scenario) (ends : Ends P) (possible : IsPossible p) (by_dialogues : IsReportedByDialogues p ends.mta) where
  pub dialogues-on : GoOnByBoth → (new : Mta) → GoesOnDialogues ends.mta new → ConnectionIsReported new → IsReportedByDialogues p new
  dialogues-on both new goes connection =
      record { dialogues = both (fresh p.config p.session) ends.mta new by_dialogues.dialogues goes; connection = connection }

  -- nothing happens
  pub nothing : (event : Event) → IsAt p ends.state ends → (happens p ends.state event) ≡ states.stays ends.state → Steps p ends event ends
  nothing event is e =
      record {
        is = record { possible = possible; by_dialogues = by_dialogues; is_at = is };
        policy = refl;
        order = refl;
        state = sym (ap (λ (a : states.After). a.state) e);
        reports = sym (append-nil ends.mta.reports) ∙ ap (λ (l : List Report). ends.mta.reports ++ l) (sym (ap (λ (a : states.After). a.reports) e));
      }

  -- ---- dialled

  module _ (settled : ℕ) (at : ends.state ≡ Idle settled) (idle : IsIdle p settled ends) where
    abbrev dial_to : Ends P
    dial_to =
        record {
          policy = ends.policy;
          order = ends.order;
          mta = dialled ends.mta;
          filter = Some (fresh_core_in ends.order ends.policy);
          to_filter = [];
          to_mta = [];
          state = Linked settled states.fresh;
        }

    opened-follows : Follows p.config.on_loss (dialled ends.mta) (entries_at p settled)
    opened-follows =
        possible.followed settled ends.mta idle.some_left idle.unconnected (config-is p ends.mta by_dialogues)
        (session-is p ends.mta by_dialogues ∙ ap (λ (n : ℕ). record p.session { messages = drop n p.session.messages }) idle.settled_is)

    reports-dialled : (m : Mta) → (dialled m).reports ≡ m.reports
    reports-dialled m = by_want (want m)
      where
        by_want : (w : Want) → (dialled_if w m).reports ≡ m.reports
        by_want wants.Dial = refl
        by_want wants.Send = refl
        by_want wants.Receive = refl
        by_want wants.Done = refl

    -- there is something to send
    first-counts : (entries : List Entry) → Follows p.config.on_loss (dialled ends.mta) entries → (want (dialled ends.mta) ≡ wants.Send) → AreCounts (lines_of entries) states.fresh
    first-counts [] follows sends = absurd (let e : wants.Done ≡ wants.Send = sym follows.0 ∙ sends in cc)
    first-counts (entry ∷ entries) follows sends =
        let n = ap length (flat_map-cons (λ l. l.out) entry.line (lines_of entries)) in
        let a = length-append entry.line.out (to_filter (lines_of entries)) in
        let s = positive entry.line.out follows.0.sends.some in
        record { not_over = omega arith; taken = omega arith; sent = omega arith; received = omega arith; answered = omega arith }

    wants-first : want (dialled ends.mta) ≡ wants.Send
    wants-first = by_messages ends.mta.session.messages refl
      where
        by_messages : (l : List MailObject) → ends.mta.session.messages ≡ l → want (dialled ends.mta) ≡ wants.Send
        by_messages [] e =
            let left = messages-left p ends.mta by_dialogues in
            let n = length-drop (length ends.mta.reports) p.session.messages in
            let k = ap length (sym left ∙ e) in
            let i = idle.settled_is in
            let s = idle.some_left in
            absurd (let c : 0 < 0 = omega arith in omega arith)
        by_messages (message ∷ messages) e =
            let w : want ends.mta ≡ wants.Dial = ap (λ (l : Option FilterConnection). want_in l ends.mta.session.messages) idle.unconnected ∙ ap want_unconnected e in
            ap (λ (x : Want). want (dialled_if x ends.mta)) w

    pub dials : DialLaws P → Steps p ends Dial dial_to
    dials laws =
        let follows = opened-follows in
        let lines = sends-lines p.config.on_loss (entries_at p settled) (dialled ends.mta) follows in
        record {
          is = record {
            possible = possible;
            by_dialogues = dialogues-on laws.both (dialled ends.mta) (laws.dialled_on ends.mta by_dialogues.dialogues.on_dialogue) (laws.dialled_reported ends.mta by_dialogues.connection);
            is_at = record {
              opened = dialled ends.mta;
              opened_settled = ap length (reports-dialled ends.mta) ∙ idle.settled_is;
              follows = follows;
              mta = inl (sym (ap (λ (a : ReceivedReply). a.mta) (at-nothing (dialled ends.mta) (lines_at p settled) lines)));
              filter = record { goes_on = laws.begins p.filter ends.order ends.policy; on_way = refl };
              answers = refl;
              counts = first-counts (entries_at p settled) follows wants-first;
            };
          };
          policy = refl;
          order = refl;
          state = ap (λ (s : State). (happens p s Dial).state) (sym at);
          reports = reports-dialled ends.mta ∙ sym (append-nil ends.mta.reports) ∙ ap (λ (s : State). ends.mta.reports ++ (happens p s Dial).reports) (sym at);
        }

  -- ---- lost

  pub idle-at : (n : ℕ) (m : Mta) → m.filter_connection ≡ None → length m.reports ≡ n → IsAt p (idle_at p n) (record { policy = ends.policy; order = ends.order; mta = m; filter = None; to_filter = []; to_mta = []; state = idle_at p n })
  idle-at n m unconnected count = by_left (nat_lt n (length p.session.messages)) refl
    where
      by_left : (some : Bool) → nat_lt n (length p.session.messages) ≡ some
          → IsAt p (if some then Idle n else Done) (record { policy = ends.policy; order = ends.order; mta = m; filter = None; to_filter = []; to_mta = []; state = idle_at p n })
      by_left false e = tt
      by_left true e = record { unconnected = unconnected; settled_is = count; some_left = lt-of n (length p.session.messages) e }

  abbrev pub lost_to : Loss → State → Ends P
  lost_to loss state =
      record { policy = ends.policy; order = ends.order; mta = lost loss ends.mta; filter = None; to_filter = []; to_mta = []; state = state }

  pub dialogues-lost : LossLaws → (loss : Loss) → IsReportedByDialogues p (lost loss ends.mta)
  dialogues-lost laws loss = dialogues-on laws.both (lost loss ends.mta) (laws.lost_on ends.mta loss by_dialogues.dialogues.on_dialogue) (laws.lost_reported ends.mta loss by_dialogues.connection)

  module _ (settled : ℕ) (c : Counts) (at : ends.state ≡ Linked settled c) (linked : IsLinked p settled c ends) where
    abbrev entries : List Entry
    entries = entries_at p settled

    abbrev lines : List Line
    lines = lines_at p settled

    follows_lines : SendsLines linked.opened lines
    follows_lines = sends-lines p.config.on_loss entries linked.opened linked.follows

    received-owed : c.received ≤ owed lines c.sent
    received-owed = is-owed linked.opened lines follows_lines c linked.counts ends.mta linked.mta

    reports-now : ends.mta.reports ≡ linked.opened.reports ++ reports_within entries c.received
    reports-now = reports-place p.config.on_loss entries linked.opened c ends.mta linked.follows received-owed linked.mta

    loses-by : SendingSettlesNothing → (loss : Loss) → (lost loss ends.mta).reports ≡ ends.mta.reports ++ default_within p.config.on_loss loss entries c.received
    loses-by settles_nothing loss =
        lost-place p.config.on_loss settles_nothing loss entries linked.opened c ends.mta linked.follows received-owed linked.mta
        ∙ ap (λ (l : List Report). l ++ default_within p.config.on_loss loss entries c.received) (sym reports-now)

    pub count-by : SendingSettlesNothing → (loss : Loss) → length (lost loss ends.mta).reports
        ≡ settled + length (reports_within entries c.received) + length (default_within p.config.on_loss loss entries c.received)
    count-by settles_nothing loss =
        let a = ap length (loses-by settles_nothing loss) in
        let b = length-append ends.mta.reports (default_within p.config.on_loss loss entries c.received) in
        let d = ap length reports-now in
        let e = length-append linked.opened.reports (reports_within entries c.received) in
        let f = linked.opened_settled in
        omega arith

    pub loses : LossLaws → (loss : Loss) (event : Event) → happens p (Linked settled c) event ≡ states.loses p settled c loss
        → Steps p ends event (lost_to loss (happens p ends.state event).state)
    loses laws loss event e =
        let is : happens p ends.state event ≡ states.loses p settled c loss = ap (λ (s : State). happens p s event) at ∙ e in
        let to = settled + length (reports_within entries c.received) + length (default_within p.config.on_loss loss entries c.received) in
        record {
          is = record {
            possible = possible;
            by_dialogues = dialogues-lost laws loss;
            is_at = subst (λ (s : State). IsAt p s (lost_to loss s)) (sym (ap (λ (a : states.After). a.state) is))
                (idle-at to (lost loss ends.mta) (laws.unconnected loss ends.mta) (count-by laws.settles_nothing loss));
          };
          policy = refl;
          order = refl;
          state = refl;
          reports = loses-by laws.settles_nothing loss ∙ ap (λ (a : states.After). ends.mta.reports ++ a.reports) (sym is);
        }

    -- ---- a piece reaches the mail server's end

    module _ (n : ℕ) where
      abbrev piece : List ℕ
      piece = take n ends.to_mta

      abbrev left : List ℕ
      left = drop n ends.to_mta

      piece-cut : piece ++ left ≡ ends.to_mta
      piece-cut = take-append-drop n ends.to_mta

      abbrev received_counts : Counts
      received_counts = record c { received = c.received + length piece }

      abbrev received_to : Ends P
      received_to =
          record ends { mta = (received ends.mta piece).mta; to_mta = left; state = Linked settled received_counts }

      pub receives_bytes-all : (received ends.mta piece).loss ≡ None
      receives_bytes-all =
          ap (λ (a : ReceivedReply). a.loss)
          (receives_bytes-piece linked.opened lines follows_lines c linked.counts ends.mta linked.mta ends.to_mta piece left linked.answers piece-cut).goes_on

      way-len : c.received + length ends.to_mta ≡ c.answered
      way-len =
          let a = linked.counts.received in
          let b = linked.counts.answered in
          let d = owed-le lines c.taken in
          let e = length-take-le c.received (to_mta lines) (omega arith) in
          let f = length-take-le c.answered (to_mta lines) (omega arith) in
          let g = ap length linked.answers in
          let h = length-append (take c.received (to_mta lines)) ends.to_mta in
          omega arith

      pub count-is : c.received + length piece ≡ min (c.received + n) c.answered
      count-is =
          let w = way-len in
          let l = length-take n ends.to_mta in
          omega arith

      pub receives_bytes-to : ReceivedLaws → Steps p ends (ToMta n) received_to
      receives_bytes-to laws =
          let h = receives_bytes-piece linked.opened lines follows_lines c linked.counts ends.mta linked.mta ends.to_mta piece left linked.answers piece-cut in
          let counts = received-counts linked.opened lines follows_lines c linked.counts ends.mta linked.mta ends.to_mta piece left linked.answers piece-cut in
          let is_owed_now = is-owed linked.opened lines follows_lines received_counts counts (received ends.mta piece).mta h.is_at in
          let reports_then = reports-place p.config.on_loss entries linked.opened received_counts (received ends.mta piece).mta linked.follows is_owed_now h.is_at in
          record {
            is = record {
              possible = possible;
              by_dialogues = dialogues-on laws.both (received ends.mta piece).mta (laws.received_on ends.mta piece by_dialogues.dialogues.on_dialogue)
                  (laws.received_reported ends.mta piece by_dialogues.dialogues.on_dialogue by_dialogues.connection);
              is_at = record {
                opened = linked.opened;
                opened_settled = linked.opened_settled;
                follows = linked.follows;
                mta = h.is_at;
                filter = filter-stays c.lives ends.filter linked.filter;
                answers = received-way linked.opened lines follows_lines c linked.counts ends.mta linked.mta ends.to_mta piece left linked.answers piece-cut;
                counts = counts;
              };
            };
            policy = refl;
            order = refl;
            state = ap (λ (h : ℕ). Linked settled (record c { received = h })) count-is ∙ ap (λ (s : State). (happens p s (ToMta n)).state) (sym at);
            reports =
                reports_then
                ∙ ap (λ (l : List Report). linked.opened.reports ++ l) (sym (added entries c.received (length piece)))
                ∙ sym (append_assoc linked.opened.reports (reports_within entries c.received) (drop (length (reports_within entries c.received)) (reports_within entries (c.received + length piece))))
                ∙ ap (λ (l : List Report). l ++ drop (length (reports_within entries c.received)) (reports_within entries (c.received + length piece))) (sym reports-now)
                ∙ ap (λ (h : ℕ). ends.mta.reports ++ drop (length (reports_within entries c.received)) (reports_within entries h)) count-is
                ∙ ap (λ (s : State). ends.mta.reports ++ (happens p s (ToMta n)).reports) (sym at);
          }
        where
          filter-stays : (lives : Bool) (filter : Option (Core P)) → IsFilterIn p.filter ends.order ends.policy lines c lives filter ends.to_filter
              → IsFilterIn p.filter ends.order ends.policy lines received_counts lives filter ends.to_filter
          filter-stays true (Some core) is = record { goes_on = is.goes_on; on_way = is.on_way }
          filter-stays true None is = absurd is
          filter-stays false (Some core) is = absurd is
          filter-stays false None is = tt
