-- Bytes reach the filter, are answered and sent, and the filter dies.
use Rattle.std.proofs.Common.{◌≡◌, ◌≢◌, inl, inr, ℕ, ◌+◌, ◌≤◌, ◌<◌, ◌==◌, min, ◌^◌, Bool, true, false, if◌then◌else◌, List, [], ◌∷◌, ◌++◌, Option, None, Some, refl, sym, ◌∙◌, ap, subst, arith, length, take, drop, append-nil, length-append, length-take, take-append-drop}
use Rattle.std.proofs.lemmas.Bool.{eq-eqb, le-ltb, eqb-true}
use Rattle.milter_mta_outcome.specs.declared.loss.Loss.{Loss}
use Rattle.milter_mta_outcome.specs.declared.outcome.Report.{Report}
use Rattle.milter_message.specs.MailObject.{MailObject}
use Rattle.milter_mta.specs.declared.mta_core.Want.TheVariants as wants
use Rattle.milter_mta.specs.Mta.{Configuration, FilterConnection, Mta}
use Rattle.milter_mta.specs.Output.{advanced, pending, sent, want}
use Rattle.milter_mta.specs.Dispositions.{acted_in, defaulted, lost}
use Rattle.milter_mta.specs.Lines.{Line}
use Rattle.milter_protocol.specs.declared.filter_fault.FilterFault.{FilterFault as Fault}
use Rattle.milter_protocol.specs.declared.filter_fault.FilterState.TheVariants.{Serving}
use Rattle.milter_filter_stream.specs.Streams.{received_in}
use Rattle.milter_filter.specs.Cores.{Core, GivesUp, Takes}
use Rattle.milter_world.specs.declared.event_line.Event.{Event}
use Rattle.milter_world.specs.declared.event_line.Event.TheVariants.{Send, ToFilter, Answer, Die}
use Rattle.milter_world.specs.ByteCounts.{due, owed, packet_end, to_filter, to_mta}
use Rattle.milter_world.specs.FollowedLines.{SendsLines, after_at}
use Rattle.milter_world.specs.Rounds.{AreCounts}
use Rattle.milter_world.specs.Ends.{IsAt, IsFilterAt, IsFilterIn, IsIdle, IsLinked, IsReportedByDialogues, IsPossible, Ends, Steps}
use Rattle.milter_world.specs.FollowedLines.{IsMtaAt}
use Rattle.milter_world.specs.Schedule as states
use Rattle.milter_world.specs.declared.state.Counts.{Counts}
use Rattle.milter_world.specs.declared.state.State.{State}
use Rattle.milter_world.specs.Schedule.{Scenario, happens, lines_at, sent_to, entries_at}
use Rattle.milter_world.specs.declared.state.State.TheVariants.{Idle, Linked, Done}
use Rattle.milter_world.specs.ConnectionEntries.{default_reports}
use Rattle.milter_world.proofs.CountedBytes.{by_lt, due-le, lt-ltb, owed-le, owed-mono, packet_end-due}
use Rattle.milter_world.proofs.FollowedPieces.{wants-nothing, wants-receive, wants-send}
use Rattle.milter_world.proofs.Steps.{want-advanced}
use Rattle.milter_world.proofs.PieceMoves.{CoresGiveUp, CoresSend, CoresTake, all-taken, answered-counts, answered-way, answers-piece, counts-now, fails-not, none_on_way, pending-length, pipe-len, pending-len, sends-piece, sent-counts, sent-way, serving, takes-piece, is-owed}
use Rattle.milter_world.proofs.Reported.{reports-advanced, reports-sent, sends-lines}
use Rattle.milter_world.proofs.EndSteps.{LossLaws, SendLaws, count-is, idle-at, lost_to, messages-left, nothing, config-is, dialogues-on, dialogues-lost}

module _ {P : Type 0} (p : Scenario) (ends : Ends P) (possible : IsPossible p) (by_dialogues : IsReportedByDialogues p ends.mta) where
  -- ---- lost while there is no connection

  module _ (settled : ℕ) (at : ends.state ≡ Idle settled) (idle : IsIdle p settled ends) (loss : Loss) where
    abbrev given_up_now : List Report
    given_up_now = default_reports p.config.on_loss loss (drop settled p.session.messages) []

    left-is : ends.mta.session.messages ≡ drop settled p.session.messages
    left-is = messages-left p ends.mta by_dialogues ∙ ap (λ (n : ℕ). drop n p.session.messages) idle.settled_is

    loses-idle : (lost loss ends.mta).reports ≡ ends.mta.reports ++ given_up_now
    loses-idle =
        ap (λ (l : Option FilterConnection). (record (defaulted loss (acted_in l) ends.mta.session.messages ends.mta) { filter_connection = None }).reports) idle.unconnected
        ∙ by_messages ends.mta.session.messages
        ∙ ap (λ (l : List MailObject). ends.mta.reports ++ default_reports ends.mta.config.on_loss loss l []) left-is
        ∙ ap (λ (k : Configuration). ends.mta.reports ++ default_reports k.on_loss loss (drop settled p.session.messages) []) (config-is p ends.mta by_dialogues)
      where
        by_messages : (l : List MailObject) → (record (defaulted loss [] l ends.mta) { filter_connection = None }).reports ≡ ends.mta.reports ++ default_reports ends.mta.config.on_loss loss l []
        by_messages [] = sym (append-nil ends.mta.reports)
        by_messages (message ∷ messages) = refl

    pub count-idle : length (lost loss ends.mta).reports ≡ settled + length given_up_now
    count-idle =
        let a = ap length loses-idle in
        let b = length-append ends.mta.reports given_up_now in
        let d = idle.settled_is in
        omega arith

    pub gives-up : LossLaws → (event : Event) → happens p (Idle settled) event ≡ states.gives_up p settled given_up_now
        → Steps p ends event (lost_to p ends possible by_dialogues loss (happens p ends.state event).state)
    gives-up laws event e =
        let is : happens p ends.state event ≡ states.gives_up p settled given_up_now = ap (λ (s : State). happens p s event) at ∙ e in
        record {
          is = record {
            possible = possible;
            by_dialogues = dialogues-lost p ends possible by_dialogues laws loss;
            is_at = subst (λ (s : State). IsAt p s (lost_to p ends possible by_dialogues loss s)) (sym (ap (λ (a : states.After). a.state) is))
                (idle-at p ends possible by_dialogues (settled + length given_up_now) (lost loss ends.mta) (laws.unconnected loss ends.mta) count-idle);
          };
          policy = refl;
          order = refl;
          state = refl;
          reports = loses-idle ∙ ap (λ (a : states.After). ends.mta.reports ++ a.reports) (sym is);
        }

  module _ (settled : ℕ) (c : Counts) (at : ends.state ≡ Linked settled c) (linked : IsLinked p settled c ends) where
    abbrev lines : List Line
    lines = lines_at p settled

    follows_lines : SendsLines linked.opened lines
    follows_lines = sends-lines p.config.on_loss (entries_at p settled) linked.opened linked.follows

    -- where nothing changes but the filter and the pipes
    stays-linked : (k : Counts) (filter : Option (Core P)) (pipe back : List ℕ) → (k.sent ≡ c.sent) → (k.received ≡ c.received)
        → IsFilterIn p.filter ends.order ends.policy lines k k.lives filter pipe → take k.received (to_mta lines) ++ back ≡ take k.answered (to_mta lines) → AreCounts lines k
        → IsLinked p settled k (record ends { filter = filter; to_filter = pipe; to_mta = back; state = Linked settled k })
    stays-linked k filter pipe back s h is way counts =
        record {
          opened = linked.opened;
          opened_settled = linked.opened_settled;
          follows = linked.follows;
          mta = subst (λ (n : ℕ). IsMtaAt linked.opened lines (record k { sent = n }) ends.mta) (sym s)
              (subst (λ (n : ℕ). IsMtaAt linked.opened lines (record k { sent = c.sent; received = n }) ends.mta) (sym h) linked.mta);
          filter = is;
          answers = way;
          counts = counts;
        }

    steps-to : (event : Event) (k : Counts) (filter : Option (Core P)) (pipe back : List ℕ) → happens p (Linked settled c) event ≡ states.stays (Linked settled k)
        → IsLinked p settled k (record ends { filter = filter; to_filter = pipe; to_mta = back; state = Linked settled k })
        → Steps p ends event (record ends { filter = filter; to_filter = pipe; to_mta = back; state = Linked settled k })
    steps-to event k filter pipe back e is =
        let all : happens p ends.state event ≡ states.stays (Linked settled k) = ap (λ (s : State). happens p s event) at ∙ e in
        record {
          is = record { possible = possible; by_dialogues = by_dialogues; is_at = is };
          policy = refl;
          order = refl;
          state = sym (ap (λ (a : states.After). a.state) all);
          reports = sym (append-nil ends.mta.reports) ∙ ap (λ (a : states.After). ends.mta.reports ++ a.reports) (sym all);
        }

    -- ---- the filter is dead, or dies

    pub dies : Steps p ends Die (record ends { filter = None; to_filter = []; state = Linked settled (record c { lives = false }) })
    dies =
        steps-to Die (record c { lives = false }) None [] ends.to_mta refl
        (stays-linked (record c { lives = false }) None [] ends.to_mta refl refl tt linked.answers
        (record { not_over = linked.counts.not_over; taken = linked.counts.taken; sent = linked.counts.sent; received = linked.counts.received; answered = linked.counts.answered }))

    pub lives-not : ends.filter ≡ None → c.lives ≡ false
    lives-not e = by_lives c.lives ends.filter e linked.filter
      where
        by_lives : (lives : Bool) (filter : Option (Core P)) → filter ≡ None → IsFilterIn p.filter ends.order ends.policy lines c lives filter ends.to_filter → lives ≡ false
        by_lives false filter e is = refl
        by_lives true None e is = absurd is
        by_lives true (Some core) e is = absurd cc

    module _ (core : Core P) (some : ends.filter ≡ Some core) where
      pub record Lives : Type 0 where
        pub lives : c.lives ≡ true
        pub is : IsFilterAt p.filter ends.order ends.policy lines c core ends.to_filter

      pub lives-is : Lives
      lives-is = by_lives c.lives ends.filter refl some linked.filter
        where
          by_lives : (lives : Bool) (filter : Option (Core P)) → c.lives ≡ lives → filter ≡ Some core
              → IsFilterIn p.filter ends.order ends.policy lines c lives filter ends.to_filter → Lives
          by_lives true (Some other) l e is = record { lives = l; is = subst (λ (x : Core P). IsFilterAt p.filter ends.order ends.policy lines c x ends.to_filter) (same other core e) is }
            where
              same : (x y : Core P) → Some x ≡ Some y → x ≡ y
              same x y e = cc
          by_lives true None l e is = absurd is
          by_lives false (Some other) l e is = absurd is
          by_lives false None l e is = absurd cc

      living : Counts → Bool → Counts
      living k lives = record k { lives = lives }

      -- ---- a piece reaches it

      module _ (n : ℕ) where
        abbrev piece : List ℕ
        piece = take n ends.to_filter

        abbrev rest : List ℕ
        rest = drop n ends.to_filter

        abbrev taken_counts : Counts
        taken_counts = record c { taken = c.taken + length piece }

        taken-is : c.taken + length piece ≡ min (c.taken + n) c.sent
        taken-is =
            let w = pipe-len p.filter ends.order ends.policy lines (possible.answered ends.order settled) c linked.counts core ends.to_filter lives-is.is in
            let l = length-take n ends.to_filter in
            omega arith

        taken-event : happens p (Linked settled c) (ToFilter n) ≡ states.stays (Linked settled taken_counts)
        taken-event =
            ap (λ (b : Bool). states.stays (Linked settled (states.if_lives b c (record c { taken = min (c.taken + n) c.sent })))) lives-is.lives
            ∙ ap (λ (t : ℕ). states.stays (Linked settled (record c { taken = t }))) (sym taken-is)

        pub takes : CoresTake P → (count : ℕ) (new : Core P) → core.pending ≡ [] → Takes p.filter core piece count new
            → (count ≡ length piece) × Steps p ends (ToFilter n) (record ends { filter = Some new; to_filter = rest; state = Linked settled taken_counts })
        takes laws count new none takes_it =
            let cut = take-append-drop n ends.to_filter in
            let is = takes-piece p.filter ends.order ends.policy lines (possible.answered ends.order settled) c linked.counts core ends.to_filter lives-is.is piece rest cut laws none count new takes_it in (
              all-taken p.filter ends.order ends.policy lines (possible.answered ends.order settled) c linked.counts core ends.to_filter lives-is.is piece rest cut laws none count new takes_it,
              steps-to (ToFilter n) taken_counts (Some new) rest ends.to_mta taken-event
                  (stays-linked taken_counts (Some new) rest ends.to_mta refl refl
                  (subst (λ (b : Bool). IsFilterIn p.filter ends.order ends.policy lines taken_counts b (Some new) rest) (sym lives-is.lives) is)
                  linked.answers
                  (counts-now p.filter ends.order ends.policy lines (possible.answered ends.order settled) c linked.counts core ends.to_filter lives-is.is piece rest cut)),
            )

        -- while it has bytes to answer nothing is on its way
        pub waits : core.pending ≢ [] → (length piece ≡ 0) × Steps p ends (ToFilter n) (record ends { state = Linked settled taken_counts })
        waits some_pending =
            let none = none_on_way p.filter ends.order ends.policy lines (possible.answered ends.order settled) c linked.counts core ends.to_filter lives-is.is some_pending in
            let l = length-take n ends.to_filter in
            let z = ap length none in
            let nothing_more : length piece ≡ 0 = omega arith in
            let same : taken_counts ≡ c = ap (λ (t : ℕ). record c { taken = t }) (omega arith) in (
              nothing_more,
              steps-to (ToFilter n) taken_counts ends.filter ends.to_filter ends.to_mta taken-event
                  (subst (λ (k : Counts). IsLinked p settled k (record ends { state = Linked settled k })) (sym same) (stays-linked c ends.filter ends.to_filter ends.to_mta refl refl linked.filter linked.answers linked.counts)),
            )

        -- ---- a piece is answered

        abbrev given : List ℕ
        given = take n core.pending

        abbrev answered_counts : Counts
        answered_counts = record c { answered = c.answered + length given }

        answered-is : c.answered + length given ≡ min (c.answered + n) (owed lines c.taken)
        answered-is =
            let w = pending-len p.filter ends.order ends.policy lines (possible.answered ends.order settled) c linked.counts core ends.to_filter lives-is.is in
            let l = length-take n core.pending in
            omega arith

        answered-event : happens p (Linked settled c) (Answer n) ≡ states.stays (Linked settled answered_counts)
        answered-event =
            ap (λ (b : Bool). states.stays (Linked settled (states.if_lives b c (record c { answered = min (c.answered + n) (owed lines c.taken) })))) lives-is.lives
            ∙ ap (λ (t : ℕ). states.stays (Linked settled (record c { answered = t }))) (sym answered-is)

        pub answers : CoresSend P → Steps p ends (Answer n)
            (record ends {
              filter = Some (record core { pending = drop n core.pending });
              to_mta = ends.to_mta ++ given;
              state = Linked settled answered_counts;
            })
        answers laws =
            let ans = possible.answered ends.order settled in
            steps-to (Answer n) answered_counts (Some (record core { pending = drop n core.pending })) ends.to_filter (ends.to_mta ++ given) answered-event
            (stays-linked answered_counts (Some (record core { pending = drop n core.pending })) ends.to_filter (ends.to_mta ++ given) refl refl
            (subst (λ (b : Bool). IsFilterIn p.filter ends.order ends.policy lines answered_counts b (Some (record core { pending = drop n core.pending })) ends.to_filter) (sym lives-is.lives)
            (answers-piece p.filter ends.order ends.policy lines ans c linked.counts core ends.to_filter lives-is.is laws n))
            (answered-way p.filter ends.order ends.policy lines ans c linked.counts core ends.to_filter lives-is.is laws n ends.to_mta linked.answers)
            (answered-counts p.filter ends.order ends.policy lines ans c linked.counts core ends.to_filter lives-is.is laws n))

    -- ---- a piece is sent

    is-owed-now : c.received ≤ owed lines c.sent
    is-owed-now = is-owed linked.opened lines follows_lines c linked.counts ends.mta linked.mta

    -- a packet is wanted exactly before what is due
    pub want-is : (c.sent < due lines c.received → want ends.mta ≡ wants.Send)
    want-is early = by_place linked.mta
      where
        here : want (after_at linked.opened lines c.sent c.received).mta ≡ wants.Send
        here = wants-send lines linked.opened c.sent c.received follows_lines early is-owed-now

        by_place : IsMtaAt linked.opened lines c ends.mta → want ends.mta ≡ wants.Send
        by_place (inl e) = ap want e ∙ here
        by_place (inr e) = ap want e.1 ∙ want-advanced (after_at linked.opened lines c.sent c.received).mta ∙ here

    pub want-not : due lines c.received ≤ c.sent → want ends.mta ≡ wants.Receive
    want-not late = by_place linked.mta
      where
        by_place : IsMtaAt linked.opened lines c ends.mta → want ends.mta ≡ wants.Receive
        by_place (inl e) = ap want e ∙ wants-receive lines linked.opened c.sent c.received follows_lines (let s = linked.counts.sent in omega arith) linked.counts.not_over
        by_place (inr e) = absurd (let g = e.0 in let f : c.sent < c.sent = omega arith in omega arith)

    pub early-is : want ends.mta ≡ wants.Send → c.sent < due lines c.received
    early-is e = by_lt c.sent (due lines c.received) (λ less. less) (λ late. absurd (let w : wants.Send ≡ wants.Receive = sym e ∙ want-not late in cc))

    module _ (n : ℕ) where
      pub sends-not : want ends.mta ≢ wants.Send → Steps p ends (Send n) ends
      sends-not other =
          by_lt c.sent (due lines c.received)
          (λ early. absurd (other (want-is early)))
          (λ late.
          nothing p ends possible by_dialogues (Send n) (subst (λ (s : State). IsAt p s ends) (sym at) linked)
          (ap (λ (s : State). happens p s (Send n)) at
          ∙ ap (λ (b : Bool). states.stays (if b then sent_to lines settled c (min (c.sent + n) (packet_end lines c.sent)) else Linked settled c)) (le-ltb c.sent (due lines c.received) late)
          ∙ ap states.stays (sym at)))

      module _ (laws : SendLaws) (early : c.sent < due lines c.received) where
        abbrev count : ℕ
        count = min n (length (pending (advanced ends.mta)))

        abbrev sent_counts : Counts
        sent_counts = record c { sent = c.sent + count }

        count-le : count ≤ length (pending (advanced ends.mta))
        count-le = omega arith

        sent-is : c.sent + count ≡ min (c.sent + n) (packet_end lines c.sent)
        sent-is =
            let l = pending-length linked.opened lines follows_lines c linked.counts ends.mta linked.mta laws.adds_up early in
            omega arith

        sent-event : happens p (Linked settled c) (Send n) ≡ states.stays (sent_to lines settled c (c.sent + count))
        sent-event =
            ap (λ (b : Bool). states.stays (if b then sent_to lines settled c (min (c.sent + n) (packet_end lines c.sent)) else Linked settled c)) (lt-ltb c.sent (due lines c.received) early)
            ∙ ap (λ (s : ℕ). states.stays (sent_to lines settled c s)) (sym sent-is)

        abbrev mta_then : Mta
        mta_then = sent count (advanced ends.mta)

        mta-then : IsMtaAt linked.opened lines sent_counts mta_then
        mta-then = sends-piece linked.opened lines follows_lines c linked.counts ends.mta linked.mta laws.adds_up early count count-le

        dialogues-sent : IsReportedByDialogues p mta_then
        dialogues-sent =
            let one = laws.advanced_on ends.mta by_dialogues.dialogues.on_dialogue in
            dialogues-on p ends possible by_dialogues laws.both mta_then
            (laws.both ends.mta (advanced ends.mta) mta_then one (laws.sent_on (advanced ends.mta) count one.on_dialogue))
            (laws.sent_reported (advanced ends.mta) count (laws.advanced_reported ends.mta by_dialogues.connection))

        same-reports : mta_then.reports ≡ ends.mta.reports
        same-reports = reports-sent count (advanced ends.mta) ∙ reports-advanced ends.mta

        sent-steps : (state : State) (pipe : List ℕ) → sent_to lines settled c (c.sent + count) ≡ state
            → IsAt p state (record ends { mta = mta_then; to_filter = pipe; state = state })
            → Steps p ends (Send n) (record ends { mta = mta_then; to_filter = pipe; state = state })
        sent-steps state pipe e is =
            let all : happens p ends.state (Send n) ≡ states.stays state = ap (λ (s : State). happens p s (Send n)) at ∙ sent-event ∙ ap states.stays e in
            record {
              is = record { possible = possible; by_dialogues = dialogues-sent; is_at = is };
              policy = refl;
              order = refl;
              state = sym (ap (λ (a : states.After). a.state) all);
              reports = same-reports ∙ sym (append-nil ends.mta.reports) ∙ ap (λ (a : states.After). ends.mta.reports ++ a.reports) (sym all);
            }

        -- all is sent, or not
        end_le : c.sent + count ≤ length (to_filter lines)
        end_le =
            let l = pending-length linked.opened lines follows_lines c linked.counts ends.mta linked.mta laws.adds_up early in
            let d = packet_end-due lines c.sent c.received early is-owed-now in
            let f = due-le lines c.received in
            omega arith

        pub sends-last : (pipe : List ℕ) → c.sent + count ≡ length (to_filter lines) → Steps p ends (Send n) (record ends { mta = mta_then; to_filter = pipe; state = Done })
        sends-last pipe all =
            sent-steps Done pipe (ap (λ (b : Bool). if b then Done else Linked settled sent_counts) (eq-eqb (c.sent + count) (length (to_filter lines)) all)) tt

        filter-sent : (lives : Bool) (filter : Option (Core P)) (pipe : List ℕ)
            → (lives ≡ true → pipe ≡ ends.to_filter ++ take count (pending (advanced ends.mta)))
            → IsFilterIn p.filter ends.order ends.policy lines c lives filter ends.to_filter → IsFilterIn p.filter ends.order ends.policy lines sent_counts lives filter pipe
        filter-sent true (Some core) pipe e is =
            record {
              goes_on = is.goes_on;
              on_way = ap (λ (l : List ℕ). take c.taken (to_filter lines) ++ l) (e refl)
                  ∙ sent-way linked.opened lines follows_lines c linked.counts ends.mta linked.mta laws.adds_up early count count-le ends.to_filter is.on_way;
            }
        filter-sent true None pipe e is = absurd is
        filter-sent false (Some core) pipe e is = absurd is
        filter-sent false None pipe e is = tt

        pub sends-more : (pipe : List ℕ) → (c.lives ≡ true → pipe ≡ ends.to_filter ++ take count (pending (advanced ends.mta)))
            → c.sent + count < length (to_filter lines)
            → Steps p ends (Send n) (record ends { mta = mta_then; to_filter = pipe; state = Linked settled sent_counts })
        sends-more pipe e less =
            let not_all : (c.sent + count == length (to_filter lines)) ≡ false = by_value (c.sent + count == length (to_filter lines)) refl less in
            sent-steps (Linked settled sent_counts) pipe (ap (λ (b : Bool). if b then Done else Linked settled sent_counts) not_all)
            (record {
              opened = linked.opened;
              opened_settled = linked.opened_settled;
              follows = linked.follows;
              mta = mta-then;
              filter = filter-sent c.lives ends.filter pipe e linked.filter;
              answers = linked.answers;
              counts = sent-counts linked.opened lines follows_lines c linked.counts ends.mta linked.mta laws.adds_up early count count-le less;
            })
          where
            by_value : (b : Bool) → (c.sent + count == length (to_filter lines)) ≡ b → c.sent + count < length (to_filter lines) → (c.sent + count == length (to_filter lines)) ≡ false
            by_value false e less = e
            by_value true e less = absurd (let q = eqb-true (c.sent + count) (length (to_filter lines)) e in let f : c.sent < c.sent = omega arith in omega arith)

        -- nothing is wanted then exactly where all is sent
        pub done-is : c.sent + count ≡ length (to_filter lines) → want mta_then ≡ wants.Done
        done-is all = by_place mta-then
          where
            is_owed_then : c.received ≤ owed lines (c.sent + count)
            is_owed_then = let t = is-owed-now in let m = owed-mono lines c.sent (c.sent + count) (omega arith) in omega arith

            due_then : due lines c.received ≡ length (to_filter lines)
            due_then =
                let l = pending-length linked.opened lines follows_lines c linked.counts ends.mta linked.mta laws.adds_up early in
                let d = packet_end-due lines c.sent c.received early is-owed-now in
                let f = due-le lines c.received in
                omega arith

            by_place : IsMtaAt linked.opened lines sent_counts mta_then → want mta_then ≡ wants.Done
            by_place (inl e) =
                let h = possible.last_unanswered settled c.received due_then in
                let o = owed-le lines (c.sent + count) in
                let t = is_owed_then in
                ap want e ∙ wants-nothing lines linked.opened (c.sent + count) c.received follows_lines (all ∙ sym due_then) all (omega arith)
            by_place (inr e) = absurd (let g = e.0 in let d = due_then in let f : c.sent < c.sent = omega arith in omega arith)

        pub done-not : c.sent + count < length (to_filter lines) → want mta_then ≢ wants.Done
        done-not less none = by_place mta-then
          where
            is_owed_then : c.received ≤ owed lines (c.sent + count)
            is_owed_then = let t = is-owed-now in let m = owed-mono lines c.sent (c.sent + count) (omega arith) in omega arith

            sent_le : c.sent + count ≤ due lines c.received
            sent_le =
                let l = pending-length linked.opened lines follows_lines c linked.counts ends.mta linked.mta laws.adds_up early in
                let d = packet_end-due lines c.sent c.received early is-owed-now in
                omega arith

            want-here : want (after_at linked.opened lines (c.sent + count) c.received).mta ≢ wants.Done
            want-here e =
                by_lt (c.sent + count) (due lines c.received)
                (λ before. let w : wants.Done ≡ wants.Send = sym e ∙ wants-send lines linked.opened (c.sent + count) c.received follows_lines before is_owed_then in cc)
                (λ at_end. let w : wants.Done ≡ wants.Receive = sym e ∙ wants-receive lines linked.opened (c.sent + count) c.received follows_lines (let s = sent_le in omega arith) less in cc)

            by_place : IsMtaAt linked.opened lines sent_counts mta_then → ⊥
            by_place (inl e) = want-here (sym (ap want e) ∙ none)
            by_place (inr e) = want-here (sym (ap want e.1 ∙ want-advanced (after_at linked.opened lines (c.sent + count) c.received).mta) ∙ none)

        pub not_all : want mta_then ≢ wants.Done → c.sent + count < length (to_filter lines)
        not_all more = by_lt (c.sent + count) (length (to_filter lines)) (λ less. less) (λ all. absurd (more (done-is (let e = end_le in omega arith))))

        pub all-is : want mta_then ≡ wants.Done → c.sent + count ≡ length (to_filter lines)
        all-is none = by_lt (c.sent + count) (length (to_filter lines)) (λ less. absurd (done-not less none)) (λ all. let e = end_le in omega arith)

    -- ---- what the filter's end is

    pub serves : (core : Core P) → ends.filter ≡ Some core → core.order_state.state ≡ Serving
    serves core some = serving p.filter ends.order ends.policy lines (possible.answered ends.order settled) c linked.counts core ends.to_filter (lives-is core some).is

    pub fails : CoresGiveUp P → (core : Core P) → ends.filter ≡ Some core → (n : ℕ) → core.pending ≡ [] → (fault : Fault)
        → GivesUp p.filter core.order_state (received_in (core.unread ++ take n ends.to_filter)) fault → ⊥
    fails laws core some n none fault gives =
        fails-not p.filter ends.order ends.policy lines (possible.answered ends.order settled) c linked.counts core ends.to_filter (lives-is core some).is
        (take n ends.to_filter) (drop n ends.to_filter) (take-append-drop n ends.to_filter) laws none fault gives

    pub dead-to : ends.filter ≡ None → (n : ℕ) → Steps p ends (ToFilter n) ends
    dead-to none n =
        nothing p ends possible by_dialogues (ToFilter n) (subst (λ (s : State). IsAt p s ends) (sym at) linked)
        (ap (λ (s : State). happens p s (ToFilter n)) at
        ∙ ap (λ (b : Bool). states.stays (Linked settled (states.if_lives b c (record c { taken = min (c.taken + n) c.sent })))) (lives-not none)
        ∙ ap states.stays (sym at))

    pub dead-answer : ends.filter ≡ None → (n : ℕ) → Steps p ends (Answer n) ends
    dead-answer none n =
        nothing p ends possible by_dialogues (Answer n) (subst (λ (s : State). IsAt p s ends) (sym at) linked)
        (ap (λ (s : State). happens p s (Answer n)) at
        ∙ ap (λ (b : Bool). states.stays (Linked settled (states.if_lives b c (record c { answered = min (c.answered + n) (owed lines c.taken) })))) (lives-not none)
        ∙ ap states.stays (sym at))

    -- ---- no count is too large

    pub short_sent : SendLaws → (n : ℕ) → want ends.mta ≡ wants.Send → c.sent + min n (length (pending (advanced ends.mta))) < 2 ^ 128
    short_sent laws n wanted =
        let e = end_le n laws (early-is wanted) in
        let s = possible.short_to_filter settled in
        omega arith

    pub short_taken : (core : Core P) → ends.filter ≡ Some core → (n : ℕ) → c.taken + length (take n ends.to_filter) < 2 ^ 128
    short_taken core some n =
        let e = taken-is core some n in
        let k = linked.counts.not_over in
        let s = possible.short_to_filter settled in
        omega arith

    pub short_answered : (core : Core P) → ends.filter ≡ Some core → (n : ℕ) → c.answered + length (take n core.pending) < 2 ^ 128
    short_answered core some n =
        let e = answered-is core some n in
        let k = owed-le lines c.taken in
        let s = possible.short_to_mta settled in
        omega arith

    pub short_received : (n : ℕ) → c.received + length (take n ends.to_mta) < 2 ^ 128
    short_received n =
        let e = count-is p ends possible by_dialogues settled c at linked n in
        let a = linked.counts.answered in
        let k = owed-le lines c.taken in
        let s = possible.short_to_mta settled in
        omega arith

    pub same_policy : (core : Core P) → ends.filter ≡ Some core → core.policy ≡ ends.policy
    same_policy core some = (lives-is core some).is.goes_on.policy
