-- The reports of a schedule are of the dialogues.
use Rattle.std.proofs.Common.{◌≡◌, inl, inr, ℕ, ◌+◌, ◌-◌, ◌≤◌, ◌<◌, Bool, true, false, if◌then◌else◌, nat_lt, ◌==◌, min, List, [], ◌∷◌, ◌++◌, drop, length, refl, sym, ◌∙◌, ap, subst, arith, append-nil, append_assoc, length-append}
use Rattle.std.specs.List.{AllZip}
use Rattle.std.proofs.lemmas.Bool.{le-ltb, lt-leb}
use Rattle.milter_message.specs.MailObject.{MailObject}
use Rattle.milter_mail.specs.Plan.{plan}
use Rattle.milter_protocol.specs.Dialogue.{dialogue_with}
use Rattle.milter_mta_outcome.specs.declared.loss.Loss.{Loss}
use Rattle.milter_mta_outcome.specs.declared.outcome.Report.{Report}
use Rattle.milter_fields.specs.Number.{number}
use Rattle.milter_wire.specs.declared.reply.Reply.{Reply}
use Rattle.milter_wire.specs.Reply.{code_of, encoding, payload_of}
use Rattle.milter_protocol.specs.Replies.{options_reply}
use Rattle.milter_world.specs.DialogueReports.{AreReported, IsDefaultAfter, IsRuledBy, IsReportOf, negotiated_of}
use Rattle.milter_world.specs.declared.event_line.Event.{Event}
use Rattle.milter_world.specs.declared.event_line.Event.TheVariants.{Dial, Send, ToFilter, Answer, ToMta, Die, Lose, Timeout}
use Rattle.milter_world.specs.declared.state.Counts.{Counts}
use Rattle.milter_world.specs.declared.state.State.{State}
use Rattle.milter_world.specs.declared.state.State.TheVariants.{Idle, Linked, Done}
use Rattle.milter_mta_outcome.specs.declared.loss.Loss.TheVariants as losses
use Rattle.milter_world.specs.ByteCounts.{due, owed, packet_end, to_filter}
use Rattle.milter_world.specs.Schedule.{Scenario, after_all, first, gives_up, happens, happens_linked, receives_bytes, idle_at, if_lives, lines_at, loses, run_reports, sends, sent_to, entries_at}
use Rattle.milter_world.specs.ConnectionEntries.{default_reports, default_within, connection_entries, reports_within}
use Rattle.milter_protocol.proofs.WholeDialogues.{dialogue_with-some}
use Rattle.milter_world.proofs.CountedBytes.{by_lt, lt-ltb, owed-mono, packet_end-more}
use Rattle.milter_world.proofs.EntryAccounts.{Settles, DialogueLaws, added, drop-past, given-up, session, within, zip-append}

pub zip-length : {A B : Type 0} (R : A → B → Type 0) (xs : List A) (ys : List B) → AllZip R xs ys → length xs ≡ length ys
zip-length R [] [] all = refl
zip-length R [] (y ∷ ys) all = absurd all
zip-length R (x ∷ xs) [] all = absurd all
zip-length R (x ∷ xs) (y ∷ ys) all = let r = zip-length R xs ys all.1 in omega arith

module _ (p : Scenario) (laws : DialogueLaws p) where
  -- so many are settled, each as reported
  pub record Reported (messages : List MailObject) (reports : List Report) (left : List MailObject) : Type 0 where
    pub done : List MailObject
    pub messages_are : messages ≡ done ++ left
    pub each : AllZip (IsReportOf p) done reports

  weaker-ruled : (xs : List MailObject) (us : List Report) → AllZip (IsRuledBy p) xs us → AllZip (IsReportOf p) xs us
  weaker-ruled [] [] a = tt
  weaker-ruled [] (u ∷ us) a = absurd a
  weaker-ruled (x ∷ xs) [] a = absurd a
  weaker-ruled (x ∷ xs) (u ∷ us) a = (inl a.0, weaker-ruled xs us a.1)

  weaker-lost : (xs : List MailObject) (us : List Report) → AllZip (IsDefaultAfter p) xs us → AllZip (IsReportOf p) xs us
  weaker-lost [] [] a = tt
  weaker-lost [] (u ∷ us) a = absurd a
  weaker-lost (x ∷ xs) [] a = absurd a
  weaker-lost (x ∷ xs) (u ∷ us) a = (inr a.0, weaker-lost xs us a.1)

  -- where a run has come
  abbrev pub IsAtState : State → List Report → Type 0
  IsAtState (Idle i) reports = Reported p.session.messages reports (drop i p.session.messages) × (length reports ≡ i)
  IsAtState (Linked i c) reports =
      (before : List Report) × Reported p.session.messages before (drop i p.session.messages) × (length before ≡ i)
      × (reports ≡ before ++ reports_within (entries_at p i) c.received)
  IsAtState Done reports = (left : List MailObject) × Reported p.session.messages reports left

  reported-ruled : (reports us : List Report) (left rest : List MailObject) → Reported p.session.messages reports left → Settles p left (IsRuledBy p) us rest → Reported p.session.messages (reports ++ us) rest
  reported-ruled reports us left rest t s =
      record {
        done = t.done ++ s.done;
        messages_are = t.messages_are ∙ ap (λ (l : List MailObject). t.done ++ l) s.messages_are ∙ sym (append_assoc t.done s.done rest);
        each = zip-append (IsReportOf p) t.done s.done reports us t.each (weaker-ruled s.done us s.each);
      }

  reported-lost : (reports us : List Report) (left rest : List MailObject) → Reported p.session.messages reports left → Settles p left (IsDefaultAfter p) us rest → Reported p.session.messages (reports ++ us) rest
  reported-lost reports us left rest t s =
      record {
        done = t.done ++ s.done;
        messages_are = t.messages_are ∙ ap (λ (l : List MailObject). t.done ++ l) s.messages_are ∙ sym (append_assoc t.done s.done rest);
        each = zip-append (IsReportOf p) t.done s.done reports us t.each (weaker-lost s.done us s.each);
      }

  -- it is what is left after those that are reported
  reported-left : (reports : List Report) (left : List MailObject) → Reported p.session.messages reports left → left ≡ drop (length reports) p.session.messages
  reported-left reports left t =
      sym (drop-past t.done left) ∙ ap (drop (length t.done)) (sym t.messages_are)
      ∙ ap (λ (n : ℕ). drop n p.session.messages) (zip-length (IsReportOf p) t.done reports t.each)

  at-idle : (i : ℕ) (reports : List Report) (left : List MailObject) → Reported p.session.messages reports left → length reports ≡ i → IsAtState (idle_at p i) reports
  at-idle i reports left t e = by_some (nat_lt i (length p.session.messages))
    where
      by_some : (some : Bool) → IsAtState (if some then Idle i else Done) reports
      by_some true =
          (record { done = t.done; messages_are = subst (λ (l : List MailObject). p.session.messages ≡ t.done ++ l) (reported-left reports left t ∙ ap (λ (n : ℕ). drop n p.session.messages) e) t.messages_are; each = t.each }, e)
      by_some false = (left, t)

  at-done : (i : ℕ) (c : Counts) (reports : List Report) → IsAtState (Linked i c) reports → IsAtState Done reports
  at-done i c reports h =
      let w = within p (entries_at p i) (drop i p.session.messages) (session p laws (drop i p.session.messages)) c.received in
      (w.rest, subst (λ (l : List Report). Reported p.session.messages l w.rest) (sym h.3) (reported-ruled h.0 (reports_within (entries_at p i) c.received) (drop i p.session.messages) w.rest h.1 w.settled))

  -- nothing more is received
  at-same : (i : ℕ) (c k : Counts) (reports : List Report) → k.received ≡ c.received → IsAtState (Linked i c) reports → IsAtState (Linked i k) (reports ++ [])
  at-same i c k reports e h =
      (h.0, h.1, h.2, append-nil reports ∙ h.3 ∙ ap (λ (n : ℕ). h.0 ++ reports_within (entries_at p i) n) (sym e))

  at-sent : (i : ℕ) (c : Counts) (reports : List Report) (n : ℕ) → IsAtState (Linked i c) reports → IsAtState (sends (lines_at p i) i c n) (reports ++ [])
  at-sent i c reports n h = by_due (nat_lt c.sent (due (lines_at p i) c.received))
    where
      by_all : (s : ℕ) (all : Bool) → IsAtState (if all then Done else Linked i (record c { sent = s })) (reports ++ [])
      by_all s true = subst (λ (l : List Report). IsAtState Done l) (sym (append-nil reports)) (at-done i c reports h)
      by_all s false = at-same i c (record c { sent = s }) reports refl h

      by_due : (early : Bool) → IsAtState (if early then sent_to (lines_at p i) i c (min (c.sent + n) (packet_end (lines_at p i) c.sent)) else Linked i c) (reports ++ [])
      by_due false = at-same i c c reports refl h
      by_due true = by_all (min (c.sent + n) (packet_end (lines_at p i) c.sent)) (min (c.sent + n) (packet_end (lines_at p i) c.sent) == length (to_filter (lines_at p i)))

  at-lost : (i : ℕ) (c : Counts) (reports : List Report) (loss : Loss) → IsAtState (Linked i c) reports → IsAtState (loses p i c loss).state (reports ++ (loses p i c loss).reports)
  unfolding within at-done
  at-lost i c reports loss h =
      let sw = reports_within (entries_at p i) c.received in
      let lw = default_within p.config.on_loss loss (entries_at p i) c.received in
      let w = within p (entries_at p i) (drop i p.session.messages) (session p laws (drop i p.session.messages)) c.received in
      let now = (at-done i c reports h).1 in
      let l = w.lost loss in
      let a = ap length h.3 in
      let b = length-append h.0 sw in
      let d = length-append reports lw in
      let e = h.2 in
      at-idle (i + length sw + length lw) (reports ++ lw) l.0 (reported-lost reports lw w.rest l.0 now l.1) (omega arith)

  at-given_up : (i : ℕ) (reports : List Report) (loss : Loss) → IsAtState (Idle i) reports
      → IsAtState (gives_up p i (default_reports p.config.on_loss loss (drop i p.session.messages) [])).state (reports ++ default_reports p.config.on_loss loss (drop i p.session.messages) [])
  at-given_up i reports loss h =
      let us = default_reports p.config.on_loss loss (drop i p.session.messages) [] in
      let g = given-up p loss (drop i p.session.messages) [] (λ message others e. (record { more = dialogue_with p.filter (negotiated_of p) [] (plan (negotiated_of p) p.session message); whole = refl }, dialogue_with-some p.filter (negotiated_of p) [] (plan (negotiated_of p) p.session message) (laws.plan_end message))) in
      let d = length-append reports us in
      let e = h.1 in
      at-idle (i + length us) (reports ++ us) g.0 (reported-lost reports us (drop i p.session.messages) g.0 h.0 g.1) (omega arith)

  at-received : (i : ℕ) (c : Counts) (reports : List Report) (n : ℕ) → c.received ≤ n → IsAtState (Linked i c) reports → IsAtState (receives_bytes p i c n).state (reports ++ (receives_bytes p i c n).reports)
  at-received i c reports n le h =
      let e : c.received + (n - c.received) ≡ n = omega arith in (
        h.0,
        h.1,
        h.2,
        ap (λ (l : List Report). l ++ drop (length (reports_within (entries_at p i) c.received)) (reports_within (entries_at p i) n)) h.3
            ∙ append_assoc h.0 (reports_within (entries_at p i) c.received) (drop (length (reports_within (entries_at p i) c.received)) (reports_within (entries_at p i) n))
            ∙ ap (λ (l : List Report). h.0 ++ l)
            (ap (λ (k : ℕ). reports_within (entries_at p i) c.received ++ drop (length (reports_within (entries_at p i) c.received)) (reports_within (entries_at p i) k)) (sym e)
            ∙ added (entries_at p i) c.received (n - c.received) ∙ ap (reports_within (entries_at p i)) e),
      )

  at-linked : (i : ℕ) (c : Counts) (reports : List Report) (event : Event) → c.received ≤ c.answered → IsAtState (Linked i c) reports
      → IsAtState (happens_linked p i c event).state (reports ++ (happens_linked p i c event).reports)
  at-linked i c reports Dial le h = at-same i c c reports refl h
  at-linked i c reports (Send n) le h = at-sent i c reports n h
  at-linked i c reports (ToFilter n) le h = by_lives c.lives
    where
      by_lives : (lives : Bool) → IsAtState (Linked i (if_lives lives c (record c { taken = min (c.taken + n) c.sent }))) (reports ++ [])
      by_lives true = at-same i c (record c { taken = min (c.taken + n) c.sent }) reports refl h
      by_lives false = at-same i c c reports refl h
  at-linked i c reports (Answer n) le h = by_lives c.lives
    where
      by_lives : (lives : Bool) → IsAtState (Linked i (if_lives lives c (record c { answered = min (c.answered + n) (owed (lines_at p i) c.taken) }))) (reports ++ [])
      by_lives true = at-same i c (record c { answered = min (c.answered + n) (owed (lines_at p i) c.taken) }) reports refl h
      by_lives false = at-same i c c reports refl h
  at-linked i c reports (ToMta n) le h = at-received i c reports (min (c.received + n) c.answered) (omega arith) h
  at-linked i c reports Die le h = at-same i c (record c { lives = false }) reports refl h
  at-linked i c reports Lose le h = at-lost i c reports losses.Reset h
  at-linked i c reports Timeout le h = at-lost i c reports losses.Timeout h

  -- ---- the counts are sound

  abbrev pub Sound : State → Type 0
  Sound (Linked i c) = (c.received ≤ c.answered) × (c.answered ≤ owed (lines_at p i) c.taken) × (c.taken ≤ c.sent)
  Sound other = Unit {0}

  pub sound-idle : (i : ℕ) → Sound (idle_at p i)
  sound-idle i = by_some (nat_lt i (length p.session.messages))
    where
      by_some : (some : Bool) → Sound (if some then Idle i else Done)
      by_some true = tt
      by_some false = tt

  sound-sent : (i : ℕ) (c : Counts) (n : ℕ) → Sound (Linked i c) → Sound (sends (lines_at p i) i c n)
  sound-sent i c n ok = by_lt c.sent (due (lines_at p i) c.received)
      (λ early. subst (λ (b : Bool). Sound (if b then sent_to (lines_at p i) i c (min (c.sent + n) (packet_end (lines_at p i) c.sent)) else Linked i c)) (sym (lt-ltb c.sent (due (lines_at p i) c.received) early))
      (by_all (min (c.sent + n) (packet_end (lines_at p i) c.sent)) (min (c.sent + n) (packet_end (lines_at p i) c.sent) == length (to_filter (lines_at p i)))
      (let a = ok.0 in let b = ok.1 in let d = ok.2 in
      let m = owed-mono (lines_at p i) c.taken c.sent ok.2 in
      let e = packet_end-more (lines_at p i) c.sent c.received early (omega arith) in omega arith)))
      (λ late. subst (λ (b : Bool). Sound (if b then sent_to (lines_at p i) i c (min (c.sent + n) (packet_end (lines_at p i) c.sent)) else Linked i c)) (sym (le-ltb c.sent (due (lines_at p i) c.received) late)) ok)
    where
      by_all : (s : ℕ) (all : Bool) → c.sent ≤ s → Sound (if all then Done else Linked i (record c { sent = s }))
      by_all s true le = tt
      by_all s false le = (ok.0, ok.1, let d = ok.2 in omega arith)

  sound-linked : (i : ℕ) (c : Counts) (event : Event) → Sound (Linked i c) → Sound (happens_linked p i c event).state
  sound-linked i c Dial ok = ok
  sound-linked i c (Send n) ok = sound-sent i c n ok
  sound-linked i c (ToFilter n) ok = by_lives c.lives
    where
      by_lives : (lives : Bool) → Sound (Linked i (if_lives lives c (record c { taken = min (c.taken + n) c.sent })))
      by_lives true = (ok.0, (let d = ok.2 in let b = ok.1 in let m = owed-mono (lines_at p i) c.taken (min (c.taken + n) c.sent) (omega arith) in omega arith), omega arith)
      by_lives false = ok
  sound-linked i c (Answer n) ok = by_lives c.lives
    where
      by_lives : (lives : Bool) → Sound (Linked i (if_lives lives c (record c { answered = min (c.answered + n) (owed (lines_at p i) c.taken) })))
      by_lives true = ((let a = ok.0 in let b = ok.1 in omega arith), omega arith, ok.2)
      by_lives false = ok
  sound-linked i c (ToMta n) ok = (omega arith, ok.1, ok.2)
  sound-linked i c Die ok = ok
  sound-linked i c Lose ok = sound-idle _
  sound-linked i c Timeout ok = sound-idle _

  pub sound-happens : (s : State) (event : Event) → Sound s → Sound (happens p s event).state
  sound-happens (Idle i) Dial ok = (omega arith, omega arith, omega arith)
  sound-happens (Idle i) Lose ok = sound-idle _
  sound-happens (Idle i) Timeout ok = sound-idle _
  sound-happens (Idle i) (Send n) ok = tt
  sound-happens (Idle i) (ToFilter n) ok = tt
  sound-happens (Idle i) (Answer n) ok = tt
  sound-happens (Idle i) (ToMta n) ok = tt
  sound-happens (Idle i) Die ok = tt
  sound-happens (Linked i c) event ok = sound-linked i c event ok
  sound-happens Done event ok = tt

  -- ---- event after event

  idle-stays : (i : ℕ) (reports : List Report) → IsAtState (Idle i) reports → IsAtState (Idle i) (reports ++ [])
  idle-stays i reports h = subst (λ (l : List Report). IsAtState (Idle i) l) (sym (append-nil reports)) h

  pub at-happens : (s : State) (event : Event) (reports : List Report) → Sound s → IsAtState s reports → IsAtState (happens p s event).state (reports ++ (happens p s event).reports)
  at-happens (Idle i) Dial reports ok h =
      let w = within p (entries_at p i) (drop i p.session.messages) (session p laws (drop i p.session.messages)) 0 in
      (reports, h.0, h.1, ap (λ (l : List Report). reports ++ l) (sym (settled-nothing i)))
    where
      some-bytes : (r : Reply) → 0 < length (encoding r)
      some-bytes r = let is = length-append (number (length (payload_of r) + 1)) (code_of r ∷ payload_of r) in omega arith

      of-messages : (l : List MailObject) → reports_within (connection_entries p.filter p.config.offer p.session l) 0 ≡ []
      of-messages [] = refl
      of-messages (message ∷ l) = rw (lt-leb (length (encoding (options_reply (negotiated_of p)))) 0 (some-bytes (options_reply (negotiated_of p)))) refl

      settled-nothing : (i : ℕ) → reports_within (entries_at p i) 0 ≡ []
      settled-nothing i = of-messages (drop i p.session.messages)
  at-happens (Idle i) Lose reports ok h = at-given_up i reports losses.Reset h
  at-happens (Idle i) Timeout reports ok h = at-given_up i reports losses.Timeout h
  at-happens (Idle i) (Send n) reports ok h = idle-stays i reports h
  at-happens (Idle i) (ToFilter n) reports ok h = idle-stays i reports h
  at-happens (Idle i) (Answer n) reports ok h = idle-stays i reports h
  at-happens (Idle i) (ToMta n) reports ok h = idle-stays i reports h
  at-happens (Idle i) Die reports ok h = idle-stays i reports h
  at-happens (Linked i c) event reports ok h = at-linked i c reports event ok.0 h
  at-happens Done event reports ok h = (h.0, subst (λ (l : List Report). Reported p.session.messages l h.0) (sym (append-nil reports)) h.1)

  reported-held : (s : State) (reports : List Report) → IsAtState s reports → AreReported p p.session.messages reports
  reported-held (Idle i) reports h = record { done = h.0.done; rest = drop i p.session.messages; messages_are = h.0.messages_are; each = h.0.each }
  reported-held (Linked i c) reports h =
      let d = at-done i c reports h in
      record { done = d.1.done; rest = d.0; messages_are = d.1.messages_are; each = d.1.each }
  reported-held Done reports h = record { done = h.1.done; rest = h.0; messages_are = h.1.messages_are; each = h.1.each }

  reported-after : (events : List Event) (s : State) (reports : List Report) → Sound s → IsAtState s reports
      → AreReported p p.session.messages (after_all p (record { state = s; reports = reports }) events).reports
  reported-after [] s reports ok h = reported-held s reports h
  reported-after (event ∷ events) s reports ok h =
      reported-after events (happens p s event).state (reports ++ (happens p s event).reports) (sound-happens s event ok) (at-happens s event reports ok h)

  pub at-first : IsAtState (first p) []
  at-first = at-idle 0 [] p.session.messages (record { done = []; messages_are = refl; each = tt }) refl

  pub run-reported : (events : List Event) → AreReported p p.session.messages (run_reports p events)
  run-reported events = reported-after events (first p) [] (sound-idle 0) at-first
