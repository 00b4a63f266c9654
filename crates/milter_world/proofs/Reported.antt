-- What is settled when so many bytes were received, and what a loss settles then.
use Rattle.std.proofs.Common.{◌≡◌, inl, inr, ℕ, zero, suc, ◌-◌, ◌≤◌, ◌<◌, List, [], ◌∷◌, ◌++◌, Option, None, Some, refl, sym, ◌∙◌, ap, arith, length, append_assoc, append-nil}
use Rattle.std.proofs.lemmas.Bool.{le-leb, lt-leb}
use Rattle.std.proofs.lemmas.List.{append_cancel_left}
use Rattle.milter_message.specs.MailObject.{MailObject}
use Rattle.milter_mta_outcome.specs.declared.fallback.OnLoss.{OnLoss}
use Rattle.milter_mta_outcome.specs.declared.loss.Loss.{Loss}
use Rattle.milter_mta_outcome.specs.declared.outcome.Report.{Report}
use Rattle.milter_mta.specs.declared.mta_core.Want.{Want}
use Rattle.milter_mta.specs.declared.mta_core.Want.TheVariants as wants
use Rattle.milter_mta.specs.Mta.{FilterConnection, Mta}
use Rattle.milter_mta.specs.Replies.{After}
use Rattle.milter_mta.specs.Output.{advanced, advanced_in, sent, sent_in, want}
use Rattle.milter_mta.specs.Dispositions.{acted_in, defaulted, lost}
use Rattle.milter_mta.specs.Lines.{after_line, next_packet, sent_whole}
use Rattle.milter_world.specs.ByteCounts.{owed}
use Rattle.milter_world.specs.FollowedLines.{Follows, SendsLines, TakesEntry, after_at, begun}
use Rattle.milter_world.specs.FollowedLines.{IsMtaAt}
use Rattle.milter_world.specs.declared.state.Counts.{Counts}
use Rattle.milter_world.specs.ConnectionEntries.{Entry, default_reports, lines_of, default_within, reports_within}
use Rattle.milter_world.proofs.CountedBytes.{by_lt, owed-part, owed-whole}
use Rattle.milter_world.proofs.FollowedPieces.{at-part, at-past, at-wait, part-at}
use Rattle.milter_world.proofs.Steps.{sent-nothing}

-- ---- what sending leaves as it is

pub reports-sent : (count : ℕ) (m : Mta) → (sent count m).reports ≡ m.reports
reports-sent count m = by_connection m.filter_connection
  where
    by_connection : (filter_connection : Option FilterConnection) → (sent_in count filter_connection (record m { filter_connection = filter_connection })).reports ≡ m.reports
    by_connection None = refl
    by_connection (Some l) = refl

pub reports-advanced : (m : Mta) → (advanced m).reports ≡ m.reports
reports-advanced m = by_connection m.filter_connection
  where
    by_want : (l : FilterConnection) (w : Want) → (advanced_in (Some l) w (record m { filter_connection = Some l })).reports ≡ m.reports
    by_want l wants.Send = refl
    by_want l wants.Dial = refl
    by_want l wants.Receive = refl
    by_want l wants.Done = refl

    by_connection : (filter_connection : Option FilterConnection) → (advanced_in filter_connection (want (record m { filter_connection = filter_connection })) (record m { filter_connection = filter_connection })).reports ≡ m.reports
    by_connection None = refl
    by_connection (Some l) = by_want l (want (record m { filter_connection = Some l }))

abbrev pub SendingSettlesNothing : Type 0
SendingSettlesNothing = (m : Mta) (count : ℕ) (loss : Loss) → lost loss (sent count (advanced m)) ≡ lost loss m

reports-begun : (n : ℕ) (m : Mta) → (begun m n).reports ≡ m.reports
reports-begun zero m = refl
reports-begun (suc n) m = reports-sent (suc n) (advanced m) ∙ reports-advanced m

reports-whole : (m : Mta) → (sent_whole m).reports ≡ m.reports
reports-whole m = reports-sent (length (next_packet m)) (advanced m) ∙ reports-advanced m

empty : {A : Type 0} (xs : List A) → length xs ≤ 0 → xs ≡ []
empty [] h = refl
empty (y ∷ ys) h = absurd (let g : suc (length ys) ≤ 0 = h in omega arith)

-- ---- entry by turn

pub sends-lines : (on_loss : OnLoss) (entries : List Entry) (m : Mta) → Follows on_loss m entries → SendsLines m (lines_of entries)
sends-lines on_loss [] m f = f.0
sends-lines on_loss (entry ∷ entries) m f = (f.0.sends, sends-lines on_loss entries (after_line entry.line.back m).mta f.1)

within-wait : (entry : Entry) (entries : List Entry) (h : ℕ) → h < length entry.line.back → reports_within (entry ∷ entries) h ≡ []
within-wait entry entries h less = rw (lt-leb (length entry.line.back) h less) refl

within-past : (entry : Entry) (entries : List Entry) (h : ℕ) → length entry.line.back ≤ h
    → reports_within (entry ∷ entries) h ≡ entry.reports ++ reports_within entries (h - length entry.line.back)
within-past entry entries h le = rw (le-leb (length entry.line.back) h le) refl

lost-wait : (on_loss : OnLoss) (loss : Loss) (entry : Entry) (entries : List Entry) (h : ℕ) → h < length entry.line.back
    → default_within on_loss loss (entry ∷ entries) h ≡ default_reports on_loss loss entry.left entry.dialogue
lost-wait on_loss loss entry entries h less = rw (lt-leb (length entry.line.back) h less) refl

lost-past : (on_loss : OnLoss) (loss : Loss) (entry : Entry) (entries : List Entry) (h : ℕ) → length entry.line.back ≤ h
    → default_within on_loss loss (entry ∷ entries) h ≡ default_within on_loss loss entries (h - length entry.line.back)
lost-past on_loss loss entry entries h le = rw (le-leb (length entry.line.back) h le) refl

module _ (on_loss : OnLoss) where
  -- a packet without an answer settles nothing
  settles-nothing : (entry : Entry) (m : Mta) → TakesEntry on_loss m entry → entry.line.back ≡ [] → entry.reports ≡ []
  settles-nothing entry m takes none =
      append_cancel_left m.reports entry.reports []
      (sym takes.settles
      ∙ ap (λ (l : List ℕ). (after_line l m).mta.reports) none
      ∙ reports-whole m
      ∙ sym (append-nil m.reports))

  settled-nothing : (entries : List Entry) (m : Mta) → Follows on_loss m entries → reports_within entries 0 ≡ []
  settled-nothing [] m f = refl
  settled-nothing (entry ∷ entries) m f =
      by_lt 0 (length entry.line.back)
      (within-wait entry entries 0)
      (λ past.
      let left : 0 - length entry.line.back ≡ 0 = omega arith in
      within-past entry entries 0 past
      ∙ ap (λ (l : List Report). l ++ reports_within entries (0 - length entry.line.back)) (settles-nothing entry m f.0 (empty entry.line.back past))
      ∙ ap (reports_within entries) left
      ∙ settled-nothing entries (after_line entry.line.back m).mta f.1)

  -- ---- what is settled

  pub reports-at : (entries : List Entry) (m : Mta) (s h : ℕ) → Follows on_loss m entries → h ≤ owed (lines_of entries) s
      → (after_at m (lines_of entries) s h).mta.reports ≡ m.reports ++ reports_within entries h
  reports-at [] m s h f each = sym (append-nil m.reports)
  reports-at (entry ∷ entries) m s h f by_received =
      by_lt s (length entry.line.out)
      (λ less.
      let o = owed-part entry.line (lines_of entries) s less in
      let none : h ≡ 0 = omega arith in
      ap (λ (a : After). a.mta.reports) (at-part m entry.line (lines_of entries) s h less)
      ∙ reports-begun s m
      ∙ sym (append-nil m.reports)
      ∙ ap (λ (l : List Report). m.reports ++ l) (sym (ap (reports_within (entry ∷ entries)) none ∙ settled-nothing (entry ∷ entries) m f)))
      (λ whole. by_lt h (length entry.line.back)
      (λ wait.
      ap (λ (a : After). a.mta.reports) (at-wait m entry.line (lines_of entries) s h whole wait)
      ∙ (part-at m entry.line f.0.sends h wait).reports
      ∙ sym (append-nil m.reports)
      ∙ ap (λ (l : List Report). m.reports ++ l) (sym (within-wait entry entries h wait)))
      (λ past.
      let o = owed-whole entry.line (lines_of entries) s whole in
      ap (λ (a : After). a.mta.reports) (at-past m entry.line (lines_of entries) s h whole past)
      ∙ reports-at entries (after_line entry.line.back m).mta (s - length entry.line.out) (h - length entry.line.back) f.1 (omega arith)
      ∙ ap (λ (l : List Report). l ++ reports_within entries (h - length entry.line.back)) f.0.settles
      ∙ append_assoc m.reports entry.reports (reports_within entries (h - length entry.line.back))
      ∙ ap (λ (l : List Report). m.reports ++ l) (sym (within-past entry entries h past))))

  -- ---- what a loss settles

  module _ (settles_nothing : SendingSettlesNothing) (loss : Loss) where
    lost-begun : (n : ℕ) (m : Mta) → lost loss (begun m n) ≡ lost loss m
    lost-begun zero m = refl
    lost-begun (suc n) m = settles_nothing m (suc n) loss

    pub lost-advanced : (m : Mta) → lost loss (advanced m) ≡ lost loss m
    lost-advanced m = ap (lost loss) (sym (sent-nothing (advanced m))) ∙ settles_nothing m 0 loss

    none-left : (m : Mta) → m.session.messages ≡ [] → (lost loss m).reports ≡ m.reports
    none-left m e = ap (λ (l : List MailObject). (record (defaulted loss (acted_in m.filter_connection) l m) { filter_connection = None }).reports) e

    -- before any of it
    pub lost-start : (entries : List Entry) (m : Mta) → Follows on_loss m entries → (lost loss m).reports ≡ m.reports ++ default_within on_loss loss entries 0
    lost-start [] m f = none-left m f.1 ∙ sym (append-nil m.reports)
    lost-start (entry ∷ entries) m f =
        by_lt 0 (length entry.line.back)
        (λ wait. f.0.gives_up loss ∙ ap (λ (l : List Report). m.reports ++ l) (sym (lost-wait on_loss loss entry entries 0 wait)))
        (λ past.
        let left : 0 - length entry.line.back ≡ 0 = omega arith in
        let none = empty entry.line.back past in
        ap (λ (x : Mta). x.reports) (sym (settles_nothing m (length (next_packet m)) loss))
        ∙ ap (λ (l : List ℕ). (lost loss (after_line l m).mta).reports) (sym none)
        ∙ lost-start entries (after_line entry.line.back m).mta f.1
        ∙ ap (λ (l : List ℕ). (after_line l m).mta.reports ++ default_within on_loss loss entries 0) none
        ∙ ap (λ (l : List Report). l ++ default_within on_loss loss entries 0) (reports-whole m)
        ∙ ap (λ (n : ℕ). m.reports ++ default_within on_loss loss entries n) (sym left)
        ∙ ap (λ (l : List Report). m.reports ++ l) (sym (lost-past on_loss loss entry entries 0 past)))

    pub lost-at : (entries : List Entry) (m : Mta) (s h : ℕ) → Follows on_loss m entries → h ≤ owed (lines_of entries) s
        → (lost loss (after_at m (lines_of entries) s h).mta).reports ≡ (m.reports ++ reports_within entries h) ++ default_within on_loss loss entries h
    lost-at [] m s h f each = none-left m f.1 ∙ sym (append-nil (m.reports ++ []) ∙ append-nil m.reports)
    lost-at (entry ∷ entries) m s h f by_received =
        by_lt s (length entry.line.out)
        (λ less.
        let o = owed-part entry.line (lines_of entries) s less in
        let none : h ≡ 0 = omega arith in
        ap (λ (a : After). (lost loss a.mta).reports) (at-part m entry.line (lines_of entries) s h less)
        ∙ ap (λ (x : Mta). x.reports) (lost-begun s m)
        ∙ lost-start (entry ∷ entries) m f
        ∙ ap (λ (l : List Report). l ++ default_within on_loss loss (entry ∷ entries) 0)
        (sym (append-nil m.reports) ∙ ap (λ (l : List Report). m.reports ++ l) (sym (settled-nothing (entry ∷ entries) m f)))
        ∙ ap (λ (n : ℕ). (m.reports ++ reports_within (entry ∷ entries) n) ++ default_within on_loss loss (entry ∷ entries) n) (sym none))
        (λ whole. by_lt h (length entry.line.back)
        (λ wait.
        ap (λ (a : After). (lost loss a.mta).reports) (at-wait m entry.line (lines_of entries) s h whole wait)
        ∙ ap (λ (x : Mta). x.reports) ((part-at m entry.line f.0.sends h wait).settles loss)
        ∙ f.0.gives_up loss
        ∙ ap (λ (l : List Report). l ++ default_reports on_loss loss entry.left entry.dialogue)
        (sym (append-nil m.reports) ∙ ap (λ (l : List Report). m.reports ++ l) (sym (within-wait entry entries h wait)))
        ∙ ap (λ (l : List Report). (m.reports ++ reports_within (entry ∷ entries) h) ++ l) (sym (lost-wait on_loss loss entry entries h wait)))
        (λ past.
        let o = owed-whole entry.line (lines_of entries) s whole in
        let rest = reports_within entries (h - length entry.line.back) in
        ap (λ (a : After). (lost loss a.mta).reports) (at-past m entry.line (lines_of entries) s h whole past)
        ∙ lost-at entries (after_line entry.line.back m).mta (s - length entry.line.out) (h - length entry.line.back) f.1 (omega arith)
        ∙ ap (λ (l : List Report). (l ++ rest) ++ default_within on_loss loss entries (h - length entry.line.back)) f.0.settles
        ∙ ap (λ (l : List Report). l ++ default_within on_loss loss entries (h - length entry.line.back)) (append_assoc m.reports entry.reports rest)
        ∙ ap (λ (l : List Report). (m.reports ++ l) ++ default_within on_loss loss entries (h - length entry.line.back)) (sym (within-past entry entries h past))
        ∙ ap (λ (l : List Report). (m.reports ++ reports_within (entry ∷ entries) h) ++ l) (sym (lost-past on_loss loss entry entries h past))))

    -- wherever it is
    pub lost-place : (entries : List Entry) (opened : Mta) (c : Counts) (m : Mta) → Follows on_loss opened entries → c.received ≤ owed (lines_of entries) c.sent
        → IsMtaAt opened (lines_of entries) c m
        → (lost loss m).reports ≡ (opened.reports ++ reports_within entries c.received) ++ default_within on_loss loss entries c.received
    lost-place entries opened c m f by_received (inl e) = ap (λ (x : Mta). (lost loss x).reports) e ∙ lost-at entries opened c.sent c.received f by_received
    lost-place entries opened c m f by_received (inr e) =
        ap (λ (x : Mta). (lost loss x).reports) e.1
        ∙ ap (λ (x : Mta). x.reports) (lost-advanced (after_at opened (lines_of entries) c.sent c.received).mta)
        ∙ lost-at entries opened c.sent c.received f by_received

  pub reports-place : (entries : List Entry) (opened : Mta) (c : Counts) (m : Mta) → Follows on_loss opened entries → c.received ≤ owed (lines_of entries) c.sent
      → IsMtaAt opened (lines_of entries) c m → m.reports ≡ opened.reports ++ reports_within entries c.received
  reports-place entries opened c m f by_received (inl e) = ap (λ (x : Mta). x.reports) e ∙ reports-at entries opened c.sent c.received f by_received
  reports-place entries opened c m f by_received (inr e) =
      ap (λ (x : Mta). x.reports) e.1
      ∙ reports-advanced (after_at opened (lines_of entries) c.sent c.received).mta
      ∙ reports-at entries opened c.sent c.received f by_received
