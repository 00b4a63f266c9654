-- A loss in the midst of a line.
use Rattle.std.specs.Prelude.{if◌then◌else◌}
use Rattle.std.proofs.Common.{◌≡◌, ◌+◌, ℕ, zero, suc, Bool, true, false, List, [], ◌∷◌, drop, Option, None, Some, refl, sym, ap, ◌∙◌, arith, drop-drop}
use Rattle.milter_message.specs.MailObject.{MailObject}
use Rattle.milter_mta_outcome.specs.declared.acted_verdicts.Acted.{Acted}
use Rattle.milter_mta_outcome.specs.declared.loss.Loss.{Loss}
use Rattle.milter_mta.specs.declared.mta_core.Want.{Want}
use Rattle.milter_mta.specs.declared.mta_core.Want.TheVariants as wants
use Rattle.milter_mta.specs.Mta.{FilterConnection, Mta, Position}
use Rattle.milter_mta.specs.Mta.Position.{Offering, Sending, Quitting, Ended}
use Rattle.milter_mta.specs.Output.{advanced, advanced_in, after_packet, asks_at, finished, made, sent, sent_from, sent_in, sent_of, want}
use Rattle.milter_mta.specs.Dispositions.{acted_at, defaulted, lost}

abbrev with_connection : Option FilterConnection → Mta → Mta
with_connection filter_connection m = record m { filter_connection = filter_connection }

-- a loss settles by the verdicts alone
module _ (m : Mta) (l r : FilterConnection) (same : acted_at l.position ≡ acted_at r.position) (loss : Loss) where
  defaulted-over : (messages : List MailObject) (acted : List Acted)
      → record (defaulted loss acted messages (with_connection (Some l) m)) { filter_connection = None } ≡ record (defaulted loss acted messages (with_connection (Some r) m)) { filter_connection = None }
  defaulted-over [] acted = refl
  defaulted-over (message ∷ messages) acted = refl

  pub lost-over : lost loss (with_connection (Some l) m) ≡ lost loss (with_connection (Some r) m)
  lost-over =
      ap (λ (acted : List Acted). record (defaulted loss acted m.session.messages (with_connection (Some l) m)) { filter_connection = None }) same
      ∙ defaulted-over m.session.messages (acted_at r.position)

-- ---- what is sent

acted-after : (position : Position) → acted_at (after_packet position) ≡ acted_at position
acted-after Offering = refl
acted-after (Sending negotiated acted edits left) = refl
acted-after Quitting = refl
acted-after Ended = refl

acted-finished : (l : FilterConnection) → acted_at (finished l).position ≡ acted_at l.position
acted-finished l = by_tests l.aborts (asks_at l.position)
  where
    by_tests : (aborts asks : Bool) → acted_at (if aborts then record l { aborts = false; pending = []; owed = false }
        else if asks then record l { pending = []; owed = true }
        else record l { position = after_packet l.position; pending = []; owed = false }).position ≡ acted_at l.position
    by_tests true asks = refl
    by_tests false true = refl
    by_tests false false = acted-after l.position

acted-sent_from : (l : FilterConnection) (left : List ℕ) → acted_at (sent_from l left).position ≡ acted_at l.position
acted-sent_from l [] = acted-finished l
acted-sent_from l (byte ∷ bytes) = refl

acted-sent : (count : ℕ) (bytes : List ℕ) (l : FilterConnection) → acted_at (sent_of count bytes l).position ≡ acted_at l.position
acted-sent count [] l = refl
acted-sent count (byte ∷ bytes) l = acted-sent_from l (drop count (byte ∷ bytes))

-- a connection that was there, and is then
lost-sent_in : (filter_connection : Option FilterConnection) (w : Want) (m : Mta) (count : ℕ) (loss : Loss)
    → lost loss (sent_in count (advanced_in filter_connection w (with_connection filter_connection m)).filter_connection (advanced_in filter_connection w (with_connection filter_connection m))) ≡ lost loss (with_connection filter_connection m)
lost-sent_in None w m count loss = refl
lost-sent_in (Some l) wants.Send m count loss =
    lost-over m (sent_of count (made m.config l).pending (made m.config l)) l (acted-sent count (made m.config l).pending (made m.config l)) loss
lost-sent_in (Some l) wants.Dial m count loss = lost-over m (sent_of count l.pending l) l (acted-sent count l.pending l) loss
lost-sent_in (Some l) wants.Receive m count loss = lost-over m (sent_of count l.pending l) l (acted-sent count l.pending l) loss
lost-sent_in (Some l) wants.Done m count loss = lost-over m (sent_of count l.pending l) l (acted-sent count l.pending l) loss

pub lost-sending : (m : Mta) (count : ℕ) (loss : Loss) → lost loss (sent count (advanced m)) ≡ lost loss m
lost-sending m count loss = lost-sent_in m.filter_connection (want m) m count loss

-- ---- in pieces

-- nothing is pending of a packet that was sent
pub none_pending : (l : FilterConnection) → (finished l).pending ≡ []
none_pending l = by_tests l.aborts (asks_at l.position)
  where
    by_tests : (aborts asks : Bool) → (if aborts then record l { aborts = false; pending = []; owed = false }
        else if asks then record l { pending = []; owed = true }
        else record l { position = after_packet l.position; pending = []; owed = false }).pending ≡ []
    by_tests true asks = refl
    by_tests false true = refl
    by_tests false false = refl

pub drop_none : (count : ℕ) → drop {A = ℕ} count [] ≡ []
drop_none zero = refl
drop_none (suc count) = refl

pending-over : (l : FilterConnection) (bytes left : List ℕ) → sent_from (record l { pending = bytes }) left ≡ sent_from l left
pending-over l bytes [] = refl
pending-over l bytes (byte ∷ left) = refl

sent_on : (l : FilterConnection) (left : List ℕ) (more : ℕ) → sent_of more (sent_from l left).pending (sent_from l left) ≡ sent_from l (drop more left)
sent_on l [] more =
    ap (λ (bytes : List ℕ). sent_of more bytes (finished l)) (none_pending l)
    ∙ ap (sent_from l) (sym (drop_none more))
sent_on l (byte ∷ bytes) more = pending-over l (byte ∷ bytes) (drop more (byte ∷ bytes))

sent_of-on : (l : FilterConnection) (count more : ℕ) (bytes : List ℕ) → l.pending ≡ bytes
    → sent_of more (sent_of count bytes l).pending (sent_of count bytes l) ≡ sent_of (count + more) bytes l
sent_of-on l count more [] e = ap (λ (bytes : List ℕ). sent_of more bytes l) e
sent_of-on l count more (byte ∷ bytes) e =
    sent_on l (drop count (byte ∷ bytes)) more
    ∙ ap (sent_from l) (drop-drop more count (byte ∷ bytes) ∙ ap (λ (n : ℕ). drop n (byte ∷ bytes)) (omega arith))

pub sent-adds : (m : Mta) (count more : ℕ) → sent more (sent count m) ≡ sent (count + more) m
sent-adds m count more = by_filter_connection m.filter_connection
  where
    by_filter_connection : (filter_connection : Option FilterConnection) → sent_in more (sent_in count filter_connection (with_connection filter_connection m)).filter_connection (sent_in count filter_connection (with_connection filter_connection m)) ≡ sent_in (count + more) filter_connection (with_connection filter_connection m)
    by_filter_connection None = refl
    by_filter_connection (Some l) = ap (λ (n : FilterConnection). with_connection (Some n) m) (sent_of-on l count more l.pending refl)
