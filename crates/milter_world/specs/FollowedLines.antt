-- A mail server's end that follows a list of entries, entry by entry, and at any byte of it.
use Rattle.std.specs.Prelude.{◌≡◌, ◌≢◌, ◌<◌, ◌⊎◌, ℕ, zero, suc, ◌-◌, nat_lt, List, [], ◌∷◌, ◌++◌, length, take, None, if◌then◌else◌}
use Rattle.milter_mta_outcome.specs.declared.fallback.OnLoss.{OnLoss}
use Rattle.milter_mta_outcome.specs.declared.loss.Loss.{Loss}
use Rattle.milter_mta.specs.declared.mta_core.Want.TheVariants as wants
use Rattle.milter_mta.specs.Mta.{Mta}
use Rattle.milter_mta.specs.Replies.{After, goes_on}
use Rattle.milter_mta.specs.Output.{advanced, pending, sent, want}
use Rattle.milter_mta.specs.Dispositions.{lost}
use Rattle.milter_mta.specs.Lines.{Line, after_line, next_packet}
use Rattle.milter_world.specs.ByteCounts.{due}
use Rattle.milter_world.specs.ConnectionEntries.{Entry, default_reports}
use Rattle.milter_world.specs.declared.state.Counts.{Counts}

-- a part of the answer came: nothing is lost, settled or wanted but the rest
pub record IsWaiting (old : Mta) (after : After) : Type 0 where
  pub goes_on : after.loss ≡ None
  pub waits : want after.mta ≡ wants.Receive
  pub reports : after.mta.reports ≡ old.reports
  pub settles : (loss : Loss) → lost loss after.mta ≡ lost loss old

-- it sends the packet of the line next, and takes what comes after it
pub record SendsLine (m : Mta) (line : Line) : Type 0 where
  pub wanted : want m ≡ wants.Send
  pub none_pending : pending m ≡ []
  pub packet : next_packet m ≡ line.out
  pub some : line.out ≢ []
  pub part : (bytes more : List ℕ) → more ≢ [] → bytes ++ more ≡ line.back → IsWaiting m (after_line bytes m)
  pub whole : (after_line line.back m).loss ≡ None

-- line by line, to the end
abbrev pub SendsLines : Mta → List Line → Type 0
SendsLines m [] = want m ≡ wants.Done
SendsLines m (line ∷ lines) = SendsLine m line × SendsLines (after_line line.back m).mta lines

-- with the entry its reports are added; and where the filter is lost before the end of the answer, the first message
-- that is left is settled by default
pub record TakesEntry (on_loss : OnLoss) (m : Mta) (entry : Entry) : Type 0 where
  pub sends : SendsLine m entry.line
  pub settles : (after_line entry.line.back m).mta.reports ≡ m.reports ++ entry.reports
  pub gives_up : (loss : Loss) →
      (lost loss m).reports ≡ m.reports ++ default_reports on_loss loss entry.left entry.dialogue

-- entry by entry, to the end, where every message is settled
abbrev pub Follows : OnLoss → Mta → List Entry → Type 0
Follows on_loss m [] = (want m ≡ wants.Done) × (m.session.messages ≡ [])
Follows on_loss m (entry ∷ entries) =
    TakesEntry on_loss m entry × Follows on_loss (after_line entry.line.back m).mta entries

-- ---- in pieces

-- in the midst of a packet
abbrev pub begun : Mta → ℕ → Mta
begun m zero = m
begun m (suc n) = sent (suc n) (advanced m)

-- it is this after so many bytes sent and so many received
abbrev pub after_at : Mta → List Line → ℕ → ℕ → After
after_at m [] sent_bytes received_bytes = goes_on m
after_at m (line ∷ lines) sent_bytes received_bytes =
    if nat_lt sent_bytes (length line.out) then goes_on (begun m sent_bytes)
    else if nat_lt received_bytes (length line.back) then after_line (take received_bytes line.back) m
    else after_at (after_line line.back m).mta lines (sent_bytes - length line.out) (received_bytes - length line.back)

-- it is where these counts say; perhaps the next packet was made
abbrev pub IsMtaAt : Mta → List Line → Counts → Mta → Type 0
IsMtaAt opened lines c m =
    (m ≡ (after_at opened lines c.sent c.received).mta)
    ⊎ ((c.sent < due lines c.received) × (m ≡ advanced (after_at opened lines c.sent c.received).mta))
