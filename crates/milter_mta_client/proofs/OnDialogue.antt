-- Whatever happens to it, a mail server's end stays on a dialogue.
use Rattle.std.proofs.Common.{◌≡◌, ℕ, List, [], ◌∷◌, length, take, Result, Ok, Err, refl, sym, ap, ◌∙◌, subst}
use Rattle.milter_mta_outcome.specs.declared.loss.Loss.{Loss}
use Rattle.milter_mta_outcome.specs.declared.loss.Loss.TheVariants.{Fault, Memory, Reset, Timeout}
use Rattle.milter_mta.specs.Cores.{ReceivesBytes}
use Rattle.milter_mta.specs.Mta.{Mta}
use Rattle.milter_mta.specs.Replies.{After, received}
use Rattle.milter_mta.specs.Output.{advanced, dialled, sent}
use Rattle.milter_mta.specs.Dispositions.{lost}
use Rattle.milter_mta_client.specs.Events.{Does, Event, Runs}
use Rattle.milter_mta_client.specs.Events.Event.{Advanced, Dialled, GaveUp, Read, Wrote}

-- what is known of each call of the core
pub record Keeps (P : Mta → Mta → Type 0) (On : Mta → Type 0) : Type 0 where
  pub dialled_is : (m : Mta) → On m → P m (dialled m)
  pub advanced_is : (m : Mta) → On m → P m (advanced m)
  pub sent_is : (m : Mta) (count : ℕ) → On m → P m (sent count m)
  pub received_is : (m : Mta) (bytes : List ℕ) → On m → P m (received m bytes).mta
  pub lost_is : (m : Mta) (loss : Loss) → On m → P m (lost loss m)
  pub still_is : (m : Mta) → On m → P m m
  pub on : (m n : Mta) → P m n → On n
  pub goes_on_is : (a b c : Mta) → P a b → P b c → P a c

module _ (P : Mta → Mta → Type 0) (On : Mta → Type 0) (k : Keeps P On) where
  by_received : (old new : Mta) (bytes : List ℕ) (after : After) → received old bytes ≡ after → after.mta ≡ new → On old → P old new
  by_received old new bytes after e is on = subst (P old) (ap (λ (a : After). a.mta) e ∙ is) (k.received_is old bytes on)

  receives_bytes-keeps : (old new : Mta) (bytes : List ℕ) (result : Result Unit Loss) → On old → ReceivesBytes old bytes new result → P old new
  receives_bytes-keeps old new bytes (Ok done) on e = by_received old new bytes _ e refl on
  receives_bytes-keeps old new bytes (Err Memory) on e =
      let first = by_received old e.before (take e.count bytes) _ e.received_before refl on in
      k.goes_on_is old e.before new first (subst (P e.before) (sym e.lost_then) (k.lost_is e.before Memory (k.on old e.before first)))
  receives_bytes-keeps old new bytes (Err Reset) on e = by_received old new bytes _ e refl on
  receives_bytes-keeps old new bytes (Err Timeout) on e = by_received old new bytes _ e refl on
  receives_bytes-keeps old new bytes (Err (Fault fault)) on e = by_received old new bytes _ e refl on

  does-keeps : (event : Event) (old new : Mta) → On old → Does event old new → P old new
  does-keeps Dialled old new on does = subst (P old) (sym does.1) (k.dialled_is old on)
  does-keeps Advanced old new on does = subst (P old) (sym does.1) (k.advanced_is old on)
  does-keeps (Wrote bytes) old new on does = subst (P old) (sym does.sent_is) (k.sent_is old (length bytes) on)
  does-keeps (Read bytes) old new on does = receives_bytes-keeps old new bytes does.result on does.receives_bytes
  does-keeps (GaveUp loss) old new on does = subst (P old) (sym does.1) (k.lost_is old loss on)

  pub runs-keeps : (events : List Event) (old new : Mta) → On old → Runs old events new → P old new
  runs-keeps [] old new on runs = subst (P old) (sym runs) (k.still_is old on)
  runs-keeps (event ∷ events) old new on runs =
      let first = does-keeps event old runs.0 on runs.1 in
      k.goes_on_is old runs.0 new first (runs-keeps events runs.0 new (k.on old runs.0 first) runs.2)
