-- What one turn on a connection leaves.
use Rattle.std.proofs.Common.{◌≡◌, ◌≢◌, inl, inr, arith, ◌<◌, ◌≤◌, ℕ, List, [], length, take, drop, take-append-drop, Option, Result, Ok, Err, refl, sym, ap, ◌∙◌, subst}
use Rattle.std.proofs.lemmas.List.{length-take-le}
use Rattle.std.specs.Io.KnownBytes.{Appends}
use Rattle.milter_mta_outcome.specs.declared.loss.Loss.{Loss}
use Rattle.milter_mta_outcome.specs.declared.loss.Loss.TheVariants.{Fault, Memory, Reset, Timeout}
use Rattle.milter_mta.specs.declared.mta_core.Want.TheVariants as wants
use Rattle.milter_mta.specs.Cores.{ReceivesBytes}
use Rattle.milter_mta.specs.Mta.{Mta}
use Rattle.milter_mta.specs.Output.{advanced, pending, sent, want}
use Rattle.milter_mta_client.specs.declared.link_calls.Stop.{Stop}
use Rattle.milter_mta_client.specs.declared.link_calls.Stop.TheVariants.{Interrupted, Lost, Over}
use Rattle.milter_mta_client.specs.ConnectionRuns.{IsBetween, IsConnected, IsOver, Moves, Receives, StaysConnected, Steps, Transmits, Turns, Writes}
use Rattle.milter_mta_client.specs.Events.{Reception}
use Rattle.milter_mta_client.specs.Events.Event.{Advanced, Read, Wrote}
use Rattle.milter_mta_client.proofs.Connected.{advanced-connected, receives_bytes-lost, receives_bytes-ok, connected-on, sent-connected, still-connected}
use Rattle.milter_mta_client.proofs.EventRuns.{no-steps, one-step, steps-on}

stays-put : (old new : Mta) → IsConnected old → new ≡ old → Moves old new
stays-put old new on e = subst (Moves old) (sym e) (record { steps = no-steps old; stays = still-connected old on })

advances : (old new : Mta) → IsConnected old → want old ≡ wants.Send → new ≡ advanced old → Moves old new
advances old new on wanted e =
    subst (Moves old) (sym e) (record { steps = one-step old (advanced old) Advanced (wanted, refl); stays = advanced-connected old on })

-- ---- a write

pub some-taken : (count : ℕ) (bytes : List ℕ) → 0 < count → count ≤ length bytes → take count bytes ≢ []
some-taken count bytes some within none = omega (arith, some, sym (length-take-le count bytes within) ∙ ap length none)

pub writes : (written all : Option (List ℕ)) (old made new : Mta) (packet : List ℕ) (count : ℕ) → made ≡ advanced old → packet ≡ pending made
    → 0 < count → count ≤ length packet → Appends written all (take count packet) → new ≡ sent count made → Writes written all old new
writes written all old made new packet count is packet_is some within appends sent_is = record {
  bytes = take count packet;
  was_written = appends;
  sends = record {
    some = some-taken count packet some within;
    others = drop count packet;
    packet = sym (take-append-drop count packet ∙ packet_is ∙ ap (λ (m : Mta). pending m) is);
    sent_is = sent_is ∙ ap (λ (m : Mta). sent count m) is ∙ ap (λ (n : ℕ). sent n (advanced old)) (sym (length-take-le count packet within));
  };
}

writes-moves : (written all : Option (List ℕ)) (old new : Mta) → IsConnected old → want old ≡ wants.Send → Writes written all old new → Moves old new
writes-moves written all old new on wanted w =
    let made = one-step old (advanced old) Advanced (wanted, refl) in
    let stays = advanced-connected old on in
    record {
      steps = steps-on old (advanced old) new made (one-step (advanced old) new (Wrote w.bytes) w.sends);
      stays = subst (StaysConnected old) (sym w.sends.sent_is)
          (connected-on old (advanced old) (sent (length w.bytes) (advanced old)) stays (sent-connected (advanced old) (length w.bytes) stays.connected));
    }

pub transmits-turns : (written all : Option (List ℕ)) (old new : Mta) (result : Result Unit Stop) → IsConnected old → want old ≡ wants.Send
    → Transmits written all old new result → Turns old new result
transmits-turns written all old new (Ok done) on wanted t = writes-moves written all old new on wanted t
transmits-turns written all old new (Err (Lost Memory)) on wanted t = (stays-put old new on t.1, tt)
transmits-turns written all old new (Err (Lost Reset)) on wanted t = (advances old new on wanted t.1, tt)
transmits-turns written all old new (Err (Lost Timeout)) on wanted t = (advances old new on wanted t.1, tt)
transmits-turns written all old new (Err (Lost (Fault fault))) on wanted t = absurd t.2
transmits-turns written all old new (Err Interrupted) on wanted t = advances old new on wanted t.1
transmits-turns written all old new (Err Over) on wanted t = absurd t

-- ---- a read

read-step : (old new : Mta) (bytes : List ℕ) → Reception bytes old new → Steps old new
read-step old new bytes h = one-step old new (Read bytes) h

reception-moves : (old new : Mta) (bytes : List ℕ) → IsConnected old → (h : Reception bytes old new) → h.result ≡ Ok tt → Moves old new
reception-moves old new bytes on h e =
    record { steps = read-step old new bytes h; stays = receives_bytes-ok old new bytes on (subst (ReceivesBytes old bytes new) e h.receives_bytes) }

reception-over : (old new : Mta) (bytes : List ℕ) (loss : Loss) → IsConnected old → (h : Reception bytes old new) → h.result ≡ Err loss → Steps old new × IsOver old new
reception-over old new bytes loss on h e =
    (read-step old new bytes h, inr (receives_bytes-lost old new bytes loss on (subst (ReceivesBytes old bytes new) e h.receives_bytes)))

pub receives-turns : (unread left : Option (List ℕ)) (old new : Mta) (result : Result Unit Stop) → IsConnected old → Receives unread left old new result → Turns old new result
receives-turns unread left old new (Ok done) on r = reception-moves old new r.bytes on r.reception r.result_is
receives-turns unread left old new (Err Over) on r = reception-over old new r.1.bytes r.0 on r.1.reception r.1.result_is
receives-turns unread left old new (Err (Lost loss)) on r = (stays-put old new on r.1, r.2)
receives-turns unread left old new (Err Interrupted) on r = stays-put old new on r.1

-- ---- no call

pub nothing-turns : (m : Mta) → IsBetween m → Turns m m (Err Over)
nothing-turns m between = (no-steps m, inl (refl, between))
