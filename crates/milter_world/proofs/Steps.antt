-- What a mail server's end does at one time, whatever it is.
use Rattle.std.proofs.Common.{◌≡◌, ◌≢◌, ◌<◌, ℕ, List, [], ◌∷◌, drop, length, Option, None, Some, refl, sym, ap, ◌∙◌, arith, length-drop}
use Rattle.milter_wire.specs.declared.command.Command.{Command}
use Rattle.milter_mta.specs.declared.mta_core.Want.{Want}
use Rattle.milter_mta.specs.declared.mta_core.Want.TheVariants as wants
use Rattle.milter_mta.specs.Mta.{FilterConnection, Mta}
use Rattle.milter_mta.specs.Output.{advanced, advanced_in, bytes_at, made, pending, pending_in, pending_or, sent, sent_from, sent_in, sent_of, want}
use Rattle.milter_mta.proofs.Losses.{drop_none, none_pending}

abbrev with_connection : Option FilterConnection → Mta → Mta
with_connection filter_connection m = record m { filter_connection = filter_connection }

-- ---- what is pending

pending-from : (l : FilterConnection) (left : List ℕ) → (sent_from l left).pending ≡ left
pending-from l [] = none_pending l
pending-from l (byte ∷ bytes) = refl

pending-of : (count : ℕ) (bytes : List ℕ) (l : FilterConnection) → l.pending ≡ bytes → (sent_of count bytes l).pending ≡ drop count bytes
pending-of count [] l e = e ∙ sym (drop_none count)
pending-of count (byte ∷ bytes) l e = pending-from l (drop count (byte ∷ bytes))

pub pending-sent : (count : ℕ) (m : Mta) → pending (sent count m) ≡ drop count (pending m)
pending-sent count m = by_connection m.filter_connection
  where
    by_connection : (filter_connection : Option FilterConnection) → pending (sent_in count filter_connection (with_connection filter_connection m)) ≡ drop count (pending_in filter_connection)
    by_connection None = sym (drop_none count)
    by_connection (Some l) = pending-of count l.pending l refl

sent_of-nothing : (bytes : List ℕ) (l : FilterConnection) → l.pending ≡ bytes → sent_of 0 bytes l ≡ l
sent_of-nothing [] l e = refl
sent_of-nothing (byte ∷ bytes) l e = ap (λ (p : List ℕ). record l { pending = p }) (sym e)

pub sent-nothing : (m : Mta) → sent 0 m ≡ m
sent-nothing m = by_connection m.filter_connection
  where
    by_connection : (filter_connection : Option FilterConnection) → sent_in 0 filter_connection (with_connection filter_connection m) ≡ with_connection filter_connection m
    by_connection None = refl
    by_connection (Some l) = ap (λ (k : FilterConnection). with_connection (Some k) m) (sent_of-nothing l.pending l refl)

-- ---- the next packet

advanced_in-some : (l : FilterConnection) (w : Want) (m : Mta) → w ≡ wants.Send → advanced_in (Some l) w m ≡ record m { filter_connection = Some (made m.config l) }
advanced_in-some l wants.Send m e = refl
advanced_in-some l wants.Dial m e = absurd cc
advanced_in-some l wants.Receive m e = absurd cc
advanced_in-some l wants.Done m e = absurd cc

-- it wants what it wanted
pub want-advanced : (m : Mta) → want (advanced m) ≡ want m
want-advanced m = by_connection m.filter_connection
  where
    by_want : (l : FilterConnection) (w : Want) → want (advanced_in (Some l) w (with_connection (Some l) m)) ≡ want (with_connection (Some l) m)
    by_want l wants.Send = refl
    by_want l wants.Dial = refl
    by_want l wants.Receive = refl
    by_want l wants.Done = refl

    by_connection : (filter_connection : Option FilterConnection) → want (advanced_in filter_connection (want (with_connection filter_connection m)) (with_connection filter_connection m)) ≡ want (with_connection filter_connection m)
    by_connection None = refl
    by_connection (Some l) = by_want l (want (with_connection (Some l) m))

pending_or-full : (p : List ℕ) (c : Option Command) → p ≢ [] → pending_or p c ≡ p
pending_or-full [] c some = absurd (some refl)
pending_or-full (byte ∷ bytes) c some = refl

-- where some of a packet is pending no other is made
pub advanced-full : (m : Mta) → pending m ≢ [] → advanced m ≡ m
advanced-full m some = by_connection m.filter_connection some
  where
    by_want : (l : FilterConnection) (w : Want) → l.pending ≢ [] → advanced_in (Some l) w (with_connection (Some l) m) ≡ with_connection (Some l) m
    by_want l wants.Send some = ap (λ (p : List ℕ). with_connection (Some (record l { pending = p })) m) (pending_or-full l.pending _ some)
    by_want l wants.Dial some = refl
    by_want l wants.Receive some = refl
    by_want l wants.Done some = refl

    by_connection : (filter_connection : Option FilterConnection) → pending_in filter_connection ≢ [] → advanced_in filter_connection (want (with_connection filter_connection m)) (with_connection filter_connection m) ≡ with_connection filter_connection m
    by_connection None some = refl
    by_connection (Some l) some = by_want l (want (with_connection (Some l) m)) some

pending_or-again : (p : List ℕ) (c : Option Command) → pending_or (pending_or p c) c ≡ pending_or p c
pending_or-again [] c = by_bytes (bytes_at c) refl
  where
    by_bytes : (bytes : List ℕ) → bytes_at c ≡ bytes → pending_or bytes c ≡ bytes
    by_bytes [] e = e
    by_bytes (byte ∷ bytes) e = refl
pending_or-again (byte ∷ bytes) c = refl

pub advanced-again : (m : Mta) → advanced (advanced m) ≡ advanced m
advanced-again m = by_connection m.filter_connection
  where
    by_want : (l : FilterConnection) (w : Want) → want (with_connection (Some l) m) ≡ w → advanced (advanced_in (Some l) w (with_connection (Some l) m)) ≡ advanced_in (Some l) w (with_connection (Some l) m)
    by_want l wants.Send e =
        advanced_in-some (made m.config l) (want (with_connection (Some l) m)) (with_connection (Some (made m.config l)) m) e
        ∙ ap (λ (p : List ℕ). with_connection (Some (record l { pending = p })) m) (pending_or-again l.pending _)
    by_want l wants.Dial e = ap (λ (w : Want). advanced_in (Some l) w (with_connection (Some l) m)) e
    by_want l wants.Receive e = ap (λ (w : Want). advanced_in (Some l) w (with_connection (Some l) m)) e
    by_want l wants.Done e = ap (λ (w : Want). advanced_in (Some l) w (with_connection (Some l) m)) e

    by_connection : (filter_connection : Option FilterConnection) → advanced (advanced_in filter_connection (want (with_connection filter_connection m)) (with_connection filter_connection m)) ≡ advanced_in filter_connection (want (with_connection filter_connection m)) (with_connection filter_connection m)
    by_connection None = refl
    by_connection (Some l) = by_want l (want (with_connection (Some l) m)) refl

-- ---- in the midst of a packet

-- where some of it is left nothing else changes
pub want-sent : (count : ℕ) (m : Mta) → count < length (pending m) → want (sent count m) ≡ want m
want-sent count m less = by_connection m.filter_connection less
  where
    by_left : (l : FilterConnection) (left : List ℕ) → 0 < length left → want (with_connection (Some (sent_from l left)) m) ≡ want (with_connection (Some l) m)
    by_left l [] some = absurd (let h : 0 < 0 = some in omega arith)
    by_left l (byte ∷ bytes) some = refl

    by_bytes : (l : FilterConnection) (bytes : List ℕ) → count < length bytes → want (with_connection (Some (sent_of count bytes l)) m) ≡ want (with_connection (Some l) m)
    by_bytes l [] less = refl
    by_bytes l (byte ∷ bytes) less = by_left l (drop count (byte ∷ bytes)) (let d = length-drop count (byte ∷ bytes) in omega arith)

    by_connection : (filter_connection : Option FilterConnection) → count < length (pending_in filter_connection) → want (sent_in count filter_connection (with_connection filter_connection m)) ≡ want (with_connection filter_connection m)
    by_connection None less = refl
    by_connection (Some l) less = by_bytes l l.pending less
