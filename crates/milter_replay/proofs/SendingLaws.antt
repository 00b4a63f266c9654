-- What is sent by calls one after the other.
use Rattle.std.proofs.Common.{◌≡◌, ℕ, List, [], ◌∷◌, ◌++◌, Option, None, Some, refl, sym, ap, subst, ◌∙◌, append_assoc, append-nil, take-append-drop, suc, length, take, drop, get_or, ◌+◌, ◌-◌, ◌<◌, ◌≤◌, arith, Result, Ok, Err, OnErr, All, flat_map}
use Rattle.std.proofs.lemmas.List.{take_more, take_rest}
use Rattle.std.proofs.lemmas.List.Concat.{flat_map-append}
use Rattle.std.specs.Io.KnownBytes.{Appends}
use Rattle.std.proofs.KnownBytes.{Appends-nil, Appends-trans}
use Rattle.milter_mta_outcome.specs.declared.loss.Loss.{Loss}
use Rattle.milter_text.specs.WrittenText.{WritesPrefix}
use Rattle.milter_replay.specs.Recordings.{AllFit}
use Rattle.milter_replay.specs.Sending.{Plays, PlaysPrefix, Sends, SendsSome, bytes_after, bytes_to_send, sent_bytes}
use Rattle.milter_replay.specs.declared.conversation.Exchange.{Exchange}
use Rattle.milter_wire.specs.Command.{encoding}
use Rattle.milter_wire.specs.declared.negotiation.Negotiated.{Negotiated}

pub WritesPrefix-none : (bytes : List ℕ) (w : Option (List ℕ)) → WritesPrefix bytes w w
WritesPrefix-none bytes w = record { written = []; unwritten = bytes; whole = refl; appended = Appends-nil w }

-- what was written is a prefix, whatever follows
pub WritesPrefix-whole : (bytes more : List ℕ) (w v : Option (List ℕ)) → Appends w v bytes → WritesPrefix (bytes ++ more) w v
WritesPrefix-whole bytes more w v a = record { written = bytes; unwritten = more; whole = refl; appended = a }

pub WritesPrefix-longer : (bytes more : List ℕ) (w v : Option (List ℕ)) → WritesPrefix bytes w v → WritesPrefix (bytes ++ more) w v
WritesPrefix-longer bytes more w v p = record {
  written = p.written;
  unwritten = p.unwritten ++ more;
  whole = sym (append_assoc p.written p.unwritten more) ∙ ap (λ (x : List ℕ). x ++ more) p.whole;
  appended = p.appended;
}

-- a prefix of what follows
pub WritesPrefix-after : (bytes more : List ℕ) (w v u : Option (List ℕ)) → Appends w v bytes → WritesPrefix more v u → WritesPrefix (bytes ++ more) w u
WritesPrefix-after bytes more w v u a p = record {
  written = bytes ++ p.written;
  unwritten = p.unwritten;
  whole = append_assoc bytes p.written p.unwritten ∙ ap (λ (x : List ℕ). bytes ++ x) p.whole;
  appended = Appends-trans w v u bytes p.written a p.appended;
}

pub Plays-nil : (l : Option Loss) (w : Option (List ℕ)) → Plays l [] w w l
Plays-nil None w = Appends-nil w
Plays-nil (Some cause) w = (refl, refl)

-- one call after the other
pub Plays-trans : (l m n : Option Loss) (bytes more : List ℕ) (w v u : Option (List ℕ)) → Plays l bytes w v m → Plays m more v u n → Plays l (bytes ++ more) w u n
Plays-trans None None None bytes more w v u p q = Appends-trans w v u bytes more p q
Plays-trans None None (Some cause) bytes more w v u p q = WritesPrefix-after bytes more w v u p q
Plays-trans None (Some cause) n bytes more w v u p q =
    subst (λ (o : Option Loss). Sends (bytes ++ more) w u o) (sym q.1)
    (subst (λ (x : Option (List ℕ)). WritesPrefix (bytes ++ more) w x) (sym q.0) (WritesPrefix-longer bytes more w v p))
Plays-trans (Some cause) m n bytes more w v u p q =
    let again : Plays (Some cause) more v u n = subst (λ (o : Option Loss). Plays o more v u n) p.1 q in
    (again.0 ∙ p.0, again.1)

-- what is played up to here is a prefix of the whole
pub Plays-prefix : (l m : Option Loss) (bytes more : List ℕ) (w v : Option (List ℕ)) → Plays l bytes w v m → PlaysPrefix l (bytes ++ more) w v
Plays-prefix None None bytes more w v p = WritesPrefix-whole bytes more w v p
Plays-prefix None (Some cause) bytes more w v p = WritesPrefix-longer bytes more w v p
Plays-prefix (Some cause) m bytes more w v p = p.0

-- ---- what an offer and what follows it send

-- what was sent is a prefix, whatever follows
pub Sends-prefix : (bytes more : List ℕ) (w v : Option (List ℕ)) (m : Option Loss) → Sends bytes w v m → WritesPrefix (bytes ++ more) w v
Sends-prefix bytes more w v None a = WritesPrefix-whole bytes more w v a
Sends-prefix bytes more w v (Some cause) p = WritesPrefix-longer bytes more w v p

pub Sends-begun : (bytes : List ℕ) (w v : Option (List ℕ)) (m : Option Loss) → Sends bytes w v m → WritesPrefix bytes w v
Sends-begun bytes w v None a = record { written = bytes; unwritten = []; whole = append-nil bytes; appended = a }
Sends-begun bytes w v (Some cause) p = p

pub PlaysPrefix-after : (m : Option Loss) (bytes more : List ℕ) (w v u : Option (List ℕ)) → Sends bytes w v m → PlaysPrefix m more v u → WritesPrefix (bytes ++ more) w u
PlaysPrefix-after None bytes more w v u a p = WritesPrefix-after bytes more w v u a p
PlaysPrefix-after (Some cause) bytes more w v u a q =
    subst (λ (x : Option (List ℕ)). WritesPrefix (bytes ++ more) w x) (sym q) (WritesPrefix-longer bytes more w v a)

-- ---- one exchange more

pub bytes_after-more : (terms : Option Negotiated) (xs : List Exchange) (i : ℕ) (x : Exchange) → i < length xs → x ≡ get_or xs i x
    → bytes_after terms (take (i + 1) xs) ≡ bytes_after terms (take i xs) ++ sent_bytes terms x.recorded.command
bytes_after-more terms xs i x below is =
    let f : Exchange → List ℕ = λ exchange. sent_bytes terms exchange.recorded.command in
    let last : take (i + 1) xs ≡ take i xs ++ x ∷ [] = take_more xs i x below ∙ ap (λ (y : Exchange). take i xs ++ y ∷ []) (sym is) in
    ap (λ (ys : List Exchange). flat_map f ys) last ∙ flat_map-append f (take i xs) (x ∷ [])
    ∙ ap (λ (b : List ℕ). flat_map f (take i xs) ++ b) (append-nil (f x))

pub bytes_after-cut : (terms : Option Negotiated) (xs : List Exchange) (i : ℕ) → bytes_after terms xs ≡ bytes_after terms (take i xs) ++ bytes_after terms (drop i xs)
bytes_after-cut terms xs i =
    let f : Exchange → List ℕ = λ exchange. sent_bytes terms exchange.recorded.command in
    ap (λ (ys : List Exchange). flat_map f ys) (sym (take-append-drop i xs)) ∙ flat_map-append f (take i xs) (drop i xs)

-- what is played with one exchange more
pub Plays-more : (old : Option Loss) (terms now : Option Negotiated) (xs : List Exchange) (i : ℕ) (x : Exchange) (w v u : Option (List ℕ)) (m n k : Option Loss) → now ≡ terms → i < length xs → x ≡ get_or xs i x
    → Plays old (bytes_after terms (take i xs)) w v m → Plays m (sent_bytes now x.recorded.command) v u n → k ≡ n → Plays old (bytes_after terms (take (i + 1) xs)) w u k
Plays-more old terms now xs i x w v u m n k same below is before step noted =
    let step' : Plays m (sent_bytes terms x.recorded.command) v u n = subst (λ (t : Option Negotiated). Plays m (sent_bytes t x.recorded.command) v u n) same step in
    let both : Plays old (bytes_after terms (take i xs) ++ sent_bytes terms x.recorded.command) w u n = Plays-trans old m n (bytes_after terms (take i xs)) (sent_bytes terms x.recorded.command) w v u before step' in
    let whole : Plays old (bytes_after terms (take (i + 1) xs)) w u n = subst (λ (bytes : List ℕ). Plays old bytes w u n) (sym (bytes_after-more terms xs i x below is)) both in
    subst (λ (o : Option Loss). Plays old (bytes_after terms (take (i + 1) xs)) w u o) (sym noted) whole

-- what is played so far is a prefix of what all exchanges send
pub Plays-cut : (old : Option Loss) (terms : Option Negotiated) (xs : List Exchange) (j : ℕ) (w u : Option (List ℕ)) (n : Option Loss) → Plays old (bytes_after terms (take j xs)) w u n → PlaysPrefix old (bytes_after terms xs) w u
Plays-cut old terms xs j w u n p =
    subst (λ (bytes : List ℕ). PlaysPrefix old bytes w u) (sym (bytes_after-cut terms xs j)) (Plays-prefix old n (bytes_after terms (take j xs)) (bytes_after terms (drop j xs)) w u p)

-- ---- an offer, and the exchanges after it

-- the lines end after the offer
pub offer_cut : (offer : Exchange) (others : List Exchange) (w v : Option (List ℕ)) (m : Option Loss) → Sends (encoding offer.recorded.command) w v m → SendsSome (offer ∷ others) w v
offer_cut offer others w v m p = (None, Sends-prefix (encoding offer.recorded.command) (bytes_after None others) w v m p)

-- the lines end later
pub others_cut : (terms : Option Negotiated) (offer : Exchange) (others : List Exchange) (w v u : Option (List ℕ)) (m k : Option Loss) → Sends (encoding offer.recorded.command) w v m → k ≡ m
    → PlaysPrefix k (bytes_after terms others) v u → SendsSome (offer ∷ others) w u
others_cut terms offer others w v u m k p noted q =
    (terms, PlaysPrefix-after m (encoding offer.recorded.command) (bytes_after terms others) w v u p (subst (λ (o : Option Loss). PlaysPrefix o (bytes_after terms others) v u) noted q))

-- the conversation goes to its end, or to the loss of the filter
pub all_sent : (terms now : Option Negotiated) (offer : Exchange) (others : List Exchange) (w v u : Option (List ℕ)) (m k n : Option Loss) → Sends (encoding offer.recorded.command) w v m → k ≡ m
    → Plays k (bytes_after terms others) v u n → now ≡ terms → Sends (bytes_to_send now (offer ∷ others)) w u n
all_sent terms now offer others w v u m k n p noted q same =
    let more : Plays m (bytes_after terms others) v u n = subst (λ (o : Option Loss). Plays o (bytes_after terms others) v u n) noted q in
    let sent : Sends (encoding offer.recorded.command ++ bytes_after terms others) w u n = Plays-trans None m n (encoding offer.recorded.command) (bytes_after terms others) w v u p more in
    subst (λ (t : Option Negotiated). Sends (encoding offer.recorded.command ++ bytes_after t others) w u n) (sym same) sent

pub All-others : (P : Exchange → Type 0) (x : Exchange) (xs : List Exchange) → All P (x ∷ xs) → All P xs
All-others P x xs all = λ k d below. all (suc k) d (omega (arith, below))

-- a list that isn't empty is its first element and the others
pub first_and_others : (xs : List Exchange) (x : Exchange) → 1 ≤ length xs → x ≡ get_or xs 0 x → x ∷ take (length xs - 1) (drop 1 xs) ≡ xs
first_and_others [] x some is = absurd (omega (arith, some))
first_and_others (y ∷ ys) x some is =
    ap (λ (z : Exchange). z ∷ take (length (y ∷ ys) - 1) (drop 1 (y ∷ ys))) is ∙ ap (λ (zs : List Exchange). y ∷ zs) (take_rest (y ∷ ys) 1)

pub AllFit-parts : (items xs : List Exchange) (x : Exchange) → xs ≡ items → 1 ≤ length xs → x ≡ get_or xs 0 x → AllFit items → AllFit (x ∷ take (length xs - 1) (drop 1 xs))
AllFit-parts items xs x same some is fit =
    let whole : x ∷ take (length xs - 1) (drop 1 xs) ≡ items = first_and_others xs x some is ∙ same in
    subst (λ (ys : List Exchange). AllFit ys) (sym whole) fit

pub on_error : {V E P : Type 0} (r : Result V E) → P → OnErr r P
on_error (Ok value) h = tt
on_error (Err e) h = h
