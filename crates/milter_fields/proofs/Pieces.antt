-- The division of a stream of which a splitter took a piece.
use Rattle.std.proofs.Common.{◌≡◌, ℕ, List, [], ◌∷◌, ◌++◌, take, drop, Option, Some, None, refl, sym, ap, subst, ◌∙◌, append_assoc, take-append-drop}
use Rattle.milter_fields.specs.declared.fault.WireFault.{WireFault}
use Rattle.milter_fields.specs.Number.{number_from_bytes}
use Rattle.milter_fields.specs.Stream.{Frame, IsFrame, IsUnfinished, IsRest, divide, fault_of, frame_bytes, length_fault, with_frame}
use Rattle.milter_fields.proofs.Frames.{first_frame-packet, first_frame-rest}
use Rattle.milter_fields.proofs.Division.{divide-none, divide-first}

-- ---- the start of a stream

pub rest_of_unfinished : (bytes : List ℕ) → IsUnfinished bytes → IsRest bytes
rest_of_unfinished (a ∷ b ∷ c ∷ d ∷ body) u = λ _. u.1
rest_of_unfinished [] u = tt
rest_of_unfinished (a ∷ []) u = tt
rest_of_unfinished (a ∷ b ∷ []) u = tt
rest_of_unfinished (a ∷ b ∷ c ∷ []) u = tt

pub divide-unfinished : (bytes : List ℕ) → IsUnfinished bytes → divide bytes ≡ record { frames = []; rest = bytes }
divide-unfinished bytes u = divide-none bytes (first_frame-rest bytes (rest_of_unfinished bytes u))

pub no_fault-unfinished : (bytes : List ℕ) → IsUnfinished bytes → length_fault bytes ≡ None
no_fault-unfinished (a ∷ b ∷ c ∷ d ∷ body) u = u.0
no_fault-unfinished [] u = refl
no_fault-unfinished (a ∷ []) u = refl
no_fault-unfinished (a ∷ b ∷ []) u = refl
no_fault-unfinished (a ∷ b ∷ c ∷ []) u = refl

some_none : {A : Type 0} (x : A) (o : Option A) → o ≡ Some x → o ≡ None → ⊥
some_none x o s n = cc

pub rest_of_fault : (bytes : List ℕ) (f : WireFault) → length_fault bytes ≡ Some f → IsRest bytes
rest_of_fault (a ∷ b ∷ c ∷ d ∷ body) f h = λ valid. absurd (some_none f (fault_of (number_from_bytes a b c d)) h valid)
rest_of_fault [] f h = tt
rest_of_fault (a ∷ []) f h = tt
rest_of_fault (a ∷ b ∷ []) f h = tt
rest_of_fault (a ∷ b ∷ c ∷ []) f h = tt

pub divide-fault : (bytes : List ℕ) (f : WireFault) → length_fault bytes ≡ Some f → divide bytes ≡ record { frames = []; rest = bytes }
divide-fault bytes f h = divide-none bytes (first_frame-rest bytes (rest_of_fault bytes f h))

-- what follows a fault doesn't mend it
pub length_fault-append : (bytes more : List ℕ) (f : WireFault) → length_fault bytes ≡ Some f → length_fault (bytes ++ more) ≡ Some f
length_fault-append (a ∷ b ∷ c ∷ d ∷ body) more f h = h
length_fault-append [] more f h = absurd cc
length_fault-append (a ∷ []) more f h = absurd cc
length_fault-append (a ∷ b ∷ []) more f h = absurd cc
length_fault-append (a ∷ b ∷ c ∷ []) more f h = absurd cc

-- ---- after a piece was fed

pub fed_on : (unread piece new : List ℕ) (n : ℕ) → new ≡ unread ++ take n piece → new ++ drop n piece ≡ unread ++ piece
fed_on unread piece new n is =
    ap (λ (x : List ℕ). x ++ drop n piece) is ∙ append_assoc unread (take n piece) (drop n piece) ∙ ap (λ (x : List ℕ). unread ++ x) (take-append-drop n piece)

-- a packet was handed out: it is the first one of the stream
pub divide-handed : (unread piece new : List ℕ) (n : ℕ) (f : Frame) → new ≡ unread ++ take n piece → new ≡ frame_bytes f → IsFrame f
    → divide (unread ++ piece) ≡ with_frame f (divide (drop n piece))
divide-handed unread piece new n f fed is fits =
    let whole : unread ++ piece ≡ frame_bytes f ++ drop n piece = sym (fed_on unread piece new n fed) ∙ ap (λ (x : List ℕ). x ++ drop n piece) is in
    ap divide whole ∙ divide-first (frame_bytes f ++ drop n piece) f (drop n piece) (first_frame-packet f (drop n piece) fits)

-- a fault was answered: no packet is before it
pub record AtFault (bytes : List ℕ) (f : WireFault) : Type 0 where
  pub division : divide bytes ≡ record { frames = []; rest = bytes }
  pub fault : length_fault bytes ≡ Some f

pub divide-at_fault : (unread piece new : List ℕ) (n : ℕ) (f : WireFault) → new ≡ unread ++ take n piece → length_fault new ≡ Some f → AtFault (unread ++ piece) f
divide-at_fault unread piece new n f fed h =
    let fault : length_fault (unread ++ piece) ≡ Some f = subst (λ (x : List ℕ). length_fault x ≡ Some f) (fed_on unread piece new n fed) (length_fault-append new (drop n piece) f h) in
    record { division = divide-fault (unread ++ piece) f fault; fault = fault }

pub divide-nil : divide [] ≡ record { frames = []; rest = [] }
divide-nil = divide-none [] (first_frame-rest [] tt)
