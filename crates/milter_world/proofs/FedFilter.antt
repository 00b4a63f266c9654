-- A filter's end takes all that it is handed.
use Rattle.std.proofs.Common.{◌≡◌, ◌≢◌, ℕ, List, [], ◌∷◌, ◌++◌, Result, Ok, Err, refl, sym, ap, ◌∙◌, length, take, drop}
use Rattle.std.proofs.lemmas.List.{drop_min, length-take}
use Rattle.milter_protocol.specs.Behavior.{Behavior}
use Rattle.milter_protocol.specs.declared.filter_fault.FilterFault.{FilterFault}
use Rattle.milter_protocol.specs.declared.filter_fault.FilterFault.TheVariants as faults
use Rattle.milter_filter.specs.Cores.{Core, GivesUp, Takes}
use Rattle.milter_filter_stream.specs.Streams.{received_in}
use Rattle.milter_world.specs.Reached.{CanTake}

abbrev as_ok : ℕ → Result ℕ FilterFault
as_ok n = Ok n

abbrev as_err : FilterFault → Result ℕ FilterFault
as_err fault = Err fault

apart : (fault : FilterFault) (n : ℕ) → as_err fault ≡ as_ok n → ⊥
apart fault n e = absurd (cc)

module _ {P : Type 0} (b : Behavior) (core new : Core P) (piece : List ℕ) (can : CanTake b core piece) where
  -- what feed says
  pub fails-not : (result : Result ℕ FilterFault) (fault : FilterFault) → result ≡ Err fault → fault ≢ faults.NoMemory
      → (core.pending ≢ [] → result ≡ Ok 0)
      → (core.pending ≡ [] → fault ≢ faults.NoMemory → GivesUp b core.order_state (received_in (core.unread ++ piece)) fault) → ⊥
  fails-not result fault is other waits cause = by_pending core.pending refl
    where
      by_pending : (l : List ℕ) → core.pending ≡ l → ⊥
      by_pending [] e = can.sound fault e (cause e other)
      by_pending (byte ∷ bytes) e = apart fault 0 (sym is ∙ waits (λ none. let x : byte ∷ bytes ≡ [] = sym e ∙ none in absurd (cc)))

  pub all : (n : ℕ) → (core.pending ≢ [] → n ≡ 0) → (core.pending ≡ [] → Takes b core piece n new) → n ≡ length piece
  all n waits takes = by_pending core.pending refl
    where
      by_pending : (l : List ℕ) → core.pending ≡ l → n ≡ length piece
      by_pending [] e = can.all n new e (takes e)
      by_pending (byte ∷ bytes) e =
          let some : core.pending ≢ [] = λ none. (let x : byte ∷ bytes ≡ [] = sym e ∙ none in absurd (cc)) in
          waits some ∙ sym (can.waits some)

pub same-drop : (n count : ℕ) (pipe : List ℕ) → n ≡ length (take count pipe) → drop n pipe ≡ drop count pipe
same-drop n count pipe e =
    ap (λ (k : ℕ). drop k pipe) (e ∙ length-take count pipe) ∙ drop_min count pipe
