-- What a step of a run leaves with the writer.
use Rattle.std.proofs.Common.{◌≡◌, ℕ, List, [], ◌++◌, Option, None, Some, Result, Ok, Err, refl, sym, ap, subst, ◌∙◌, append_assoc, append-nil}
use Rattle.std.specs.Prelude.{IfErr, IsErrOf, OnOk}
use Rattle.std.specs.Io.KnownBytes.{Appends}
use Rattle.milter_trace.specs.declared.fault.TraceFault.{TraceFault}
use Rattle.milter_trace.specs.declared.fault.TraceFault.TheVariants.{BadLine, Packet, Truncated, ReadFault, WriteFault, TurnLimit, NoMemory}
use Rattle.milter_trace.specs.Trace.{Trace, prepend_text}
use Rattle.milter_trace.specs.TraceState.{ContinuesTrace, TraceState, AppendsTrace, trace_to_come}
use Rattle.milter_text.specs.WrittenText.{WritesPrefix}
use Rattle.milter_trace.specs.TraceOutput.{EndsTrace, IsInputFault, EndsWithFault, WritesTrace}

-- ---- a write that failed

pub WritesPrefix-more : (text rest all : List ℕ) (w v : Option (List ℕ)) → WritesPrefix text w v → text ++ rest ≡ all → WritesPrefix all w v
WritesPrefix-more text rest all w v f e = record {
  written = f.written;
  unwritten = f.unwritten ++ rest;
  whole = sym (append_assoc f.written f.unwritten rest) ∙ ap (λ (x : List ℕ). x ++ rest) f.whole ∙ e;
  appended = f.appended;
}

WritesPrefix-all : (text : List ℕ) (w v : Option (List ℕ)) → Appends w v text → WritesPrefix text w v
WritesPrefix-all text w v a = record { written = text; unwritten = []; whole = append-nil text; appended = a }

pub EndsWithFault-write : (t : Trace) (w v : Option (List ℕ)) (e : TraceFault) → e ≡ WriteFault → WritesPrefix t.text w v → EndsWithFault t w v e
EndsWithFault-write t w v e is f = record { prefix = f; whole = λ input. absurd (subst IsInputFault is input) }

-- the text so far is a prefix of what is to be printed
prefix_of : (before : Trace) (text : List ℕ) (fault : Option TraceFault) (w v : Option (List ℕ)) → record { text = text; fault = fault } ≡ before → WritesPrefix text w v → WritesPrefix before.text w v
prefix_of before text fault w v e f = WritesPrefix-more text [] before.text w v f (append-nil text ∙ ap (λ (x : Trace). x.text) e)

pub ContinuesTrace-prefix : (before other : Trace) (text : List ℕ) (r : Result Unit TraceFault) (w v : Option (List ℕ)) → ContinuesTrace before (prepend_text text other) text r → ¬ (r ≡ Err NoMemory) → WritesPrefix text w v → WritesPrefix before.text w v
ContinuesTrace-prefix before other text (Ok u) w v h some f = WritesPrefix-more text other.text before.text w v f (ap (λ (x : Trace). x.text) h)
ContinuesTrace-prefix before other text (Err (BadLine n)) w v h some f = prefix_of before text (Some (BadLine n)) w v h f
ContinuesTrace-prefix before other text (Err (Packet n d e)) w v h some f = prefix_of before text (Some (Packet n d e)) w v h f
ContinuesTrace-prefix before other text (Err (Truncated n m)) w v h some f = prefix_of before text (Some (Truncated n m)) w v h f
ContinuesTrace-prefix before other text (Err ReadFault) w v h some f = absurd h
ContinuesTrace-prefix before other text (Err WriteFault) w v h some f = absurd h
ContinuesTrace-prefix before other text (Err TurnLimit) w v h some f = absurd h
ContinuesTrace-prefix before other text (Err NoMemory) w v h some f = absurd (some refl)

-- ---- all was written

stops_with : (before : Trace) (text : List ℕ) (fault : TraceFault) (w v : Option (List ℕ)) → record { text = text; fault = Some fault } ≡ before → Appends w v text → EndsWithFault before w v fault
stops_with before text fault w v e a =
    let written = subst (Appends w v) (ap (λ (x : Trace). x.text) e) a in
    record {
      prefix = WritesPrefix-all before.text w v written;
      whole = λ _. record { appended = written; ending = sym (ap (λ (x : Trace). x.fault) e) };
    }

pub ContinuesTrace-stops : (before after : Trace) (text : List ℕ) (r : Result Unit TraceFault) (w v : Option (List ℕ)) → ContinuesTrace before after text r → ¬ (r ≡ Err NoMemory) → Appends w v text → IfErr r (EndsWithFault before w v)
ContinuesTrace-stops before after text (Ok u) w v h some a = tt
ContinuesTrace-stops before after text (Err (BadLine n)) w v h some a = stops_with before text (BadLine n) w v h a
ContinuesTrace-stops before after text (Err (Packet n d e)) w v h some a = stops_with before text (Packet n d e) w v h a
ContinuesTrace-stops before after text (Err (Truncated n m)) w v h some a = stops_with before text (Truncated n m) w v h a
ContinuesTrace-stops before after text (Err ReadFault) w v h some a = absurd h
ContinuesTrace-stops before after text (Err WriteFault) w v h some a = absurd h
ContinuesTrace-stops before after text (Err TurnLimit) w v h some a = absurd h
ContinuesTrace-stops before after text (Err NoMemory) w v h some a = absurd (some refl)

-- no call on pieces gives the fault of too many reads
pub ContinuesTrace-no_limit : (before after : Trace) (text : List ℕ) (r : Result Unit TraceFault) → ContinuesTrace before after text r → ¬ IsErrOf r TurnLimit
ContinuesTrace-no_limit before after text (Ok u) h = λ e. cc
ContinuesTrace-no_limit before after text (Err (BadLine n)) h = λ e. cc
ContinuesTrace-no_limit before after text (Err (Packet n d g)) h = λ e. cc
ContinuesTrace-no_limit before after text (Err (Truncated n m)) h = λ e. cc
ContinuesTrace-no_limit before after text (Err ReadFault) h = absurd h
ContinuesTrace-no_limit before after text (Err WriteFault) h = absurd h
ContinuesTrace-no_limit before after text (Err TurnLimit) h = absurd h
ContinuesTrace-no_limit before after text (Err NoMemory) h = λ e. cc

pub AppendsTrace-no_limit : (t : Trace) (old new : List ℕ) (r : Result Unit TraceFault) → AppendsTrace t old new r → ¬ IsErrOf r TurnLimit
AppendsTrace-no_limit t old new (Ok u) h = λ e. cc
AppendsTrace-no_limit t old new (Err (BadLine n)) h = λ e. cc
AppendsTrace-no_limit t old new (Err (Packet n d g)) h = λ e. cc
AppendsTrace-no_limit t old new (Err (Truncated n m)) h = λ e. cc
AppendsTrace-no_limit t old new (Err ReadFault) h = absurd h
AppendsTrace-no_limit t old new (Err WriteFault) h = absurd h
AppendsTrace-no_limit t old new (Err TurnLimit) h = absurd h
AppendsTrace-no_limit t old new (Err NoMemory) h = λ e. cc

-- a fact of each trace to come, for the fault that a call returned
pub each_more : {T : Type 0} (r : Result T TraceFault) (P : List ℕ → TraceFault → Type 0) → ((more : List ℕ) → IfErr r (P more)) → IfErr r (λ e. (more : List ℕ) → P more e)
each_more (Ok x) P h = tt
each_more (Err e) P h = h

-- ---- the end

ends_with : (t : Trace) (text : List ℕ) (fault : Option TraceFault) (w v : Option (List ℕ)) → (text ≡ [] ++ t.text) × (t.fault ≡ fault) → Appends w v text → WritesTrace t fault w v
ends_with t text fault w v p a = record { appended = subst (Appends w v) p.0 a; ending = p.1 }

stopped_with : (t : Trace) (text : List ℕ) (fault : TraceFault) (w v : Option (List ℕ)) → (text ≡ [] ++ t.text) × (t.fault ≡ Some fault) → Appends w v text → EndsWithFault t w v fault
stopped_with t text fault w v p a =
    let all = ends_with t text (Some fault) w v p a in
    record { prefix = WritesPrefix-all t.text w v all.appended; whole = λ _. all }

pub AppendsTrace-ends : (t : Trace) (text : List ℕ) (r : Result Unit TraceFault) (w v : Option (List ℕ)) → AppendsTrace t [] text r → ¬ (r ≡ Err NoMemory) → Appends w v text → EndsTrace t w v r
AppendsTrace-ends t text (Ok u) w v p some a = ends_with t text None w v p a
AppendsTrace-ends t text (Err (BadLine n)) w v p some a = stopped_with t text (BadLine n) w v p a
AppendsTrace-ends t text (Err (Packet n d e)) w v p some a = stopped_with t text (Packet n d e) w v p a
AppendsTrace-ends t text (Err (Truncated n m)) w v p some a = stopped_with t text (Truncated n m) w v p a
AppendsTrace-ends t text (Err ReadFault) w v p some a = absurd p
AppendsTrace-ends t text (Err WriteFault) w v p some a = absurd p
AppendsTrace-ends t text (Err TurnLimit) w v p some a = absurd p
AppendsTrace-ends t text (Err NoMemory) w v p some a = absurd (some refl)

pub AppendsTrace-prefix : (t : Trace) (text : List ℕ) (r : Result Unit TraceFault) (w v : Option (List ℕ)) → AppendsTrace t [] text r → ¬ (r ≡ Err NoMemory) → WritesPrefix text w v → WritesPrefix t.text w v
AppendsTrace-prefix t text (Ok u) w v p some f = WritesPrefix-more text [] t.text w v f (append-nil text ∙ p.0)
AppendsTrace-prefix t text (Err (BadLine n)) w v p some f = WritesPrefix-more text [] t.text w v f (append-nil text ∙ p.0)
AppendsTrace-prefix t text (Err (Packet n d e)) w v p some f = WritesPrefix-more text [] t.text w v f (append-nil text ∙ p.0)
AppendsTrace-prefix t text (Err (Truncated n m)) w v p some f = WritesPrefix-more text [] t.text w v f (append-nil text ∙ p.0)
AppendsTrace-prefix t text (Err ReadFault) w v p some f = absurd p
AppendsTrace-prefix t text (Err WriteFault) w v p some f = absurd p
AppendsTrace-prefix t text (Err TurnLimit) w v p some f = absurd p
AppendsTrace-prefix t text (Err NoMemory) w v p some f = absurd (some refl)

-- what goes on after a piece
pub ContinuesTrace-going : (r : Result Unit TraceFault) (text begun : List ℕ) (state : TraceState) (before : List ℕ → Trace) (w v : Option (List ℕ)) → Appends w v text
    → ((more : List ℕ) → ContinuesTrace (before more) (trace_to_come text state begun more) text r) → OnOk r ((shown : List ℕ) × Appends w v shown × ((more : List ℕ) → trace_to_come shown state begun more ≡ before more))
ContinuesTrace-going (Ok u) text begun state before w v a h = (text, a, h)
ContinuesTrace-going (Err e) text begun state before w v a h = tt
