-- A run of the tracer: what was read so far, and what of its text was written.
use Rattle.std.proofs.Common.{◌≡◌, ℕ, List, [], ◌++◌, length, Option, None, Some, IfSome, Result, Ok, Err, sym, ap, subst, ◌∙◌, append_assoc, append-nil, ◌+◌, ◌*◌, ◌<◌, ◌≤◌, arith, length-append}
use Rattle.std.specs.Prelude.{IfErr, OnOk}
use Rattle.std.specs.Io.KnownBytes.{Appends, Consumes, IsAtEnd}
use Rattle.std.proofs.KnownBytes.{Appends-nil, Appends-trans, Consumes-nil, Consumes-trans}
use Rattle.milter_text.specs.Lines.{lines_of}
use Rattle.milter_trace.specs.declared.form.TraceForm.{TraceForm}
use Rattle.milter_trace.specs.declared.fault.TraceFault.{TraceFault}
use Rattle.milter_trace.specs.Trace.{Trace, prepend_text, trace_in}
use Rattle.milter_trace.specs.TraceRun.{HasBytes, WritesPrefixIn, WritesTraceIn}
use Rattle.milter_trace.specs.TraceState.{TraceState, initial_state, trace_to_come, trace_from}
use Rattle.milter_text.specs.WrittenText.{WritesPrefix}
use Rattle.milter_trace.specs.TraceOutput.{EndsTrace, IsInputFault, EndsWithFault, WritesTrace}
use Rattle.milter_trace.proofs.PacketLaws.{prepend_text-append}
use Rattle.milter_trace.proofs.TraceLaws.{trace_from-initial_state}

pub record RunProgress (form : TraceForm) (a b w v : Option (List ℕ)) (h : TraceState) (begun : List ℕ) : Type 0 where
  pub input : List ℕ
  pub written : List ℕ
  pub was_read : Consumes a b input
  pub appended : Appends w v written
  pub goes_on : (more : List ℕ) → trace_to_come written h begun more ≡ trace_in form (input ++ more)

pub RunProgress-none : (form : TraceForm) (a w : Option (List ℕ)) → RunProgress form a a w w (initial_state form) []
RunProgress-none form a w = record { input = []; written = []; was_read = Consumes-nil a; appended = Appends-nil w; goes_on = λ more. trace_from-initial_state form more }

trace_to_come-written : (written text begun more : List ℕ) (h : TraceState) → trace_to_come (written ++ text) h begun more ≡ prepend_text written (trace_to_come text h begun more)
trace_to_come-written written text begun more h = prepend_text-append written text (trace_from h (lines_of (begun ++ more)))

-- the whole trace, from what is to come after a piece
whole_after : (form : TraceForm) (a b w v : Option (List ℕ)) (h : TraceState) (begun piece more : List ℕ) (t : RunProgress form a b w v h begun) → prepend_text t.written (trace_to_come [] h begun (piece ++ more)) ≡ trace_in form ((t.input ++ piece) ++ more)
whole_after form a b w v h begun piece more t = t.goes_on (piece ++ more) ∙ ap (trace_in form) (sym (append_assoc t.input piece more))

pub RunProgress-more : (form : TraceForm) (a b c w v u : Option (List ℕ)) (h k : TraceState) (begun new piece text : List ℕ) → RunProgress form a b w v h begun → Consumes b c piece → Appends v u text
    → ((more : List ℕ) → trace_to_come text k new more ≡ trace_to_come [] h begun (piece ++ more)) → RunProgress form a c w u k new
RunProgress-more form a b c w v u h k begun new piece text t p q goes = record {
  input = t.input ++ piece;
  written = t.written ++ text;
  was_read = Consumes-trans a b c t.input piece t.was_read p;
  appended = Appends-trans w v u t.written text t.appended q;
  goes_on = λ more. trace_to_come-written t.written text new more k ∙ ap (prepend_text t.written) (goes more) ∙ whole_after form a b w v h begun piece more t;
}

-- ---- after a beginning

prefix_after : (written text : List ℕ) (w v u : Option (List ℕ)) → Appends w v written → WritesPrefix text v u → WritesPrefix (written ++ text) w u
prefix_after written text w v u a f = record {
  written = written ++ f.written;
  unwritten = f.unwritten;
  whole = append_assoc written f.written f.unwritten ∙ ap (λ (x : List ℕ). written ++ x) f.whole;
  appended = Appends-trans w v u written f.written a f.appended;
}

all_after : (written : List ℕ) (t : Trace) (fault : Option TraceFault) (w v u : Option (List ℕ)) → Appends w v written → WritesTrace t fault v u → WritesTrace (prepend_text written t) fault w u
all_after written t fault w v u a all = record { appended = Appends-trans w v u written t.text a all.appended; ending = all.ending }

-- a fact of the trace of what was read, for an input that is known
known : (form : TraceForm) (P : Trace → Type 0) (a b : Option (List ℕ)) (input : List ℕ) → Consumes a b input → ((more : List ℕ) → P (trace_in form (input ++ more))) → IfSome a (λ xs. P (trace_in form xs))
known form P None b input p h = tt
known form P (Some xs) None input p h = absurd p
known form P (Some xs) (Some ys) input p h = subst (λ (x : List ℕ). P (trace_in form x)) (sym p) (h ys)

known_end : (form : TraceForm) (P : Trace → Type 0) (a b : Option (List ℕ)) (input : List ℕ) → Consumes a b input → IsAtEnd b → P (trace_in form input) → IfSome a (λ xs. P (trace_in form xs))
known_end form P None b input p e h = tt
known_end form P (Some xs) None input p e h = absurd p
known_end form P (Some xs) (Some ys) input p e h = subst (λ (x : List ℕ). P (trace_in form x)) (sym (p ∙ ap (λ (y : List ℕ). input ++ y) e ∙ append-nil input)) h

-- ---- how a run ends

pub RunProgress-begun : (form : TraceForm) (a b w v : Option (List ℕ)) (h : TraceState) (begun : List ℕ) → RunProgress form a b w v h begun → WritesPrefixIn form a w v
RunProgress-begun form a b w v h begun t =
    known form (λ x. WritesPrefix x.text w v) a b t.input t.was_read (λ more. record {
      written = t.written;
      unwritten = (trace_from h (lines_of (begun ++ more))).text;
      whole = ap (λ (x : Trace). x.text) (t.goes_on more);
      appended = t.appended;
    })

pub record Stopped (form : TraceForm) (a w u : Option (List ℕ)) (e : TraceFault) : Type 0 where
  pub begun : WritesPrefixIn form a w u
  pub fault : IsInputFault e → WritesTraceIn form (Some e) a w u

pub RunProgress-stops : (form : TraceForm) (a b c w v u : Option (List ℕ)) (h : TraceState) (begun piece : List ℕ) (e : TraceFault) → RunProgress form a b w v h begun → Consumes b c piece
    → ((more : List ℕ) → EndsWithFault (trace_to_come [] h begun (piece ++ more)) v u e) → Stopped form a w u e
RunProgress-stops form a b c w v u h begun piece e t p stops =
    let read = Consumes-trans a b c t.input piece t.was_read p in
    record {
      begun = known form (λ x. WritesPrefix x.text w u) a c (t.input ++ piece) read (λ more.
          subst (λ (x : Trace). WritesPrefix x.text w u) (whole_after form a b w v h begun piece more t) (prefix_after t.written (trace_to_come [] h begun (piece ++ more)).text w v u t.appended (stops more).prefix));
      fault = λ input. known form (λ x. WritesTrace x (Some e) w u) a c (t.input ++ piece) read (λ more.
          subst (λ (x : Trace). WritesTrace x (Some e) w u) (whole_after form a b w v h begun piece more t) (all_after t.written (trace_to_come [] h begun (piece ++ more)) (Some e) w v u t.appended ((stops more).whole input)));
    }

last_of : (form : TraceForm) (a b w v : Option (List ℕ)) (h : TraceState) (begun : List ℕ) (t : RunProgress form a b w v h begun) → prepend_text t.written (trace_from h (lines_of begun)) ≡ trace_in form t.input
last_of form a b w v h begun t = ap (λ (x : List ℕ). prepend_text t.written (trace_from h (lines_of x))) (sym (append-nil begun)) ∙ t.goes_on [] ∙ ap (trace_in form) (append-nil t.input)

pub RunProgress-end : (form : TraceForm) (a b c w v u : Option (List ℕ)) (h : TraceState) (begun : List ℕ) (r : Result Unit TraceFault) → RunProgress form a b w v h begun → Consumes b c [] → IsAtEnd c
    → EndsTrace (trace_from h (lines_of begun)) v u r → OnOk r (WritesTraceIn form None a w u) × IfErr r (λ e. Stopped form a w u e)
RunProgress-end form a b c w v u h begun (Ok x) t p end ends =
    let read = subst (Consumes a c) (append-nil t.input) (Consumes-trans a b c t.input [] t.was_read p) in (
      known_end form (λ y. WritesTrace y None w u) a c t.input read end (subst (λ (y : Trace). WritesTrace y None w u) (last_of form a b w v h begun t) (all_after t.written (trace_from h (lines_of begun)) None w v u t.appended ends)),
      tt,
    )
RunProgress-end form a b c w v u h begun (Err e) t p end ends =
    let read = subst (Consumes a c) (append-nil t.input) (Consumes-trans a b c t.input [] t.was_read p) in
    let last = last_of form a b w v h begun t in (
      tt,
      record {
        begun = known_end form (λ y. WritesPrefix y.text w u) a c t.input read end (subst (λ (y : Trace). WritesPrefix y.text w u) last (prefix_after t.written (trace_from h (lines_of begun)).text w v u t.appended ends.prefix));
        fault = λ input. known_end form (λ y. WritesTrace y (Some e) w u) a c t.input read end (subst (λ (y : Trace). WritesTrace y (Some e) w u) last (all_after t.written (trace_from h (lines_of begun)) (Some e) w v u t.appended (ends.whole input)));
      },
    )

-- ---- how much was read

-- each turn read from one byte to 65,536, and no line has no byte
pub record ReadCount (a b : Option (List ℕ)) (turns lines : ℕ) : Type 0 where
  pub read : List ℕ
  pub was_read : Consumes a b read
  pub some : turns ≤ length read
  pub room : length read ≤ 65536 * turns
  pub few : lines ≤ length read

pub ReadCount-none : (a : Option (List ℕ)) → ReadCount a a 0 0
ReadCount-none a = record { read = []; was_read = Consumes-nil a; some = omega arith; room = omega arith; few = omega arith }

pub ReadCount-more : (a b c : Option (List ℕ)) (turns lines more : ℕ) (piece : List ℕ) → ReadCount a b turns lines → Consumes b c piece → 0 < length piece → length piece ≤ 65536
    → more ≤ lines + length piece → ReadCount a c (turns + 1) more
ReadCount-more a b c turns lines more piece t p some room few =
    let len = length-append t.read piece in
    let before_some = t.some in
    let before_room = t.room in
    let before_few = t.few in
    record {
      read = t.read ++ piece;
      was_read = Consumes-trans a b c t.read piece t.was_read p;
      some = omega (arith, len);
      room = omega (arith, len);
      few = omega (arith, len, few);
    }

pub HasBytes-with_line_counted : (a b : Option (List ℕ)) (turns lines : ℕ) → ReadCount a b turns lines → HasBytes turns a
HasBytes-with_line_counted None b turns lines t = tt
HasBytes-with_line_counted (Some xs) None turns lines t = absurd t.was_read
HasBytes-with_line_counted (Some xs) (Some ys) turns lines t =
    let some = t.some in
    omega (arith, ap length t.was_read, length-append t.read ys)
