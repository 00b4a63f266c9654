-- What the bytes to come print, as lines end one after the other.
use Rattle.std.proofs.Common.{◌≡◌, ◌≢◌, ℕ, ◌+◌, ◌<◌, true, false, List, [], ◌∷◌, ◌++◌, length, take, drop, Option, Some, None, Result, Ok, Err, refl, sym, ap, subst, ◌∙◌, arith, append_assoc, append-nil, ◌⊎◌, inl, inr}
use Rattle.std.specs.Prelude.{◌==◌, OnOk, OnErr}
use Rattle.std.proofs.lemmas.Bool.{eqb-false, eqb-true, lt-ltb}
use Rattle.std.proofs.lemmas.List.Elements.{All-append}
use Rattle.milter_fields.specs.Stream.{divide}
use Rattle.milter_text.specs.Lines.{Line, lines_of}
use Rattle.milter_trace.specs.declared.direction.Direction.{Direction}
use Rattle.milter_trace.specs.declared.direction.Direction.TheVariants.{ToFilter, ToMta}
use Rattle.milter_trace.specs.declared.fault.TraceFault.{TraceFault}
use Rattle.milter_trace.specs.declared.fault.TraceFault.TheVariants.{BadLine, Packet, Truncated, ReadFault, WriteFault, TurnLimit, NoMemory}
use Rattle.milter_trace.specs.ParsedLine.{ParsedLine, Skipped, Bad, Carries, parsed_line}
use Rattle.milter_trace.specs.Trace.{Trace, prepend_text, end_trace, followed_by, continue_unless, empty_trace, fault_trace}
use Rattle.milter_trace.specs.TraceState.{ContinuesTrace, HasNoLf, TraceState, AppendsTrace, next_state, next_trace, trace_to_come, with_unread, trace_from, unread_in}
use Rattle.milter_trace.proofs.LineLaws.{LineEnd, begins, lines_of-ended, lines_of-last}
use Rattle.milter_trace.proofs.PacketLaws.{prepend_text-append}

-- a line ended, and what it prints has no fault
pub trace_to_come-ended : (text new begun prefix more : List ℕ) (h : TraceState) → HasNoLf (begun ++ prefix)
    → AppendsTrace (next_trace h (parsed_line (record { bytes = begun ++ prefix; ended = true }))) text new (Ok tt)
    → trace_to_come new (next_state h (parsed_line (record { bytes = begun ++ prefix; ended = true }))) [] more ≡ trace_to_come text h begun (prefix ++ 10 ∷ more)
trace_to_come-ended text new begun prefix more h none p =
    let parsed = parsed_line (record { bytes = begun ++ prefix; ended = true }) in
    let others = trace_from (next_state h parsed) (lines_of more) in
    let lines : lines_of (begun ++ (prefix ++ 10 ∷ more)) ≡ record { bytes = begun ++ prefix; ended = true } ∷ lines_of more =
    ap lines_of (sym (append_assoc begun prefix (10 ∷ more))) ∙ lines_of-ended (begun ++ prefix) more none in
    let all : trace_from h (lines_of (begun ++ (prefix ++ 10 ∷ more))) ≡ prepend_text (next_trace h parsed).text others =
    ap (trace_from h) lines ∙ ap (λ (f : Option TraceFault). continue_unless (next_trace h parsed).text f others) p.1 in
    ap (λ (x : List ℕ). prepend_text x others) p.0 ∙ prepend_text-append text (next_trace h parsed).text others ∙ ap (prepend_text text) (sym all)

-- a line ended with a fault
pub trace_to_come-fault : (text new begun prefix more : List ℕ) (h : TraceState) (fault : TraceFault) → HasNoLf (begun ++ prefix)
    → (new ≡ text ++ (next_trace h (parsed_line (record { bytes = begun ++ prefix; ended = true }))).text) × ((next_trace h (parsed_line (record { bytes = begun ++ prefix; ended = true }))).fault ≡ Some fault)
    → record { text = new; fault = Some fault } ≡ trace_to_come text h begun (prefix ++ 10 ∷ more)
trace_to_come-fault text new begun prefix more h fault none p =
    let parsed = parsed_line (record { bytes = begun ++ prefix; ended = true }) in
    let others = trace_from (next_state h parsed) (lines_of more) in
    let lines : lines_of (begun ++ (prefix ++ 10 ∷ more)) ≡ record { bytes = begun ++ prefix; ended = true } ∷ lines_of more =
    ap lines_of (sym (append_assoc begun prefix (10 ∷ more))) ∙ lines_of-ended (begun ++ prefix) more none in
    let all : trace_from h (lines_of (begun ++ (prefix ++ 10 ∷ more))) ≡ record { text = (next_trace h parsed).text; fault = Some fault } =
    ap (trace_from h) lines ∙ ap (λ (f : Option TraceFault). continue_unless (next_trace h parsed).text f others) p.1 in
    ap (λ (x : List ℕ). record { text = x; fault = Some fault }) p.0 ∙ ap (prepend_text text) (sym all)

-- a line ended with any fault that a call returns
pub ContinuesTrace-fault : (text new begun prefix more : List ℕ) (h : TraceState) (after : Trace) (fault : TraceFault) → HasNoLf (begun ++ prefix)
    → AppendsTrace (next_trace h (parsed_line (record { bytes = begun ++ prefix; ended = true }))) text new (Err fault) → ContinuesTrace (trace_to_come text h begun (prefix ++ 10 ∷ more)) after new (Err fault)
ContinuesTrace-fault text new begun prefix more h after (BadLine n) none p = trace_to_come-fault text new begun prefix more h (BadLine n) none p
ContinuesTrace-fault text new begun prefix more h after (Packet n d f) none p = trace_to_come-fault text new begun prefix more h (Packet n d f) none p
ContinuesTrace-fault text new begun prefix more h after (Truncated n m) none p = trace_to_come-fault text new begun prefix more h (Truncated n m) none p
ContinuesTrace-fault text new begun prefix more h after ReadFault none p = absurd p
ContinuesTrace-fault text new begun prefix more h after WriteFault none p = absurd p
ContinuesTrace-fault text new begun prefix more h after TurnLimit none p = absurd p
ContinuesTrace-fault text new begun prefix more h after NoMemory none p = tt

parsed_line-long : (line : Line) → 262144 < length line.bytes → parsed_line line ≡ Bad
parsed_line-long line lt = rw (lt-ltb 262144 (length line.bytes) lt) refl

long_lines : (h : TraceState) (line : Line) (lines : List Line) → 262144 < length line.bytes → trace_from h (line ∷ lines) ≡ fault_trace (BadLine (h.lines + 1))
long_lines h line lines lt =
    let bad = parsed_line-long line lt in
    ap (λ (e : ParsedLine). followed_by (next_trace h e) (trace_from (next_state h e) lines)) bad

-- the line that has begun is too long already
pub trace_to_come-long : (text begun more : List ℕ) (h : TraceState) → HasNoLf begun → 262144 < length begun
    → record { text = text; fault = Some (BadLine (h.lines + 1)) } ≡ trace_to_come text h begun more
trace_to_come-long text [] more h none long = absurd (omega arith)
trace_to_come-long text (b ∷ begun) more h none long =
    let r = begins b begun more none in
    let le = r.long in
    let stops : trace_from h (lines_of ((b ∷ begun) ++ more)) ≡ fault_trace (BadLine (h.lines + 1)) = ap (trace_from h) r.lines_are ∙ long_lines h r.line r.lines (omega (arith, le, long)) in
    ap (λ (x : List ℕ). record { text = x; fault = Some (BadLine (h.lines + 1)) }) (sym (append-nil text)) ∙ ap (prepend_text text) (sym stops)

-- a piece that ends no line
pub trace_to_come-begun : (text begun rest more : List ℕ) (h : TraceState) → trace_to_come text h (begun ++ rest) more ≡ trace_to_come text h begun (rest ++ more)
trace_to_come-begun text begun rest more h = ap (λ (x : List ℕ). prepend_text text (trace_from h (lines_of x))) (append_assoc begun rest more)

-- ---- a piece

pub ContinuesTrace-same : (before same after : Trace) (text : List ℕ) (r : Result Unit TraceFault) → before ≡ same → ContinuesTrace before after text r → ContinuesTrace same after text r
ContinuesTrace-same before same after text r e h = subst (λ (x : Trace). ContinuesTrace x after text r) e h

pub split_more : (rest more : List ℕ) (i : ℕ) → LineEnd rest i → rest ++ more ≡ take i rest ++ 10 ∷ (drop (i + 1) rest ++ more)
split_more rest more i e = ap (λ (x : List ℕ). x ++ more) e.split ∙ append_assoc (take i rest) (10 ∷ drop (i + 1) rest) more

-- the rest of a piece, in which no line ends
pub ContinuesTrace-rest : (text begun rest new more : List ℕ) (h : TraceState) (r : Result Unit TraceFault) → HasNoLf (begun ++ rest) → OnOk r (new ≡ begun ++ rest)
    → OnErr r ((r ≡ Err NoMemory) ⊎ ((r ≡ Err (BadLine (h.lines + 1))) × (262144 < length (begun ++ rest)))) → ContinuesTrace (trace_to_come text h begun (rest ++ more)) (trace_to_come text h new more) text r
ContinuesTrace-rest text begun rest new more h (Ok u) none ok err = ap (λ (x : List ℕ). trace_to_come text h x more) ok ∙ trace_to_come-begun text begun rest more h
ContinuesTrace-rest text begun rest new more h (Err fault) none ok err =
    let before = trace_to_come text h begun (rest ++ more) in
    let after = trace_to_come text h new more in
    elim err [
      | inl memory ↦ subst (λ (r : Result Unit TraceFault). ContinuesTrace before after text r) (sym memory) tt
      | inr long ↦ subst (λ (r : Result Unit TraceFault). ContinuesTrace before after text r) (sym long.0) (trace_to_come-long text (begun ++ rest) more h none long.1 ∙ trace_to_come-begun text begun rest more h)
    ]

-- ---- the end of the input

pub last_line : (begun : List ℕ) (h : TraceState) → HasNoLf begun → 0 < length begun
    → trace_from h (lines_of begun) ≡ followed_by (next_trace h (parsed_line (record { bytes = begun; ended = false }))) (trace_from (next_state h (parsed_line (record { bytes = begun; ended = false }))) [])
last_line [] h none some = absurd (omega arith)
last_line (b ∷ begun) h none some = ap (trace_from h) (lines_of-last b begun none)

-- what comes after a fault isn't printed
stops_there : (t more : Trace) (old new : List ℕ) (fault : TraceFault) → (new ≡ old ++ t.text) × (t.fault ≡ Some fault) → (new ≡ old ++ (followed_by t more).text) × ((followed_by t more).fault ≡ Some fault)
stops_there t more old new fault p =
    let stops : followed_by t more ≡ record { text = t.text; fault = Some fault } = ap (λ (f : Option TraceFault). continue_unless t.text f more) p.1 in
    (p.0 ∙ ap (λ (x : Trace). old ++ x.text) (sym stops), ap (λ (x : Trace). x.fault) stops)

pub AppendsTrace-fault_trace : (t more : Trace) (old new : List ℕ) (fault : TraceFault) → AppendsTrace t old new (Err fault) → AppendsTrace (followed_by t more) old new (Err fault)
AppendsTrace-fault_trace t more old new (BadLine n) p = stops_there t more old new (BadLine n) p
AppendsTrace-fault_trace t more old new (Packet n d f) p = stops_there t more old new (Packet n d f) p
AppendsTrace-fault_trace t more old new (Truncated n m) p = stops_there t more old new (Truncated n m) p
AppendsTrace-fault_trace t more old new ReadFault p = absurd p
AppendsTrace-fault_trace t more old new WriteFault p = absurd p
AppendsTrace-fault_trace t more old new TurnLimit p = absurd p
AppendsTrace-fault_trace t more old new NoMemory p = tt

-- the end, after a line that prints with no fault
goes_on_there : (t more : Trace) (old new : List ℕ) (fault : Option TraceFault) → (new ≡ old ++ t.text) × (t.fault ≡ None) → ([] ≡ [] ++ more.text) × (more.fault ≡ fault)
    → (new ≡ old ++ (followed_by t more).text) × ((followed_by t more).fault ≡ fault)
goes_on_there t more old new fault p q =
    let goes : followed_by t more ≡ record { text = t.text ++ more.text; fault = more.fault } = ap (λ (f : Option TraceFault). continue_unless t.text f more) p.1 in
    let text : t.text ++ more.text ≡ t.text = ap (λ (x : List ℕ). t.text ++ x) (sym q.0) ∙ append-nil t.text in
    (p.0 ∙ ap (λ (x : List ℕ). old ++ x) (sym text) ∙ ap (λ (x : Trace). old ++ x.text) (sym goes), ap (λ (x : Trace). x.fault) goes ∙ q.1)

pub AppendsTrace-end : (t more : Trace) (old new : List ℕ) (r : Result Unit TraceFault) → AppendsTrace t old new (Ok tt) → AppendsTrace more [] [] r → AppendsTrace (followed_by t more) old new r
AppendsTrace-end t more old new (Ok u) p q = goes_on_there t more old new None p q
AppendsTrace-end t more old new (Err (BadLine n)) p q = goes_on_there t more old new (Some (BadLine n)) p q
AppendsTrace-end t more old new (Err (Packet n d f)) p q = goes_on_there t more old new (Some (Packet n d f)) p q
AppendsTrace-end t more old new (Err (Truncated n m)) p q = goes_on_there t more old new (Some (Truncated n m)) p q
AppendsTrace-end t more old new (Err ReadFault) p q = absurd q
AppendsTrace-end t more old new (Err WriteFault) p q = absurd q
AppendsTrace-end t more old new (Err TurnLimit) p q = absurd q
AppendsTrace-end t more old new (Err NoMemory) p q = tt

-- the end, where no line has begun
pub AppendsTrace-at_once : (t : Trace) (text : List ℕ) (r : Result Unit TraceFault) → AppendsTrace t [] [] r → AppendsTrace t text text r
AppendsTrace-at_once t text r q = AppendsTrace-end empty_trace t text text r (sym (append-nil text), refl) q

pub ready_rest : (begun rest new : List ℕ) → HasNoLf begun → HasNoLf rest → new ≡ begun ++ rest → HasNoLf new
ready_rest begun rest new none last is = subst HasNoLf (sym is) (All-append (λ (b : ℕ). b ≢ 10) begun rest none last)

with_unread-lines : (h : TraceState) (d : Direction) (bytes : List ℕ) → (with_unread h d bytes).lines ≡ h.lines
with_unread-lines h ToFilter bytes = refl
with_unread-lines h ToMta bytes = refl

-- each line counts
pub next_state-lines : (h : TraceState) (e : ParsedLine) → (next_state h e).lines ≡ h.lines + 1
next_state-lines h Skipped = refl
next_state-lines h Bad = refl
next_state-lines h (Carries d bytes) = ap (λ (n : ℕ). n + 1) (with_unread-lines h d (divide (unread_in d h ++ bytes)).rest)

-- ---- the last line

abbrev last_entry : List ℕ → ParsedLine
last_entry bytes = parsed_line (record { bytes = bytes; ended = false })

some_bytes : (bytes : List ℕ) → (length bytes == 0) ≡ false → 0 < length bytes
some_bytes bytes h = let other = eqb-false (length bytes) 0 h in omega arith

pub last-fault : (begun last old new : List ℕ) (h : TraceState) (fault : TraceFault) (r : Result Unit TraceFault) → last ≡ begun → HasNoLf begun → (length last == 0) ≡ false → r ≡ Err fault
    → AppendsTrace (next_trace h (last_entry last)) old new (Err fault) → AppendsTrace (trace_from h (lines_of begun)) old new r
last-fault begun last old new h fault r same none some is p =
    let whole = last_line begun h none (some_bytes begun (ap (λ (x : List ℕ). length x == 0) (sym same) ∙ some)) in
    let parsed = last_entry begun in
    let shown = subst (λ (x : List ℕ). AppendsTrace (next_trace h (last_entry x)) old new (Err fault)) same p in
    let stops = AppendsTrace-fault_trace (next_trace h parsed) (trace_from (next_state h parsed) []) old new fault shown in
    subst (λ (s : Result Unit TraceFault). AppendsTrace (trace_from h (lines_of begun)) old new s) (sym is) (subst (λ (t : Trace). AppendsTrace t old new (Err fault)) (sym whole) stops)

pub last-end : (begun last old new : List ℕ) (h after : TraceState) (r : Result Unit TraceFault) → last ≡ begun → HasNoLf begun → (length last == 0) ≡ false → after ≡ next_state h (last_entry last)
    → AppendsTrace (next_trace h (last_entry last)) old new (Ok tt) → AppendsTrace (end_trace (length after.to_filter) (length after.to_mta)) [] [] r → AppendsTrace (trace_from h (lines_of begun)) old new r
last-end begun last old new h after r same none some is p q =
    let whole = last_line begun h none (some_bytes begun (ap (λ (x : List ℕ). length x == 0) (sym same) ∙ some)) in
    let parsed = last_entry begun in
    let shown = subst (λ (x : List ℕ). AppendsTrace (next_trace h (last_entry x)) old new (Ok tt)) same p in
    let state = is ∙ ap (λ (x : List ℕ). next_state h (last_entry x)) same in
    let ends = subst (λ (k : TraceState). AppendsTrace (end_trace (length k.to_filter) (length k.to_mta)) [] [] r) state q in
    subst (λ (t : Trace). AppendsTrace t old new r) (sym whole) (AppendsTrace-end (next_trace h parsed) (trace_from (next_state h parsed) []) old new r shown ends)

pub last-none : (begun last text : List ℕ) (h : TraceState) (r : Result Unit TraceFault) → last ≡ begun → (length last == 0) ≡ true
    → AppendsTrace (end_trace (length h.to_filter) (length h.to_mta)) [] [] r → AppendsTrace (trace_from h (lines_of begun)) text text r
last-none begun [] text h r same none q = subst (λ (x : List ℕ). AppendsTrace (trace_from h (lines_of x)) text text r) same (AppendsTrace-at_once (trace_from h []) text r q)
last-none begun (b ∷ last) text h r same none q = absurd (let zero = eqb-true (length (b ∷ last)) 0 none in omega arith)

-- ---- two facts of a call that answered

pub on_ok_both : (P Q : Type 0) (r : Result Unit TraceFault) → OnOk r P → OnOk r Q → OnOk r (P × Q)
on_ok_both P Q (Ok u) p q = (p, q)
on_ok_both P Q (Err e) p q = tt
