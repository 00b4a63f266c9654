-- What is kept between two lines is enough: the trace of whole streams and the trace under way are one.
use Rattle.std.proofs.Common.{◌≡◌, ℕ, ◌+◌, List, [], ◌∷◌, ◌++◌, length, drop, Option, refl, sym, ap, ◌∙◌, append-nil, length-append}
use Rattle.std.proofs.lemmas.List.{drop_at}
use Rattle.std.proofs.lemmas.List.Concat.{flat_map-append}
use Rattle.milter_fields.specs.declared.fault.WireFault.{WireFault}
use Rattle.milter_fields.specs.Stream.{Division, Frame, divide, length_fault}
use Rattle.milter_fields.proofs.StreamLaws.{divide-append, divide-nil}
use Rattle.milter_text.specs.Lines.{Line, lines_of}
use Rattle.milter_trace.specs.declared.form.TraceForm.{TraceForm}
use Rattle.milter_trace.specs.declared.direction.Direction.{Direction}
use Rattle.milter_trace.specs.declared.direction.Direction.TheVariants.{ToFilter, ToMta}
use Rattle.milter_trace.specs.ParsedLine.{ParsedLine, Skipped, Bad, Carries, parsed_line}
use Rattle.milter_trace.specs.Trace.{Trace, line_bytes, followed_by, unread_after, new_fault, new_packets, packets_trace, line_trace, stream, trace_after, trace_in}
use Rattle.milter_trace.specs.TraceState.{TraceState, next_state, division_trace, next_trace, initial_state, trace_from, unread_in}

-- the state after these lines
state_after : TraceForm → List Line → TraceState
state_after form before = record { form = form; lines = length before; to_filter = unread_after ToFilter before; to_mta = unread_after ToMta before }

unread_in-state_after : (form : TraceForm) (d : Direction) (before : List Line) → unread_in d (state_after form before) ≡ unread_after d before
unfolding state_after
unread_in-state_after form ToFilter before = refl
unread_in-state_after form ToMta before = refl

new_packets-is : (before : List Line) (d : Direction) (bytes : List ℕ) → new_packets before d bytes ≡ (divide (unread_after d before ++ bytes)).frames
new_packets-is before d bytes =
    let s = stream d before in
    let old = (divide s).frames in
    ap (λ (x : Division). drop (length old) x.frames) (divide-append s bytes) ∙ drop_at old (divide (unread_after d before ++ bytes)).frames (length old) refl

new_fault-is : (before : List Line) (d : Direction) (bytes : List ℕ) → new_fault before d bytes ≡ length_fault (divide (unread_after d before ++ bytes)).rest
new_fault-is before d bytes = ap (λ (x : Division). length_fault x.rest) (divide-append (stream d before) bytes)

print_is : (form : TraceForm) (before : List Line) (e : ParsedLine) → next_trace (state_after form before) e ≡ line_trace form before e
unfolding state_after
print_is form before Skipped = refl
print_is form before Bad = refl
print_is form before (Carries d bytes) =
    let n = length before + 1 in
    ap (λ (x : List ℕ). division_trace form n d (divide (x ++ bytes))) (unread_in-state_after form d before)
    ∙ ap (λ (x : List Frame). packets_trace form n d x (length_fault (divide (unread_after d before ++ bytes)).rest)) (sym (new_packets-is before d bytes))
    ∙ ap (λ (x : Option WireFault). packets_trace form n d (new_packets before d bytes) x) (sym (new_fault-is before d bytes))

-- ---- one line more

stream_more : (d : Direction) (before : List Line) (line : Line) → stream d (before ++ line ∷ []) ≡ stream d before ++ line_bytes d (parsed_line line)
stream_more d before line =
    flat_map-append (λ (x : Line). line_bytes d (parsed_line x)) before (line ∷ []) ∙ ap (λ (x : List ℕ). stream d before ++ x) (append-nil (line_bytes d (parsed_line line)))

-- what is left, of a stream that goes on by these bytes
left_more : (d : Direction) (before : List Line) (line : Line) (bytes : List ℕ) → line_bytes d (parsed_line line) ≡ bytes → unread_after d (before ++ line ∷ []) ≡ (divide (unread_after d before ++ bytes)).rest
left_more d before line bytes is =
    ap (λ (x : List ℕ). (divide x).rest) (stream_more d before line ∙ ap (λ (x : List ℕ). stream d before ++ x) is) ∙ ap (λ (x : Division). x.rest) (divide-append (stream d before) bytes)

left_same : (d : Direction) (before : List Line) (line : Line) → line_bytes d (parsed_line line) ≡ [] → unread_after d (before ++ line ∷ []) ≡ unread_after d before
left_same d before line is =
    ap (λ (x : List ℕ). (divide x).rest) (stream_more d before line ∙ ap (λ (x : List ℕ). stream d before ++ x) is ∙ append-nil (stream d before))

made : TraceForm → ℕ → List ℕ → List ℕ → TraceState
made form n f m = record { form = form; lines = n; to_filter = f; to_mta = m }

three : (form : TraceForm) (n k : ℕ) (f g m o : List ℕ) → n ≡ k → f ≡ g → m ≡ o → made form n f m ≡ made form k g o
three form n k f g m o a b c = rw (a, b, c) refl

next_state-line : (form : TraceForm) (before : List Line) (line : Line) (e : ParsedLine) → parsed_line line ≡ e → next_state (state_after form before) e ≡ state_after form (before ++ line ∷ [])
unfolding state_after made
next_state-line form before line Skipped is =
    three form _ _ _ _ _ _ (sym (length-append before (line ∷ []))) (sym (left_same ToFilter before line (ap (line_bytes ToFilter) is))) (sym (left_same ToMta before line (ap (line_bytes ToMta) is)))
next_state-line form before line Bad is =
    three form _ _ _ _ _ _ (sym (length-append before (line ∷ []))) (sym (left_same ToFilter before line (ap (line_bytes ToFilter) is))) (sym (left_same ToMta before line (ap (line_bytes ToMta) is)))
next_state-line form before line (Carries ToFilter bytes) is =
    three form _ _ _ _ _ _ (sym (length-append before (line ∷ []))) (sym (left_more ToFilter before line bytes (ap (line_bytes ToFilter) is))) (sym (left_same ToMta before line (ap (line_bytes ToMta) is)))
next_state-line form before line (Carries ToMta bytes) is =
    three form _ _ _ _ _ _ (sym (length-append before (line ∷ []))) (sym (left_same ToFilter before line (ap (line_bytes ToFilter) is))) (sym (left_more ToMta before line bytes (ap (line_bytes ToMta) is)))

trace_is : (form : TraceForm) (before lines : List Line) → trace_from (state_after form before) lines ≡ trace_after form before lines
unfolding state_after
trace_is form before [] = refl
trace_is form before (line ∷ lines) =
    let e = parsed_line line in
    ap (λ (x : Trace). followed_by x (trace_from (next_state (state_after form before) e) lines)) (print_is form before e)
    ∙ ap (λ (h : TraceState). followed_by (line_trace form before e) (trace_from h lines)) (next_state-line form before line e refl)
    ∙ ap (followed_by (line_trace form before e)) (trace_is form (before ++ line ∷ []) lines)

state_after-none : (form : TraceForm) → state_after form [] ≡ initial_state form
unfolding state_after
state_after-none form = ap (λ (d : Division). record { form = form; lines = 0; to_filter = d.rest; to_mta = d.rest }) divide-nil

pub trace_from-initial_state : (form : TraceForm) (input : List ℕ) → trace_from (initial_state form) (lines_of input) ≡ trace_in form input
trace_from-initial_state form input = ap (λ (h : TraceState). trace_from h (lines_of input)) (sym (state_after-none form)) ∙ trace_is form [] (lines_of input)
