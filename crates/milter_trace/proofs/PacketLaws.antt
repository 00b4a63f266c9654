-- The packets of a line, printed one after the other.
use Rattle.std.proofs.Common.{◌≡◌, ◌≢◌, ℕ, List, [], ◌∷◌, ◌++◌, length, take, drop, Some, None, Result, Ok, Err, refl, sym, ap, subst, ◌∙◌, append_assoc, append-nil, arith}
use Rattle.milter_fields.specs.declared.fault.WireFault.{WireFault}
use Rattle.milter_fields.specs.declared.fault.WireFault.TheVariants.{ZeroLength, TooLong, UnknownCode, Malformed, Truncated, NoMemory}
use Rattle.milter_fields.specs.Stream.{Frame, Division, IsFrame, IsUnfinished, divide, frame_bytes, length_fault}
use Rattle.milter_fields.proofs.StreamLaws.{divide-fault, divide-handed, divide-unfinished, fed_on, length_fault-fed, length_fault-unfinished}
use Rattle.milter_trace.specs.declared.form.TraceForm.{TraceForm}
use Rattle.milter_trace.specs.declared.direction.Direction.{Direction}
use Rattle.milter_trace.specs.declared.fault.TraceFault.{TraceFault}
use Rattle.milter_trace.specs.declared.fault.TraceFault.TheVariants.{Packet}
use Rattle.milter_trace.specs.PacketText.{AppendsText, packet_text_in}
use Rattle.milter_trace.specs.Trace.{Trace, prepend_text, length_fault_trace, empty_trace, packet_trace, fault_trace}
use Rattle.milter_trace.specs.TraceState.{AppendsTrace, division_trace, packet_fault}

pub prepend_text-nil : (t : Trace) → prepend_text [] t ≡ t
prepend_text-nil t = refl

pub prepend_text-append : (a b : List ℕ) (t : Trace) → prepend_text (a ++ b) t ≡ prepend_text a (prepend_text b t)
prepend_text-append a b t = ap (λ (x : List ℕ). record { text = x; fault = t.fault }) (append_assoc a b t.text)

-- what is printed of what is left, after the text so far, is what is printed of all
pub record PrintProgress (form : TraceForm) (line : ℕ) (direction : Direction) (start : List ℕ) (whole : List ℕ) (text : List ℕ) (left : List ℕ) : Type 0 where
  pub appends : prepend_text text (division_trace form line direction (divide left)) ≡ prepend_text start (division_trace form line direction (divide whole))
  pub rest : (divide left).rest ≡ (divide whole).rest

abbrev GoesOn : TraceForm → ℕ → Direction → List ℕ → List ℕ → List ℕ → List ℕ → Type 0
GoesOn form line direction start whole text left = PrintProgress form line direction start whole text left

pub PrintProgress-state : (form : TraceForm) (line : ℕ) (direction : Direction) (start whole text unread piece new : List ℕ) (n : ℕ) → PrintProgress form line direction start whole text (unread ++ piece)
    → new ≡ unread ++ take n piece → PrintProgress form line direction start whole text (new ++ drop n piece)
PrintProgress-state form line direction start whole text unread piece new n p fed = subst (GoesOn form line direction start whole text) (sym (fed_on unread piece new n fed)) p

-- a packet was printed
pub PrintProgress-handed : (form : TraceForm) (line : ℕ) (direction : Direction) (start whole text unread piece new shown : List ℕ) (n : ℕ) (f : Frame) → PrintProgress form line direction start whole text (unread ++ piece)
    → new ≡ unread ++ take n piece → new ≡ frame_bytes f → IsFrame f → packet_text_in form direction f ≡ Ok shown → PrintProgress form line direction start whole (text ++ shown) (drop n piece)
PrintProgress-handed form line direction start whole text unread piece new shown n f p fed is fits shows =
    let d = divide-handed unread piece new n f fed is fits in
    let others = division_trace form line direction (divide (drop n piece)) in
    let first : division_trace form line direction (divide (unread ++ piece)) ≡ prepend_text shown others =
    ap (division_trace form line direction) d ∙ ap (λ (r : Result (List ℕ) WireFault). packet_trace line direction r others) shows in
    record {
      appends = prepend_text-append text shown others ∙ ap (prepend_text text) (sym first) ∙ p.appends;
      rest = ap (λ (x : Division). x.rest) (sym d) ∙ p.rest;
    }

-- a packet was at fault
pub PrintProgress-fault_trace : (form : TraceForm) (line : ℕ) (direction : Direction) (start whole text unread piece new : List ℕ) (n : ℕ) (f : Frame) (fault : WireFault) → PrintProgress form line direction start whole text (unread ++ piece)
    → new ≡ unread ++ take n piece → new ≡ frame_bytes f → IsFrame f → packet_text_in form direction f ≡ Err fault → prepend_text text (length_fault_trace line direction (Some fault)) ≡ prepend_text start (division_trace form line direction (divide whole))
PrintProgress-fault_trace form line direction start whole text unread piece new n f fault p fed is fits shows =
    let d = divide-handed unread piece new n f fed is fits in
    let others = division_trace form line direction (divide (drop n piece)) in
    let first : division_trace form line direction (divide (unread ++ piece)) ≡ length_fault_trace line direction (Some fault) =
    ap (division_trace form line direction) d ∙ ap (λ (r : Result (List ℕ) WireFault). packet_trace line direction r others) shows in
    ap (prepend_text text) (sym first) ∙ p.appends

-- a length was at fault
pub PrintProgress-fault : (form : TraceForm) (line : ℕ) (direction : Direction) (start whole text unread piece new : List ℕ) (n : ℕ) (fault : WireFault) → PrintProgress form line direction start whole text (unread ++ piece)
    → new ≡ unread ++ take n piece → length_fault new ≡ Some fault → prepend_text text (length_fault_trace line direction (Some fault)) ≡ prepend_text start (division_trace form line direction (divide whole))
PrintProgress-fault form line direction start whole text unread piece new n fault p fed h =
    let d = divide-fault unread piece new n fault fed h in
    let all = length_fault-fed unread piece new n fault fed h in
    let first : division_trace form line direction (divide (unread ++ piece)) ≡ length_fault_trace line direction (Some fault) =
    ap (division_trace form line direction) d ∙ ap (length_fault_trace line direction) all in
    ap (prepend_text text) (sym first) ∙ p.appends

-- a trace that stops after a text
pub stopped_is : (text start : List ℕ) (fault : TraceFault) (t : Trace) → prepend_text text (fault_trace fault) ≡ prepend_text start t → (text ≡ start ++ t.text) × (t.fault ≡ Some fault)
stopped_is text start fault t e = (sym (append-nil text) ∙ ap (λ (x : Trace). x.text) e, sym (ap (λ (x : Trace). x.fault) e))

-- a trace that ends after a text
pub nothing_is : (text start : List ℕ) (t : Trace) → prepend_text text empty_trace ≡ prepend_text start t → (text ≡ start ++ t.text) × (t.fault ≡ None)
nothing_is text start t e = (sym (append-nil text) ∙ ap (λ (x : Trace). x.text) e, sym (ap (λ (x : Trace). x.fault) e))

-- a fault of this line ends the trace
pub AppendsTrace-whole : (line : ℕ) (direction : Direction) (start text : List ℕ) (fault : WireFault) (t : Trace)
    → (fault ≢ NoMemory → prepend_text text (length_fault_trace line direction (Some fault)) ≡ prepend_text start t) → AppendsTrace t start text (Err (packet_fault line direction fault))
AppendsTrace-whole line direction start text ZeroLength t h = stopped_is text start (Packet line direction ZeroLength) t (h (λ e. cc))
AppendsTrace-whole line direction start text (TooLong n) t h = stopped_is text start (Packet line direction (TooLong n)) t (h (λ e. cc))
AppendsTrace-whole line direction start text (UnknownCode n) t h = stopped_is text start (Packet line direction (UnknownCode n)) t (h (λ e. cc))
AppendsTrace-whole line direction start text (Malformed n) t h = stopped_is text start (Packet line direction (Malformed n)) t (h (λ e. cc))
AppendsTrace-whole line direction start text (Truncated n) t h = stopped_is text start (Packet line direction (Truncated n)) t (h (λ e. cc))
AppendsTrace-whole line direction start text NoMemory t h = tt

-- the error of `put_packet` at a packet at fault
pub AppendsText-fault : (shown : Result (List ℕ) WireFault) (old new : List ℕ) (fault : WireFault) → AppendsText shown old new (Err fault) → fault ≢ NoMemory → (shown ≡ Err fault) × (new ≡ old)
AppendsText-fault shown old new ZeroLength h other = absurd h
AppendsText-fault shown old new (TooLong n) h other = absurd h
AppendsText-fault shown old new (UnknownCode n) h other = h
AppendsText-fault shown old new (Malformed n) h other = h
AppendsText-fault shown old new (Truncated n) h other = absurd h
AppendsText-fault shown old new NoMemory h other = absurd (other refl)

pub PrintProgress-end : (form : TraceForm) (line : ℕ) (direction : Direction) (start whole text unread piece : List ℕ) → PrintProgress form line direction start whole text (unread ++ piece) → length piece ≡ 0 → IsUnfinished unread
    → AppendsTrace (division_trace form line direction (divide whole)) start text (Ok tt) × (unread ≡ (divide whole).rest)
PrintProgress-end form line direction start whole text unread [] p empty u =
    let d = ap divide (append-nil unread) ∙ divide-unfinished unread u in
    let last : division_trace form line direction (divide (unread ++ [])) ≡ empty_trace = ap (division_trace form line direction) d ∙ ap (length_fault_trace line direction) (length_fault-unfinished unread u) in (
      nothing_is text start (division_trace form line direction (divide whole)) (ap (prepend_text text) (sym last) ∙ p.appends),
      sym (ap (λ (x : Division). x.rest) d) ∙ p.rest,
    )
PrintProgress-end form line direction start whole text unread (b ∷ piece) p empty u = absurd (omega arith)
