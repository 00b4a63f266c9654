-- The packet that bytes begin with.
use Rattle.std.proofs.Common.{◌≡◌, ℕ, ◌+◌, ◌-◌, ◌<◌, ◌≤◌, Bool, true, false, List, [], ◌∷◌, ◌++◌, length, take, drop, Option, Some, None, refl, sym, ap, ◌∙◌, inl, inr, arith, length-append, length-drop}
use Rattle.std.specs.Prelude.{nat_le, nat_lt, is_none, ◌&&◌, ◌==◌, if◌then◌else◌}
use Rattle.std.proofs.lemmas.Bool.{and_parts, cases_lt, ltb-false, leb-true, le-leb, lt-leb, eqb-false, ne_eqb, le-ltb}
use Rattle.std.proofs.lemmas.Option.{cond_some, none-some}
use Rattle.std.proofs.lemmas.List.{take_at, drop_at, take-append-le, drop-append-le}
use Rattle.milter_fields.specs.declared.fault.WireFault.{WireFault}
use Rattle.milter_fields.specs.declared.fault.WireFault.TheVariants.{ZeroLength, TooLong}
use Rattle.milter_fields.specs.Number.{number_from_bytes}
use Rattle.milter_fields.specs.Stream.{Frame, frame_bytes, IsFrame, fault_of, IsRest, first_frame}
use Rattle.milter_fields.proofs.Numbers.{FourBytes, four_bytes}

-- ---- lengths

pub fault_of-valid : (n : ℕ) → 0 < n → n ≤ 65536 → fault_of n ≡ None
fault_of-valid n low high =
    let some : (n == 0) ≡ false = ne_eqb n 0 (λ e. omega arith) in
    let fits : nat_lt 65536 n ≡ false = le-ltb 65536 n high in
    rw (some, fits) refl

pub record IsValidLength (n : ℕ) : Type 0 where
  pub some : 0 < n
  pub fits : n ≤ 65536

valid_cases : (n : ℕ) (zero_length too_long : Bool) → (n == 0) ≡ zero_length → nat_lt 65536 n ≡ too_long
    → (if zero_length then Some ZeroLength else if too_long then Some (TooLong n) else None) ≡ None → IsValidLength n
valid_cases n true too_long z l h = absurd cc
valid_cases n false true z l h = absurd cc
valid_cases n false false z l h =
    let some = eqb-false n 0 z in
    let fits = ltb-false 65536 n l in
    record { some = omega arith; fits = omega arith }

pub fault_of-none : (n : ℕ) → fault_of n ≡ None → IsValidLength n
fault_of-none n h = valid_cases n (n == 0) (nat_lt 65536 n) refl refl h

-- ---- a packet at the start

pub first_frame-cells : (a b c d code : ℕ) (body : List ℕ) → fault_of (number_from_bytes a b c d) ≡ None → number_from_bytes a b c d ≤ length body + 1
    → first_frame (a ∷ b ∷ c ∷ d ∷ code ∷ body) ≡ Some (record { code = code; payload = take (number_from_bytes a b c d - 1) body }, drop (number_from_bytes a b c d - 1) body)
unfolding first_frame
first_frame-cells a b c d code body valid le = rw (valid, le-leb (number_from_bytes a b c d) (length body + 1) le) refl

packet_cells : (f : Frame) (more : List ℕ) (k : FourBytes (length f.payload + 1)) → frame_bytes f ++ more ≡ k.a ∷ k.b ∷ k.c ∷ k.d ∷ f.code ∷ (f.payload ++ more)
packet_cells f more k = rw k.encoded refl

pub first_frame-packet : (f : Frame) (more : List ℕ) → IsFrame f → first_frame (frame_bytes f ++ more) ≡ Some (f, more)
first_frame-packet f more fits =
    let k = four_bytes (length f.payload + 1) (omega arith) in
    let valid : fault_of (number_from_bytes k.a k.b k.c k.d) ≡ None = ap fault_of k.value ∙ fault_of-valid (length f.payload + 1) (omega arith) (omega arith) in
    let le : number_from_bytes k.a k.b k.c k.d ≤ length (f.payload ++ more) + 1 = omega (arith, k.value, length-append f.payload more) in
    let n : number_from_bytes k.a k.b k.c k.d - 1 ≡ length f.payload = omega (arith, k.value) in
    let first : take (number_from_bytes k.a k.b k.c k.d - 1) (f.payload ++ more) ≡ f.payload = take_at f.payload more _ (sym n) in
    let rest : drop (number_from_bytes k.a k.b k.c k.d - 1) (f.payload ++ more) ≡ more = drop_at f.payload more _ (sym n) in
    ap first_frame (packet_cells f more k) ∙ first_frame-cells k.a k.b k.c k.d f.code (f.payload ++ more) valid le ∙ rw (first, rest) refl

-- what follows of bytes that begin with a packet
pub record Begins (a b c d code : ℕ) (body : List ℕ) (f : Frame) (more : List ℕ) : Type 0 where
  pub valid : IsValidLength (number_from_bytes a b c d)
  pub code_is : code ≡ f.code
  pub payload_is : take (number_from_bytes a b c d - 1) body ≡ f.payload
  pub more_is : drop (number_from_bytes a b c d - 1) body ≡ more
  pub whole : number_from_bytes a b c d ≤ length body + 1

is_none-none : {A : Type 0} (o : Option A) → is_none o ≡ true → o ≡ None
is_none-none None h = refl
is_none-none (Some x) h = absurd cc

pub begins : (a b c d code : ℕ) (body : List ℕ) (f : Frame) (more : List ℕ) → first_frame (a ∷ b ∷ c ∷ d ∷ code ∷ body) ≡ Some (f, more) → Begins a b c d code body f more
unfolding first_frame
begins a b c d code body f more h =
    let n = number_from_bytes a b c d in
    let p = cond_some (is_none (fault_of n) && nat_le n (length body + 1)) (record { code = code; payload = take (n - 1) body }, drop (n - 1) body) (f, more) h in
    let t = and_parts (is_none (fault_of n)) (nat_le n (length body + 1)) p.0 in
    record {
      valid = fault_of-none n (is_none-none (fault_of n) t.0);
      code_is = ap (λ (x : Frame × List ℕ). x.0.code) p.1;
      payload_is = ap (λ (x : Frame × List ℕ). x.0.payload) p.1;
      more_is = ap (λ (x : Frame × List ℕ). x.1) p.1;
      whole = leb-true n (length body + 1) t.1;
    }

pub first_frame-shorter : (bytes : List ℕ) (f : Frame) (more : List ℕ) → first_frame bytes ≡ Some (f, more) → length more < length bytes
unfolding first_frame
first_frame-shorter (a ∷ b ∷ c ∷ d ∷ code ∷ body) f more h =
    let p = begins a b c d code body f more h in
    let e = ap length p.more_is in
    omega (arith, e, length-drop (number_from_bytes a b c d - 1) body)
first_frame-shorter [] f more h = absurd cc
first_frame-shorter (a ∷ []) f more h = absurd cc
first_frame-shorter (a ∷ b ∷ []) f more h = absurd cc
first_frame-shorter (a ∷ b ∷ c ∷ []) f more h = absurd cc
first_frame-shorter (a ∷ b ∷ c ∷ d ∷ []) f more h = absurd cc

-- what follows doesn't change the first packet
pub first_frame-append : (bytes more : List ℕ) (f : Frame) (rest : List ℕ) → first_frame bytes ≡ Some (f, rest) → first_frame (bytes ++ more) ≡ Some (f, rest ++ more)
unfolding first_frame
first_frame-append (a ∷ b ∷ c ∷ d ∷ code ∷ body) more f rest h =
    let p = begins a b c d code body f rest h in
    let n = number_from_bytes a b c d in
    let valid = fault_of-valid n p.valid.some p.valid.fits in
    let short : n - 1 ≤ length body = omega (arith, p.whole) in
    let le : n ≤ length (body ++ more) + 1 = omega (arith, p.whole, length-append body more) in
    let first : take (n - 1) (body ++ more) ≡ f.payload = take-append-le (n - 1) body more short ∙ p.payload_is in
    let after : drop (n - 1) (body ++ more) ≡ rest ++ more = drop-append-le (n - 1) body more short ∙ ap (λ (x : List ℕ). x ++ more) p.more_is in
    first_frame-cells a b c d code (body ++ more) valid le ∙ rw (first, after, p.code_is) refl
first_frame-append [] more f rest h = absurd cc
first_frame-append (a ∷ []) more f rest h = absurd cc
first_frame-append (a ∷ b ∷ []) more f rest h = absurd cc
first_frame-append (a ∷ b ∷ c ∷ []) more f rest h = absurd cc
first_frame-append (a ∷ b ∷ c ∷ d ∷ []) more f rest h = absurd cc

-- ---- no packet at the start

no_frame : {A : Type 0} (fault : Option WireFault) (stated len : ℕ) (x : A) → (fault ≡ None → len < stated) → (if is_none fault && nat_le stated len then Some x else None) ≡ None
no_frame None stated len x h = rw (lt-leb stated len (h refl)) refl
no_frame (Some f) stated len x h = refl

too_few : {A : Type 0} (fault : Option WireFault) (stated len : ℕ) (x : A) → (if is_none fault && nat_le stated len then Some x else None) ≡ None → fault ≡ None → len < stated
too_few None stated len x h valid =
    elim (cases_lt len stated) [
      | inl lt ↦ lt
      | inr le ↦ absurd (none-some x (sym h ∙ rw (le-leb stated len le) refl))
    ]
too_few (Some f) stated len x h valid = absurd cc

pub first_frame-rest : (bytes : List ℕ) → IsRest bytes → first_frame bytes ≡ None
unfolding first_frame
first_frame-rest (a ∷ b ∷ c ∷ d ∷ code ∷ body) h =
    let n = number_from_bytes a b c d in
    no_frame (fault_of n) n (length body + 1) (record { code = code; payload = take (n - 1) body }, drop (n - 1) body) (λ valid. let lt = h valid in omega (arith, lt))
first_frame-rest [] h = refl
first_frame-rest (a ∷ []) h = refl
first_frame-rest (a ∷ b ∷ []) h = refl
first_frame-rest (a ∷ b ∷ c ∷ []) h = refl
first_frame-rest (a ∷ b ∷ c ∷ d ∷ []) h = refl

pub rest_from_none : (bytes : List ℕ) → first_frame bytes ≡ None → IsRest bytes
unfolding first_frame
rest_from_none (a ∷ b ∷ c ∷ d ∷ code ∷ body) h = λ valid.
    let n = number_from_bytes a b c d in
    let lt = too_few (fault_of n) n (length body + 1) (record { code = code; payload = take (n - 1) body }, drop (n - 1) body) h valid in
    omega (arith, lt)
rest_from_none [] h = tt
rest_from_none (a ∷ []) h = tt
rest_from_none (a ∷ b ∷ []) h = tt
rest_from_none (a ∷ b ∷ c ∷ []) h = tt
rest_from_none (a ∷ b ∷ c ∷ d ∷ []) h = λ valid. let s = fault_of-none (number_from_bytes a b c d) valid in s.some
