-- The division of a stream: it exists, there is one only, and it goes on as the stream does.
use Rattle.std.proofs.Common.{◌≡◌, ℕ, zero, suc, ◌+◌, ◌-◌, ◌<◌, ◌≤◌, ◌^◌, List, [], ◌∷◌, ◌++◌, length, take, All, Option, Some, None, refl, sym, ap, subst, ◌∙◌, arith, append_assoc, take-append-drop}
use Rattle.std.specs.List.{flat_map}
use Rattle.std.proofs.lemmas.List.{length-take}
use Rattle.std.proofs.lemmas.List.Elements.{All-nil, All-cons, All-head, All-tail, All-drop}
use Rattle.milter_fields.specs.Number.{number}
use Rattle.milter_fields.specs.Number.{IsBytes, number_from_bytes}
use Rattle.milter_fields.specs.Stream.{Frame, Division, Divides, with_frame, frame_bytes, IsFrame, IsRest, first_frame, divide_in, divide}
use Rattle.milter_fields.proofs.Numbers.{number-number_from_bytes}
use Rattle.milter_fields.proofs.Frames.{begins, first_frame-append, first_frame-packet, first_frame-rest, first_frame-shorter, rest_from_none}

abbrev only_rest : List ℕ → Division
only_rest bytes = record { frames = []; rest = bytes }

-- ---- turns

divide_in-none : (turns : ℕ) (bytes : List ℕ) → first_frame bytes ≡ None → divide_in turns bytes ≡ only_rest bytes
unfolding divide_in
divide_in-none zero bytes h = refl
divide_in-none (suc turns) bytes h = rw h refl

-- a first packet, or none
pub record First (bytes : List ℕ) : Type 0 where
  pub frame : Frame
  pub more : List ℕ
  pub is : first_frame bytes ≡ Some (frame, more)

data FirstOrNone (bytes : List ℕ) : Type 0 where
  packet_first : First bytes → FirstOrNone bytes
  no_packet : first_frame bytes ≡ None → FirstOrNone bytes

first_or_none_by : (bytes : List ℕ) (o : Option (Frame × List ℕ)) → first_frame bytes ≡ o → FirstOrNone bytes
first_or_none_by bytes None h = no_packet h
first_or_none_by bytes (Some x) h = packet_first record { frame = x.0; more = x.1; is = h }

first_or_none : (bytes : List ℕ) → FirstOrNone bytes
first_or_none bytes = first_or_none_by bytes (first_frame bytes) refl

divide_in-first : (turns : ℕ) (bytes : List ℕ) (f : First bytes) → divide_in (suc turns) bytes ≡ with_frame f.frame (divide_in turns f.more)
unfolding divide_in
divide_in-first turns bytes f = rw f.is refl

-- as many turns as there are bytes are enough
enough : (m n : ℕ) (bytes : List ℕ) → length bytes ≤ m → length bytes ≤ n → divide_in m bytes ≡ divide_in n bytes
unfolding divide_in
enough zero zero bytes h k = refl
enough zero (suc n) [] h k = sym (divide_in-none (suc n) [] (first_frame-rest [] tt))
enough zero (suc n) (b ∷ bytes) h k = absurd (omega arith)
enough (suc m) zero [] h k = divide_in-none (suc m) [] (first_frame-rest [] tt)
enough (suc m) zero (b ∷ bytes) h k = absurd (omega arith)
enough (suc m) (suc n) bytes h k =
    elim (first_or_none bytes) [
      | packet_first f ↦
          let shorter = first_frame-shorter bytes f.frame f.more f.is in
          divide_in-first m bytes f ∙ ap (with_frame f.frame) (enough m n f.more (omega arith) (omega arith)) ∙ sym (divide_in-first n bytes f)
      | no_packet none ↦ divide_in-none (suc m) bytes none ∙ sym (divide_in-none (suc n) bytes none)
    ]

-- ---- a step of the division

pub divide-none : (bytes : List ℕ) → first_frame bytes ≡ None → divide bytes ≡ only_rest bytes
unfolding divide
divide-none bytes h = divide_in-none (length bytes) bytes h

pub divide-first : (bytes : List ℕ) (f : Frame) (more : List ℕ) → first_frame bytes ≡ Some (f, more) → divide bytes ≡ with_frame f (divide more)
unfolding divide
divide-first bytes f more h =
    let shorter = first_frame-shorter bytes f more h in
    let first : First bytes = record { frame = f; more = more; is = h } in
    enough (length bytes) (suc (length bytes)) bytes (omega arith) (omega arith)
    ∙ divide_in-first (length bytes) bytes first
    ∙ ap (with_frame f) (enough (length bytes) (length more) more (omega arith) (omega arith))

-- ---- a stream that goes on

abbrev joined : Division → Division → Division
joined d e = record { frames = d.frames ++ e.frames; rest = e.rest }

goes_on_in : (turns : ℕ) (bytes more : List ℕ) → length bytes ≤ turns → divide (bytes ++ more) ≡ joined (divide bytes) (divide ((divide bytes).rest ++ more))
goes_on_in zero [] more h = rw (divide-none [] (first_frame-rest [] tt)) refl
goes_on_in zero (b ∷ bytes) more h = absurd (omega arith)
goes_on_in (suc turns) bytes more h =
    elim (first_or_none bytes) [
      | packet_first f ↦
          let shorter = first_frame-shorter bytes f.frame f.more f.is in
          let whole = divide-first (bytes ++ more) f.frame (f.more ++ more) (first_frame-append bytes more f.frame f.more f.is) in
          let first = divide-first bytes f.frame f.more f.is in
          whole ∙ ap (with_frame f.frame) (goes_on_in turns f.more more (omega arith)) ∙ rw first refl
      | no_packet none ↦ rw (divide-none bytes none) refl
    ]

pub divide-append : (bytes more : List ℕ) → divide (bytes ++ more) ≡ record { frames = (divide bytes).frames ++ (divide ((divide bytes).rest ++ more)).frames; rest = (divide ((divide bytes).rest ++ more)).rest }
divide-append bytes more = goes_on_in (length bytes) bytes more (omega arith)

-- ---- there is one division only

pub divide-is : (bytes rest : List ℕ) (frames : List Frame) → bytes ≡ flat_map frame_bytes frames ++ rest → All IsFrame frames → IsRest rest
    → divide bytes ≡ record { frames = frames; rest = rest }
divide-is bytes rest [] is fit last = ap divide is ∙ divide-none rest (first_frame-rest rest last)
divide-is bytes rest (f ∷ frames) is fit last =
    let split : bytes ≡ frame_bytes f ++ (flat_map frame_bytes frames ++ rest) = is ∙ append_assoc (frame_bytes f) (flat_map frame_bytes frames) rest in
    let more = flat_map frame_bytes frames ++ rest in
    ap divide split
    ∙ divide-first (frame_bytes f ++ more) f more (first_frame-packet f more (All-head IsFrame f frames fit))
    ∙ ap (with_frame f) (divide-is more rest frames refl (All-tail IsFrame f frames fit) last)

pub Divides-divide : (bytes rest : List ℕ) (frames : List Frame) → Divides bytes frames rest → divide bytes ≡ record { frames = frames; rest = rest }
Divides-divide bytes rest frames d = divide-is bytes rest frames d.bytes_are d.frames_fit d.rest_is

-- ---- there is a division

record FirstOf (bytes : List ℕ) (f : Frame) (more : List ℕ) : Type 0 where
  bytes_are : bytes ≡ frame_bytes f ++ more
  fits : IsFrame f
  more_bytes : IsBytes more

first_of : (a b c d code : ℕ) (body : List ℕ) (f : Frame) (more : List ℕ) → IsBytes (a ∷ b ∷ c ∷ d ∷ code ∷ body) → first_frame (a ∷ b ∷ c ∷ d ∷ code ∷ body) ≡ Some (f, more)
    → FirstOf (a ∷ b ∷ c ∷ d ∷ code ∷ body) f more
first_of a b c d code body f more bytes h =
    let P : ℕ → Type 0 = λ x. x < 2 ^ 8 in
    let n = number_from_bytes a b c d in
    let p = begins a b c d code body f more h in
    let after_a = All-tail P a (b ∷ c ∷ d ∷ code ∷ body) bytes in
    let after_b = All-tail P b (c ∷ d ∷ code ∷ body) after_a in
    let after_c = All-tail P c (d ∷ code ∷ body) after_b in
    let after_d = All-tail P d (code ∷ body) after_c in
    let len : length f.payload + 1 ≡ n = omega (arith, ap length p.payload_is, length-take (n - 1) body, p.whole, p.valid.some) in
    let field : number (length f.payload + 1) ≡ a ∷ b ∷ c ∷ d ∷ [] =
    ap number len ∙ number-number_from_bytes a b c d (All-head P a (b ∷ c ∷ d ∷ code ∷ body) bytes) (All-head P b (c ∷ d ∷ code ∷ body) after_a) (All-head P c (d ∷ code ∷ body) after_b) (All-head P d (code ∷ body) after_c) in
    let body_is : f.payload ++ more ≡ body =
    ap (λ (x : List ℕ). x ++ more) (sym p.payload_is) ∙ ap (λ (x : List ℕ). take (n - 1) body ++ x) (sym p.more_is) ∙ take-append-drop (n - 1) body in
    let encoded : frame_bytes f ++ more ≡ a ∷ b ∷ c ∷ d ∷ code ∷ body =
    ap (λ (x : List ℕ). (x ++ f.code ∷ f.payload) ++ more) field ∙ ap (λ (x : List ℕ). a ∷ b ∷ c ∷ d ∷ f.code ∷ x) body_is ∙ ap (λ (x : ℕ). a ∷ b ∷ c ∷ d ∷ x ∷ body) (sym p.code_is) in
    record {
      bytes_are = sym encoded;
      fits = omega (arith, len, p.valid.fits);
      more_bytes = subst IsBytes p.more_is (All-drop P (n - 1) body (All-tail P code body after_d));
    }

first_is : (bytes : List ℕ) (f : Frame) (more : List ℕ) → IsBytes bytes → first_frame bytes ≡ Some (f, more) → FirstOf bytes f more
unfolding first_frame
first_is (a ∷ b ∷ c ∷ d ∷ code ∷ body) f more bytes h = first_of a b c d code body f more bytes h
first_is [] f more bytes h = absurd cc
first_is (a ∷ []) f more bytes h = absurd cc
first_is (a ∷ b ∷ []) f more bytes h = absurd cc
first_is (a ∷ b ∷ c ∷ []) f more bytes h = absurd cc
first_is (a ∷ b ∷ c ∷ d ∷ []) f more bytes h = absurd cc

no_packet_divides : (bytes : List ℕ) → first_frame bytes ≡ None → Divides bytes [] bytes
no_packet_divides bytes none = record { bytes_are = refl; frames_fit = All-nil IsFrame; rest_is = rest_from_none bytes none }

packet_divides : (bytes more : List ℕ) (f : Frame) (d : Division) → FirstOf bytes f more → Divides more d.frames d.rest → Divides bytes (f ∷ d.frames) d.rest
packet_divides bytes more f d first others = record {
  bytes_are = first.bytes_are ∙ ap (λ (x : List ℕ). frame_bytes f ++ x) others.bytes_are ∙ sym (append_assoc (frame_bytes f) (flat_map frame_bytes d.frames) d.rest);
  frames_fit = All-cons IsFrame f d.frames first.fits others.frames_fit;
  rest_is = others.rest_is;
}

abbrev IsDivision : List ℕ → Division → Type 0
IsDivision bytes d = Divides bytes d.frames d.rest

divides_in : (turns : ℕ) (bytes : List ℕ) → length bytes ≤ turns → IsBytes bytes → IsDivision bytes (divide bytes)
divides_in zero [] h b = subst (IsDivision []) (sym (divide-none [] (first_frame-rest [] tt))) (no_packet_divides [] (first_frame-rest [] tt))
divides_in zero (x ∷ bytes) h b = absurd (omega arith)
divides_in (suc turns) bytes h b =
    elim (first_or_none bytes) [
      | packet_first f ↦
          let first = first_is bytes f.frame f.more b f.is in
          let shorter = first_frame-shorter bytes f.frame f.more f.is in
          subst (IsDivision bytes) (sym (divide-first bytes f.frame f.more f.is))
          (packet_divides bytes f.more f.frame (divide f.more) first (divides_in turns f.more (omega arith) first.more_bytes))
      | no_packet none ↦ subst (IsDivision bytes) (sym (divide-none bytes none)) (no_packet_divides bytes none)
    ]

pub divides : (bytes : List ℕ) → IsBytes bytes → Divides bytes (divide bytes).frames (divide bytes).rest
divides bytes b = divides_in (length bytes) bytes (omega arith) b
