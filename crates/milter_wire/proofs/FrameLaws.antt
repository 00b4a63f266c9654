-- What is encoded is read back, and a stream of encodings divides into their frames.
use Rattle.std.proofs.Common.{◌≡◌, ◌≢◌, ℕ, ◌+◌, Bool, true, false, List, [], ◌∷◌, ◌++◌, length, All, Option, None, Some, Result, Ok, Err, refl, sym, ap, ◌∙◌, inl, inr, append_assoc, length-append}
use Rattle.std.specs.Prelude.{◌==◌, ◌||◌, if◌then◌else◌, map}
use Rattle.std.specs.List.{flat_map, sum_by}
use Rattle.std.proofs.lemmas.Bool.{eqb-true, eq-eqb}
use Rattle.std.proofs.lemmas.List.{take_at, drop_at}
use Rattle.std.proofs.lemmas.List.Sums.{sum_by-cons}
use Rattle.std.proofs.lemmas.List.Elements.{All-nil, All-cons, All-head, All-tail}
use Rattle.milter_fields.specs.declared.fault.WireFault.{WireFault}
use Rattle.milter_fields.specs.declared.fault.WireFault.TheVariants.{ZeroLength, TooLong, UnknownCode, Malformed, Truncated, NoMemory}
use Rattle.milter_fields.specs.Stream.{Divides, Frame, IsFrame, IsRest, divide, frame_bytes, with_frame}
use Rattle.milter_fields.proofs.StreamLaws.{divide-handed}
use Rattle.milter_wire.specs.declared.command.Command.{Command}
use Rattle.milter_wire.specs.declared.reply.Reply.{Reply}
use Rattle.milter_wire.specs.Tables.{Decodes, Row, has_row, read_by}
use Rattle.milter_wire.specs.Command as of_commands
use Rattle.milter_wire.specs.Reply as of_replies
use Rattle.milter_wire.specs.Frames.{value_or_fault, frames_and}
use Rattle.milter_fields.proofs.Steps.{chosen}

-- ---- codes that are known

known_here : (n code : ℕ) (others : Bool) → (code == n) ≡ true → ((n == code) || others) ≡ true
known_here n code others e = rw (eq-eqb n code (sym (eqb-true code n e))) refl

known_there : (b others : Bool) → others ≡ true → (b || others) ≡ true
known_there true others e = refl
known_there false others e = e

-- what is read has a code of the table
pub read-known : {V : Type 0} (rows : List (Row V)) (code : ℕ) (payload : List ℕ) (v : V) → read_by rows code payload ≡ Some v → has_row rows code ≡ true
read-known [] code payload v e = absurd cc
read-known (row ∷ rows) code payload v e =
    elim (chosen (code == row.0) (row.1 payload) (read_by rows code payload) (Some v) e) [
      | inl at ↦ known_here row.0 code (has_row rows code) at.0
      | inr others ↦ known_there (row.0 == code) (has_row rows code) (read-known rows code payload v others.1)
    ]

pub command-known : (code : ℕ) (payload : List ℕ) (c : Command) → of_commands.command_in code payload ≡ Some c → of_commands.is_code code ≡ true
unfolding of_commands.command_in of_commands.is_code
command-known code payload c e = read-known of_commands.rows code payload c e

pub reply-known : (code : ℕ) (payload : List ℕ) (r : Reply) → of_replies.reply_in code payload ≡ Some r → of_replies.is_code code ≡ true
unfolding of_replies.reply_in of_replies.is_code
reply-known code payload r e = read-known of_replies.rows code payload r e

-- ---- frames that are read back

pub value-read : {V : Type 0} (code : ℕ) (known : Bool) (read : Option V) (v : V) → known ≡ true → read ≡ Some v → value_or_fault code known read ≡ Ok v
value-read code known read v k r = rw (k, r) refl

pub no-value : {V : Type 0} (code : ℕ) (known : Bool) (read : Option V) (fault : WireFault) → fault ≡ (if known then Malformed code else UnknownCode code) → read ≡ None → Err fault ≡ value_or_fault code known read
no-value code true read fault f r = rw (f, r) refl
no-value code false read fault f r = rw f refl

-- what `decode` answers, but where memory is refused
pub value-decoded : {V : Type 0} (code : ℕ) (known : Bool) (read : Option V) (r : Result V WireFault) → ((v : V) → read ≡ Some v → known ≡ true)
    → r ≢ Err NoMemory → Decodes code known read r → r ≡ value_or_fault code known read
value-decoded code known read (Ok v) first some d = sym (value-read code known read v (first v d) d)
value-decoded code known read (Err ZeroLength) first some d = absurd d
value-decoded code known read (Err (TooLong n)) first some d = absurd d
value-decoded code known read (Err (UnknownCode n)) first some d = rw (d.0, d.1) refl
value-decoded code known read (Err (Malformed n)) first some d = rw (d.0, d.1, d.2) refl
value-decoded code known read (Err (Truncated n)) first some d = absurd d
value-decoded code known read (Err NoMemory) first some d = absurd (some refl)

-- ---- streams of frames

pub bytes-in_all : {V : Type 0} (encoding : V → List ℕ) (vs : List V) → sum_by (λ v. length (encoding v)) vs ≡ length (flat_map encoding vs)
bytes-in_all encoding [] = refl
bytes-in_all encoding (v ∷ vs) =
    sum_by-cons (λ v. length (encoding v)) v vs ∙ ap (λ n. length (encoding v) + n) (bytes-in_all encoding vs) ∙ sym (length-append (encoding v) (flat_map encoding vs))

one_first : (f : Frame) (more : List ℕ) → IsFrame f → divide (frame_bytes f ++ more) ≡ with_frame f (divide more)
one_first f more fits =
    let bytes = frame_bytes f in
    divide-handed [] (bytes ++ more) bytes (length bytes) f (sym (take_at bytes more (length bytes) refl)) refl fits
    ∙ ap (λ (x : List ℕ). with_frame f (divide x)) (drop_at bytes more (length bytes) refl)

pub frames-divide : {V : Type 0} (frame : V → Frame) (Fits : V → Type 0) → ((v : V) → Fits v → IsFrame (frame v)) → (vs : List V) (more : List ℕ) → All Fits vs
    → divide (flat_map (λ v. frame_bytes (frame v)) vs ++ more) ≡ frames_and (map frame vs) more
frames-divide frame Fits fits [] more h = refl
frames-divide frame Fits fits (v ∷ vs) more h =
    let others = flat_map (λ v. frame_bytes (frame v)) vs in
    ap divide (append_assoc (frame_bytes (frame v)) others more)
    ∙ one_first (frame v) (others ++ more) (fits v (All-head Fits v vs h))
    ∙ ap (with_frame (frame v)) (frames-divide frame Fits fits vs more (All-tail Fits v vs h))

frames_bytes : {V : Type 0} (frame : V → Frame) (vs : List V) → flat_map (λ v. frame_bytes (frame v)) vs ≡ flat_map frame_bytes (map frame vs)
frames_bytes frame [] = refl
frames_bytes frame (v ∷ vs) = ap (λ (x : List ℕ). frame_bytes (frame v) ++ x) (frames_bytes frame vs)

frames_fit : {V : Type 0} (frame : V → Frame) (Fits : V → Type 0) → ((v : V) → Fits v → IsFrame (frame v)) → (vs : List V) → All Fits vs → All IsFrame (map frame vs)
frames_fit frame Fits fits [] h = All-nil IsFrame
frames_fit frame Fits fits (v ∷ vs) h =
    All-cons IsFrame (frame v) (map frame vs) (fits v (All-head Fits v vs h)) (frames_fit frame Fits fits vs (All-tail Fits v vs h))

pub frames-divided : {V : Type 0} (frame : V → Frame) (Fits : V → Type 0) → ((v : V) → Fits v → IsFrame (frame v)) → (vs : List V) (rest : List ℕ) → All Fits vs → IsRest rest
    → Divides (flat_map (λ v. frame_bytes (frame v)) vs ++ rest) (map frame vs) rest
frames-divided frame Fits fits vs rest h last = record {
  bytes_are = ap (λ (x : List ℕ). x ++ rest) (frames_bytes frame vs);
  frames_fit = frames_fit frame Fits fits vs h;
  rest_is = last;
}
