-- A packet has one code and one payload, no packet is a proper prefix of another, and a proper prefix is unfinished.
use Rattle.std.proofs.Common.{◌≡◌, ◌≢◌, ℕ, ◌+◌, List, [], ◌∷◌, ◌++◌, length, refl, sym, ap, ◌∙◌, append-nil, arith, length-append}
use Rattle.std.proofs.lemmas.Option.{same_Some}
use Rattle.milter_fields.specs.Number.{number, number_from_bytes}
use Rattle.milter_fields.specs.Packet.{packet, IsPayload}
use Rattle.milter_fields.specs.Stream.{Frame, IsFrame, IsUnfinished, fault_of, first_frame, frame_bytes}
use Rattle.milter_fields.proofs.Frames.{fault_of-valid, first_frame-packet}
use Rattle.milter_fields.proofs.Numbers.{FourBytes, four_bytes}

-- a packet has one code and one payload
pub packet-same : (code other : ℕ) (payload others : List ℕ) → packet code payload ≡ packet other others → (code ≡ other) × (payload ≡ others)
unfolding number
packet-same code other payload others e = (cc, cc)

-- no packet begins another
pub packet-whole : (code other : ℕ) (payload others more : List ℕ) → IsPayload payload → IsPayload others → packet code payload ++ more ≡ packet other others → more ≡ []
packet-whole code other payload others more fits fit e =
    let a = first_frame-packet record { code = code; payload = payload } more fits in
    let b = first_frame-packet record { code = other; payload = others } [] fit in
    let same = same_Some _ _ (sym a ∙ ap first_frame (e ∙ sym (append-nil (packet other others))) ∙ b) in
    ap (λ (x : Frame × List ℕ). x.1) same

-- the bytes of a packet, where those of its length are known
pub packet_cells : (f : Frame) (k : FourBytes (length f.payload + 1)) → frame_bytes f ≡ k.a ∷ k.b ∷ k.c ∷ k.d ∷ f.code ∷ f.payload
packet_cells f k = rw k.encoded refl

-- a packet that lacks its last bytes begins with no packet and no fault
pub prefix-unfinished : (bytes more : List ℕ) (f : Frame) → IsFrame f → more ≢ [] → bytes ++ more ≡ frame_bytes f → IsUnfinished bytes
prefix-unfinished bytes [] f fits some is = absurd (some refl)
prefix-unfinished (a ∷ b ∷ c ∷ d ∷ body) (y ∷ more) f fits some is =
    let k = four_bytes (length f.payload + 1) (omega arith) in
    let cells : a ∷ b ∷ c ∷ d ∷ (body ++ y ∷ more) ≡ k.a ∷ k.b ∷ k.c ∷ k.d ∷ f.code ∷ f.payload = is ∙ packet_cells f k in
    let ea : a ≡ k.a = cc in
    let eb : b ≡ k.b = cc in
    let ec : c ≡ k.c = cc in
    let ed : d ≡ k.d = cc in
    let left : body ++ y ∷ more ≡ f.code ∷ f.payload = cc in
    let number_is : number_from_bytes a b c d ≡ length f.payload + 1 = rw (ea, eb, ec, ed) k.value in
    let size = ap length left in
    (ap fault_of number_is ∙ fault_of-valid (length f.payload + 1) (omega arith) (omega arith), omega (arith, number_is, size, length-append body (y ∷ more)))
prefix-unfinished [] (y ∷ more) f fits some is = tt
prefix-unfinished (a ∷ []) (y ∷ more) f fits some is = tt
prefix-unfinished (a ∷ b ∷ []) (y ∷ more) f fits some is = tt
prefix-unfinished (a ∷ b ∷ c ∷ []) (y ∷ more) f fits some is = tt
