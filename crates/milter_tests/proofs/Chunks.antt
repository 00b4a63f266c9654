-- The chunks of a body of which the length is known.
use Rattle.std.proofs.Common.{◌+◌, ◌*◌, ◌/◌, ◌∙◌, ◌≡◌, ◌∷◌, [], List, ℕ, ap, length, take, drop}
use Rattle.std.proofs.lemmas.List.FromFn.{length-map-range_with_len}
use Rattle.std.specs.Prelude.{map}
use Rattle.std.specs.List.{range_with_len}
use Rattle.milter_message.specs.Chunks.{chunks_of}

-- the number of chunks of a body of this many bytes
pub chunks-len : (n : ℕ) → (body : List ℕ) → length body ≡ n → length (chunks_of body) ≡ (n + 65534) / 65535
chunks-len n body is =
    length-map-range_with_len (λ (i : ℕ). take 65535 (drop (65535 * i) body)) 0 ((length body + 65534) / 65535)
    ∙ ap (λ (n : ℕ). (n + 65534) / 65535) is

pub two-chunks : (body : List ℕ) → length body ≡ 65536
    → chunks_of body ≡ take 65535 body ∷ take 65535 (drop 65535 body) ∷ []
two-chunks body is =
    ap (λ (n : ℕ). map (λ (i : ℕ). take 65535 (drop (65535 * i) body)) (range_with_len 0 ((n + 65534) / 65535))) is
