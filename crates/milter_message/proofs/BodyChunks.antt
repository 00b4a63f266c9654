-- The chunk of a body with a number.
use Rattle.std.proofs.Common.{◌≡◌, ℕ, ◌+◌, ◌-◌, ◌*◌, ◌<◌, ◌≤◌, List, Some, None, length, min, take, drop, ◌∙◌, ap, sym, arith}
use Rattle.std.proofs.lemmas.List.{length-drop, take_min}
use Rattle.std.specs.List.{slice_get}
use Rattle.std.proofs.lemmas.List.FromFn.{get_or-map-range_with_len, length-map-range_with_len}
use Rattle.std.proofs.lemmas.Option.{slice_get-get_or, slice_get_past}
use Rattle.milter_message.specs.declared.message.TheConstants.{CHUNK_LEN}
use Rattle.milter_message.specs.Chunks.{chunk_at, chunk_count, chunks_of}

pub chunk_within : (body : List ℕ) (k : ℕ) → CHUNK_LEN * k < length body → slice_get (chunks_of body) k ≡ Some (chunk_at body k)
chunk_within body k within =
    let count = length-map-range_with_len (chunk_at body) 0 (chunk_count (length body)) in
    let below : k < chunk_count (length body) = omega arith in
    slice_get-get_or (chunks_of body) k (chunk_at body k) (omega arith)
    ∙ ap (λ chunk. Some chunk) (get_or-map-range_with_len (chunk_at body) 0 (chunk_count (length body)) k k (chunk_at body k) below (omega arith))

pub chunk_past : (body : List ℕ) (k : ℕ) → length body ≤ CHUNK_LEN * k → slice_get (chunks_of body) k ≡ None
chunk_past body k past =
    let count = length-map-range_with_len (chunk_at body) 0 (chunk_count (length body)) in
    slice_get_past (chunks_of body) k (omega arith)

-- the bytes between two indexes are the chunk
pub chunk_between : (body : List ℕ) (k start end : ℕ) → start ≡ k * CHUNK_LEN → start < length body → end ≡ min (length body) (start + CHUNK_LEN) → Some (take (end - start) (drop start body)) ≡ slice_get (chunks_of body) k
chunk_between body k start end from within to =
    let same : start ≡ CHUNK_LEN * k = omega arith in
    let left = length-drop start body in
    let count : end - start ≡ min CHUNK_LEN (length (drop start body)) = omega arith in
    let taken = take_min CHUNK_LEN (drop start body) in
    sym (chunk_within body k (omega arith) ∙ ap (λ n. Some (take CHUNK_LEN (drop n body))) (sym same) ∙ ap (λ chunk. Some chunk) (sym taken) ∙ ap (λ n. Some (take n (drop start body))) (sym count))
