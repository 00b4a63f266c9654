-- The chunks in which a body is sent: 65,535 bytes each, the last one perhaps fewer, and of an empty body none.
use Rattle.std.specs.Prelude.{ℕ, ◌+◌, ◌-◌, ◌*◌, ◌/◌, List, length, map, take, drop}
use Rattle.std.specs.List.{range_with_len}
use Rattle.milter_message.specs.declared.message.TheConstants.{CHUNK_LEN}

-- the number of chunks of a body of so many bytes
abbrev pub chunk_count : ℕ → ℕ
chunk_count len = (len + (CHUNK_LEN - 1)) / CHUNK_LEN

-- the bytes of the chunk with this number, counted from 0
abbrev pub chunk_at : List ℕ → ℕ → List ℕ
chunk_at body k = take CHUNK_LEN (drop (CHUNK_LEN * k) body)

abbrev pub chunks_of : List ℕ → List (List ℕ)
chunks_of body = map (chunk_at body) (range_with_len 0 (chunk_count (length body)))
