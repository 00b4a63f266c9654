-- The buckets of latencies: one for each value below 128, and 64 for each power of two from there on.
use Rattle.std.specs.Prelude.{ℕ, ◌+◌, ◌-◌, ◌*◌, ◌/◌, ◌^◌}
use Rattle.std.specs.Int.{leading_zeros, w32}

-- how often a value is halved until it is below 128
abbrev pub octave_of : ℕ → ℕ
octave_of value = 25 - leading_zeros w32 value

-- the bucket of a value
abbrev pub bucket_of : ℕ → ℕ
bucket_of value = 64 * octave_of value + value / 2 ^ octave_of value

-- how often the values of a bucket are halved until they are below 128
abbrev pub octave_in : ℕ → ℕ
octave_in bucket = bucket / 64 - 1

-- the lowest value of a bucket
abbrev pub lowest_in : ℕ → ℕ
lowest_in bucket = (bucket - 64 * octave_in bucket) * 2 ^ octave_in bucket

-- the highest value of a bucket
abbrev pub highest_in : ℕ → ℕ
highest_in bucket = (bucket - 64 * octave_in bucket + 1) * 2 ^ octave_in bucket - 1
