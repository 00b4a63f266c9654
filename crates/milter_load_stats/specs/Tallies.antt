-- Latencies that were recorded, and their percentiles.
use Rattle.std.specs.Prelude.{◌≡◌, ℕ, ◌+◌, ◌*◌, ◌/◌, ◌^◌, ◌==◌, ◌<◌, ◌≤◌, List, [], ◌∷◌, All, length, max, nat_lt, slice_index_or}
use Rattle.std.specs.List.{count_by}
use Rattle.milter_load_stats.specs.Buckets.{bucket_of, highest_in}

-- how many values each bucket has, how many there are, and the greatest of them
pub record Tally : Type 0 where
  pub counts : List ℕ
  pub total : ℕ
  pub greatest : ℕ

-- how many of some values are in a bucket below this one
abbrev pub below : ℕ → List ℕ → ℕ
below bucket values = count_by (λ value. nat_lt (bucket_of value) bucket) values

-- how many of some values are in this bucket
abbrev pub within : ℕ → List ℕ → ℕ
within bucket values = count_by (λ value. bucket_of value == bucket) values

-- the greatest of some values, 0 where there is none
abbrev pub greatest_of : List ℕ → ℕ
greatest_of [] = 0
greatest_of (value ∷ values) = max value (greatest_of values)

-- these values were recorded, each of which fits 32 bits
pub record Tallied (tally : Tally) (values : List ℕ) : Type 0 where
  pub small : All (λ value. value < 2 ^ 32) values
  pub each : (bucket : ℕ) → bucket < length tally.counts → slice_index_or tally.counts bucket 0 ≡ within bucket values
  pub all : tally.total ≡ length values
  pub most : tally.greatest ≡ greatest_of values

-- the rank, among so many values, of what so many of a thousand of them are at most: counted from 1, rounded up
abbrev pub rank_of : ℕ → ℕ → ℕ
rank_of per_mille total = (total * per_mille + 999) / 1000

-- the highest value of the bucket that has the value of this rank: fewer values are in lower buckets, and as many are
-- in this one or lower
pub record IsPercentile (per_mille : ℕ) (values : List ℕ) (limit : ℕ) : Type 0 where
  pub bucket : ℕ
  pub highest : limit ≡ highest_in bucket
  pub fewer : below bucket values < rank_of per_mille (length values)
  pub enough : rank_of per_mille (length values) ≤ below (bucket + 1) values
