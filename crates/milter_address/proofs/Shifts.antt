-- Shifts to the right.
use Rattle.std.proofs.Common.{◌≡◌, ℕ, ◌<◌, ◌≤◌, ◌/◌, ◌^◌, Option, Some, None, arith, sym}
use Rattle.std.specs.Prelude.{unwrap_or}
use Rattle.std.specs.Option.{SomeIff}
use Rattle.std.proofs.Math.Pow.{pow_mono}
use Rattle.std.proofs.Math.Nat.{div-eq_of_lt}

-- a shift that is too wide leaves no bits
pub shifted : (number count : ℕ) (answer : Option ℕ) → number < 2 ^ 128
    → SomeIff answer (count < 128) (number / 2 ^ count) → unwrap_or answer 0 ≡ number / 2 ^ count
shifted number count None fits wide =
    let wider : 128 ≤ count = omega arith in
    let large : 2 ^ 128 ≤ 2 ^ count = pow_mono wider in
    let small : number < 2 ^ count = omega (arith, large) in
    sym (div-eq_of_lt small)
shifted number count (Some x) fits found = found.1
