-- Which addresses are within a network.
use Rattle.std.proofs.Common.{◌≡◌, ℕ, ◌+◌, ◌*◌, ◌/◌, ◌%◌, ◌-◌, ◌^◌, ◌<◌, Bool, true, false, refl, arith}
use Rattle.std.specs.Prelude.{◌==◌, ◌||◌}
use Rattle.std.proofs.lemmas.Bool.{eq-eqb}
use Rattle.std.proofs.Math.Nat.{div-eq_of_lt}
use Rattle.milter_address.specs.declared.ip_address.Address.{Address}
use Rattle.milter_address.specs.declared.ip_address.Address.TheVariants.{V4, V6}
use Rattle.milter_address.specs.Networks.{is_within}

same : (n : ℕ) → (n == n) ≡ true
same n = eq-eqb n n refl

-- an address is within a network of its own
pub own_network : (address : Address) (prefix : ℕ) → is_within address prefix address ≡ true
own_network (V4 n) prefix = rw (same (n / 2 ^ (32 - prefix))) refl
own_network (V6 n) prefix = rw (same (n / 2 ^ (128 - prefix))) refl

-- no fixed bits
pub all_of_ipv4 : (network address : ℕ) → network < 2 ^ 32 → address < 2 ^ 32 → is_within (V4 network) 0 (V4 address) ≡ true
all_of_ipv4 network address p q = rw (div-eq_of_lt p, div-eq_of_lt q) refl

pub all_of_ipv6 : (network address : ℕ) → network < 2 ^ 128 → address < 2 ^ 128 → is_within (V6 network) 0 (V6 address) ≡ true
all_of_ipv6 network address p q = rw (div-eq_of_lt p, div-eq_of_lt q) refl

-- the parts of an IPv4-mapped address
high_part : (address : ℕ) → address < 2 ^ 32 → (0xffff * 2 ^ 32 + address) / 2 ^ 32 ≡ 0xffff
high_part address fits = omega arith

low_part : (address : ℕ) → address < 2 ^ 32 → (0xffff * 2 ^ 32 + address) % 2 ^ 32 ≡ address
low_part address fits = omega arith

or_nothing : (b : Bool) → b ≡ (b || false)
or_nothing true = refl
or_nothing false = refl

pub mapped_network : (network prefix address : ℕ) → address < 2 ^ 32
    → is_within (V4 network) prefix (V6 (0xffff * 2 ^ 32 + address)) ≡ is_within (V4 network) prefix (V4 address)
mapped_network network prefix address fits = rw (high_part address fits, low_part address fits)
    (or_nothing (network / 2 ^ (32 - prefix) == address / 2 ^ (32 - prefix)))
