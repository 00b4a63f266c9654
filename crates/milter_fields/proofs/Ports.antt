-- A port that is encoded is read back, and what is read is what its two bytes encode.
use Rattle.std.proofs.Common.{◌≡◌, ℕ, zero, suc, ◌<◌, ◌^◌, [], ◌∷◌, get_or, refl, arith}
use Rattle.std.specs.Int.{w16, to_be_bytes, from_be_bytes}
use Rattle.std.proofs.lemmas.Nat.{be_bytes_2, from_be_bytes-to_be_bytes_2}
use Rattle.milter_fields.specs.Field.{port}
use Rattle.milter_fields.specs.Decoders.{port_of}

pub record TwoBytes (n : ℕ) : Type 0 where
  pub a : ℕ
  pub b : ℕ
  pub encoded : port n ≡ a ∷ b ∷ []
  pub value : port_of a b ≡ n

pub two_bytes : (n : ℕ) → n < 2 ^ 16 → TwoBytes n
unfolding port port_of
two_bytes n lt = record {
  a = get_or (to_be_bytes w16 n) 0 0;
  b = get_or (to_be_bytes w16 n) 1 0;
  encoded = refl;
  value = from_be_bytes-to_be_bytes_2 n lt;
}

both_below : (a b : ℕ) → a < 256 → b < 256 → (i : ℕ) → get_or (a ∷ b ∷ []) i 0 < 256
both_below a b ha hb zero = ha
both_below a b ha hb (suc zero) = hb
both_below a b ha hb (suc (suc i)) = omega arith

pub port-port_of : (a b : ℕ) → a < 256 → b < 256 → port (port_of a b) ≡ a ∷ b ∷ []
unfolding port port_of
port-port_of a b ha hb = be_bytes_2 (a ∷ b ∷ []) (from_be_bytes w16 (a ∷ b ∷ [])) refl (both_below a b ha hb) refl

pub port_of-lt : (a b : ℕ) → a < 256 → b < 256 → port_of a b < 2 ^ 16
unfolding port_of
port_of-lt a b ha hb = omega arith
