-- A number that is written is read again, and what is read was written.
use Rattle.std.proofs.Common.{◌≡◌, ℕ, zero, suc, ◌<◌, ◌^◌, List, [], ◌∷◌, ◌++◌, Some, length, get_or, refl, sym, ap, subst, ◌∙◌, arith}
use Rattle.std.proofs.lemmas.Option.{same_Some}
use Rattle.std.proofs.lemmas.List.Elements.{All-head, All-tail}
use Rattle.std.specs.Int.{w32, to_be_bytes, from_be_bytes}
use Rattle.std.proofs.lemmas.Nat.{be_bytes_4, from_be_bytes-to_be_bytes_4}
use Rattle.milter_fields.specs.Number.{BeginsWithNumber, IsBytes, number, number_at, number_from_bytes}

-- the four bytes of a number
pub record FourBytes (n : ℕ) : Type 0 where
  pub a : ℕ
  pub b : ℕ
  pub c : ℕ
  pub d : ℕ
  pub encoded : number n ≡ a ∷ b ∷ c ∷ d ∷ []
  pub value : number_from_bytes a b c d ≡ n

pub four_bytes : (n : ℕ) → n < 2 ^ 32 → FourBytes n
unfolding number number_from_bytes
four_bytes n lt = record {
  a = get_or (to_be_bytes w32 n) 0 0;
  b = get_or (to_be_bytes w32 n) 1 0;
  c = get_or (to_be_bytes w32 n) 2 0;
  d = get_or (to_be_bytes w32 n) 3 0;
  encoded = refl;
  value = from_be_bytes-to_be_bytes_4 n lt;
}

pub length-number : (n : ℕ) → length (number n) ≡ 4
unfolding number
length-number n = refl

each_below : (a b c d : ℕ) → a < 256 → b < 256 → c < 256 → d < 256 → (i : ℕ) → get_or (a ∷ b ∷ c ∷ d ∷ []) i 0 < 256
each_below a b c d ha hb hc hd zero = ha
each_below a b c d ha hb hc hd (suc zero) = hb
each_below a b c d ha hb hc hd (suc (suc zero)) = hc
each_below a b c d ha hb hc hd (suc (suc (suc zero))) = hd
each_below a b c d ha hb hc hd (suc (suc (suc (suc i)))) = omega arith

pub number-number_from_bytes : (a b c d : ℕ) → a < 256 → b < 256 → c < 256 → d < 256 → number (number_from_bytes a b c d) ≡ a ∷ b ∷ c ∷ d ∷ []
unfolding number number_from_bytes
number-number_from_bytes a b c d ha hb hc hd =
    be_bytes_4 (a ∷ b ∷ c ∷ d ∷ []) (from_be_bytes w32 (a ∷ b ∷ c ∷ d ∷ [])) refl (each_below a b c d ha hb hc hd) refl

pub number_from_bytes-lt : (a b c d : ℕ) → a < 256 → b < 256 → c < 256 → d < 256 → number_from_bytes a b c d < 2 ^ 32
unfolding number_from_bytes
number_from_bytes-lt a b c d ha hb hc hd = omega arith

-- ---- numbers at the start of bytes

pub number_at-number : (n : ℕ) (rest : List ℕ) → n < 2 ^ 32 → number_at (number n ++ rest) ≡ Some (n, rest)
number_at-number n rest lt = let k = four_bytes n lt in rw (k.encoded, k.value) refl

pub number_takes : (bytes : List ℕ) (n : ℕ) (rest : List ℕ) → IsBytes bytes → number_at bytes ≡ Some (n, rest) → BeginsWithNumber bytes n rest
number_takes (a ∷ b ∷ c ∷ d ∷ body) n rest bytes h =
    let P : ℕ → Type 0 = λ x. x < 2 ^ 8 in
    let after_a = All-tail P a (b ∷ c ∷ d ∷ body) bytes in
    let after_b = All-tail P b (c ∷ d ∷ body) after_a in
    let after_c = All-tail P c (d ∷ body) after_b in
    let ha = All-head P a (b ∷ c ∷ d ∷ body) bytes in
    let hb = All-head P b (c ∷ d ∷ body) after_a in
    let hc = All-head P c (d ∷ body) after_b in
    let hd = All-head P d body after_c in
    let same = same_Some (number_from_bytes a b c d, body) (n, rest) h in
    let n_is : number_from_bytes a b c d ≡ n = ap (λ (x : ℕ × List ℕ). x.0) same in
    let rest_is : body ≡ rest = ap (λ (x : ℕ × List ℕ). x.1) same in
    let cells = number-number_from_bytes a b c d ha hb hc hd in
    record {
      bytes_are = sym (ap (λ (x : ℕ). number x ++ rest) (sym n_is) ∙ ap (λ (x : List ℕ). x ++ rest) cells ∙ ap (λ (x : List ℕ). a ∷ b ∷ c ∷ d ∷ x) (sym rest_is));
      fits = subst (λ (x : ℕ). x < 2 ^ 32) n_is (number_from_bytes-lt a b c d ha hb hc hd);
      rest_bytes = subst IsBytes rest_is (All-tail P d body after_c);
    }
number_takes [] n rest bytes h = absurd cc
number_takes (a ∷ []) n rest bytes h = absurd cc
number_takes (a ∷ b ∷ []) n rest bytes h = absurd cc
number_takes (a ∷ b ∷ c ∷ []) n rest bytes h = absurd cc
