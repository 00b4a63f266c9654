-- A port at the start of bytes: what is decoded was encoded so, and what is encoded is decoded.
use Rattle.std.proofs.Common.{◌≡◌, ℕ, ◌<◌, ◌^◌, List, [], ◌∷◌, ◌++◌, Some, refl, sym, ap, subst, ◌∙◌}
use Rattle.std.proofs.lemmas.Option.{same_Some}
use Rattle.std.proofs.lemmas.List.Elements.{All-head, All-tail}
use Rattle.milter_fields.specs.Number.{IsBytes}
use Rattle.milter_fields.specs.Field.{port}
use Rattle.milter_fields.specs.Decoders.{port_of, port_at}
use Rattle.milter_fields.proofs.Ports.{two_bytes, port-port_of, port_of-lt}

-- ---- ports

pub port_at-port : (n : ℕ) (rest : List ℕ) → n < 2 ^ 16 → port_at (port n ++ rest) ≡ Some (n, rest)
port_at-port n rest lt = let k = two_bytes n lt in rw (k.encoded, k.value) refl

pub record TakesPort (bytes : List ℕ) (n : ℕ) (rest : List ℕ) : Type 0 where
  pub bytes_are : bytes ≡ port n ++ rest
  pub fits : n < 2 ^ 16

pub port_takes : (bytes : List ℕ) (n : ℕ) (rest : List ℕ) → IsBytes bytes → port_at bytes ≡ Some (n, rest) → TakesPort bytes n rest
port_takes (a ∷ b ∷ body) n rest bytes h =
    let P : ℕ → Type 0 = λ x. x < 2 ^ 8 in
    let ha = All-head P a (b ∷ body) bytes in
    let hb = All-head P b body (All-tail P a (b ∷ body) bytes) in
    let same = same_Some (port_of a b, body) (n, rest) h in
    let n_is : port_of a b ≡ n = ap (λ (x : ℕ × List ℕ). x.0) same in
    let rest_is : body ≡ rest = ap (λ (x : ℕ × List ℕ). x.1) same in
    record {
      bytes_are = sym (ap (λ (x : ℕ). port x ++ rest) (sym n_is) ∙ ap (λ (x : List ℕ). x ++ rest) (port-port_of a b ha hb) ∙ ap (λ (x : List ℕ). a ∷ b ∷ x) (sym rest_is));
      fits = subst (λ (x : ℕ). x < 2 ^ 16) n_is (port_of-lt a b ha hb);
    }
port_takes [] n rest bytes h = absurd cc
port_takes (a ∷ []) n rest bytes h = absurd cc

-- ---- bytes after others

pub bytes_after : (before rest : List ℕ) → IsBytes (before ++ rest) → IsBytes rest
bytes_after [] rest b = b
bytes_after (x ∷ before) rest b = bytes_after before rest (All-tail (λ x. x < 2 ^ 8) x (before ++ rest) b)
