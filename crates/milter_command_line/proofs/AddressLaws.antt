-- The addresses that a text names, where it is cut.
use Rattle.std.proofs.Common.{◌≡◌, ◌++◌, ◌∙◌, MatchOption, lit<, ◌≢◌, ◌<◌, ℕ, zero, suc, List, [], ◌∷◌, length, get_or, slice_index, Option, None, Some, Bor, codes, sym, ap, subst, arith}
use Rattle.std.specs.Str.Parse.{AllDigits}
use Rattle.std.specs.Str.Pattern.{FindsChar}
use Rattle.std.proofs.lemmas.Str.Parse.{digit_from_value}
use Rattle.std.proofs.lemmas.Str.Pattern.{IsSplitOnceResult, split_after}
use Rattle.milter_command_line.specs.declared.address.Address.{Address}
use Rattle.milter_command_line.specs.declared.address.Address.TheVariants.{Inet, Unix}
use Rattle.milter_command_line.specs.Address.{IsAddress, IsPlace, IsPort}
use Rattle.milter_command_line.proofs.FaultlessRows.{Each}

lacks : (c : ℕ) (xs : List ℕ) → Each (λ x. x ≢ c) xs → (i : ℕ) → i < length xs → get_or xs i 0 ≢ c
lacks c [] h i low = absurd (omega (arith, low))
lacks c (x ∷ xs) h zero low = h.0
lacks c (x ∷ xs) h (suc i) low = lacks c xs h.1 i (omega (arith, low))

no_at : (digits : List ℕ) → AllDigits 10 digits → Each (λ x. x ≢ 64) digits
no_at [] h = tt
no_at (x ∷ xs) h = ((λ e. let range = digit_from_value x h.0 in omega (arith, range.1, e)), no_at xs h.1)

-- where a place is cut
parts : (bs : List ℕ) (r : Option (Bor (List ℕ) × Bor (List ℕ))) (digits host : List ℕ) (port : ℕ) → IsSplitOnceResult 64 bs r → IsPort digits port → bs ≡ digits ++ 64 ∷ host
    → MatchOption r ⊥ (λ x. (x.0.now ≡ digits) × (x.1.now ≡ host))
parts bs r digits host port h p is = split_after 64 bs digits host r h (lit< tt) is (lacks 64 digits (no_at digits p.0.1))

pub no_cut : (bs : List ℕ) → FindsChar 64 bs None → (port : ℕ) (host : List ℕ) → IsPlace bs port host → ⊥
no_cut bs h port host (digits, p, is, some) = parts bs None digits host port h p is

pub no_port : (bs : List ℕ) (x : Bor (List ℕ) × Bor (List ℕ)) → IsSplitOnceResult 64 bs (Some x) → ((port : ℕ) → IsPort x.0.now port → ⊥) → (port : ℕ) (host : List ℕ) → IsPlace bs port host → ⊥
no_port bs x h none port host (digits, p, is, some) = none port (subst (λ ds. IsPort ds port) (sym (parts bs (Some x) digits host port h p is).0) p)

pub no_host : (bs : List ℕ) (x : Bor (List ℕ) × Bor (List ℕ)) → IsSplitOnceResult 64 bs (Some x) → length x.1.now ≡ 0 → (port : ℕ) (host : List ℕ) → IsPlace bs port host → ⊥
no_host bs x h none port host (digits, p, is, some) =
    let same = ap length (parts bs (Some x) digits host port h p is).1 in
    omega (arith, some, none, same)

-- a text that begins with `inet:` names no other address than its place does
pub no_inet : (bs : List ℕ) (x : Bor (List ℕ) × Bor (List ℕ)) → IsSplitOnceResult 58 bs (Some x) → x.0.now ≡ codes "inet" → ((port : ℕ) (host : List ℕ) → IsPlace x.1.now port host → ⊥) → (a : Address)
    → IsAddress bs a → ⊥
no_inet bs x h is none (Inet port host) (place, text, p) =
    let cut = split_after 58 bs (codes "inet") place (Some x) h (lit< tt) text
    (lacks 58 (codes "inet") ((λ e. omega (arith, e)), ((λ e. omega (arith, e)), ((λ e. omega (arith, e)), ((λ e. omega (arith, e)), tt))))) in
    none port host.now (subst (λ rest. IsPlace rest port host.now) (sym cut.1) p)
no_inet bs x h is none (Unix path) (text, some) =
    let cut = split_after 58 bs (codes "unix") path.now (Some x) h (lit< tt) text
    (lacks 58 (codes "unix") ((λ e. omega (arith, e)), ((λ e. omega (arith, e)), ((λ e. omega (arith, e)), ((λ e. omega (arith, e)), tt))))) in
    let other : 105 ≡ 117 = ap (λ t. slice_index t 0) (sym is ∙ cut.0) in
    omega (arith, other)
