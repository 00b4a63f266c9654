-- What was appended before stays.
use Rattle.std.proofs.Common.{◌≡◌, ◌≤◌, ℕ, List, ◌++◌, length, take, Result, Ok, Err, refl, sym, ap, ◌∙◌, arith, append_assoc, length-append}
use Rattle.std.proofs.lemmas.List.{take-take, take_at}
use Rattle.milter_fields.specs.AppendedBytes.{Extends, PutsBytes}

pub extends_more : (old more middle new : List ℕ) → middle ≡ old ++ more → Extends middle new → Extends old new
extends_more old more middle new m e =
    let le : length old ≤ length middle = omega (arith, ap length m, length-append old more) in
    sym (take-take (length old) (length middle) new le) ∙ ap (take (length old)) (e ∙ m) ∙ take_at old more (length old) refl

-- and bytes that are appended after others come after those
pub puts_more : {T E : Type 0} (old first middle more new : List ℕ) (r : Result T E) → middle ≡ old ++ first → PutsBytes more middle new r → PutsBytes (first ++ more) old new r
puts_more old first middle more new (Ok x) m p =
    (p.0 ∙ ap (λ (bytes : List ℕ). bytes ++ more) m ∙ append_assoc old first more, extends_more old first middle new m p.1)
puts_more old first middle more new (Err e) m p = (tt, extends_more old first middle new m p.1)
