-- What is permitted is permitted once more.
use Rattle.std.proofs.Common.{◌≡◌, Bool, true, false, List, [], ◌∷◌, Some, refl, ap, if◌then◌else◌, cond}
use Rattle.std.specs.List.{filter}
use Rattle.milter_wire.specs.declared.options.TheConstants.Protocol.{SKIP}
use Rattle.milter_wire.specs.declared.negotiation.Negotiated.{Negotiated}
use Rattle.milter_wire.specs.declared.verdict.Verdict.{Verdict}
use Rattle.milter_wire.specs.declared.verdict.Verdict.TheVariants.{Continue, Skip}
use Rattle.milter_wire.specs.Negotiation.{has}
use Rattle.milter_protocol.specs.declared.answer.Answer.{Answer}
use Rattle.milter_protocol.specs.Permitted.{is_permitted, permitted, permitted_verdict}

pub filter-again : {A : Type 0} (p : A → Bool) (xs : List A) → filter p (filter p xs) ≡ filter p xs
filter-again p [] = refl
filter-again {A} p (x ∷ xs) = by_test (p x) refl (filter-again p xs)
  where
    by_test : (passes : Bool) → p x ≡ passes → filter p (filter p xs) ≡ filter p xs
        → filter p (cond passes (x ∷ filter p xs) (filter p xs)) ≡ cond passes (x ∷ filter p xs) (filter p xs)
    by_test true e rest = rw e (ap (λ ys. x ∷ ys) rest)
    by_test false e rest = rest

verdict-again : (negotiated : Negotiated) (verdict : Verdict) → permitted_verdict negotiated (permitted_verdict negotiated verdict) ≡ permitted_verdict negotiated verdict
verdict-again negotiated Skip = by_bit (has negotiated (Some SKIP)) refl
  where
    by_bit : (is : Bool) → has negotiated (Some SKIP) ≡ is → permitted_verdict negotiated (if is then Skip else Continue) ≡ (if is then Skip else Continue)
    by_bit true e = rw e refl
    by_bit false e = refl
verdict-again negotiated other = refl

pub permitted-again : (negotiated : Negotiated) (answer : Answer) → permitted negotiated (permitted negotiated answer) ≡ permitted negotiated answer
permitted-again negotiated answer =
    let edits = filter-again (is_permitted negotiated) answer.edits in
    let verdict = verdict-again negotiated answer.verdict in
    λ i. record { edits = edits i; verdict = verdict i }
