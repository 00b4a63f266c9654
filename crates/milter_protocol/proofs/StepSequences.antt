-- Going on by some inputs and then by others.
use Rattle.std.proofs.Common.{◌≡◌, List, [], ◌∷◌, ◌++◌, refl, sym, ◌∙◌, ap, append_assoc}
use Rattle.milter_protocol.specs.Steps.{Step, joined, steps}

pub joined-assoc : {S : Type 0} (first second third : Step S) → joined (joined first second) third ≡ joined first (joined second third)
joined-assoc {S} first second third =
    let same = append_assoc first.replies second.replies third.replies in
    λ i. record { after = third.after; replies = same i }

pub steps-append : {S I : Type 0} (step : S → I → Step S) (s : S) (first second : List I)
    → let one = steps step s first in steps step s (first ++ second) ≡ joined one (steps step one.after second)
steps-append step s [] second = refl
steps-append step s (input ∷ first) second =
    let one = step s input in
    let some = steps step one.after first in
    ap (joined one) (steps-append step one.after first second) ∙ sym (joined-assoc one some (steps step some.after second))

pub after-append : {S I : Type 0} (step : S → I → Step S) (s : S) (first second : List I)
    → (steps step s (first ++ second)).after ≡ (steps step (steps step s first).after second).after
after-append {S} step s first second = ap (λ (x : Step S). x.after) (steps-append step s first second)

pub replies-append : {S I : Type 0} (step : S → I → Step S) (s : S) (first second : List I)
    → let one = steps step s first in (steps step s (first ++ second)).replies ≡ one.replies ++ (steps step one.after second).replies
replies-append {S} step s first second = ap (λ (x : Step S). x.replies) (steps-append step s first second)
