-- A field that a form has, after those before it.
use Rattle.std.proofs.Common.{◌≡◌, ◌∙◌, ◌++◌, ◌∷◌, [], ℕ, Bool, List, Result, Ok, Err, OnOk, true, false, not, ap, sym, append_assoc, append-nil, true≢false, if◌then◌else◌}
use Rattle.milter_trace.specs.PacketText.{fields_text}

field_after : (has : Bool) (names old pushed new : List ℕ) → not has ≡ false → pushed ≡ old ++ 32 ∷ [] → new ≡ pushed ++ names → new ≡ old ++ fields_text (if has then (names ∷ []) else [])
field_after true names old pushed new is p e =
    e ∙ ap (λ (x : List ℕ). x ++ names) p ∙ append_assoc old (32 ∷ []) names ∙ ap (λ (x : List ℕ). old ++ 32 ∷ x) (sym (append-nil names))
field_after false names old pushed new is p e = absurd (true≢false is)

-- names that were put after a blank
pub named : {T E : Type 0} (r : Result T E) (has : Bool) (names old pushed new : List ℕ) → not has ≡ false → pushed ≡ old ++ 32 ∷ [] → OnOk r (new ≡ pushed ++ names)
    → OnOk r (new ≡ old ++ fields_text (if has then (names ∷ []) else []))
named (Ok u) has names old pushed new is p e = field_after has names old pushed new is p e
named (Err e) has names old pushed new is p none = tt
