-- Spans are equal where their numbers are.
use Rattle.std.proofs.Common.{◌≡◌, ◌∙◌, ◌==◌, ◌&&◌, ap}
use Rattle.std.specs.Bool.{Decides}
use Rattle.std.specs.Cmp.{unsigned_Decides}
use Rattle.std.proofs.lemmas.Bool.Decides.{Decides-and}
use Rattle.milter_lists.specs.declared.span.Span.{Span}

pub equal_spans : (a b : Span) → Decides (a.key == b.key && (a.start == b.start && a.len == b.len)) (a ≡ b)
equal_spans a b =
    let places = Decides-and (a.start == b.start) (a.len == b.len) (unsigned_Decides a.start b.start) (unsigned_Decides a.len b.len) in
    let all = Decides-and (a.key == b.key) (a.start == b.start && a.len == b.len) (unsigned_Decides a.key b.key) places in (
      λ same. ap (λ key. record { key = key; start = a.start; len = a.len }) (all.0 same).0
          ∙ ap (λ start. record { key = b.key; start = start; len = a.len }) (all.0 same).1.0
          ∙ ap (λ len. record { key = b.key; start = b.start; len = len }) (all.0 same).1.1,
      λ e. all.1 (ap (λ span. span.key) e, (ap (λ span. span.start) e, ap (λ span. span.len) e)),
    )
