-- The recipients that are kept, as they are picked one by one.
use Rattle.std.proofs.Common.{◌≡◌, Bool, true, false, List, [], ◌∷◌, length, drop, not, refl, ap, ◌∙◌, arith, All, if◌then◌else◌, cond}
use Rattle.std.proofs.lemmas.List.Elements.{All-cons, All-head, All-nil, All-tail}
use Rattle.std.specs.List.{items_where_true}
use Rattle.std.specs.List.Retain.{IsFiltered, ReturnsInTurn}
use Rattle.milter_fields.specs.declared.path.Path.{Path}
use Rattle.milter_wire.specs.declared.verdict.Verdict.{Verdict}
use Rattle.milter_protocol.specs.Verdicts.{is_refusal}
use Rattle.milter_mta_outcome.specs.ActedVerdicts.{is_refused_first, kept_recipients}

-- without verdicts all are kept
kept_all : (paths : List Path) → kept_recipients paths [] ≡ paths
kept_all [] = refl
kept_all (path ∷ paths) = refl

-- ---- one recipient more

by_refusal : (path : Path) (kept : List Path) (refused b : Bool) → b ≡ not refused
    → cond b (path ∷ kept) kept ≡ (if refused then kept else path ∷ kept)
by_refusal path kept true b e = ap (λ (t : Bool). cond t (path ∷ kept) kept) e
by_refusal path kept false b e = ap (λ (t : Bool). cond t (path ∷ kept) kept) e

one_more : (path : Path) (paths kept : List Path) (b : Bool) (verdicts : List Verdict)
    → b ≡ not (is_refused_first verdicts) → kept ≡ kept_recipients paths (drop 1 verdicts)
    → cond b (path ∷ kept) kept ≡ kept_recipients (path ∷ paths) verdicts
one_more path paths kept b [] e k =
    ap (λ (t : Bool). cond t (path ∷ kept) kept) e ∙ ap (λ (l : List Path). path ∷ l) (k ∙ kept_all paths)
one_more path paths kept b (verdict ∷ verdicts) e k =
    by_refusal path kept (is_refusal verdict) b e
    ∙ ap (λ (l : List Path). if is_refusal verdict then l else path ∷ l) k

picked : (b : Bool) (bs : List Bool) (path : Path) (paths : List Path)
    → items_where_true (b ∷ bs) (path ∷ paths) ≡ cond b (path ∷ items_where_true bs paths) (items_where_true bs paths)
picked true bs path paths = refl
picked false bs path paths = refl

-- ---- all of them

module _ {P : Type 0} (R : P → Path → Bool → P → Type 0) (verdicts : P → List Verdict) (says : (p : P) (path : Path) (b : Bool) (q : P) → R p path b q → (b ≡ not (is_refused_first (verdicts p))) × (verdicts q ≡ drop 1 (verdicts p))) where
  in_turn : (p q : P) (bs : List Bool) (paths : List Path) → length bs ≡ length paths → ReturnsInTurn R p bs paths q
      → items_where_true bs paths ≡ kept_recipients paths (verdicts p)
  in_turn p q [] [] e h = refl
  in_turn p q [] (path ∷ paths) e h = absurd (omega arith)
  in_turn p q (b ∷ bs) [] e h = absurd h
  in_turn p q (b ∷ bs) (path ∷ paths) e h =
      let said = says p path b h.0 h.1 in
      picked b bs path paths
      ∙ one_more path paths (items_where_true bs paths) b (verdicts p) said.0
      (in_turn h.0 q bs paths (omega (arith, e)) h.2 ∙ ap (kept_recipients paths) said.1)

  pub kept_from_retain : (p : P) (paths kept : List Path) → IsFiltered R p paths kept
      → kept ≡ kept_recipients paths (verdicts p)
  kept_from_retain p paths kept h = h.4 ∙ in_turn p h.1 h.0 paths h.2 h.3

-- ---- what all recipients have, those that are kept have

all_by : (Q : Path → Type 0) (path : Path) (kept : List Path) (refused : Bool) → Q path → All Q kept
    → All Q (if refused then kept else path ∷ kept)
all_by Q path kept true q h = h
all_by Q path kept false q h = All-cons Q path kept q h

pub all_kept : (Q : Path → Type 0) (paths : List Path) (verdicts : List Verdict) → All Q paths
    → All Q (kept_recipients paths verdicts)
all_kept Q [] verdicts h = All-nil Q
all_kept Q (path ∷ paths) [] h = h
all_kept Q (path ∷ paths) (verdict ∷ verdicts) h =
    all_by Q path (kept_recipients paths verdicts) (is_refusal verdict) (All-head Q path paths h)
    (all_kept Q paths verdicts (All-tail Q path paths h))
