-- No report is by another cause.
use Rattle.std.proofs.Common.{◌≡◌, suc, Bool, true, false, not, if◌then◌else◌, List, [], ◌∷◌, All, refl}
use Rattle.std.proofs.lemmas.List.Elements.{All-cons, All-nil}
use Rattle.milter_mta_outcome.specs.declared.loss.By.{By}
use Rattle.milter_mta_outcome.specs.declared.outcome.Report.{Report}
use Rattle.milter_world.specs.DialogueReports.{count_reports, is_known}

abbrev pub is_other : By → Bool
is_other by = not (is_known by)

pub all-known : (rs : List Report) → count_reports is_other rs ≡ 0 → All (λ (r : Report). is_known r.settled_by ≡ true) rs
all-known [] none = All-nil (λ (r : Report). is_known r.settled_by ≡ true)
all-known (r ∷ rs) none = by_kind (is_known r.settled_by) refl none (all-known rs)
  where
    by_kind : (known : Bool) → is_known r.settled_by ≡ known → (if not known then suc (count_reports is_other rs) else count_reports is_other rs) ≡ 0
        → (count_reports is_other rs ≡ 0 → All (λ (r : Report). is_known r.settled_by ≡ true) rs) → All (λ (r : Report). is_known r.settled_by ≡ true) (r ∷ rs)
    by_kind true e none rest = All-cons (λ (r : Report). is_known r.settled_by ≡ true) r rs e (rest none)
    by_kind false e none rest = absurd cc
