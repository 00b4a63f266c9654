-- Reports that an observer notes one after the other.
use Rattle.std.proofs.Common.{◌≡◌, ◌+◌, ◌<◌, arith, ℕ, suc, List, [], ◌∷◌, ◌++◌, append_assoc, append-nil, drop, drop-cons, get_or, length, length-append, refl, sym, ap, ◌∙◌, subst}
use Rattle.std.proofs.Math.Seq.{drop-append_seam}
use Rattle.std.proofs.lemmas.List.{drop_all}
use Rattle.milter_mta_outcome.specs.declared.outcome.Report.{Report}
use Rattle.milter_mta_outcome.specs.declared.loss.Loss.{Loss}
use Rattle.milter_mta.specs.Mta.{Mta}
use Rattle.milter_mta.specs.Dispositions.{lost}
use Rattle.milter_mta.specs.AnyFilter.{GoesOnDialogues, IsOnDialogue}
use Rattle.milter_mta_client.specs.ConnectionRuns.{Steps}
use Rattle.milter_mta_client.specs.Events.{Event, IsOutside, Runs}
use Rattle.milter_mta_client.specs.Events.Event.{GaveUp}
use Rattle.milter_mta_client.specs.Observations.{Notes, NotesAdded, NotesEach}
use Rattle.milter_mta_client.proofs.EventRuns.{one-step}

-- whatever happens to a mail server's end on a dialogue, it goes on so
abbrev pub KeepsToDialogues : Type 0
KeepsToDialogues = (old new : Mta) (events : List Event) → IsOnDialogue old → Runs old events new → GoesOnDialogues old new

-- what is noted of some reports completes what is noted of others
abbrev pub Completes : {O : Type 0} → (O → ℕ → Report → O → Type 0) → ℕ → List Report → O → ℕ → List Report → O → Type 0
Completes {O} notes number reports old first all begin = (last : O) → NotesEach notes number reports old last → NotesEach notes first all begin last

module _ {O : Type 0} (notes : O → ℕ → Report → O → Type 0) where
  -- the report at an index, and then those after it
  pub noted-next : (reports : List Report) (index : ℕ) (report : Report) (a b c : O) → index < length reports → report ≡ get_or reports index report
      → notes a (index + 1) report b → NotesEach notes (index + 1 + 1) (drop (index + 1) reports) b c → NotesEach notes (index + 1) (drop index reports) a c
  noted-next reports index report a b c within is note rest =
      let after : suc index ≡ index + 1 = omega arith in
      let e : drop index reports ≡ report ∷ drop (index + 1) reports =
      drop-cons reports index report within ∙ ap (λ (r : Report). r ∷ drop (suc index) reports) (sym is) ∙ ap (λ (k : ℕ). report ∷ drop k reports) after in
      let more : NotesEach notes (suc (index + 1)) (drop (index + 1) reports) b c =
      subst (λ (n : ℕ). NotesEach notes n (drop (index + 1) reports) b c) (omega arith) rest in
      subst (λ (l : List Report). NotesEach notes (index + 1) l a c) (sym e) (b, note, more)

  noted-append : (number : ℕ) (xs ys : List Report) (a b c : O) → NotesEach notes number xs a b → NotesEach notes (number + length xs) ys b c
      → NotesEach notes number (xs ++ ys) a c
  noted-append number [] ys a b c first next =
      subst (λ (x : O). NotesEach notes number ys x c) first (subst (λ (n : ℕ). NotesEach notes n ys b c) (omega arith) next)
  noted-append number (x ∷ xs) ys a b c first next = (
    first.0,
    first.1,
    noted-append (suc number) xs ys first.0 b c first.2 (subst (λ (n : ℕ). NotesEach notes n ys b c) (omega arith) next),
  )

  noted-parts : (r s t x y : List Report) (a b c : O) → s ≡ r ++ x → t ≡ s ++ y → NotesEach notes (length r + 1) (drop (length r) s) a b
      → NotesEach notes (length s + 1) (drop (length s) t) b c → NotesEach notes (length r + 1) (drop (length r) t) a c
  noted-parts r s t x y a b c s_is t_is first next =
      let all : t ≡ r ++ (x ++ y) = t_is ∙ ap (λ (l : List Report). l ++ y) s_is ∙ append_assoc r x y in
      let first_is : drop (length r) s ≡ x = ap (drop (length r)) s_is ∙ drop-append_seam r x in
      let next_is : drop (length s) t ≡ y = ap (drop (length s)) t_is ∙ drop-append_seam s y in
      let whole_is : drop (length r) t ≡ x ++ y = ap (drop (length r)) all ∙ drop-append_seam r (x ++ y) in
      let n : length s + 1 ≡ length r + 1 + length x = omega (arith, ap length s_is, length-append r x) in
      let first_part : NotesEach notes (length r + 1) x a b = subst (λ (l : List Report). NotesEach notes (length r + 1) l a b) first_is first in
      let next_part : NotesEach notes (length r + 1 + length x) y b c =
      subst (λ (k : ℕ). NotesEach notes k y b c) n (subst (λ (l : List Report). NotesEach notes (length s + 1) l b c) next_is next) in
      subst (λ (l : List Report). NotesEach notes (length r + 1) l a c) (sym whole_is) (noted-append (length r + 1) x y a b c first_part next_part)

  -- nothing was added
  pub notes-none : (m : Mta) (a : O) → NotesAdded notes m m a a
  notes-none m a = subst (λ (l : List Report). NotesEach notes (length m.reports + 1) l a a) (sym (drop_all (length m.reports) m.reports (omega arith))) refl

  -- what is added in one part and then in another
  pub notes-on : KeepsToDialogues → (old between new : Mta) (a b c : O) → Steps old between → Steps between new → Notes notes old between a b → Notes notes between new b c
      → Notes notes old new a c
  notes-on law old between new a b c first next noted then on =
      let one = law old between first.events on first.runs in
      let two = law between new next.events one.on_dialogue next.runs in
      noted-parts old.reports between.reports new.reports one.settles.added two.settles.added a b c one.settles.reports_are two.settles.reports_are (noted on) (then one.on_dialogue)

-- ---- what a loss does

pub lost-step : (m new : Mta) (loss : Loss) → IsOutside loss → new ≡ lost loss m → Steps m new
lost-step m new loss outside is = subst (Steps m) (sym is) (one-step m (lost loss m) (GaveUp loss) (outside, refl))
