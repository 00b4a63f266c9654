-- Texts that are written to a writer one after the other.
use Rattle.std.proofs.Common.{◌≡◌, ◌≢◌, ℕ, suc, ◌+◌, ◌<◌, ◌≤◌, Bool, List, [], ◌∷◌, ◌++◌, Option, Result, Ok, Err, append_assoc, append-nil, drop, drop-cons, get_or, length, refl, sym, ap, subst, ◌∙◌, arith}
use Rattle.std.specs.Prelude.{OnErr, OnOk}
use Rattle.std.specs.Io.KnownBytes.{Appends}
use Rattle.std.specs.Result.{IsErr}
use Rattle.std.proofs.KnownBytes.{Appends-trans}
use Rattle.std.proofs.lemmas.List.{drop_all}
use Rattle.milter_message.specs.declared.message.Held.{Held}
use Rattle.milter_mta_outcome.specs.declared.outcome.Outcome.{Outcome}
use Rattle.milter_mta_outcome.specs.declared.outcome.Outcome.TheVariants.{Released, Discarded, Refused, NoRecipients, RefusedAtConnection}
use Rattle.milter_mta_outcome.specs.declared.outcome.Report.{Report}
use Rattle.milter_mta_outcome.specs.Losses.{is_by_client}
use Rattle.milter_mta_client.specs.ReportsText.{released_text, report_text, texts_from}
use Rattle.milter_text.specs.WrittenText.{WritesPrefix, WritesText}
use Rattle.milter_text.specs.TextWriter.{WritesAllBut}
use Rattle.milter_text.specs.declared.text_fault.TextFault.{TextFault}

-- ---- a part of a text after those that were written

-- the next part was written
pub part_is_written : {text here : List ℕ} {w v u : Option (List ℕ)} (part rest : List ℕ)
    → WritesAllBut text here w v → Appends v u part → here ≡ part ++ rest → WritesAllBut text rest w u
part_is_written {text} {here} {w} {v} {u} part rest s a is = record {
  written = s.written ++ part;
  whole = append_assoc s.written part rest ∙ ap (λ (x : List ℕ). s.written ++ x) (sym is) ∙ s.whole;
  appended = Appends-trans w v u s.written part s.appended a;
}

-- the next part was not written to its end
part_is_cut : {text here : List ℕ} {w v u : Option (List ℕ)} (part rest : List ℕ)
    → WritesAllBut text here w v → WritesPrefix part v u → here ≡ part ++ rest → WritesPrefix text w u
part_is_cut {text} {here} {w} {v} {u} part rest s p is = record {
  written = s.written ++ p.written;
  unwritten = p.unwritten ++ rest;
  whole =
      append_assoc s.written p.written (p.unwritten ++ rest)
      ∙ ap (λ (x : List ℕ). s.written ++ x) (sym (append_assoc p.written p.unwritten rest) ∙ ap (λ (x : List ℕ). x ++ rest) p.whole ∙ sym is)
      ∙ s.whole;
  appended = Appends-trans w v u s.written p.written s.appended p.appended;
}

-- and that is the result
pub part_fails : {text here : List ℕ} {w v u : Option (List ℕ)} (r : Result Unit TextFault) (part rest : List ℕ)
    → WritesAllBut text here w v → WritesPrefix part v u → IsErr r → here ≡ part ++ rest → WritesText text w u r
part_fails (Ok k) part rest s p fails is = absurd (cc)
part_fails (Err e) part rest s p fails is = part_is_cut part rest s p is

-- no part is left
pub all_is_written : {text here : List ℕ} {w v : Option (List ℕ)} → WritesAllBut text here w v → here ≡ [] → Appends w v text
all_is_written {text} {here} {w} {v} s none =
    subst (Appends w v) (sym (append-nil s.written) ∙ ap (λ (x : List ℕ). s.written ++ x) (sym none) ∙ s.whole) s.appended

-- the next part, which is the last
pub last_is_written : {text here : List ℕ} {w v : Option (List ℕ)} (u : Option (List ℕ)) (r : Result Unit TextFault) (part : List ℕ)
    → WritesAllBut text here w v → WritesText part v u r → here ≡ part → WritesText text w u r
last_is_written u (Ok k) part s p is = all_is_written (part_is_written part [] s p (is ∙ sym (append-nil part))) refl
last_is_written u (Err e) part s p is = part_is_cut part [] s p (is ∙ sym (append-nil part))

-- by the result of its writing
pub is_written : (text : List ℕ) (v u : Option (List ℕ)) (r : Result Unit TextFault) → OnOk r (Appends v u text) → OnErr r (WritesPrefix text v u) → WritesText text v u r
is_written text v u (Ok k) done begun = done
is_written text v u (Err e) done begun = begun

-- ---- texts of messages

-- the next of them
pub texts-next : (is_named : Bool) (reports : List Report) (index : ℕ) (report : Report) → index < length reports → report ≡ get_or reports index report
    → texts_from (index + 1) is_named (drop index reports)
    ≡ report_text is_named (index + 1) report ++ texts_from (index + 1 + 1) (is_by_client report.settled_by) (drop (index + 1) reports)
unfolding texts_from
texts-next is_named reports index report within is =
    let next : suc index ≡ index + 1 = omega arith in
    let e : drop index reports ≡ report ∷ drop (index + 1) reports =
    drop-cons reports index report within ∙ ap (λ (r : Report). r ∷ drop (suc index) reports) (sym is) ∙ ap (λ (k : ℕ). report ∷ drop k reports) next in
    let n : suc (index + 1) ≡ index + 1 + 1 = omega arith in
    ap (texts_from (index + 1) is_named) e
    ∙ ap (λ (k : ℕ). report_text is_named (index + 1) report ++ texts_from k (is_by_client report.settled_by) (drop (index + 1) reports)) n

-- none is left
pub texts-end : (is_named : Bool) (reports : List Report) (index : ℕ) → length reports ≤ index → texts_from (index + 1) is_named (drop index reports) ≡ []
unfolding texts_from
texts-end is_named reports index past = ap (texts_from (index + 1) is_named) (drop_all index reports past)

-- ---- the text of a message

pub nothing_released : (outcome : Outcome) → ((held : Held) → outcome ≢ Released held) → released_text outcome ≡ []
nothing_released (Released held) other = absurd (other held refl)
nothing_released Discarded other = refl
nothing_released (Refused refusal) other = refl
nothing_released NoRecipients other = refl
nothing_released RefusedAtConnection other = refl
