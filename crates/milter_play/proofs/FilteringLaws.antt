-- Connections that are served one after another.
use Rattle.std.proofs.Common.{◌≡◌, ℕ, suc, ◌+◌, ◌≤◌, List, [], ◌∷◌, ◌++◌, length, Option, Result, Ok, Err, refl, sym, true≢false, ap, subst, arith, ◌∙◌, append_assoc, append-nil, length-append}
use Rattle.std.specs.Result.{IsErr, OnErr}
use Rattle.std.specs.Io.KnownBytes.{Appends}
use Rattle.std.proofs.KnownBytes.{Appends-nil, Appends-trans}
use Rattle.milter_protocol.specs.Behavior.{Behavior}
use Rattle.milter_filter.specs.declared.turn.Served.{Served}
use Rattle.milter_text.specs.WrittenText.{WritesPrefix, WritesText}
use Rattle.milter_play.specs.FilterRuns.{ServedAll, ServedSome, ServesEach, report_lines}
use Rattle.milter_cli.specs.ConnectionLine.{report_line}

pub on_error : {E P : Type 0} (r : Result Unit E) → P → OnErr r P
on_error (Ok done) h = tt
on_error (Err e) h = h

pub unwritten : {E : Type 0} (text : List ℕ) (w : Option (List ℕ)) (r : Result Unit E) → IsErr r → WritesText text w w r
unwritten text w (Ok done) err = absurd (true≢false (sym err))
unwritten text w (Err e) err = record { written = []; unwritten = text; whole = refl; appended = Appends-nil w }

-- the lines of one more connection
lines_after : (n : ℕ) (ends : List Served) (end : Served) → report_lines n (ends ++ end ∷ []) ≡ report_lines n ends ++ report_line (n + length ends) end
lines_after n [] end = append-nil (report_line n end) ∙ ap (λ k. report_line k end) (omega arith)
lines_after n (x ∷ ends) end =
    ap (λ rest. report_line n x ++ rest) (lines_after (n + 1) ends end ∙ ap (λ k. report_lines (n + 1) ends ++ report_line k end) (omega arith))
    ∙ sym (append_assoc (report_line n x) (report_lines (n + 1) ends) (report_line (n + suc (length ends)) end))

module _ {C : Type 0} (serves : C → Behavior → Served → C → Type 0) (b : Behavior) where
  each_after : (a m z : C) (ends : List Served) (end : Served) → ServesEach serves b a ends m → serves m b end z → ServesEach serves b a (ends ++ end ∷ []) z
  each_after a m z [] end e s = (z, subst (λ x. serves x b end z) e s, refl)
  each_after a m z (x ∷ ends) end (between, first, rest) s = (between, first, each_after between m z ends end rest s)

  pub none_yet : (a : C) (w : Option (List ℕ)) → ServedAll serves b 0 a a w w
  none_yet a w = record { ends = []; number = refl; served = refl; lines = Appends-nil w }

  pub none_left : (n count : ℕ) (a z : C) (w u : Option (List ℕ)) → ServedAll serves b n a z w u → n ≡ count → ServedAll serves b count a z w u
  none_left n count a z w u all e = subst (λ (k : ℕ). ServedAll serves b k a z w u) e all

  pub one_more : (n k count : ℕ) (a m z : C) (w v u : Option (List ℕ)) (end : Served) → ServedAll serves b n a m w v → serves m b end z → Appends v u (report_line k end) → k ≡ n + 1 → count ≡ k
      → ServedAll serves b count a z w u
  one_more n k count a m z w v u end all s line next last =
      record {
        ends = all.ends ++ end ∷ [];
        number = length-append all.ends (end ∷ []) ∙ omega (arith, all.number, next, last);
        served = each_after a m z all.ends end all.served s;
        lines = subst (Appends w u) (sym (lines_after 1 all.ends end)) (Appends-trans w v u _ _ all.lines (subst (λ i. Appends v u (report_line i end)) (omega (arith, all.number, next)) line));
      }

  pub cut_off : (n k count : ℕ) (a m z : C) (w v u : Option (List ℕ)) (end : Served) → ServedAll serves b n a m w v → serves m b end z → WritesPrefix (report_line k end) v u → k ≡ n + 1 → k ≤ count
      → ServedSome serves b count a z w u
  cut_off n k count a m z w v u end all s line next low =
      record {
        ends = all.ends;
        last = end;
        lines = v;
        number = omega (arith, all.number, next, low);
        served = each_after a m z all.ends end all.served s;
        all_but_last = all.lines;
        last_line = subst (λ i. WritesPrefix (report_line i end) v u) (omega (arith, all.number, next)) line;
      }
