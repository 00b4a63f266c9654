use Rattle.std.proofs.Common.{◌≡◌, ◌+◌, ◌<◌, length, refl, drop, map, get_or, List, ℕ, Option, None, ◌∷◌, ◌++◌, [], sym, ap, ◌∙◌, add-one, append-nil}
use denote.Ref.{Bor}
use Rattle.std.specs.Option.{option_copied, option_to_list}
use Rattle.std.proofs.Math.Seq.{drop-cons}
use Rattle.std.proofs.lemmas.Map.Text.{btree_map_updates_str}
use Rattle.milter_fields.specs.declared.pair.Pair.{Pair}
use Rattle.milter_mail.specs.ChosenMacros.{names_of}
use Rattle.milter_mail.proofs.MacroChoice.{Choosing, at_name, choosing_next, word_of_len}
use Rattle.milter_mail.proofs.chosen_macros.chosen_pairs.Goals as goal
use Rattle.milter_mail.proofs.chosen_macros.chosen_pairs.Goals.{in-Some+in_ok-copy_pair+in_ok-push, in_default}

pub loop-part-init : goal.loop-part-init
loop-part-init c = record {
  left = c.args.pairs.now;
  has = c.in_ok-last.ensures;
  whole = rw (c.new-chosen.ensures.items, c.deref-part-items.ensures.value, c.in_ok-parts.ensures) refl;
}

pub loop-part-preserved : goal.loop-part-preserved
loop-part-preserved c =
    let items : List (Bor (List ℕ)) = c.deref-part-items.result.now in
    let i = c.loop-part.part-index in
    let none : Bor (List ℕ) = record { ref_ptr = (0, 0); now = [] } in
    let part : List ℕ = (get_or items i none).now in
    let rest : List (List ℕ) = map (λ (part : Bor (List ℕ)). part.now) (drop (i + 1) items) in
    let result : Option (Bor Pair) = c.remove.result in
    let found : result ≡ at_name c.loop-part.last part = c.remove.ensures.value in
    let updated = btree_map_updates_str part c.loop-part.last c.remove.new.self None c.remove.ensures.updates in
    let word = word_of_len part (sym c.is_empty.ensures ∙ c.if-is_empty.false) in
    let within : i < length items = c.loop-part-test.true in
    let here : map (λ (part : Bor (List ℕ)). part.now) (drop i items) ≡ part ∷ rest = rw (add-one, drop-cons items i none within) in
    let before : Choosing (names_of c.args.names.now) (part ∷ rest) c.args.pairs.now c.loop-part.last c.loop-part.chosen.items = rw here at c.loop-part.invariant in
    let next = choosing_next (names_of c.args.names.now) rest c.args.pairs.now c.loop-part.last c.remove.new.self c.loop-part.chosen.items part (option_copied result) word before (ap option_copied found) updated in
    let same : c.match-remove.chosen.items ≡ c.loop-part.chosen.items ++ option_to_list (option_copied result) = elim c.match-remove.branch [
      | in-Some+in_ok-copy_pair+in_ok-push w ↦ rw (w.chosen-is, w.in_ok-push.ensures.items, w.in_ok-copy_pair.ensures, w.in-Some.is) refl
      | in_default w ↦ rw (w.chosen-is, w.in_default.is) (sym (append-nil c.loop-part.chosen.items))
    ] in
    rw same next
