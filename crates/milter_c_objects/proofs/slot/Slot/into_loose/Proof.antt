-- `into_loose` hands on what the slot owns.
use Rattle.std.proofs.Common.{◌≡◌, true, List, [], ◌∷◌, ◌++◌, refl, sym, ap, ◌∙◌, subst}
use mir.Raw.{raw as bare}
use mir.Val.{Val, vptr}
use base.Logic.{SProp, ent, emp, id⊢, never, fst∗}
use base.Fml.{ftrue}
use prog.Wp.{WpFn}
use types.Logic.{sem}
use types.Kit.{‵, raw, ◌⊛◌, ◌$◌, ◌∵◌, !, qed, by, move, keep, split, fsplit, fjoin, suffices, use0, rewrite}
use types.Run.{stop, fld, of_opd, no_more, and_then, returns, enter}
use types.ByLocal.{alloc_all, pass_all, free_all, look_at, get, get_in, sets}
use types.Part.{agg, sub, whole}
use contract.Monad.{fact, fact_i}
use contract.Running.{tables}
use denote.Exit.{yes}
use denote.RattleType.{owns}
use denote.Memory.{lone}
use denote.Signature.{types_at, plain}
use denote.RawPtr.{Ptr, block_ptr, null_ptr, ptr_val, in_a_block}
use denote.Steps.{nothing, heard}
use denote.Triple.Walked.{Stays, stay_dropped, walk_of}
use Rattle.std.specs.Prelude.{Option, Some, is_some}
use Rattle.std.specs.Box.Ownership.{box_owns}
use Rattle.std.proofs.alloc.Calls.{Goes-blank}
use Rattle.std.proofs.raw_atomic.Walks.{proved_at, leaves}
use Rattle.std.specs.contracts.impls.GlobalAllocator.TheImpl.{ghosts}
use Rattle.milter_c_objects.proofs.Values.{both, loose_good, loose_in}
use Rattle.milter_c_objects.specs.Slot.{slot_owns}
use Rattle.milter_c_objects.proofs.HandleValues.{R, Z, LZ, S, slot_out, held}
use Rattle.milter_c_objects.specs.contracts.slot.Slot.into_loose.{ended, clauses}
use Rattle.milter_c_objects.specs.contracts.slot.Slot.into_loose.Key.{name as #self}
use Rattle.milter_c_objects.proofs.slot.Slot.into_loose.Statement.{statement}
use Rattle.milter_c_objects.proofs.slot.Slot.into_loose.Code as code

abbrev hs : Stays ended.signature.params ended.kept
hs = (stay_dropped (plain (λ _. S)) yes, tt)

pub into_loose_spec : {M : Type 1} → statement M
into_loose_spec 𝓤 𝓛 𝓜 𝓡 wired =
    let H = 𝓛.H in let 𝓣 = tables 𝓤 H 𝓜 𝓡 𝓡.env in let c = clauses 𝓛 𝓜.mem 𝓡.returns in let fn = code.function in
    proved_at 𝓛 ended hs c 𝓜 𝓡 (Goes-blank 𝓛 0 (plain (λ _. S)) yes (λ κs x f. tt), tt) #self fn (code.unfolded 𝓤 H 𝓜 𝓡 wired) (λ z are.
    let κs = z.0.0 in let v = z.0.3.0 in let a = v.alloc in let Post : Val → SProp 𝓤 = (walk_of 𝓛 ended hs c).post z in let Run : List Val → SProp 𝓤 = λ ws. WpFn 𝓤 H 𝓣.C 𝓣.Λ fn ws Post in
    let Asked : Type 0 = is_some v.object ≡ true in
    qed 𝓛 ((‵ ftrue ⊛ ‵ (owns (types_at ended.signature.params κs) z.0.3 z.0.4)) ∷ raw (fact 𝓤 Asked) ∷ []) ∵ move ! (1 ∷ []) $ heard ! Asked (λ there. let x : R.Denot = (held v.object there).0 in let full : v.object ≡ Some x = (held v.object there).1 in split ! $ move ! (1 ∷ []) $ fsplit ! $ slot_out ! v z.0.4.0 (λ h ws fits.
    rewrite ! 0 (λ (s : Option R.Denot). ‵ (slot_owns (ghosts.dealloc_token a) R v.at s)) full refl $
    in_a_block ! v.at (λ p. box_owns (ghosts.dealloc_token a) R p x) (fst∗ 𝓤 (never 𝓤) (sem 𝓛 (ghosts.dealloc_token a (bare (lone R.mir)) null_ptr))) (λ b o e.
    let w : Val = both (vptr b o) h in let typed = loose_good R Z LZ ghosts b o h fits in let is : z.0.4.0 ≡ w ∷ [] = ws ∙ ap (λ (p : Ptr). both (ptr_val p) h ∷ []) e in
    suffices ! (Run (w ∷ [])) (subst (λ (us : List Val). ent 𝓤 (Run (w ∷ [])) (Run us)) (sym (λ i. is i ++ [])) (id⊢ 𝓤 (Run (w ∷ [])))) $
    enter ! 𝓣.C 𝓣.Λ fn (w ∷ []) Post $ alloc_all ! (λ l. pass_all ! refl (typed, tt) $
    sets ! (of_opd ! (get_in ! (fld ! refl (stop !)) (sub ! 0 refl (whole !)))) refl (tt, tt) $ sets ! (of_opd ! (get_in ! (fld ! refl (stop !)) (sub ! 1 refl (whole !)))) refl fits $
    sets ! (of_opd ! (get ! refl)) refl (tt, tt) $ sets ! (agg ! (and_then ! (get ! refl) (and_then ! (get ! refl) (no_more !)))) refl typed $
    loose_in R Z LZ ghosts ! b o h a x $
    use0 𝓛 (raw (fact 𝓤 (Some x ≡ v.object))) (fact_i 𝓤 (Some x ≡ v.object) (emp 𝓤) (sym full)) $ nothing ! $ nothing ! $ fjoin ! $
    returns ! (look_at ! 0 refl) $ free_all ! refl $ keep ! (4 ∷ 0 ∷ 2 ∷ 1 ∷ []) $ by ! (leaves 𝓛 ended hs c z w (record { at = block_ptr b o; alloc = a; value = x }) (tt, tt) (tt, tt)))))))
