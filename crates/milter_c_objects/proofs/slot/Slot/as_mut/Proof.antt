-- `as_mut` borrows the object, and the slot follows it.
use Rattle.std.proofs.Common.{◌≡◌, ℕ, true, List, [], ◌∷◌, refl, sym, ap, ◌∙◌}
use seplogic.Ra.Ura.{Ura}
use base.Fraction.{full_share}
use mir.Raw.{raw as bare}
use mir.Syntax.{named}
use mir.Val.{Val, vptr}
use base.Logic.{ent, sep, never, fst∗}
use base.Fml.{GName, Fml, ftrue, flft, fsep}
use types.Logic.{Logic, sem}
use types.Kit.{‵, raw, ◌⊛◌, some, later, at_ret, ◌$◌, ◌∵◌, !, qed, move, keep, split, join, pick, fsplit, fsplit3, fjoin, fpack, suffices, frame, done, use1, await, group, rewrite}
use types.Run.{stop, fld, load, of_opd, first, blocks, exec, returns, enter, addr}
use types.ByLocal.{alloc_all, pass_all, free_all, look_at, get, through, sets, env, sets_last}
use types.Part.{whole, sub, look_in}
use contract.Monad.{fact}
use contract.Running.{tables}
use denote.Exit.{no}
use denote.Follow.{follows, lends_Part}
use denote.Memory.{lone, part_at, mem, cell_at, part_of}
use denote.Ref.{MutRef, mut_vals, mut_Tells}
use denote.Signature.{plain, mut_ref_to}
use denote.RawPtr.{Ptr, block_ptr, null_ptr, ptr_val, in_a_block}
use denote.Steps.{nothing, heard, opens}
use denote.Triple.Walked.{says, Stays, stay_dropped, walk_of, ends_at, Goes-spent_ref}
use Rattle.std.specs.Prelude.{Option, Some, is_some}
use Rattle.std.specs.Box.Ownership.{box_owns}
use Rattle.std.proofs.VecSteps.Shapes.{after}
use Rattle.std.proofs.raw_atomic.Walks.{proved}
use Rattle.std.specs.contracts.impls.GlobalAllocator.TheImpl.{ghosts}
use Rattle.milter_c_objects.proofs.Values.{both}
use Rattle.milter_c_objects.specs.Slot.{slot_owns}
use Rattle.milter_c_objects.specs.SlotBorrow.{with_object}
use Rattle.milter_c_objects.proofs.HandleValues.{R, Z, S, slot_out, slot_in, held}
use Rattle.milter_c_objects.specs.contracts.slot.Slot.as_mut as f
use Rattle.milter_c_objects.proofs.slot.Slot.as_mut.Statement.{statement}
use Rattle.milter_c_objects.proofs.slot.Slot.as_mut.Code as code

abbrev hs : Stays f.ended.signature.params f.ended.kept
hs = (stay_dropped (mut_ref_to (0 ∷ []) tt (plain (λ _. S))) no, tt)

-- all of the slot but its object
abbrev Rest : S.Denot → (b o rb ro : ℕ) → Val → Fml
Rest h b o rb ro hv = fsep (fsep (ghosts.dealloc_token h.alloc (bare (lone R.mir)) (block_ptr b o)) (Z.own_val h.alloc (hv ∷ []))) (cell_at full_share S.mir (both (vptr b o) hv ∷ []) rb ro)

back : {M : Type 1} {𝓤 : Ura M} (𝓛 : Logic 𝓤) (h : S.Denot) (b o rb ro : ℕ) (hv : Val) → h.at ≡ block_ptr b o → (w : R.Denot)
    → ent 𝓤 (sep 𝓤 (sem 𝓛 ((mem R).own_at w b o)) (sem 𝓛 (Rest h b o rb ro hv))) (sem 𝓛 ((mem S).own_at (with_object h w) rb ro))
unfolding part_of
back 𝓛 h b o rb ro hv e w =
    qed 𝓛 (‵ (part_at R full_share w b o) ∷ ‵ (Rest h b o rb ro hv) ∷ []) ∵ move ! (1 ∷ []) $ fsplit ! $ fsplit ! $ move ! (3 ∷ 0 ∷ []) $ fjoin ! $
    slot_in ! (block_ptr b o) hv h.alloc (Some w) $
    rewrite ! 0 (λ (p : Ptr). ‵ (S.own_val (record { at = p; alloc = h.alloc; object = Some w }) (both (vptr b o) hv ∷ []))) (sym e) refl $ move ! (1 ∷ 0 ∷ []) $ fjoin ! $
    fpack ! (List Val) (λ us. fsep (cell_at full_share S.mir us rb ro) (S.own_val (with_object h w) us)) (both (vptr b o) hv ∷ []) $ done !

pub as_mut_spec : {M : Type 1} → statement M
as_mut_spec 𝓤 𝓛 𝓜 𝓡 wired =
    let c = f.clauses 𝓛 𝓜.mem 𝓡.returns in let W = walk_of 𝓛 f.ended hs c in let 𝓣 = tables 𝓤 𝓛.H 𝓜 𝓡 𝓡.env in let fn = code.function in
    proved 𝓛 f.ended hs c 𝓜 𝓡 (Goes-spent_ref 𝓛 1 (0 ∷ []) tt (plain (λ _. S)), tt)
    f.Key.name fn (code.unfolded 𝓤 𝓛.H 𝓜 𝓡 wired)
    (λ κs. (mut_vals, tt)) (λ κs. (mut_Tells (named 0) κs.0 S, tt)) (λ κs qs bounds a _ are.
    let κ = κs.0 in let q = qs.0 in let rb = a.0.ref_ptr.0 in let ro = a.0.ref_ptr.1 in let γ = a.0.ghost_name in let h = a.0.now in let vs = mut_vals a.0 in
    let y : W.Ghost = ((κs, qs, bounds, a, (vs, tt)), tt) in let Asked : Type 0 = is_some h.object ≡ true in
    qed 𝓛 (((‵ (flft κ q) ⊛ ‵ ftrue) ⊛ ‵ ((MutRef (named 0) κ S).own_val a.0 vs) ⊛ ‵ ftrue) ∷ raw (fact 𝓤 Asked) ∷ []) ∵
    move ! (1 ∷ []) $ heard ! Asked (λ there. let x : R.Denot = (held h.object there).0 in let full : h.object ≡ Some x = (held h.object there).1 in
    split ! $ split ! $ move ! (2 ∷ []) $ split ! $ keep ! (0 ∷ 2 ∷ []) $
    enter ! _ _ _ _ _ $ alloc_all ! (λ l. pass_all ! refl ((tt, tt), tt) $
    fsplit3 ! $ move ! (1 ∷ 2 ∷ 3 ∷ []) $ opens ! tt S rb ro (λ us. move ! (1 ∷ []) $ slot_out ! h us (λ hv ws fits.
    rewrite ! 0 (λ (s : Option R.Denot). ‵ (slot_owns (ghosts.dealloc_token h.alloc) R h.at s)) full refl $
    in_a_block ! h.at (λ p. box_owns (ghosts.dealloc_token h.alloc) R p x) (fst∗ 𝓤 (never 𝓤) (sem 𝓛 (ghosts.dealloc_token h.alloc (bare (lone R.mir)) null_ptr))) (λ b o e. fsplit ! $
    let word : us ≡ both (vptr b o) hv ∷ [] = ws ∙ ap (λ (p : Ptr). both (ptr_val p) hv ∷ []) e in
    rewrite ! 3 (λ (ws' : List Val). ‵ (cell_at full_share S.mir ws' rb ro)) word refl $ move ! (1 ∷ 2 ∷ []) $ fjoin ! $ move ! (1 ∷ []) $
    -- [the object; the token with the handle; the slot's cell; the open borrow, in three entries]
    first ! $ blocks ! $
    sets ! (of_opd ! (load ! (through ! refl (fld ! refl (stop !))) (look_in ! 2 (sub ! 0 refl (whole !))))) refl (tt, tt) $
    sets ! (of_opd ! (get ! refl)) refl (tt, tt) $ sets_last ! (addr ! (through ! refl (stop !))) refl (tt, tt) $
    exec ! 𝓣.C 𝓣.Λ (env fn.locals l) (after 1 fn.body) (at_ret _ (W.post y)) $
    sets ! (of_opd ! (get ! refl)) refl (tt, tt) $
    move ! (1 ∷ 2 ∷ []) $ fjoin ! $ move ! (2 ∷ 3 ∷ 4 ∷ 1 ∷ 0 ∷ []) $ group ! 5 $
    use1 𝓛 (later (some (λ (γ' : GName). ‵ ((MutRef (named 0) κ R).own_val (record { ref_ptr = (b, o); ghost_name = γ'; now = x }) (vptr b o ∷ [])) ⊛ ‵ (flft κ q) ⊛ ‵ (follows S R γ γ' (with_object h)))))
    (lends_Part 𝓛 S R (with_object h) (named 0) κ q rb ro b o γ (sem 𝓛 (Rest h b o rb ro hv)) (back 𝓛 h b o rb ro hv e) (S.coded.code h) (S.coded.code h) x) $ await ! tt $ pick ! (λ γ'.
    returns ! (look_at ! 0 refl) $ free_all ! refl $ keep ! (0 ∷ []) $ split ! $ move ! (1 ∷ []) $ split ! $ move ! (2 ∷ 0 ∷ 1 ∷ []) $
    suffices ! _ (ends_at 𝓛 f.ended hs c y (vptr b o) (record { ref_ptr = (b, o); ghost_name = γ'; now = x }) (tt, tt) (tt, tt)) $
    nothing ! $ nothing ! $ fjoin ! $ join ! $ nothing ! $ move ! (2 ∷ 0 ∷ []) $ join ! $ join ! $ frame ! $ says ! (sym full) $ done !)))))))
