use Rattle.std.proofs.Common.{◌≡◌, ◌+◌, List, ℕ, Vec, Global, sym, ap, subst, ◌∙◌, arith, set}
use Rattle.std.specs.List.{insert}
use Rattle.std.proofs.lemmas.Result.{err_from_is_err_and}
use Rattle.milter_field_index.specs.Blocks.{at, Measured}
use Rattle.milter_field_index.proofs.Measures.{read-at, written-at, unchanged-at, length_read, length-le_joined, measured-insert}
use Rattle.milter_field_index.proofs.blocks.Blocks.insert.Goals as goal

pub invariant_of-self : goal.invariant_of-self
invariant_of-self c =
    let bs : List (Vec ℕ Global) = c.self.inside.blocks.items in
    let same =
    unchanged-at bs c.args.self.now c.args.place.block c.index_mut.result.now c.insert.new.self c.self.view_is
    c.requires.block c.index_mut.ensures.value c.in_err-insert.ensures.items in
    subst (λ (y : List (List ℕ)). Measured c.self.inside.lens.items y) (c.self.view_is ∙ sym same) c.self.invariant

pub returns-in_err-insert-clause-err : goal.returns-in_err-insert-clause-err
returns-in_err-insert-clause-err c =
    let bs : List (Vec ℕ Global) = c.self.inside.blocks.items in
    let same =
    unchanged-at bs c.args.self.now c.args.place.block c.index_mut.result.now c.insert.new.self c.self.view_is
    c.requires.block c.index_mut.ensures.value c.in_err-insert.ensures.items in
    let p = err_from_is_err_and c.from_residual.result c.from_residual.ensures.1 in
    rw (p.1) same

pub overflow_add-index_mut : goal.overflow_add-index_mut
overflow_add-index_mut c =
    let m = subst (λ (y : List (List ℕ)). Measured c.self.inside.lens.items y) c.self.view_is c.self.invariant in
    let n = length_read c.self.inside.lens.items c.args.self.now c.args.place.block c.index_mut-2.result.now m
    c.requires.block c.index_mut-2.ensures.value in
    let most = length-le_joined c.self.inside.lens.items c.args.self.now c.args.place.block m c.requires.block in
    omega (arith, n, most, c.requires.few)

pub invariant_of-self-2 : goal.invariant_of-self-2
invariant_of-self-2 c =
    let bs : List (Vec ℕ Global) = c.self.inside.blocks.items in
    let lens : List ℕ = c.self.inside.lens.items in
    let t : ℕ = c.args.place.block in
    let n : ℕ = c.index_mut-2.result.now in
    let m = subst (λ (y : List (List ℕ)). Measured lens y) c.self.view_is c.self.invariant in
    let block =
    read-at bs c.args.self.now t c.index_mut.result.now c.self.view_is c.requires.block c.index_mut.ensures.value
    in
    let new : c.insert.new.self.items ≡ insert (at c.args.self.now t) c.args.place.offset c.args.number =
    c.in_ok-insert.ensures.items ∙ ap (λ l. insert l c.args.place.offset c.args.number) block in
    let view =
    written-at bs c.args.self.now t c.insert.new.self
    (insert (at c.args.self.now t) c.args.place.offset c.args.number) c.self.view_is new in
    let counted =
    measured-insert lens c.args.self.now t c.args.place.offset n c.args.number m c.requires.block
    c.index_mut-2.ensures.value c.requires.offset c.requires.few in
    subst (λ (y : List (List ℕ)). Measured (set lens t (n + 1)) y) (sym view) counted

pub returns-clause-ok : goal.returns-clause-ok
returns-clause-ok c =
    let bs : List (Vec ℕ Global) = c.self.inside.blocks.items in
    let t : ℕ = c.args.place.block in
    let block =
    read-at bs c.args.self.now t c.index_mut.result.now c.self.view_is c.requires.block c.index_mut.ensures.value
    in
    let new : c.insert.new.self.items ≡ insert (at c.args.self.now t) c.args.place.offset c.args.number =
    c.in_ok-insert.ensures.items ∙ ap (λ l. insert l c.args.place.offset c.args.number) block in
    written-at bs c.args.self.now t c.insert.new.self
    (insert (at c.args.self.now t) c.args.place.offset c.args.number) c.self.view_is new
