use Rattle.std.proofs.Common.{◌≡◌, ◌-◌, List, ℕ, Vec, Global, sym, ap, subst, ◌∙◌, set}
use Rattle.std.specs.List.{remove}
use Rattle.milter_field_index.specs.Blocks.{at, Measured}
use Rattle.milter_field_index.proofs.Measures.{read-at, written-at, measured-remove}
use Rattle.milter_field_index.proofs.blocks.Blocks.remove.Goals as goal

pub invariant_of-self : goal.invariant_of-self
invariant_of-self c =
    let bs : List (Vec ℕ Global) = c.self.inside.blocks.items in
    let lens : List ℕ = c.self.inside.lens.items in
    let t : ℕ = c.args.place.block in
    let n : ℕ = c.index_mut.result.now in
    let m = subst (λ (y : List (List ℕ)). Measured lens y) c.self.view_is c.self.invariant in
    let block =
    read-at bs c.args.self.now t c.index_mut-2.result.now c.self.view_is c.requires.block
    c.index_mut-2.ensures.value in
    let new : c.remove.new.self.items ≡ remove (at c.args.self.now t) c.args.place.offset = c.remove.ensures.items
    ∙ ap (λ l. remove l c.args.place.offset) block in
    let view =
    written-at bs c.args.self.now t c.remove.new.self (remove (at c.args.self.now t) c.args.place.offset)
    c.self.view_is new in
    let counted =
    measured-remove lens c.args.self.now t c.args.place.offset n m c.requires.block c.index_mut.ensures.value
    c.requires.offset in
    subst (λ (y : List (List ℕ)). Measured (set lens t (n - 1)) y) (sym view) counted

pub returns-clause-rest : goal.returns-clause-rest
returns-clause-rest c =
    let bs : List (Vec ℕ Global) = c.self.inside.blocks.items in
    let t : ℕ = c.args.place.block in
    let block =
    read-at bs c.args.self.now t c.index_mut-2.result.now c.self.view_is c.requires.block
    c.index_mut-2.ensures.value in
    let new : c.remove.new.self.items ≡ remove (at c.args.self.now t) c.args.place.offset = c.remove.ensures.items
    ∙ ap (λ l. remove l c.args.place.offset) block in
    written-at bs c.args.self.now t c.remove.new.self (remove (at c.args.self.now t) c.args.place.offset)
    c.self.view_is new
