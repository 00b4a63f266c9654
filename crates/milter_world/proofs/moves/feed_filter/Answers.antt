use Rattle.std.proofs.Common.{◌≡◌, ℕ, List, Result, Ok, min, length, take, ap, sym, ◌∙◌, subst}
use Rattle.std.proofs.lemmas.List.{take_min}
use Rattle.milter_protocol.specs.declared.filter_fault.FilterFault.{FilterFault}
use Rattle.milter_world.specs.Reached.{CanTake}
use Rattle.milter_world.proofs.FedFilter.{all, fails-not, same-drop}
use Rattle.milter_world.proofs.moves.feed_filter.Goals as goal

-- what is handed over
piece-is : (n count : ℕ) (first bytes pipe : List ℕ) → n ≡ min count (length first) → first ≡ pipe → bytes ≡ pipe → take n bytes ≡ take count pipe
piece-is n count first bytes pipe a b d =
    ap (take n) d ∙ ap (λ (k : ℕ). take k pipe) (a ∙ ap (λ (l : List ℕ). min count (length l)) b) ∙ take_min count pipe

abbrev as_ok : ℕ → Result ℕ FilterFault
as_ok n = Ok n

taken-is : (a b : ℕ) → as_ok a ≡ as_ok b → a ≡ b
taken-is a b e = cc

pub unreachable-requires : goal.unreachable-requires
unreachable-requires g c =
    let p = piece-is _ c.args.count _ _ c.args.pipe.now c.min-count.ensures c.as_slice.ensures c.as_slice-2.ensures in
    let can = subst (λ (l : List ℕ). CanTake (g.P.Policy.behavior c.args.filter.now.policy) c.args.filter.now l) (sym p) c.requires.takes in
    fails-not (g.P.Policy.behavior c.args.filter.now.policy) c.args.filter.now c.args.filter.now _ can c.feed.result c.in-Err.fault c.in-Err.is c.in_default.not-NoMemory
    (λ some. (c.feed.ensures.waits c.requires.serves some).0) (c.in-Err.ensures.cause c.requires.serves)

count-is : goal.returns-in-Ok-clause-count
count-is g c =
    let p = piece-is _ c.args.count _ _ c.args.pipe.now c.min-count.ensures c.as_slice.ensures c.as_slice-2.ensures in
    let can = subst (λ (l : List ℕ). CanTake (g.P.Policy.behavior c.args.filter.now.policy) c.args.filter.now l) (sym p) c.requires.takes in
    all (g.P.Policy.behavior c.args.filter.now.policy) c.args.filter.now c.feed.new.self _ can c.in-Ok.taken
    (λ some. taken-is _ _ (sym c.in-Ok.is ∙ (c.feed.ensures.waits c.requires.serves some).0)) (c.in-Ok.ensures.takes c.requires.serves)
    ∙ ap length p

pub returns-in-Ok-clause-count : goal.returns-in-Ok-clause-count
returns-in-Ok-clause-count = count-is

pub returns-in-Ok-clause-pipe : goal.returns-in-Ok-clause-pipe
returns-in-Ok-clause-pipe g c = c.advance.ensures ∙ same-drop c.in-Ok.taken c.args.count c.args.pipe.now (count-is g c)
