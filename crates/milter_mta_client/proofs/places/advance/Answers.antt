use Rattle.std.proofs.Common.{◌≡◌, ◌+◌, ◌<◌, ℕ, arith, false, ◌∷◌, [], List, refl, sym, ap, subst, ◌∙◌, map, length, set, take, drop, get_or, le_antisymm, Bool}
use Rattle.std.proofs.lemmas.List.{get_or-map, length-map}
use Rattle.milter_mta_client.specs.declared.places.Step.{Step}
use Rattle.milter_mta_client.specs.Places.{any_open}
use Rattle.milter_mta_client.specs.Steps.{step_over}
use Rattle.milter_mta_client.proofs.Advance.{reached, step_in_list, ends_in_list}
use Rattle.milter_mta_client.proofs.places.advance.Goals as goal

pub loop-index-init : goal.loop-index-init
loop-index-init c = λ lines. refl

pub loop-index-preserved : goal.loop-index-preserved
loop-index-preserved c = λ lines.
    let texts : List (List ℕ) = map (λ pattern. pattern.now) c.args.patterns.now in
    let places : List Bool = c.loop-index.places in
    let index : ℕ = c.loop-index.index in
    let last : Step = c.loop-index.last in
    let line : List ℕ = c.args.line.now in
    let among : index < length texts =
    subst (λ n. index < n) (sym (length-map c.args.patterns.now (λ pattern. pattern.now))) c.loop-index-test.true in
    let within : index < length places =
    omega (arith, c.loop-index.auto.places, c.requires.sizes, c.loop-index-test.true) in
    let next : c.step_over-last.result ≡ step_over last (get_or places index false) (get_or texts index []) line =
    c.step_over-last.ensures ∙ ap (λ text. step_over last (get_or places index false) text line)
    (sym (get_or-map (λ pattern. pattern.now) c.args.patterns.now index _ [] c.loop-index-test.true)) in
    ap (λ step. reached (any_open (take (index + 1) (set places index step.is_open)) texts lines) step
    (drop (index + 1) (set places index step.is_open)) (drop (index + 1) texts) line lines) next
    ∙ sym (step_in_list places texts index last line lines within among)
    ∙ c.loop-index.invariant lines

pub returns-clause-after : goal.returns-clause-after
returns-clause-after c = λ lines.
    let texts : List (List ℕ) = map (λ pattern. pattern.now) c.args.patterns.now in
    let places : List Bool = c.loop-index.places in
    let same : length texts ≡ length c.args.patterns.now = length-map c.args.patterns.now (λ pattern. pattern.now) in
    let end : c.loop-index.index ≡ length texts =
    omega (arith, same, c.loop-index-test.false, c.loop-index.auto.index-end) in
    let sizes : length places ≡ length texts + 1 = omega (arith, same, c.loop-index.auto.places, c.requires.sizes) in
    ap (λ n. any_open (set places n c.loop-index.last.leads_on) texts lines) (sym same)
    ∙ sym (ends_in_list places texts c.loop-index.last c.args.line.now lines sizes)
    ∙ ap (λ n. reached (any_open (take n places) texts lines) c.loop-index.last (drop n places) (drop n texts)
    c.args.line.now lines) (sym end)
    ∙ c.loop-index.invariant lines
