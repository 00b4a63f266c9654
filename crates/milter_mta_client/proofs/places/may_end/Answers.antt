use Rattle.std.proofs.Common.{◌≡◌, ◌+◌, ◌<◌, ◌||◌, ℕ, arith, true, false, Bool, [], List, refl, sym, ap, subst, ◌∙◌, map, length, drop, get_or}
use Rattle.std.proofs.lemmas.List.{get_or-map, length-map}
use Rattle.milter_mta_client.specs.Places.{any_open}
use Rattle.milter_mta_client.specs.Steps.{stays_at}
use Rattle.milter_mta_client.proofs.Ends.{ends_at, ends_from, ends_last}
use Rattle.milter_mta_client.proofs.places.may_end.Goals as goal

pub loop-index-init : goal.loop-index-init
loop-index-init c = refl

pub loop-index-preserved : goal.loop-index-preserved
loop-index-preserved c =
    let texts : List (List ℕ) = map (λ pattern. pattern.now) c.args.patterns.now in
    let index : ℕ = c.loop-index.index in
    let among : index < length texts =
    subst (λ n. index < n) (sym (length-map c.args.patterns.now (λ pattern. pattern.now))) c.loop-index-test.true in
    let within : index < length c.args.places.now = omega (arith, c.requires.sizes, c.loop-index-test.true) in
    ap (λ stays. ends_from stays (drop (index + 1) c.args.places.now) (drop (index + 1) texts))
    (c.stays_at-stays.ensures ∙ ap (λ text. stays_at c.loop-index.stays (get_or c.args.places.now index false) text)
    (sym (get_or-map (λ pattern. pattern.now) c.args.patterns.now index _ [] c.loop-index-test.true)))
    ∙ sym (ends_at c.loop-index.stays c.args.places.now texts index within among)
    ∙ c.loop-index.invariant

-- the place behind the last pattern, or the gaps before it
ended : (places : List Bool) (texts : List (List ℕ)) (index count : ℕ) (stays : Bool) →
    ends_from stays (drop index places) (drop index texts) ≡ any_open places texts [] →
    length texts ≡ count → index ≡ count → length places ≡ count + 1 →
    (get_or places count false || stays) ≡ any_open places texts []
ended places texts index count stays known all end sizes =
    let here : index ≡ length texts = end ∙ sym all in
    let lengths : length places ≡ length texts + 1 = omega (arith, sizes, all) in
    ap (λ n. get_or places n false || stays) (sym all)
    ∙ sym (ends_last stays places texts lengths)
    ∙ ap (λ n. ends_from stays (drop n places) (drop n texts)) (sym here)
    ∙ known

pub returns-then-places-patterns : goal.returns-then-places-patterns
returns-then-places-patterns c =
    let end : c.loop-index.index ≡ length c.args.patterns.now = omega (arith, c.loop-index-test.false, c.loop-index.auto.index-end) in
    let whole = ended c.args.places.now (map (λ pattern. pattern.now) c.args.patterns.now) c.loop-index.index (length c.args.patterns.now)
    c.loop-index.stays c.loop-index.invariant (length-map c.args.patterns.now (λ pattern. pattern.now)) end c.requires.sizes in
    c.if-places-patterns.true ∙ ap (λ x. x || c.loop-index.stays) (sym c.if-places-patterns.true) ∙ whole

pub returns-else-places-patterns : goal.returns-else-places-patterns
returns-else-places-patterns c =
    let end : c.loop-index.index ≡ length c.args.patterns.now = omega (arith, c.loop-index-test.false, c.loop-index.auto.index-end) in
    let whole = ended c.args.places.now (map (λ pattern. pattern.now) c.args.patterns.now) c.loop-index.index (length c.args.patterns.now)
    c.loop-index.stays c.loop-index.invariant (length-map c.args.patterns.now (λ pattern. pattern.now)) end c.requires.sizes in
    ap (λ x. x || c.loop-index.stays) (sym c.if-places-patterns.false) ∙ whole
