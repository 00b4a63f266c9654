use Rattle.std.proofs.Common.{◌≡◌, ◌+◌, ◌≤◌, ◌<◌, ◌++◌, ◌∷◌, ℕ, suc, arith, true, false, Bool, [], List, refl, sym, ap, subst, ◌∙◌, map, length, take, drop, get_or, replicate, add-one, append-nil, take_all, le_of_eq, lt_irrefl, Bor}
use Rattle.std.proofs.lemmas.List.{get_or-map, length-map, length-replicate}
use Rattle.milter_mta_client.specs.Patterns.{GoesOn, IsFirstDifference, stand_for}
use Rattle.milter_mta_client.specs.Places.{any_open}
use Rattle.milter_mta_client.proofs.Differences.{Follows, differs_here, goes_on, next_follows}
use Rattle.milter_mta_client.proofs.Open.{example, example_stands, from_first}
use Rattle.milter_mta_client.proofs.difference.difference_from.Goals as goal

pub loop-index-init : goal.loop-index-init
loop-index-init c =
    let texts : List (List ℕ) = map (λ line. line.now) c.args.expected.now in
    record {
      sizes = ap length c.requires ∙ ap suc (length-replicate (length c.args.expected.now) false)
          ∙ sym (add-one (length c.args.expected.now));
      follows = λ more. ap (λ places. any_open places texts more) c.requires
          ∙ from_first (length c.args.expected.now) texts more;
      before = (example texts, example_stands texts);
    }

-- what is known behind a line
next : (places new : List Bool) (patterns : List (List ℕ)) (lines : List (Bor (List ℕ))) (index : ℕ) →
    index < length lines → (line : List ℕ) →
    line ≡ get_or (map (λ line. line.now) lines) index [] →
    ((more : List (List ℕ)) → any_open new patterns more ≡ any_open places patterns (line ∷ more)) →
    Follows places patterns (map (λ line. line.now) lines) index →
    Follows new patterns (map (λ line. line.now) lines) (index + 1)
next places new patterns lines index within line is after follows =
    next_follows places new patterns (map (λ line. line.now) lines) index
    (subst (λ n. index < n) (sym (length-map lines (λ line. line.now))) within)
    (λ more. after more ∙ ap (λ text. any_open places patterns (text ∷ more)) is) follows

pub returns-then-not-is_any_open : goal.returns-then-not-is_any_open
returns-then-not-is_any_open c =
    let patterns : List (List ℕ) = map (λ line. line.now) c.args.expected.now in
    let lines : List (List ℕ) = map (λ line. line.now) c.args.found.now in
    let index : ℕ = c.loop-index.index in
    differs_here c.advance.new.places patterns lines index
    (subst (λ n. index < n) (sym (length-map c.args.found.now (λ line. line.now))) c.loop-index-test.true)
    (sym c.is_any_open.ensures ∙ c.if-not-is_any_open.true)
    (next c.loop-index.places c.advance.new.places patterns c.args.found.now index c.loop-index-test.true _
    (sym (get_or-map (λ line. line.now) c.args.found.now index _ [] c.loop-index-test.true))
    c.advance.ensures.after c.loop-index.invariant.follows)
    c.loop-index.invariant.before

pub loop-index-preserved : goal.loop-index-preserved
loop-index-preserved c =
    let patterns : List (List ℕ) = map (λ line. line.now) c.args.expected.now in
    let lines : List (List ℕ) = map (λ line. line.now) c.args.found.now in
    let index : ℕ = c.loop-index.index in
    let sizes : length c.advance.new.places ≡ length c.args.expected.now + 1 =
    c.advance.ensures.sizes ∙ c.loop-index.invariant.sizes in
    let follows : Follows c.advance.new.places patterns lines (index + 1) =
    next c.loop-index.places c.advance.new.places patterns c.args.found.now index c.loop-index-test.true _
    (sym (get_or-map (λ line. line.now) c.args.found.now index _ [] c.loop-index-test.true))
    c.advance.ensures.after c.loop-index.invariant.follows in
    record {
      sizes = sizes;
      follows = follows;
      before = goes_on c.advance.new.places patterns lines (index + 1)
          (le_of_eq (sizes ∙ add-one (length c.args.expected.now) ∙ ap suc (sym (length-map c.args.expected.now (λ line. line.now)))))
          (sym c.is_any_open.ensures ∙ c.if-not-is_any_open.false) follows;
    }

-- at the end the places are open from which lines may follow all of them
at_end : (places : List Bool) (patterns : List (List ℕ)) (lines : List (Bor (List ℕ))) (index : ℕ) →
    index ≡ length lines → Follows places patterns (map (λ line. line.now) lines) index →
    any_open places patterns [] ≡ stand_for patterns (map (λ line. line.now) lines)
at_end places patterns lines index end follows =
    follows [] ∙ ap (stand_for patterns)
    (append-nil (take index (map (λ line. line.now) lines))
    ∙ take_all index (map (λ line. line.now) lines) (le_of_eq (length-map lines (λ line. line.now) ∙ sym end)))

pub returns-then-may_end : goal.returns-then-may_end
returns-then-may_end c =
    let end : c.loop-index.index ≡ length c.args.found.now = omega (arith, c.loop-index-test.false, c.loop-index.auto.index-end) in
    sym (at_end c.loop-index.places (map (λ line. line.now) c.args.expected.now) c.args.found.now c.loop-index.index end
    c.loop-index.invariant.follows)
    ∙ sym c.may_end.ensures ∙ c.if-may_end.true

pub returns-else-may_end : goal.returns-else-may_end
returns-else-may_end c =
    let patterns : List (List ℕ) = map (λ line. line.now) c.args.expected.now in
    let lines : List (List ℕ) = map (λ line. line.now) c.args.found.now in
    let end : c.loop-index.index ≡ length c.args.found.now = omega (arith, c.loop-index-test.false, c.loop-index.auto.index-end) in
    let all : length c.args.found.now ≡ length lines = sym (length-map c.args.found.now (λ line. line.now)) in
    record {
      within = le_of_eq all;
      before = subst (λ n. GoesOn patterns (take n lines)) end c.loop-index.invariant.before;
      differs = λ more goes. absurd (lt_irrefl (length lines) (subst (λ n. n < length lines) all more));
      other = sym (at_end c.loop-index.places patterns c.args.found.now c.loop-index.index end c.loop-index.invariant.follows)
          ∙ sym c.may_end.ensures ∙ c.if-may_end.false;
    }
