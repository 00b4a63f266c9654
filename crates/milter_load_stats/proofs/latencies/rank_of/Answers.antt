use Rattle.std.proofs.Common.{◌≡◌, ℕ, ◌+◌, ◌*◌, ◌/◌, ◌%◌, arith, ap, sym, ◌∙◌}
use Rattle.std.proofs.Math.Nat.{mul-add-div, div-add-mod}
use Rattle.milter_load_stats.specs.Tallies.{rank_of}
use Rattle.milter_load_stats.proofs.latencies.rank_of.Goals as goal

split : (total per_mille : ℕ) →
    total / 1000 * per_mille + (total % 1000 * per_mille + 999) / 1000 ≡ rank_of per_mille total
split total per_mille =
    let a = total / 1000 in
    let r = total % 1000 in
    let whole : 1000 * a + r ≡ total = div-add-mod total 1000 in
    let spread : 1000 * (a * per_mille) + (r * per_mille + 999) ≡ (1000 * a + r) * per_mille + 999 = omega arith in
    sym (mul-add-div {m = 1000} (omega arith) (a * per_mille) (r * per_mille + 999))
    ∙ ap (λ n. n / 1000) spread
    ∙ ap (λ n. (n * per_mille + 999) / 1000) whole

pub returns : goal.returns
returns c = ap (λ n. c.args.total / 1000 * n + (c.args.total % 1000 * n + 999) / 1000) c.from-per_mille.ensures
    ∙ split c.args.total c.args.per_mille
