use Rattle.std.proofs.Common.{◌≡◌, ◌<◌, ◌∙◌, ap, arith, drop, length}
use Rattle.std.proofs.Math.Seq.{map-set_same}
use Rattle.std.proofs.lemmas.List.{length-set}
use Rattle.std.proofs.lemmas.List.Elements.{AllWithin-more_set}
use Rattle.milter_lists.specs.Entries.{entry_of}
use Rattle.milter_lists.specs.Keys.{key_of}
use Rattle.milter_lists.proofs.sort.set_keys.Goals as goal

pub loop-place-preserved : goal.loop-place-preserved
loop-place-preserved c =
    let key = entry_of c.args.bytes.now in
    let spans = c.loop-place.spans.items in
    let place = c.loop-place.place in
    let same_len = c.loop-place.invariant.1 in
    let below : place < length spans = omega arith in (
      map-set_same key spans place c.keyed.result c.index.result.now
          (c.keyed.ensures.entry ∙ ap key c.index.ensures)
          ∙ c.loop-place.invariant.0,
      length-set spans place c.keyed.result ∙ same_len,
      AllWithin-more_set spans place c.keyed.result below
          (λ span. span.key ≡ key_of (drop c.args.shared (key span)))
          c.loop-place.invariant.2 c.keyed.ensures.key,
    )
