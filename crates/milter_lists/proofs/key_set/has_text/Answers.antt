use Rattle.std.specs.Prelude.{◌≡◌, ◌<◌, length}
use Rattle.std.proofs.Common.{arith, sym}
use Rattle.std.proofs.lemmas.List.{length-map}
use Rattle.std.specs.Str.{str_to_ascii_lowercase}
use Rattle.milter_lists.proofs.KeySets.{longer_is_none}
use Rattle.milter_lists.proofs.key_set.has_text.Goals as goal

pub returns-then-text-longest : goal.returns-then-text-longest
returns-then-text-longest c =
    let text = c.args.text.now in
    let len : length (str_to_ascii_lowercase text) ≡ length text = length-map text _ in
    let long : c.longest.result < length (str_to_ascii_lowercase text) = omega (arith, len, c.if-text-longest.true) in
    sym (longer_is_none c.args.keys.now (str_to_ascii_lowercase text) c.longest.result c.longest.ensures long)
