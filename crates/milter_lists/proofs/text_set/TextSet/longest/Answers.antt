use Rattle.std.specs.Prelude.{◌≤◌, length}
use Rattle.std.proofs.Common.{subst}
use Rattle.std.specs.List.{All}
use Rattle.std.proofs.lemmas.List.Elements.{All-map}
use Rattle.milter_lists.specs.Entries.{entry_of}
use Rattle.milter_lists.proofs.text_set.TextSet.longest.Goals as goal

pub returns : goal.returns
returns c =
    subst (All (λ entry. length entry ≤ c.self.inside.longest)) c.self.view_is
    (All-map (λ entry. length entry ≤ c.self.inside.longest) (entry_of c.self.inside.bytes.items) c.self.inside.spans.items
    c.self.invariant.1)
