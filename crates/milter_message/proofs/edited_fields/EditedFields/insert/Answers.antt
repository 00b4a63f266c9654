use Rattle.std.proofs.Common.{ap, ◌∙◌}
use Rattle.std.specs.List.{insert}
use Rattle.milter_message.specs.EditedFields.{shown}
use Rattle.milter_message.proofs.IndexedFields.{Added, added_field_is, added_within}
use Rattle.milter_message.proofs.edited_fields.EditedFields.insert.Goals as goal
use Rattle.milter_message.proofs.edited_fields.EditedFields.insert.Goals.{In_ok-push}

added : (c : In_ok-push) → Added c.self.inside.sources.items c.push.new.self.items c.args.source c.self.inside.index
    c.in_ok-index.index c.args.position c.args.name
added c = record {
  pushed = c.in_ok-push.ensures.items;
  has = c.self.invariant;
  entry = c.in_ok-index.ensures;
}

pub invariant_of-result : goal.invariant_of-result
invariant_of-result c =
    added_within c.self.inside.sources.items c.push.new.self.items c.args.source c.self.inside.index
    c.in_ok-index.index c.args.position c.args.name (added c)

pub returns : goal.returns
returns c =
    added_field_is c.self.inside.sources.items _ c.args.source c.self.inside.index
    c.in_ok-index.index c.args.position c.args.name (added c)
    ∙ ap (λ l. insert l c.args.position (record { name = c.args.name; header = shown c.args.source })) c.self.view_is
