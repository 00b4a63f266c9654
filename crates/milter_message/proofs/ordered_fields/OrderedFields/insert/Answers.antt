use Rattle.std.proofs.Common.{◌≡◌, ap, ◌∙◌, arith, length}
use Rattle.std.specs.List.{insert}
use Rattle.milter_message.specs.EditedFields.{shown}
use Rattle.milter_message.proofs.OrderedFields.{More, order_more, shown_more}
use Rattle.milter_message.proofs.ordered_fields.OrderedFields.insert.Goals as goal
use Rattle.milter_message.proofs.ordered_fields.OrderedFields.insert.Goals.{In_ok-push}

more : (c : In_ok-push) → More c.self.inside.sources.items c.push.new.self.items c.args.source c.self.inside.order
    c.insert.new.self c.args.position
more c =
    let last : c.len-2.result ≡ length c.self.inside.sources.items =
    omega (arith, c.len-2.ensures, c.self.inside.sources.ok) in
    record {
      pushed = c.in_ok-push.ensures.items;
      has = c.self.invariant;
      inserted = c.in_ok-insert.ensures.ok ∙ ap (insert c.self.inside.order c.args.position) last;
      within = omega (arith, c.requires, ap length c.self.view_is);
    }

pub invariant_of-result : goal.invariant_of-result
invariant_of-result c =
    order_more c.self.inside.sources.items c.push.new.self.items c.args.source c.self.inside.order c.insert.new.self
    c.args.position (more c)

pub returns : goal.returns
returns c =
    shown_more c.self.inside.sources.items c.push.new.self.items c.args.source c.self.inside.order c.insert.new.self
    c.args.position (more c)
    ∙ ap (λ l. insert l c.args.position (shown c.args.source)) c.self.view_is
