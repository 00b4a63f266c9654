use Rattle.std.proofs.Common.{List, sym, subst}
use Rattle.milter_wire.specs.declared.options.Options.{Options}
use Rattle.milter_wire.specs.declared.symbol_lists.SymList.{SymList}
use Rattle.milter_protocol.specs.Lawful.{WantsWithin}
use Rattle.milter_protocol.specs.Behavior.{Behavior}
use Rattle.milter_protocol.specs.Questions.{unasked, wanted_of}
use Rattle.milter_filter.proofs.filter_core.wants_of.Goals as goal

within-alike : (b : Behavior) → WantsWithin b → WantsWithin (unasked (wanted_of b))
within-alike b w =
    record {
      version_from = w.version_from;
      version_to = w.version_to;
      actions = w.actions;
      protocol = w.protocol;
      lists = w.lists;
      reply = w.reply;
    }

pub new-requires : goal.new-requires
new-requires g c =
    let b = g.P.Policy.behavior c.args.policy.now in
    let law = within-alike b (g.met.P.Policy.lawful c.args.policy.now).wants in
    let lists = subst (λ (ls : List SymList). WantsWithin (unasked (record { options = b.wants; lists = ls }))) (sym c.lists.ensures) law in
    subst (λ (o : Options). WantsWithin (unasked (record { options = o; lists = c.lists.result.now }))) (sym c.wants.ensures) lists
