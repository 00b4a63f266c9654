use Rattle.std.proofs.Common.{arith, ◌≡◌, ◌==◌, true, false, ap, sym, ◌∙◌}
use Rattle.std.specs.Option.{option_copied}
use Rattle.std.proofs.lemmas.Bool.Decides.{nat_tests}
use Rattle.milter_mail.proofs.MacroChoice.{last_more}
use Rattle.milter_mail.proofs.chosen_macros.last_list.Goals as goal
use Rattle.milter_mail.proofs.chosen_macros.last_list.Goals.{then-list-stage, else-list-stage}

pub loop-list-preserved : goal.loop-list-preserved
loop-list-preserved c =
    let item = c.list-item.result in
    let more = last_more (λ list. list.stage == c.args.stage) c.args.lists.now c.loop-list.list-index item c.loop-list-test.true c.list-item.is in
    elim c.if-list-stage.branch [
      | then-list-stage w ↦
          let same : (item.stage == c.args.stage) ≡ true = grind (arith, nat_tests) in
          ap option_copied w.last-is ∙ sym (rw same at more)
      | else-list-stage w ↦
          let apart : (item.stage == c.args.stage) ≡ false = grind (arith, nat_tests) in
          ap option_copied w.last-is ∙ c.loop-list.invariant ∙ sym (rw apart at more)
    ]
