use Rattle.std.proofs.Common.{List, sym, ap, subst}
use Rattle.milter_protocol.specs.Exchanges.{Exchange}
use Rattle.milter_mta_outcome.specs.Dialogues.{acted}
use Rattle.milter_world.specs.DialogueReports.{StartsWith, dialogue_about}
use Rattle.milter_mta_outcome.specs.declared.acted_verdicts.Acted.{Acted}
use Rattle.milter_world.proofs.Beginnings.{acted-onto}
use Rattle.milter_world.proofs.laws.beginnings_are_acted_on.Goals as goal

pub returns : goal.returns
returns c = λ p message r g.
    subst (λ (l : List Acted). StartsWith l (acted (dialogue_about p message))) (sym (ap (λ x. x.acted) g.report_is))
    (subst (λ (w : List Exchange). StartsWith (acted g.dialogue) (acted w)) g.begins.whole (acted-onto g.begins.more g.dialogue))
