use Rattle.std.proofs.Common.{inl, inr, List, [], All, refl, sym, ap, subst}
use Rattle.milter_mail.specs.Plan.{plan}
use Rattle.milter_message.specs.MailObject.{MailObject}
use Rattle.milter_protocol.specs.Exchanges.{Exchange}
use Rattle.milter_protocol.specs.Dialogue.{dialogue_with}
use Rattle.milter_mta_outcome.specs.declared.acted_verdicts.Acted.{Acted}
use Rattle.milter_mta_outcome.specs.declared.outcome.Report.{Report}
use Rattle.milter_world.specs.Schedule.{Scenario}
use Rattle.milter_world.specs.DialogueReports.{IsReportOf, WasGiven, negotiated_of, dialogue_about}
use Rattle.milter_world.proofs.Given.{AreGiven, acted-given, before-given, onto-given, ruled-acted, dialogue-negotiated}
use Rattle.milter_world.proofs.laws.verdicts_were_given.Goals as goal

by_report : (p : Scenario) (message : MailObject) (r : Report) → AreGiven p (dialogue_about p message) → IsReportOf p message r → All (WasGiven p message) r.acted
by_report p message r given (inl ruled) =
    subst (λ (l : List Acted). All (WasGiven p message) l) (sym (ruled-acted p message r ruled)) (acted-given p message (dialogue_about p message) [] refl given)
by_report p message r given (inr lost) =
    subst (λ (l : List Acted). All (WasGiven p message) l) (sym (ap (λ (x : Report). x.acted) lost.report_is))
    (acted-given p message lost.dialogue lost.begins.more lost.begins.whole
    (before-given p lost.begins.more lost.dialogue (subst (λ (w : List Exchange). AreGiven p w) (sym lost.begins.whole) given)))

pub returns-clause-verdicts : goal.returns-clause-verdicts
returns-clause-verdicts c = λ p message r is.
    by_report p message r
    (onto-given p (dialogue_with p.filter (negotiated_of p) [] (plan (negotiated_of p) p.session message)) [] (c.dialogues.ensures.answered p.filter (negotiated_of p) [] (plan (negotiated_of p) p.session message)) tt) is

pub returns-clause-edits : goal.returns-clause-edits
returns-clause-edits c = λ p message.
    dialogue-negotiated p (λ answer. c.permitted_answers.ensures.edits (negotiated_of p) answer) (dialogue_about p message)
    (onto-given p (dialogue_with p.filter (negotiated_of p) [] (plan (negotiated_of p) p.session message)) [] (c.dialogues.ensures.answered p.filter (negotiated_of p) [] (plan (negotiated_of p) p.session message)) tt)
