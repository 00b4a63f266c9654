use Rattle.std.proofs.Common.{[]}
use Rattle.milter_wire.specs.Negotiation.{has_leading_space}
use Rattle.milter_mail.specs.Plan.{plan}
use Rattle.milter_world.specs.DialogueReports.{negotiated_of}
use Rattle.milter_world.proofs.EntryAccounts.{dialogue_with-laws}
use Rattle.milter_world.proofs.RunReports.{run-reported}
use Rattle.milter_world.proofs.laws.schedules_report_dialogues.Goals as goal

pub returns : goal.returns
returns c = λ p events.
    let laws = dialogue_with-laws p (λ message. c.plans_are_sent.ensures.plan (negotiated_of p) p.session message)
    (λ message. c.plans_are_sent.ensures.next (negotiated_of p) [] p.session message (record { proper = tt; in_order = tt }))
    (λ message end. c.closed_dialogues_rule.ensures.whole_dialogue p.filter (negotiated_of p) [] (plan (negotiated_of p) p.session message) (has_leading_space (negotiated_of p)) message end)
    (λ message other client. c.dialogues_of_messages.ensures.next p.filter (negotiated_of p) p.session message other client)
    (λ message other client. c.dialogues_of_messages.ensures.same p.filter (negotiated_of p) p.session message other client) in
    run-reported p laws events
