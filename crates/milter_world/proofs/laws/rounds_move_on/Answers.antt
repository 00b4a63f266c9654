use Rattle.std.proofs.Common.{[]}
use Rattle.milter_wire.specs.Negotiation.{has_leading_space}
use Rattle.milter_mail.specs.Plan.{plan}
use Rattle.milter_world.specs.DialogueReports.{negotiated_of}
use Rattle.milter_world.specs.Schedule.{entries_at}
use Rattle.milter_world.proofs.EntryAccounts.{all-ruled, session, dialogue_with-laws}
use Rattle.milter_world.proofs.ConnectionMoves.{sends-moves, waits-moves}
use Rattle.milter_world.proofs.RoundMoves.{round-moves}
use Rattle.milter_world.proofs.laws.rounds_move_on.Goals as goal

pub returns-clause-waits : goal.returns-clause-waits
returns-clause-waits c = λ lines k n counts some is. waits-moves lines k counts n some is

pub returns-clause-sends : goal.returns-clause-sends
returns-clause-sends c = λ lines k n counts some early short. sends-moves lines k counts n some early short

pub returns-clause-goes_on : goal.returns-clause-goes_on
returns-clause-goes_on c = λ p settled n k reports some are lives. round-moves p settled n some k are lives reports

pub returns-clause-all_received : goal.returns-clause-all_received
returns-clause-all_received c = λ p received le.
    let laws = dialogue_with-laws p (λ message. c.plans_are_sent.ensures.plan (negotiated_of p) p.session message)
    (λ message. c.plans_are_sent.ensures.next (negotiated_of p) [] p.session message (record { proper = tt; in_order = tt }))
    (λ message end. c.closed_dialogues_rule.ensures.whole_dialogue p.filter (negotiated_of p) [] (plan (negotiated_of p) p.session message) (has_leading_space (negotiated_of p)) message end)
    (λ message other client. c.dialogues_of_messages.ensures.next p.filter (negotiated_of p) p.session message other client)
    (λ message other client. c.dialogues_of_messages.ensures.same p.filter (negotiated_of p) p.session message other client) in
    all-ruled p (entries_at p 0) p.session.messages (session p laws p.session.messages) received le
