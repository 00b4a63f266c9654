use Rattle.std.proofs.Common.{◌≡◌, List, [], ◌∷◌, arith, drop, false, refl}
use Rattle.milter_wire.specs.Negotiation.{has_leading_space}
use Rattle.milter_mail.specs.Plan.{plan}
use Rattle.milter_world.specs.declared.event_line.Event.{Event}
use Rattle.milter_world.specs.DialogueReports.{negotiated_of, by_reset, by_timeout, count_events, is_lose, is_timeout}
use Rattle.milter_world.specs.Schedule.{entries_at, first, run_reports}
use Rattle.milter_world.proofs.Causes.{all-known, is_other}
use Rattle.milter_world.proofs.DefaultCounts.{at-most-all, none-ruled}
use Rattle.milter_world.proofs.EntryAccounts.{session, dialogue_with-laws, within}
use Rattle.milter_world.proofs.laws.defaults_are_counted.Goals as goal

no-events : (events : List Event) → count_events (λ event. false) events ≡ 0
no-events [] = refl
no-events (event ∷ events) = no-events events

pub returns-clause-reset : goal.returns-clause-reset
returns-clause-reset c = λ p events.
    let laws = dialogue_with-laws p (λ message. c.plans_are_sent.ensures.plan (negotiated_of p) p.session message)
    (λ message. c.plans_are_sent.ensures.next (negotiated_of p) [] p.session message (record { proper = tt; in_order = tt }))
    (λ message end. c.closed_dialogues_rule.ensures.whole_dialogue p.filter (negotiated_of p) [] (plan (negotiated_of p) p.session message) (has_leading_space (negotiated_of p)) message end)
    (λ message other client. c.dialogues_of_messages.ensures.next p.filter (negotiated_of p) p.session message other client)
    (λ message other client. c.dialogues_of_messages.ensures.same p.filter (negotiated_of p) p.session message other client) in
    let most = at-most-all by_reset is_lose refl refl (λ e. absurd cc) (λ e. refl) p
    (λ i h.
    let w = within p (entries_at p i) (drop i p.session.messages) (session p laws (drop i p.session.messages)) h in
    none-ruled by_reset is_lose refl refl (λ e. absurd cc) (λ e. refl) p w.settled.done _ w.settled.each)
    events (first p) [] in
    omega (arith, most)

pub returns-clause-timeout : goal.returns-clause-timeout
returns-clause-timeout c = λ p events.
    let laws = dialogue_with-laws p (λ message. c.plans_are_sent.ensures.plan (negotiated_of p) p.session message)
    (λ message. c.plans_are_sent.ensures.next (negotiated_of p) [] p.session message (record { proper = tt; in_order = tt }))
    (λ message end. c.closed_dialogues_rule.ensures.whole_dialogue p.filter (negotiated_of p) [] (plan (negotiated_of p) p.session message) (has_leading_space (negotiated_of p)) message end)
    (λ message other client. c.dialogues_of_messages.ensures.next p.filter (negotiated_of p) p.session message other client)
    (λ message other client. c.dialogues_of_messages.ensures.same p.filter (negotiated_of p) p.session message other client) in
    let most = at-most-all by_timeout is_timeout refl refl (λ e. refl) (λ e. absurd cc) p
    (λ i h.
    let w = within p (entries_at p i) (drop i p.session.messages) (session p laws (drop i p.session.messages)) h in
    none-ruled by_timeout is_timeout refl refl (λ e. refl) (λ e. absurd cc) p w.settled.done _ w.settled.each)
    events (first p) [] in
    omega (arith, most)

pub returns-clause-causes : goal.returns-clause-causes
returns-clause-causes c = λ p events.
    let laws = dialogue_with-laws p (λ message. c.plans_are_sent.ensures.plan (negotiated_of p) p.session message)
    (λ message. c.plans_are_sent.ensures.next (negotiated_of p) [] p.session message (record { proper = tt; in_order = tt }))
    (λ message end. c.closed_dialogues_rule.ensures.whole_dialogue p.filter (negotiated_of p) [] (plan (negotiated_of p) p.session message) (has_leading_space (negotiated_of p)) message end)
    (λ message other client. c.dialogues_of_messages.ensures.next p.filter (negotiated_of p) p.session message other client)
    (λ message other client. c.dialogues_of_messages.ensures.same p.filter (negotiated_of p) p.session message other client) in
    let most = at-most-all is_other (λ event. false) refl refl (λ e. refl) (λ e. refl) p
    (λ i h.
    let w = within p (entries_at p i) (drop i p.session.messages) (session p laws (drop i p.session.messages)) h in
    none-ruled is_other (λ event. false) refl refl (λ e. refl) (λ e. refl) p w.settled.done _ w.settled.each)
    events (first p) [] in
    let none = no-events events in
    all-known (run_reports p events) (omega (arith, most, none))
