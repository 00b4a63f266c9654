use Rattle.std.proofs.Common.{◌≡◌, sym, subst}
use Rattle.milter_mta.specs.declared.mta_core.Want.TheVariants as wants
use Rattle.milter_mta.specs.Mta.{Mta}
use Rattle.milter_mta.specs.Output.{want}
use Rattle.milter_mta_client.specs.ClientRuns.{first_events}
use Rattle.milter_mta_client.specs.ConnectionRuns.{Steps}
use Rattle.milter_mta_client.specs.Observations.{Notes}
use Rattle.milter_mta_client.proofs.Conversed.{converses, disposition-is}
use Rattle.milter_mta_client.proofs.Noted.{notes-on}
use Rattle.milter_mta_client.proofs.client.converse_observed.Goals as goal
use Rattle.milter_mta_client.proofs.client.converse_observed.Goals.{in-Err, in-Ok}

pub returns-clause-converses : goal.returns-clause-converses
returns-clause-converses g c =
    let begun = c.give_up_connection.new.core in
    let last = c.match-read_buffer.core in
    let steps : Steps begun last =
    elim c.match-read_buffer.branch [
      | in-Ok w ↦ subst (Steps begun) (sym w.core-is) w.drive_all.ensures.steps
      | in-Err w ↦ subst (Steps begun) (sym w.core-is) w.give_up_messages.ensures.steps
    ] in
    let done : want last ≡ wants.Done =
    elim c.match-read_buffer.branch [
      | in-Ok w ↦ subst (λ (m : Mta). want m ≡ wants.Done) (sym w.core-is) w.drive_all.ensures.done
      | in-Err w ↦ subst (λ (m : Mta). want m ≡ wants.Done) (sym w.core-is) w.give_up_messages.ensures.done
    ] in
    converses c.events_keep_to_dialogues.ensures c.events_report_connections.ensures c.messages_are_settled_by_dialogues.ensures.done c.args.core begun last c.into_reports.result
    c.give_up_connection.ensures.events steps done (disposition-is c.into_reports.result last.connection last.reports c.into_reports.ensures.connection c.into_reports.ensures.messages)

pub returns-clause-notes : goal.returns-clause-notes
returns-clause-notes g c =
    let begun = c.give_up_connection.new.core in
    let last = c.match-read_buffer.core in
    let notes = g.O.Observer.notes in
    let steps : Steps begun last =
    elim c.match-read_buffer.branch [
      | in-Ok w ↦ subst (Steps begun) (sym w.core-is) w.drive_all.ensures.steps
      | in-Err w ↦ subst (Steps begun) (sym w.core-is) w.give_up_messages.ensures.steps
    ] in
    let noted : Notes notes begun last c.give_up_connection.new.observer c.match-read_buffer.observer =
    elim c.match-read_buffer.branch [
      | in-Ok w ↦ rw (w.core-is, w.observer-is) w.drive_all.ensures.notes
      | in-Err w ↦ rw (w.core-is, w.observer-is) w.give_up_messages.ensures.notes
    ] in
    let first : Steps c.args.core begun = record { events = first_events (want c.args.core); runs = c.give_up_connection.ensures.events } in
    let all = notes-on notes c.events_keep_to_dialogues.ensures c.args.core begun last _ _ _ first steps (λ on. c.give_up_connection.ensures.notes) noted in
    rw c.into_reports.ensures.messages all
