use Rattle.std.proofs.Common.{[], None, Some, Err, sym, ap, subst, ◌∙◌, rules}
use Rattle.milter_mta_connection.specs.declared.channel_state.ExpectedReply.{ExpectedReply}
use Rattle.milter_mta_outcome.specs.declared.loss.Loss.{Loss}
use Rattle.milter_mta_outcome.specs.declared.loss.Loss.TheVariants.{Memory}
use Rattle.milter_mta.specs.CoreParts.{IsTaken, mta_of, unconnected}
use Rattle.milter_mta.specs.Cores.{IsCore, ReceivesBytes}
use Rattle.milter_mta.specs.Mta.{Configuration, Mta}
use Rattle.milter_mta.proofs.ReceivedPieces.{config-lost, lost-config-is, lost-receives, offer-is, received-core, received-is}
use Rattle.milter_mta.proofs.TakenEvents.{refused-is, taken-is}
use Rattle.milter_mta.proofs.state.SessionState.receive.Goals as goal

pub on_event-requires-clause-taken : goal.on_event-requires-clause-taken
on_event-requires-clause-taken c =
    subst (λ (e : ExpectedReply). IsTaken c.args.self.now.client_info c.args.filter_connection.now.position e c.feed-event.result.event c.feed-event.new.self) (sym c.expected-expected.ensures)
    (taken-is c.args.self.now c.args.filter_connection.now c.args.channel.now c.requires.core c.requires.owed
    c.verdicts_follow_commands.ensures.answered c.verdicts_follow_commands.ensures.once c.events_leave_channels.ensures.left c.events_leave_channels.ensures.lost
    c.args.piece.now c.feed-event.result.loss c.feed-event.new.self c.feed-event.result.event c.feed-event.ensures)

pub returns-in_err-on_event-clause-receives : goal.returns-in_err-on_event-clause-receives
returns-in_err-on_event-clause-receives c =
    let old : Mta = mta_of c.args.self.now (Some c.args.filter_connection.now) c.args.channel.now in
    let receives : ReceivesBytes old c.args.piece.now (unconnected c.on_event.new.self []) (Err Memory) =
    refused-is c.args.self.now c.args.filter_connection.now c.args.channel.now c.requires.core c.requires.owed c.args.piece.now c.on_event.new.self c.requires.some c.in_err-on_event.ensures.lost in
    let by_loss : ReceivesBytes old c.args.piece.now (unconnected c.on_event.new.self []) (Err c.in_err-on_event.field-0.0) =
    subst (λ (l : Loss). ReceivesBytes old c.args.piece.now (unconnected c.on_event.new.self []) (Err l)) (sym c.in_err-on_event.ensures.refused) receives in
    search rules

pub returns-in_err-on_event-clause-core : goal.returns-in_err-on_event-clause-core
returns-in_err-on_event-clause-core c =
    let same = offer-is c.args.self.now c.args.filter_connection.now c.args.channel.now c.requires.core c.requires.owed
    c.verdicts_follow_commands.ensures.answered c.verdicts_follow_commands.ensures.once c.events_leave_channels.ensures.left c.events_leave_channels.ensures.lost
    c.args.piece.now c.feed-event.new.self c.feed-event.result.event c.feed-event.result.loss c.feed-event.ensures in
    let config = config-lost c.args.self.now c.args.filter_connection.now c.args.channel.now c.requires.core c.requires.owed Memory c.args.self.now c.on_event.new.self c.args.filter_connection.now c.in_err-on_event.ensures.lost in
    let core : IsCore c.on_event.new.self None c.on_event.new.channel = record {
      consistent = c.in_err-on_event.ensures.consistent;
      offer = c.in_err-on_event.ensures.offer ∙ same ∙ c.requires.core.offer ∙ ap (λ (g : Configuration). g.offer) (sym config);
      in_step = tt;
    } in
    search rules

pub returns-in-None-clause-receives : goal.returns-in-None-clause-receives
returns-in-None-clause-receives c =
    received-is c.args.self.now c.args.filter_connection.now c.args.channel.now c.requires.core c.requires.owed
    c.verdicts_follow_commands.ensures.answered c.verdicts_follow_commands.ensures.once c.events_leave_channels.ensures.left c.events_leave_channels.ensures.lost
    c.args.piece.now c.feed-event.new.self c.feed-event.result.event c.feed-event.result.loss c.feed-event.ensures
    c.on_event.new.self c.on_event.new.filter_connection c.on_event.new.channel c.in_ok-on_event.ensures.follows c.in_ok-on_event.ensures.consistent c.in-None.is

pub returns-in-None-clause-core : goal.returns-in-None-clause-core
returns-in-None-clause-core c =
    received-core c.args.self.now c.args.filter_connection.now c.args.channel.now c.requires.core c.requires.owed
    c.verdicts_follow_commands.ensures.answered c.verdicts_follow_commands.ensures.once c.events_leave_channels.ensures.left c.events_leave_channels.ensures.lost
    c.args.piece.now c.feed-event.new.self c.feed-event.result.event c.feed-event.result.loss c.feed-event.ensures
    c.on_event.new.self c.on_event.new.filter_connection c.on_event.new.channel c.in_ok-on_event.ensures.follows c.in_ok-on_event.ensures.consistent c.in-None.is

pub returns-in-Some-clause-receives : goal.returns-in-Some-clause-receives
returns-in-Some-clause-receives c =
    lost-receives c.args.self.now c.args.filter_connection.now c.args.channel.now c.requires.core c.requires.owed
    c.verdicts_follow_commands.ensures.answered c.verdicts_follow_commands.ensures.once c.events_leave_channels.ensures.left c.events_leave_channels.ensures.lost
    c.args.piece.now c.feed-event.new.self c.feed-event.result.event c.feed-event.result.loss c.feed-event.ensures
    c.on_event.new.self c.on_event.new.filter_connection c.on_event.new.channel c.in_ok-on_event.ensures.follows c.in_ok-on_event.ensures.consistent
    c.in-Some.loss c.lose.new.self c.in-Some.is c.lose.ensures.lost

pub returns-in-Some-clause-core : goal.returns-in-Some-clause-core
returns-in-Some-clause-core c =
    let same = offer-is c.args.self.now c.args.filter_connection.now c.args.channel.now c.requires.core c.requires.owed
    c.verdicts_follow_commands.ensures.answered c.verdicts_follow_commands.ensures.once c.events_leave_channels.ensures.left c.events_leave_channels.ensures.lost
    c.args.piece.now c.feed-event.new.self c.feed-event.result.event c.feed-event.result.loss c.feed-event.ensures in
    let config = lost-config-is c.args.self.now c.args.filter_connection.now c.args.channel.now c.requires.core c.requires.owed
    c.verdicts_follow_commands.ensures.answered c.verdicts_follow_commands.ensures.once c.events_leave_channels.ensures.left c.events_leave_channels.ensures.lost
    c.args.piece.now c.feed-event.new.self c.feed-event.result.event c.feed-event.result.loss c.feed-event.ensures
    c.on_event.new.self c.on_event.new.filter_connection c.on_event.new.channel c.in_ok-on_event.ensures.follows c.in_ok-on_event.ensures.consistent
    c.in-Some.loss c.lose.new.self c.lose.ensures.lost in
    record {
      consistent = c.lose.ensures.consistent;
      offer = c.in_ok-on_event.ensures.offer ∙ same ∙ c.requires.core.offer ∙ ap (λ (g : Configuration). g.offer) (sym config);
      in_step = tt;
    }
