use Rattle.std.proofs.Common.{◌≤◌, ◌<◌, ◌^◌, ℕ, List, length, arith, subst, sym}
use Rattle.milter_wire.specs.declared.options.Options.{Options}
use Rattle.milter_wire.specs.declared.command.Command.TheVariants as commands
use Rattle.milter_wire.specs.Command.{Fits}
use Rattle.milter_protocol.specs.declared.permitted.TheConstants.{VERSION_MAX, VERSION_MIN}
use Rattle.milter_mta.proofs.NextPackets.{options_fit}
use Rattle.milter_message.specs.MailObject.{MailObject}
use Rattle.milter_world.specs.Reached.{scenario_of}
use Rattle.milter_world.proofs.scenario.possible_session.Goals as goal

pub returns-clause-possible : goal.returns-clause-possible
returns-clause-possible g c =
    c.scenarios_are_possible.ensures (scenario_of (g.P.Policy.behavior c.args.policy.now) c.args.config.now c.args.session)
    (g.met.P.Policy.lawful c.args.policy.now) c.into_parts-client.ensures.whole
    (subst (λ (o : Options). VERSION_MIN ≤ o.version) c.offer.ensures.offer (subst (λ (n : ℕ). VERSION_MIN ≤ n) (sym c.offer.ensures.version) (omega arith)))
    (subst (λ (o : Options). o.version ≤ VERSION_MAX) c.offer.ensures.offer (subst (λ (n : ℕ). n ≤ VERSION_MAX) (sym c.offer.ensures.version) (omega arith)))
    (subst (λ (o : Options). Fits (commands.Options o)) c.offer.ensures.offer
    (options_fit c.offer.result (record { version = omega arith; actions = omega arith; protocol = omega arith })))
    (subst (λ (l : List MailObject). length l < 2 ^ 64) c.messages.ensures.messages (omega arith))
