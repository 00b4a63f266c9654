-- Laws of weights and plans, for proofs in the crates above: each is also the contract of a function in src/laws.rt.
use Rattle.std.proofs.Common.{◌≤◌, ℕ, List, All}
use Rattle.milter_fields.specs.declared.client.Client.{Client}
use Rattle.milter_mail.specs.Macros.{Macros}
use Rattle.milter_mail.specs.declared.weight.Overhead.{Overhead}
use Rattle.milter_message.specs.MailObject.{MailObject}
use Rattle.milter_wire.specs.declared.negotiation.Negotiated.{Negotiated}
use Rattle.milter_wire.specs.declared.command.Command.TheVariants as commands
use Rattle.milter_wire.specs.Command.{Fits, bytes_of}
use Rattle.milter_mail.specs.MailSession.{IsSendable, MacrosFit, MailSession}
use Rattle.milter_mail.specs.Plan.{plan}
use Rattle.milter_mail.specs.Weight.{weight}
use Rattle.milter_mail.specs.WeightParts.{IsOverhead, IsSendableWith}
use Rattle.milter_mail.proofs.Weights as weights
use Rattle.milter_mail.proofs.PlanFits as plan_fit
use Rattle.milter_mail.proofs.PlanWeight as plan_weights

pub all_sendable_with : (client : Client) (helo : List ℕ) (macros : Macros) (o : Overhead) (messages : List MailObject) → IsOverhead client helo macros o
    → All (IsSendable client helo macros) messages → All (IsSendableWith o) messages
all_sendable_with = weights.all_sendable_with

pub all_sendable : (client : Client) (helo : List ℕ) (macros : Macros) (o : Overhead) (messages : List MailObject) → IsOverhead client helo macros o
    → All (IsSendableWith o) messages → All (IsSendable client helo macros) messages
all_sendable = weights.all_sendable

pub plan_weight : (negotiated : Negotiated) (session : MailSession) (m : MailObject)
    → bytes_of (plan negotiated session m) ≤ weight session.client session.helo session.macros m
plan_weight = plan_weights.plan_weight

pub plan_fits : (negotiated : Negotiated) (session : MailSession) (m : MailObject) → Fits (commands.Connect session.client)
    → Fits (commands.Helo session.helo) → MacrosFit session.macros
    → IsSendable session.client session.helo session.macros m → All Fits (plan negotiated session m)
plan_fits = plan_fit.plan_fits
