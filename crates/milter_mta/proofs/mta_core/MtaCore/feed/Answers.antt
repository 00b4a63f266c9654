use Rattle.std.proofs.Common.{◌≡◌, Option, Some, false, ap, sym, ◌∙◌}
use Rattle.milter_mta_connection.specs.Channel.{is_owed}
use Rattle.milter_mta_outcome.specs.declared.loss.Loss.TheVariants.{Fault}
use Rattle.milter_mta_outcome.specs.declared.loss.MtaFault.TheVariants.{Early}
use Rattle.milter_mta.specs.declared.state.FilterConnection.{FilterConnection as Connected}
use Rattle.milter_mta.specs.CoreParts.{mta_of}
use Rattle.milter_mta.specs.Mta.{Mta}
use Rattle.milter_mta.specs.Replies.{received}
use Rattle.milter_mta.proofs.CoreSteps.{some_bytes}
use Rattle.milter_mta.proofs.EarlyPieces.{early-connected, early-unconnected}
use Rattle.milter_mta.proofs.mta_core.MtaCore.feed.Goals as goal

pub returns-in_default : goal.returns-in_default
returns-in_default c =
    let state = c.self.inside.state in
    let k = c.self.inside.channel in
    let piece = c.args.piece.now in
    let some = some_bytes piece c.is_empty.result c.is_empty.ensures c.if-is_empty.false in
    ap (λ (m : Mta). received m piece) (sym c.self.view_is)
    ∙ ap (λ (o : Option Connected). received (mta_of state o k) piece) c.in_default.is
    ∙ early-unconnected state c.lose_waiting.new.self k piece some c.lose_waiting.ensures.lost
    ∙ ap (λ (o : Option Connected). record { mta = mta_of c.lose_waiting.new.self o k; loss = Some (Fault Early) }) (sym c.in_default.is)

pub returns-then-not-is_owed : goal.returns-then-not-is_owed
returns-then-not-is_owed c =
    let state = c.self.inside.state in
    let k = c.self.inside.channel in
    let f = c.in-Some.filter_connection in
    let piece = c.args.piece.now in
    let some = some_bytes piece c.is_empty.result c.is_empty.ensures c.if-is_empty.false in
    let owed : is_owed k ≡ false = sym c.is_owed.ensures ∙ c.if-not-is_owed.true in
    ap (λ (m : Mta). received m piece) (sym c.self.view_is)
    ∙ ap (λ (o : Option Connected). received (mta_of state o k) piece) c.in-Some.is
    ∙ early-connected state c.lose.new.self f k piece owed some c.lose.ensures.lost
