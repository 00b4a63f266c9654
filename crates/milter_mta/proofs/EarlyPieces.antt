-- What comes while no reply is owed.
use Rattle.std.proofs.Common.{◌≡◌, false, List, [], ◌∷◌, ℕ, None, Some, refl, sym, ap, ◌∙◌, arith}
use Rattle.milter_message.specs.declared.edit.Edit.{Edit}
use Rattle.milter_mta_connection.specs.Channel.{Channel, is_owed}
use Rattle.milter_mta_outcome.specs.declared.loss.Loss.TheVariants.{Fault}
use Rattle.milter_mta_outcome.specs.declared.loss.MtaFault.TheVariants.{Early}
use Rattle.milter_mta_outcome.specs.declared.plan_cursor.ClientInfo.{ClientInfo}
use Rattle.milter_mta.specs.declared.state.FilterConnection.{FilterConnection as Connected}
use Rattle.milter_mta.specs.declared.state.Position.{Position as PositionParts}
use Rattle.milter_mta.specs.declared.state.Position.TheVariants as parts
use Rattle.milter_mta.specs.declared.state.SessionState.{SessionState}
use Rattle.milter_mta.specs.CoreParts.{connection_of, mta_at, mta_of, only, position_of, unconnected}
use Rattle.milter_mta.specs.Dispositions.{acted_at, lost}
use Rattle.milter_mta.specs.Mta.{Mta, at_packet}
use Rattle.milter_mta.specs.Replies.{After, received}
use Rattle.milter_mta.proofs.CoreSteps.{HasBytes}
use Rattle.milter_mta.proofs.UnreadReplies.{early, early-at_none, lost-over}

acted-edits : (client_info : ClientInfo) (next : PositionParts) (l r : List Edit) → acted_at (position_of client_info l next) ≡ acted_at (position_of client_info r next)
acted-edits client_info parts.Offering l r = refl
acted-edits client_info (parts.Sending transaction) l r = refl
acted-edits client_info parts.Quitting l r = refl
acted-edits client_info parts.Ended l r = refl

-- the filter is lost by it, without anything of it
abbrev lost_early : SessionState → After
lost_early new = record { mta = unconnected new []; loss = Some (Fault Early) }

pub early-connected : (state new : SessionState) (f : Connected) (k : Channel) (piece : List ℕ) → is_owed k ≡ false → HasBytes piece
    → unconnected new [] ≡ lost (Fault Early) (mta_at state (only f.position))
    → received (mta_of state (Some f) k) piece ≡ lost_early new
early-connected state new f k piece owed some is =
    let m : Mta = mta_of state (Some f) k in
    ap (received m) some.are
    ∙ early (connection_of state.client_info f k) m (some.byte ∷ some.bytes) owed (omega arith)
    ∙ ap (λ (v : Mta). record { mta = v; loss = Some (Fault Early) })
    (lost-over (connection_of state.client_info f k) (at_packet (position_of state.client_info [] f.position)) m (acted-edits state.client_info f.position k.edits []) (Fault Early) ∙ sym is)

pub early-unconnected : (state new : SessionState) (k : Channel) (piece : List ℕ) → HasBytes piece → unconnected new [] ≡ lost (Fault Early) (unconnected state [])
    → received (mta_of state None k) piece ≡ lost_early new
early-unconnected state new k piece some is =
    ap (received (mta_of state None k)) some.are
    ∙ early-at_none (mta_of state None k) some.byte some.bytes refl
    ∙ ap (λ (v : Mta). record { mta = v; loss = Some (Fault Early) }) (sym is)
