use Rattle.std.proofs.Common.{◌≡◌, ◌<◌, ◌==◌, ℕ, zero, suc, Bool, true, false, List, [], ◌∷◌, Some, ap, arith, length, refl, subst, sym, ◌∙◌}
use Rattle.milter_mta_outcome.specs.declared.loss.Loss.TheVariants.{Fault}
use Rattle.milter_mta_outcome.specs.declared.loss.MtaFault.TheVariants.{Early}
use Rattle.milter_mta_connection.specs.declared.channel_state.ExpectedReply.{ExpectedReply}
use Rattle.milter_mta_connection.specs.declared.filter_event.FilterEvent.TheVariants as events
use Rattle.milter_mta_connection.specs.Channel.{Channel, is_owed, is_owed_by}
use Rattle.milter_mta_connection.proofs.ReceivedFrames.{early}
use Rattle.milter_mta_connection.proofs.mta_channel.MtaChannel.feed.Goals as goal

not_empty : (n : ℕ) (empty : Bool) → empty ≡ (n == 0) → empty ≡ false → 0 < n
not_empty zero empty e is = absurd (zero_empty empty e is)
  where
    zero_empty : (b : Bool) → b ≡ true → b ≡ false → ⊥
    zero_empty b e is = absurd cc
not_empty (suc n) empty e is = omega arith

not_owed : (expected : ExpectedReply) (pending : List ℕ) → 0 < length pending → is_owed_by expected pending ≡ false
not_owed expected [] some = absurd (omega arith)
not_owed expected (x ∷ pending) some = refl

pub returns-then-not-is_empty : goal.returns-then-not-is_empty
returns-then-not-is_empty c =
    let piece = c.args.piece.now in
    let some = not_empty (length piece) c.is_empty.result c.is_empty.ensures c.if-is_empty.false in
    let left : 0 < length c.as_slice.result.now = not_empty (length c.as_slice.result.now) c.is_empty-2.result c.is_empty-2.ensures c.if-not-is_empty.true in
    let pending : 0 < length c.self.inside.pending = subst (λ (p : List ℕ). 0 < length p) c.as_slice.ensures left in
    let owed : is_owed c.args.self.now ≡ false = subst (λ (k : Channel). is_owed k ≡ false) c.self.view_is (not_owed c.self.inside.state.expected c.self.inside.pending pending) in
    early events.Nothing c.args.self.now piece owed some
    ∙ ap (λ (k : Channel). record { channel = k; event = events.Nothing; loss = Some (Fault Early) }) (sym c.clear.ensures)
