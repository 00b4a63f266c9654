-- The dialogue, by its next exchange: there is none, it is the last one, or others follow.
use Rattle.std.proofs.Common.{◌≡◌, Bool, true, false, ◌||◌, List, [], ◌∷◌, refl, sym, ◌∙◌, if◌then◌else◌}
use Rattle.milter_wire.specs.declared.negotiation.Negotiated.{Negotiated}
use Rattle.milter_wire.specs.declared.command.Command.{Command}
use Rattle.milter_protocol.specs.Behavior.{Behavior, exchange_of}
use Rattle.milter_protocol.specs.Exchanges.{Exchange, commands_of}
use Rattle.milter_protocol.specs.Dialogue.{AreAnsweredBy, EndAtFinalAnswer, HaveNoSkippedChunk, is_closed, is_final, is_left_out, dialogue_with}

pub left-false : (a b : Bool) → (a || b) ≡ false → a ≡ false
left-false true b e = e
left-false false b e = refl

module _ (b : Behavior) (negotiated : Negotiated) where
  abbrev next : List Exchange → Command → Exchange
  next before command = exchange_of b negotiated (commands_of before) command

  module _ (M : List Exchange → List Exchange → Type 0)
      (none : (before : List Exchange) → M before [])
      (last : (before : List Exchange) (command : Command) → is_left_out before command ≡ false → M before (next before command ∷ []))
      (more : (before : List Exchange) (command : Command) (rest : List Exchange) → is_left_out before command ≡ false
      → is_final (next before command) ≡ false → M (next before command ∷ before) rest → M before (next before command ∷ rest)) where
    pub dialogue_with-is : (plan : List Command) (before : List Exchange) → M before (dialogue_with b negotiated before plan)
    unfolding dialogue_with
    dialogue_with-is [] before = none before
    dialogue_with-is (command ∷ left) before =
        by_out (is_left_out before command) refl (dialogue_with-is left before) (dialogue_with-is left (next before command ∷ before))
      where
        by_closed : (closed : Bool) → is_closed (next before command ∷ before) left ≡ closed → is_left_out before command ≡ false
            → M (next before command ∷ before) (dialogue_with b negotiated (next before command ∷ before) left)
            → M before (next before command ∷ (if closed then [] else dialogue_with b negotiated (next before command ∷ before) left))
        by_closed true e stays rest = last before command stays
        by_closed false e stays rest = more before command _ stays (left-false _ _ e) rest

        by_out : (out : Bool) → is_left_out before command ≡ out → M before (dialogue_with b negotiated before left)
            → M (next before command ∷ before) (dialogue_with b negotiated (next before command ∷ before) left)
            → M before
            (if out then dialogue_with b negotiated before left
            else next before command ∷ (if is_closed (next before command ∷ before) left then [] else dialogue_with b negotiated (next before command ∷ before) left))
        by_out true e skipped goes = skipped
        by_out false e skipped goes = by_closed (is_closed (next before command ∷ before) left) refl e goes

  pub dialogue_with-answered : (before : List Exchange) (plan : List Command) → AreAnsweredBy b negotiated before (dialogue_with b negotiated before plan)
  dialogue_with-answered before plan =
      dialogue_with-is (AreAnsweredBy b negotiated) (λ before. tt) (λ before command stays. (refl, tt))
      (λ before command rest stays goes_on is. (refl, is)) plan before

  pub dialogue_with-skips : (before : List Exchange) (plan : List Command) → HaveNoSkippedChunk before (dialogue_with b negotiated before plan)
  dialogue_with-skips before plan =
      dialogue_with-is HaveNoSkippedChunk (λ before. tt) (λ before command stays. (stays, tt))
      (λ before command rest stays goes_on is. (stays, is)) plan before

  pub dialogue_with-ends : (before : List Exchange) (plan : List Command) → EndAtFinalAnswer (dialogue_with b negotiated before plan)
  dialogue_with-ends before plan =
      dialogue_with-is (λ before exchanges. EndAtFinalAnswer exchanges) (λ before. tt) (λ before command stays. (λ is. refl, tt))
      (λ before command rest stays goes_on is. (λ final. absurd (let e : true ≡ false = sym final ∙ goes_on in cc), is)) plan before
