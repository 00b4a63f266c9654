-- A dialogue sends a beginning of its plan.
use Rattle.std.specs.Prelude.{if◌then◌else◌}
use Rattle.std.proofs.Common.{◌≡◌, Bool, true, false, cond, not, ◌&&◌, ◌||◌, List, [], ◌∷◌, ◌++◌, refl, sym, ap, ◌∙◌, append-nil}
use Rattle.std.specs.List.{list_any}
use Rattle.std.proofs.lemmas.Bool.{true≢false}
use Rattle.std.proofs.Math.Bool.{and-false, and-true}
use Rattle.milter_mta.proofs.TruthValues.{or-true}
use Rattle.milter_wire.specs.declared.negotiation.Negotiated.{Negotiated}
use Rattle.milter_wire.specs.declared.command.Command.{Command}
use Rattle.milter_protocol.specs.Behavior.{Behavior, exchange_of}
use Rattle.milter_protocol.specs.Exchanges.{Exchange, commands_of}
use Rattle.milter_protocol.specs.Dialogue.{is_body, is_closed, is_left_out, is_skipping, dialogue_with}
use Rattle.milter_mta_outcome.specs.PlanCursor.{without_body}
use Rattle.milter_mta.specs.Beginnings.{IsBeginning}

by_skips : (a b c : Bool) → b ≡ c → (a && b) ≡ (a && c)
by_skips a b c e = ap (λ (k : Bool). a && k) e

module _ (b : Behavior) (negotiated : Negotiated) where
  abbrev next : List Exchange → Command → Exchange
  next dialogue command = exchange_of b negotiated (commands_of dialogue) command

  abbrev rest_of : Bool → List Exchange → List Exchange
  rest_of closed more = if closed then [] else more

  -- ---- after a skip

  record IsRest (plan : List Command) (sent : List Exchange) : Type 0 where
    unsent : List Command
    sent_is : commands_of sent ++ unsent ≡ without_body plan

  after_skip : (left : List Command) (dialogue : List Exchange) → list_any is_skipping dialogue ≡ true → IsRest left (dialogue_with b negotiated dialogue left)
  unfolding dialogue_with
  after_skip [] dialogue skipped = record { unsent = []; sent_is = refl }
  after_skip (command ∷ left) dialogue skipped =
      by_out (is_left_out dialogue command) refl (after_skip left dialogue skipped)
      (after_skip left (next dialogue command ∷ dialogue) (or-true (is_skipping (next dialogue command)) (list_any is_skipping dialogue) skipped))
    where
      is_chunk : is_left_out dialogue command ≡ is_body command
      is_chunk = by_skips (is_body command) (list_any is_skipping dialogue) true skipped ∙ and-true (is_body command)

      here : (body : Bool) → is_left_out dialogue command ≡ body → without_body (command ∷ left) ≡ cond (not body) (command ∷ without_body left) (without_body left)
      here body e = ap (λ (k : Bool). cond (not k) (command ∷ without_body left) (without_body left)) (sym is_chunk ∙ e)

      by_closed : (closed : Bool) → is_left_out dialogue command ≡ false → IsRest left (dialogue_with b negotiated (next dialogue command ∷ dialogue) left)
          → IsRest (command ∷ left) (next dialogue command ∷ rest_of closed (dialogue_with b negotiated (next dialogue command ∷ dialogue) left))
      by_closed true e rest = record { unsent = without_body left; sent_is = sym (here false e) }
      by_closed false e rest = record { unsent = rest.unsent; sent_is = ap (λ (l : List Command). command ∷ l) rest.sent_is ∙ sym (here false e) }

      by_out : (out : Bool) → is_left_out dialogue command ≡ out → IsRest left (dialogue_with b negotiated dialogue left)
          → IsRest left (dialogue_with b negotiated (next dialogue command ∷ dialogue) left)
          → IsRest (command ∷ left)
          (if out then dialogue_with b negotiated dialogue left
          else next dialogue command ∷ (if is_closed (next dialogue command ∷ dialogue) left then [] else dialogue_with b negotiated (next dialogue command ∷ dialogue) left))
      by_out true e same rest = record { unsent = same.unsent; sent_is = same.sent_is ∙ sym (here true e) }
      by_out false e same rest = by_closed (is_closed (next dialogue command ∷ dialogue) left) e rest

  -- ---- before one

  no_chunk : (dialogue : List Exchange) (command : Command) → list_any is_skipping dialogue ≡ false → is_left_out dialogue command ≡ false
  no_chunk dialogue command none = by_skips (is_body command) (list_any is_skipping dialogue) false none ∙ and-false (is_body command)

  pub begins : (left : List Command) (dialogue : List Exchange) → list_any is_skipping dialogue ≡ false → IsBeginning left (dialogue_with b negotiated dialogue left)
  unfolding dialogue_with
  begins [] dialogue none =
      record { first = []; others = []; unsent = []; plan_is = refl; sent_is = refl; skip = λ some. absurd (some refl) }
  begins (command ∷ left) dialogue none =
      by_out (is_left_out dialogue command) refl
      (λ skips. after_skip left (next dialogue command ∷ dialogue) (ap (λ (k : Bool). k || list_any is_skipping dialogue) skips))
      (λ skips. begins left (next dialogue command ∷ dialogue) (ap (λ (k : Bool). k || list_any is_skipping dialogue) skips ∙ none))
    where
      by_skip : (skips : Bool) → is_skipping (next dialogue command) ≡ skips
          → (is_skipping (next dialogue command) ≡ true → IsRest left (dialogue_with b negotiated (next dialogue command ∷ dialogue) left))
          → (is_skipping (next dialogue command) ≡ false → IsBeginning left (dialogue_with b negotiated (next dialogue command ∷ dialogue) left))
          → IsBeginning (command ∷ left) (next dialogue command ∷ dialogue_with b negotiated (next dialogue command ∷ dialogue) left)
      by_skip true e skipped goes =
          let rest = skipped e in
          record {
            first = command ∷ [];
            others = left;
            unsent = rest.unsent;
            plan_is = refl;
            sent_is = ap (λ (l : List Command). command ∷ l) rest.sent_is;
            skip = λ some. ap (λ (k : Bool). k || list_any is_skipping (dialogue_with b negotiated (next dialogue command ∷ dialogue) left)) e;
          }
      by_skip false e skipped goes =
          let rest = goes e in
          record {
            first = command ∷ rest.first;
            others = rest.others;
            unsent = rest.unsent;
            plan_is = ap (λ (l : List Command). command ∷ l) rest.plan_is;
            sent_is = ap (λ (l : List Command). command ∷ l) rest.sent_is;
            skip = λ some. or-true (is_skipping (next dialogue command)) _ (rest.skip some);
          }

      by_closed : (closed : Bool)
          → (is_skipping (next dialogue command) ≡ true → IsRest left (dialogue_with b negotiated (next dialogue command ∷ dialogue) left))
          → (is_skipping (next dialogue command) ≡ false → IsBeginning left (dialogue_with b negotiated (next dialogue command ∷ dialogue) left))
          → IsBeginning (command ∷ left) (next dialogue command ∷ rest_of closed (dialogue_with b negotiated (next dialogue command ∷ dialogue) left))
      by_closed true skipped goes =
          record {
            first = command ∷ left;
            others = [];
            unsent = left;
            plan_is = sym (append-nil (command ∷ left));
            sent_is = sym (append-nil (command ∷ left));
            skip = λ some. absurd (some refl);
          }
      by_closed false skipped goes = by_skip (is_skipping (next dialogue command)) refl skipped goes

      by_out : (out : Bool) → is_left_out dialogue command ≡ out
          → (is_skipping (next dialogue command) ≡ true → IsRest left (dialogue_with b negotiated (next dialogue command ∷ dialogue) left))
          → (is_skipping (next dialogue command) ≡ false → IsBeginning left (dialogue_with b negotiated (next dialogue command ∷ dialogue) left))
          → IsBeginning (command ∷ left)
          (if out then dialogue_with b negotiated dialogue left
          else next dialogue command ∷ (if is_closed (next dialogue command ∷ dialogue) left then [] else dialogue_with b negotiated (next dialogue command ∷ dialogue) left))
      by_out true e skipped goes = absurd (true≢false (sym e ∙ no_chunk dialogue command none))
      by_out false e skipped goes = by_closed (is_closed (next dialogue command ∷ dialogue) left) skipped goes
