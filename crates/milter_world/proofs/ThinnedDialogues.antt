-- Of two negotiations with a filter, of which one leaves out what changes nothing: the dialogue by that one is the
-- dialogue by the other one, without what is left out.
use Rattle.std.proofs.Common.{◌≡◌, ℕ, Bool, true, false, cond, ◌&&◌, List, [], ◌∷◌, filter, Option, None, Some, refl, sym, ap, ◌∙◌, subst, arith, if◌then◌else◌}
use Rattle.milter_wire.specs.declared.options.Options.{Options}
use Rattle.milter_wire.specs.declared.symbol_lists.SymList.{SymList}
use Rattle.milter_wire.specs.declared.negotiation.Negotiated.{Negotiated}
use Rattle.milter_wire.specs.declared.command.Command.{Command}
use Rattle.milter_wire.specs.declared.stage.Stage.{Stage}
use Rattle.milter_wire.specs.Negotiation.{has_leading_space, is_answered, is_asked_at, is_sent}
use Rattle.milter_wire.specs.Stages.{stage_of}
use Rattle.milter_protocol.specs.declared.answer.Answer.{Answer}
use Rattle.milter_protocol.specs.Behavior.{Behavior, answer_to, exchange_of}
use Rattle.milter_protocol.specs.Dialogue.{dialogue_with, is_body, is_closed, is_left_out}
use Rattle.milter_protocol.specs.Exchanges.{Exchange, commands_of, onto}
use Rattle.milter_protocol.specs.Permitted.{permitted}
use Rattle.milter_protocol.specs.Seen.{Seen, seen}
use Rattle.milter_protocol.specs.StageOrder.{rank_of}
use Rattle.milter_world.proofs.Places.{AreUpTo, Ascend, ascend-lower, place-at, place_of, sends, up_to-further}
use Rattle.milter_world.proofs.Thinned.{AreQuiet, IsQuiet, answer_kept, closed-alike, is_plain, skipping-alike, thin, thinned, thinned-commands, thinned-sent, thinned-unsent, unsent-open}

-- by the second negotiation fewer stages are sent or answered than by the first one, at which nothing is decided, and
-- of which nothing is looked at
pub record LeavesOut (decide : Stage → Seen → Answer) (all least : Negotiated) : Type 0 where
  pub lists_alike : least.lists ≡ all.lists
  pub space_alike : has_leading_space least ≡ has_leading_space all
  pub sent : (stage : Stage) → is_sent least stage ≡ true → is_sent all stage ≡ true
  pub permitted_alike : (answer : Answer) → permitted least answer ≡ permitted all answer
  pub answered : (stage : Stage) → is_answered least stage ≡ true → is_answered all stage ≡ true
  pub quiet : (stage : Stage) (shown : Seen) → is_sent all stage ≡ true → is_answered all stage ≡ true
      → (is_sent least stage && is_answered least stage) ≡ false
      → is_plain (Some (permitted all (decide stage shown))) ≡ true
  pub decided : (stage : Stage) (command : Command) (before : List Command) → AreUpTo all (rank_of stage) before
      → decide stage (seen (has_leading_space least) (command ∷ filter (sends least) before))
      ≡ decide stage (seen (has_leading_space all) (command ∷ before))

module _ (wants least_wants : Options) (lists : List SymList) (decide : Stage → Seen → Answer) (all least : Negotiated)
    (leaves : LeavesOut decide all least) where
  abbrev one : Behavior
  one = record { wants = wants; lists = lists; decide = decide }

  abbrev other : Behavior
  other = record { wants = least_wants; lists = lists; decide = decide }

  -- ---- one exchange

  abbrev next : List Exchange → Command → Exchange
  next before command = exchange_of one all (commands_of before) command

  abbrev least_next : List Exchange → Command → Exchange
  least_next before command = exchange_of other least (commands_of (thinned least before)) command

  abbrev all_shown : List Exchange → Command → Seen
  all_shown before command = seen (has_leading_space all) (command ∷ commands_of before)

  abbrev least_shown : List Exchange → Command → Seen
  least_shown before command = seen (has_leading_space least) (command ∷ commands_of (thinned least before))

  quiet-next : (before : List Exchange) (command : Command) → sends all command ≡ true
      → IsQuiet least (next before command)
  quiet-next before command sent none = by_stage (stage_of command) refl none
    where
      by_asked : (stage : Stage) (asked : Bool) → is_answered all stage ≡ asked → place_of command ≡ stage
          → (sends least command && is_answered least stage) ≡ false
          → is_plain (answer_to one all (Some stage) asked (all_shown before command)) ≡ true
      by_asked stage false e place none = refl
      by_asked stage true e place none =
          leaves.quiet stage (all_shown before command)
          (sym (ap (is_sent all) place) ∙ sent) e
          (sym (ap (λ (s : Stage). is_sent least s && is_answered least stage) place) ∙ none)

      by_stage : (at : Option Stage) → stage_of command ≡ at
          → (sends least command && is_asked_at least (stage_of command)) ≡ false
          → is_plain (answer_to one all (stage_of command) (is_asked_at all (stage_of command))
          (all_shown before command)) ≡ true
      by_stage None at none =
          ap (λ (s : Option Stage). is_plain (answer_to one all s (is_asked_at all s)
          (all_shown before command))) at
      by_stage (Some stage) at none =
          ap (λ (s : Option Stage). is_plain (answer_to one all s (is_asked_at all s)
          (all_shown before command))) at
          ∙ by_asked stage (is_answered all stage) refl (place-at command stage at)
          (sym (ap (λ (s : Option Stage). sends least command && is_asked_at least s) at) ∙ none)

  next-alike : (before : List Exchange) (command : Command)
      → AreUpTo all (rank_of (place_of command)) (commands_of before)
      → least_next before command ≡ thin least (next before command)
  next-alike before command up_to =
      ap (λ (a : Option Answer). record { command = command; answer = a }) (by_stage (stage_of command) refl)
    where
      by_asked : (stage : Stage) (asked : Bool) → is_answered least stage ≡ asked → place_of command ≡ stage
          → answer_to other least (Some stage) asked (least_shown before command)
          ≡ answer_kept least asked (answer_to one all (Some stage) (is_answered all stage)
          (all_shown before command))
      by_asked stage false e place = refl
      by_asked stage true e place =
          let these : decide stage (seen (has_leading_space least)
          (command ∷ filter (sends least) (commands_of before)))
          ≡ decide stage (all_shown before command) =
          leaves.decided stage command (commands_of before)
          (subst (λ (s : Stage). AreUpTo all (rank_of s) (commands_of before)) place up_to) in
          ap (λ (l : List Command). Some (permitted least
          (decide stage (seen (has_leading_space least) (command ∷ l)))))
          (thinned-commands least before)
          ∙ ap (λ (a : Answer). Some (permitted least a)) these
          ∙ ap (λ (a : Answer). Some a) (leaves.permitted_alike (decide stage (all_shown before command)))
          ∙ sym (ap (λ (b : Bool). answer_to one all (Some stage) b (all_shown before command))
          (leaves.answered stage e))

      by_stage : (at : Option Stage) → stage_of command ≡ at
          → answer_to other least (stage_of command) (is_asked_at least (stage_of command))
          (least_shown before command)
          ≡ answer_kept least (is_asked_at least (stage_of command))
          (answer_to one all (stage_of command) (is_asked_at all (stage_of command))
          (all_shown before command))
      by_stage None at =
          ap (λ (s : Option Stage). answer_to other least s (is_asked_at least s) (least_shown before command)) at
          ∙ sym (ap (λ (s : Option Stage). answer_kept least (is_asked_at least s)
          (answer_to one all s (is_asked_at all s) (all_shown before command))) at)
      by_stage (Some stage) at =
          ap (λ (s : Option Stage). answer_to other least s (is_asked_at least s) (least_shown before command)) at
          ∙ by_asked stage (is_answered least stage) refl (place-at command stage at)
          ∙ sym (ap (λ (s : Option Stage). answer_kept least (is_asked_at least s)
          (answer_to one all s (is_asked_at all s) (all_shown before command))) at)

  -- ---- whole dialogues

  out-alike : (before : List Exchange) (command : Command) → AreQuiet least before
      → is_left_out (thinned least before) command ≡ is_left_out before command
  out-alike before command quiet = ap (λ (b : Bool). is_body command && b) (skipping-alike least before quiet)

  abbrev Alike : List Exchange → List Command → Type 0
  Alike before left =
      dialogue_with other least (thinned least before) (filter (sends least) left)
      ≡ thinned least (dialogue_with one all before left)

  -- after a command that is sent by both
  sent-alike : (before : List Exchange) (command : Command) (left : List Command) → sends least command ≡ true
      → AreQuiet least (next before command ∷ before) → AreUpTo all (rank_of (place_of command)) (commands_of before)
      → Alike (next before command ∷ before) left
      → least_next before command ∷ (if is_closed (least_next before command ∷ thinned least before)
      (filter (sends least) left) then []
      else dialogue_with other least (least_next before command ∷ thinned least before) (filter (sends least) left))
      ≡ thinned least (next before command ∷ (if is_closed (next before command ∷ before) left then []
      else dialogue_with one all (next before command ∷ before) left))
  sent-alike before command left sent quiet up_to rest =
      ap (λ (e : Exchange). e ∷ (if is_closed (e ∷ thinned least before) (filter (sends least) left) then []
      else dialogue_with other least (e ∷ thinned least before) (filter (sends least) left)))
      (next-alike before command up_to)
      ∙ ap (λ (b : Bool). thin least (next before command) ∷ (if b then []
      else dialogue_with other least (thin least (next before command) ∷ thinned least before)
      (filter (sends least) left)))
      (closed-alike least (next before command) before left quiet sent)
      ∙ ap (λ (l : List Exchange). thin least (next before command) ∷ l)
      (by_closed (is_closed (next before command ∷ before) left))
      ∙ sym (thinned-sent least (next before command) (if is_closed (next before command ∷ before) left then []
      else dialogue_with one all (next before command ∷ before) left) sent)
    where
      by_closed : (closed : Bool)
          → (if closed then [] else dialogue_with other least (thin least (next before command) ∷ thinned least before)
          (filter (sends least) left))
          ≡ thinned least (if closed then [] else dialogue_with one all (next before command ∷ before) left)
      by_closed true = refl
      by_closed false =
          ap (λ (l : List Exchange). dialogue_with other least l (filter (sends least) left))
          (sym (thinned-sent least (next before command) before sent))
          ∙ rest

  -- after one that isn't
  unsent-alike : (before : List Exchange) (command : Command) (left : List Command) → sends least command ≡ false
      → AreQuiet least (next before command ∷ before) → Alike (next before command ∷ before) left
      → dialogue_with other least (thinned least before) (filter (sends least) left)
      ≡ thinned least (next before command ∷ (if is_closed (next before command ∷ before) left then []
      else dialogue_with one all (next before command ∷ before) left))
  unsent-alike before command left unsent quiet rest =
      ap (λ (l : List Exchange). dialogue_with other least l (filter (sends least) left))
      (sym (thinned-unsent least (next before command) before unsent))
      ∙ rest
      ∙ sym (ap (λ (b : Bool). thinned least (if b then [] else dialogue_with one all
      (next before command ∷ before) left))
      (unsent-open least (next before command) before left quiet.0 unsent))
      ∙ sym (thinned-unsent least (next before command) (if is_closed (next before command ∷ before) left then []
      else dialogue_with one all (next before command ∷ before) left) unsent)

  pub dialogues-alike : (left : List Command) (before : List Exchange) (rank : ℕ) → AreQuiet least before
      → AreUpTo all rank (commands_of before) → Ascend all rank left → Alike before left
  unfolding dialogue_with
  dialogues-alike [] before rank quiet up_to ascend = refl
  dialogues-alike (command ∷ left) before rank quiet up_to ascend =
      let here : AreUpTo all (rank_of (place_of command)) (commands_of before) =
      up_to-further all rank (rank_of (place_of command)) (commands_of before) ascend.0 up_to in
      let now : AreQuiet least (next before command ∷ before) = (quiet-next before command ascend.1, quiet) in
      by_out (is_left_out before command) (sends least command) refl refl here now
      (dialogues-alike left before rank quiet up_to
      (ascend-lower all rank (rank_of (place_of command)) left ascend.0 ascend.2))
      (dialogues-alike left (next before command ∷ before) (rank_of (place_of command)) now
      ((omega arith, ascend.1, here)) ascend.2)
    where
      by_out : (out sent : Bool) → is_left_out before command ≡ out → sends least command ≡ sent
          → AreUpTo all (rank_of (place_of command)) (commands_of before)
          → AreQuiet least (next before command ∷ before)
          → Alike before left → Alike (next before command ∷ before) left
          → dialogue_with other least (thinned least before)
          (cond sent (command ∷ filter (sends least) left) (filter (sends least) left))
          ≡ thinned least (if out then dialogue_with one all before left
          else next before command ∷ (if is_closed (next before command ∷ before) left then []
          else dialogue_with one all (next before command ∷ before) left))
      by_out true false e f here now skipped goes = skipped
      by_out true true e f here now skipped goes =
          ap (λ (b : Bool). if b then dialogue_with other least (thinned least before) (filter (sends least) left)
          else least_next before command ∷ (if is_closed (least_next before command ∷ thinned least before)
          (filter (sends least) left) then []
          else dialogue_with other least (least_next before command ∷ thinned least before)
          (filter (sends least) left)))
          (out-alike before command quiet ∙ e)
          ∙ skipped
      by_out false false e f here now skipped goes = unsent-alike before command left f now goes
      by_out false true e f here now skipped goes =
          ap (λ (b : Bool). if b then dialogue_with other least (thinned least before) (filter (sends least) left)
          else least_next before command ∷ (if is_closed (least_next before command ∷ thinned least before)
          (filter (sends least) left) then []
          else dialogue_with other least (least_next before command ∷ thinned least before)
          (filter (sends least) left)))
          (out-alike before command quiet ∙ e)
          ∙ sent-alike before command left f now here goes

  -- all that is left out of a dialogue changes nothing
  pub dialogue-quiet : (left : List Command) (before : List Exchange) (rank : ℕ) → AreQuiet least before
      → Ascend all rank left → AreQuiet least (onto (dialogue_with one all before left) before)
  unfolding dialogue_with
  dialogue-quiet [] before rank quiet ascend = quiet
  dialogue-quiet (command ∷ left) before rank quiet ascend =
      let now : AreQuiet least (next before command ∷ before) = (quiet-next before command ascend.1, quiet) in
      by_out (is_left_out before command) (is_closed (next before command ∷ before) left) now
      (dialogue-quiet left before rank quiet (ascend-lower all rank
      (rank_of (place_of command)) left ascend.0 ascend.2))
      (dialogue-quiet left (next before command ∷ before) (rank_of (place_of command)) now ascend.2)
    where
      by_out : (out closed : Bool) → AreQuiet least (next before command ∷ before)
          → AreQuiet least (onto (dialogue_with one all before left) before)
          → AreQuiet least (onto (dialogue_with one all (next before command ∷ before) left)
          (next before command ∷ before))
          → AreQuiet least (onto (if out then dialogue_with one all before left
          else next before command ∷ (if closed then [] else dialogue_with one all
          (next before command ∷ before) left)) before)
      by_out true closed now skipped goes = skipped
      by_out false true now skipped goes = now
      by_out false false now skipped goes = goes
