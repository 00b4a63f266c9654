-- The exchanges about a client are a dialogue of their own, with the verdicts on the client.
use Rattle.std.proofs.Common.{◌≡◌, ◌≤◌, ℕ, ◌==◌, Bool, true, false, cond, ◌||◌, List, [], ◌∷◌, ◌++◌, length, is_some, Option, None, Some, refl, sym, ap, ◌∙◌, arith, append-nil}
use Rattle.std.specs.List.{filter, list_any}
use Rattle.std.proofs.lemmas.Bool.{true≢false}
use Rattle.std.proofs.lemmas.List.Elements.{filter-append}
use Rattle.milter_wire.specs.declared.negotiation.Negotiated.{Negotiated}
use Rattle.milter_wire.specs.declared.command.Command.{Command}
use Rattle.milter_wire.specs.declared.command.Command.TheVariants as commands
use Rattle.milter_wire.specs.declared.stage.Stage.{Stage}
use Rattle.milter_wire.specs.Stages.{stage_of}
use Rattle.milter_protocol.specs.declared.answer.Answer.{Answer}
use Rattle.milter_protocol.specs.Commands.{is_of_connection}
use Rattle.milter_protocol.specs.Exchanges.{Exchange, commands_of}
use Rattle.milter_protocol.specs.Transcripts.{rank_at}
use Rattle.milter_protocol.specs.StageOrder.{rank_of}
use Rattle.milter_protocol.specs.Dialogue.{is_body, is_skipping, sendable}
use Rattle.milter_mta_outcome.specs.declared.acted_verdicts.Acted.{Acted}
use Rattle.milter_mta_outcome.specs.Dialogues.{acted, acted_at, count_at, is_at}
use Rattle.milter_mta_outcome.specs.TransactionVerdicts as plan
use Rattle.milter_mta_outcome.specs.TransactionVerdicts.{on_connection}
use Rattle.milter_mta.specs.Order.{AreInOrder, AreProper, ComeBefore, ReachAtMost}
use Rattle.milter_mta.specs.Dialogues.{opening_of}
use Rattle.milter_mta.proofs.Numbers.{same_stage, some_rank}
use Rattle.milter_mta.proofs.Ordered.{Reaches}
use Rattle.milter_mta.proofs.Refusals.{keep_all, keep_if}

-- ---- by stage

abbrev client_at : Option Stage → Bool
client_at None = false
client_at (Some s) = plan.is_of_connection s

-- of a stage, a command is about the client as its stage is
pub client_by_stage : (command : Command) (stage : Stage) → stage_of command ≡ Some stage → is_of_connection command ≡ plan.is_of_connection stage
client_by_stage command stage e = by_command command (ap (λ (s : Option Stage). is_some s) e) ∙ ap client_at e
  where
    by_command : (c : Command) → is_some (stage_of c) ≡ true → is_of_connection c ≡ client_at (stage_of c)
    by_command (commands.Connect client) is = refl
    by_command (commands.Helo name) is = refl
    by_command (commands.Mail sender) is = refl
    by_command (commands.Rcpt recipient) is = refl
    by_command commands.DataCmd is = refl
    by_command (commands.Header header) is = refl
    by_command commands.Eoh is = refl
    by_command (commands.Body bytes) is = refl
    by_command (commands.Eob bytes) is = refl
    by_command other is = absurd (true≢false (sym is))

pub low_rank : (command : Command) → is_of_connection command ≡ true → rank_at (stage_of command) ≤ 2
low_rank (commands.Connect client) e = omega arith
low_rank (commands.Helo name) e = omega arith
low_rank (commands.Macro code pairs) e = omega arith
low_rank other e = absurd (true≢false (sym e))

pub no_body : (command : Command) → is_of_connection command ≡ true → is_body command ≡ false
no_body (commands.Body bytes) e = absurd (true≢false (sym e))
no_body other e = refl

-- ---- order

reach : (rank : ℕ) (dialogue : List Exchange) → ReachAtMost rank (commands_of dialogue) → ReachAtMost rank (commands_of (opening_of dialogue))
reach rank [] below = tt
reach rank (last ∷ before) below = by_client (is_of_connection last.command) (reach rank before below.1)
  where
    by_client : (b : Bool) → ReachAtMost rank (commands_of (opening_of before)) → ReachAtMost rank (commands_of (cond b (last ∷ opening_of before) (opening_of before)))
    by_client true rest = (below.0, rest)
    by_client false rest = rest

come : (at : Option Stage) (dialogue : List Exchange) → ComeBefore at (commands_of dialogue) → ComeBefore at (commands_of (opening_of dialogue))
come None dialogue before = tt
come (Some stage) dialogue before = reach (rank_of stage) dialogue before

opening-order : (dialogue : List Exchange) → AreInOrder (commands_of dialogue) → AreInOrder (commands_of (opening_of dialogue))
opening-order [] order = tt
opening-order (last ∷ before) order = by_client (is_of_connection last.command) (opening-order before order.1)
  where
    by_client : (b : Bool) → AreInOrder (commands_of (opening_of before)) → AreInOrder (commands_of (cond b (last ∷ opening_of before) (opening_of before)))
    by_client true rest = (come (stage_of last.command) before order.0, rest)
    by_client false rest = rest

opening-reach : (dialogue : List Exchange) → ReachAtMost 2 (commands_of (opening_of dialogue))
opening-reach [] = tt
opening-reach (last ∷ before) = by_client (is_of_connection last.command) refl (opening-reach before)
  where
    by_client : (b : Bool) → is_of_connection last.command ≡ b → ReachAtMost 2 (commands_of (opening_of before))
        → ReachAtMost 2 (commands_of (cond b (last ∷ opening_of before) (opening_of before)))
    by_client true e rest = (low_rank last.command e, rest)
    by_client false e rest = rest

pub opening-reaches : (dialogue : List Exchange) → AreInOrder (commands_of dialogue) → Reaches 2 (commands_of (opening_of dialogue))
opening-reaches dialogue order = record { order = opening-order dialogue order; reach = opening-reach dialogue }

pub opening-proper : (negotiated : Negotiated) (dialogue : List Exchange) → AreProper negotiated dialogue → AreProper negotiated (opening_of dialogue)
opening-proper negotiated [] all = tt
opening-proper negotiated (last ∷ before) all = by_client (is_of_connection last.command) (opening-proper negotiated before all.1)
  where
    by_client : (b : Bool) → AreProper negotiated (opening_of before) → AreProper negotiated (cond b (last ∷ opening_of before) (opening_of before))
    by_client true rest = (all.0, rest)
    by_client false rest = rest

-- ---- verdicts

module _ (stage : Stage) (client : plan.is_of_connection stage ≡ true) where
  is_there : (at : Option Stage) → (rank_at at == rank_of stage) ≡ true → at ≡ Some stage
  is_there None e = absurd (true≢false (sym e ∙ some_rank stage))
  is_there (Some s) e = ap Some (same_stage s stage e)

  same_count : (dialogue : List Exchange) → count_at stage (opening_of dialogue) ≡ count_at stage dialogue
  same_count [] = refl
  same_count (last ∷ before) = by_client (is_of_connection last.command) (is_at stage last) refl refl (same_count before)
    where
      by_at : (at : Bool) → count_at stage (opening_of before) ≡ count_at stage before
          → length (cond at (last ∷ filter (is_at stage) (opening_of before)) (filter (is_at stage) (opening_of before)))
          ≡ length (cond at (last ∷ filter (is_at stage) before) (filter (is_at stage) before))
      by_at true rest = omega (arith, rest)
      by_at false rest = rest

      by_client : (b at : Bool) → is_of_connection last.command ≡ b → is_at stage last ≡ at → count_at stage (opening_of before) ≡ count_at stage before
          → count_at stage (cond b (last ∷ opening_of before) (opening_of before)) ≡ length (cond at (last ∷ filter (is_at stage) before) (filter (is_at stage) before))
      by_client true at c e rest = ap (λ (t : Bool). length (cond t (last ∷ filter (is_at stage) (opening_of before)) (filter (is_at stage) (opening_of before)))) e ∙ by_at at rest
      by_client false true c e rest = absurd (true≢false (sym client ∙ sym (client_by_stage last.command stage (is_there (stage_of last.command) e)) ∙ c))
      by_client false false c e rest = rest

module _ (last : Exchange) (before : List Exchange) where
  abbrev o : List Exchange
  o = opening_of before

  abbrev kept : List Acted → List Acted
  kept l = filter (λ (a : Acted). plan.is_of_connection a.stage) l

  abbrev Added : Option Stage → Option Answer → Bool → Type 0
  Added at answer b = acted o ++ kept (acted_at at answer (last ∷ before)) ≡ acted (cond b (last ∷ o) o)

  same_number : (stage : Stage) → plan.is_of_connection stage ≡ true → is_of_connection last.command ≡ true
      → count_at stage (last ∷ before) ≡ count_at stage (last ∷ o)
  same_number stage client is = sym (same_count stage client (last ∷ before)) ∙ ap (λ (b : Bool). count_at stage (cond b (last ∷ o) o)) is

  by_stage : (at : Option Stage) (answer : Option Answer) (b : Bool) → stage_of last.command ≡ at → last.answer ≡ answer → is_of_connection last.command ≡ b
      → Added at answer b
  by_stage None answer true e f c = ap (λ (s : Option Stage). acted o ++ acted_at s last.answer (last ∷ o)) (sym e)
  by_stage None answer false e f c = append-nil (acted o)
  by_stage (Some stage) None true e f c =
      ap (λ (a : Option Answer). acted o ++ acted_at (Some stage) a (last ∷ o)) (sym f)
      ∙ ap (λ (s : Option Stage). acted o ++ acted_at s last.answer (last ∷ o)) (sym e)
  by_stage (Some stage) None false e f c = append-nil (acted o)
  by_stage (Some stage) (Some answer) true e f c =
      let client : plan.is_of_connection stage ≡ true = sym (client_by_stage last.command stage e) ∙ c in
      ap (λ (k : Bool). acted o ++ cond k (record { stage = stage; nth = count_at stage (last ∷ before); verdict = answer.verdict } ∷ []) []) client
      ∙ ap (λ (n : ℕ). acted o ++ record { stage = stage; nth = n; verdict = answer.verdict } ∷ []) (same_number stage client c)
      ∙ ap (λ (a : Option Answer). acted o ++ acted_at (Some stage) a (last ∷ o)) (sym f)
      ∙ ap (λ (s : Option Stage). acted o ++ acted_at s last.answer (last ∷ o)) (sym e)
  by_stage (Some stage) (Some answer) false e f c =
      let client : plan.is_of_connection stage ≡ false = sym (client_by_stage last.command stage e) ∙ c in
      ap (λ (k : Bool). acted o ++ cond k (record { stage = stage; nth = count_at stage (last ∷ before); verdict = answer.verdict } ∷ []) []) client
      ∙ append-nil (acted o)

pub opening-acted : (dialogue : List Exchange) → on_connection (acted dialogue) ≡ acted (opening_of dialogue)
opening-acted [] = refl
opening-acted (last ∷ before) =
    filter-append (λ (a : Acted). plan.is_of_connection a.stage) (acted before) (acted_at (stage_of last.command) last.answer (last ∷ before))
    ∙ ap (λ (l : List Acted). l ++ kept last before (acted_at (stage_of last.command) last.answer (last ∷ before))) (opening-acted before)
    ∙ by_stage last before (stage_of last.command) last.answer (is_of_connection last.command) refl refl refl

-- ---- what is left to send

no_skip : (negotiated : Negotiated) (dialogue : List Exchange) → AreProper negotiated dialogue → list_any is_skipping (opening_of dialogue) ≡ false
no_skip negotiated [] all = refl
no_skip negotiated (last ∷ before) all = by_client (is_of_connection last.command) refl (no_skip negotiated before all.1)
  where
    never : (skips : Bool) → is_skipping last ≡ skips → is_of_connection last.command ≡ true → is_skipping last ≡ false
    never false e c = e
    never true e c = absurd (true≢false (sym (all.0.skipped e) ∙ no_body last.command c))

    by_client : (b : Bool) → is_of_connection last.command ≡ b → list_any is_skipping (opening_of before) ≡ false
        → list_any is_skipping (cond b (last ∷ opening_of before) (opening_of before)) ≡ false
    by_client true e rest = ap (λ (s : Bool). s || list_any is_skipping (opening_of before)) (never (is_skipping last) refl e) ∙ rest
    by_client false e rest = rest

pub opening-sendable : (negotiated : Negotiated) (dialogue : List Exchange) (left : List Command) → AreProper negotiated dialogue → sendable (opening_of dialogue) left ≡ left
opening-sendable negotiated dialogue left all = ap (λ (b : Bool). keep_if b left) (no_skip negotiated dialogue all) ∙ keep_all left
