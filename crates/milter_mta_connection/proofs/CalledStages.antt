-- Stages that are called for: their macros, what a plan has of them, and what their verdicts leave.
use Rattle.std.specs.Prelude.{if◌then◌else◌}
use Rattle.std.proofs.Common.{◌≡◌, ◌≤◌, ℕ, Bool, true, false, not, ◌&&◌, ◌||◌, List, [], ◌∷◌, ◌++◌, Option, None, Some, refl, sym, ap, ◌∙◌, arith, min}
use Rattle.std.specs.List.{flat_map, list_any}
use Rattle.std.proofs.lemmas.Bool.{true≢false}
use Rattle.std.proofs.lemmas.List.Folds.{list_any-append}
use Rattle.milter_wire.specs.declared.command.Command.{Command}
use Rattle.milter_wire.specs.declared.command.Command.TheVariants as commands
use Rattle.milter_wire.specs.declared.negotiation.Negotiated.{Negotiated}
use Rattle.milter_wire.specs.declared.stage.Stage.{Stage}
use Rattle.milter_wire.specs.declared.stage.Stage.TheVariants as stages
use Rattle.milter_wire.specs.declared.verdict.Verdict.{Verdict}
use Rattle.milter_wire.specs.declared.verdict.Verdict.TheVariants.{Skip}
use Rattle.milter_wire.specs.Negotiation.{is_sent}
use Rattle.milter_wire.specs.Stages.{macro_command_of, macro_stage_of, stage_of}
use Rattle.milter_fields.specs.declared.pair.Pair.{Pair}
use Rattle.milter_mail.specs.ChosenMacros.{chosen_macros}
use Rattle.milter_mail.specs.Macros.{Macros}
use Rattle.milter_mail.specs.Steps.{macro_step, macros_at, step}
use Rattle.milter_protocol.specs.Dialogue.{are_all_refused, is_body, is_kept_rcpt, is_rcpt}
use Rattle.milter_protocol.specs.Exchanges.{Exchange}
use Rattle.milter_protocol.specs.StageOrder.{rank_of}
use Rattle.milter_protocol.specs.Verdicts.{is_final_at, is_skip}
use Rattle.milter_mta_outcome.specs.ReceivedReplies.{is_end, is_given}
use Rattle.milter_mta_connection.specs.declared.phase.Phase.{Phase}
use Rattle.milter_mta_connection.specs.declared.phase.Phase.TheVariants.{NoMessage, InMessage, Skipping, MessageOver, ClientOver, Closed}
use Rattle.milter_mta_connection.specs.Connection.{abort_before, asked_pairs, is_in_order, is_left_out as leaves_out, is_over, phase_after, phase_over, rank_after, rank_after_verdict}
use Rattle.milter_mta_connection.proofs.CallStages.{RankIn, base, is_going, is_late, skips}

-- ---- macros

-- those that the filter asked for are those of the plan
pub same-macros : (negotiated : Negotiated) (macros : Macros) (stage : Stage)
    → asked_pairs (Some negotiated) (macro_stage_of stage) (macros_at macros stage) ≡ macros_at (chosen_macros negotiated.lists macros) stage
same-macros negotiated macros stages.Connect = refl
same-macros negotiated macros stages.Helo = refl
same-macros negotiated macros stages.Mail = refl
same-macros negotiated macros stages.Rcpt = refl
same-macros negotiated macros stages.DataCmd = refl
same-macros negotiated macros stages.Header = refl
same-macros negotiated macros stages.Eoh = refl
same-macros negotiated macros stages.Body = refl
same-macros negotiated macros stages.Eob = refl

-- ---- what a plan has of the commands that are called for

abbrev pub steps_at : Negotiated → Macros → Command → Option Stage → List Command
steps_at negotiated macros command None = []
steps_at negotiated macros command (Some stage) = step negotiated macros stage command

abbrev pub steps_for : Negotiated → Macros → Command → List Command
steps_for negotiated macros command = steps_at negotiated macros command (stage_of command)

abbrev pub steps : Negotiated → Macros → List Command → List Command
steps negotiated macros calls = flat_map (steps_for negotiated macros) calls

-- ---- by stage

abbrev pub is_body_stage : Option Stage → Bool
is_body_stage (Some stages.Body) = true
is_body_stage other = false

pub body-by-stage : (command : Command) → is_body command ≡ is_body_stage (stage_of command)
body-by-stage (commands.Connect client) = refl
body-by-stage (commands.Helo name) = refl
body-by-stage (commands.Mail sender) = refl
body-by-stage (commands.Rcpt recipient) = refl
body-by-stage commands.DataCmd = refl
body-by-stage (commands.Header header) = refl
body-by-stage commands.Eoh = refl
body-by-stage (commands.Body bytes) = refl
body-by-stage (commands.Eob bytes) = refl
body-by-stage other = refl

abbrev pub is_rcpt_stage : Option Stage → Bool
is_rcpt_stage (Some stages.Rcpt) = true
is_rcpt_stage other = false

pub rcpt-by-stage : (command : Command) → is_rcpt command ≡ is_rcpt_stage (stage_of command)
rcpt-by-stage (commands.Connect client) = refl
rcpt-by-stage (commands.Helo name) = refl
rcpt-by-stage (commands.Mail sender) = refl
rcpt-by-stage (commands.Rcpt recipient) = refl
rcpt-by-stage commands.DataCmd = refl
rcpt-by-stage (commands.Header header) = refl
rcpt-by-stage commands.Eoh = refl
rcpt-by-stage (commands.Body bytes) = refl
rcpt-by-stage (commands.Eob bytes) = refl
rcpt-by-stage other = refl

-- while a dialogue is open, the body alone is left out, once it is skipped
pub over-is : (phase : Phase) (stage : Stage) → is_going phase ≡ true → (is_body_stage (Some stage) && skips phase) ≡ is_over phase stage
over-is Skipping stages.Body e = refl
over-is Skipping stages.Connect e = refl
over-is Skipping stages.Helo e = refl
over-is Skipping stages.Mail e = refl
over-is Skipping stages.Rcpt e = refl
over-is Skipping stages.DataCmd e = refl
over-is Skipping stages.Header e = refl
over-is Skipping stages.Eoh e = refl
over-is Skipping stages.Eob e = refl
over-is NoMessage stage e = no-skip (is_body_stage (Some stage))
  where
    no-skip : (a : Bool) → (a && false) ≡ false
    no-skip true = refl
    no-skip false = refl
over-is InMessage stage e = no-skip (is_body_stage (Some stage))
  where
    no-skip : (a : Bool) → (a && false) ≡ false
    no-skip true = refl
    no-skip false = refl
over-is MessageOver stage e = absurd (true≢false (sym e))
over-is ClientOver stage e = absurd (true≢false (sym e))
over-is Closed stage e = absurd (true≢false (sym e))

-- it has no macros
pub no-macros : (stage : Stage) (skip : Bool) → (is_body_stage (Some stage) && skip) ≡ true → macro_command_of stage ≡ None
no-macros stages.Body skip e = refl
no-macros stages.Connect skip e = absurd (true≢false (sym e))
no-macros stages.Helo skip e = absurd (true≢false (sym e))
no-macros stages.Mail skip e = absurd (true≢false (sym e))
no-macros stages.Rcpt skip e = absurd (true≢false (sym e))
no-macros stages.DataCmd skip e = absurd (true≢false (sym e))
no-macros stages.Header skip e = absurd (true≢false (sym e))
no-macros stages.Eoh skip e = absurd (true≢false (sym e))
no-macros stages.Eob skip e = absurd (true≢false (sym e))

-- ---- recipients that are left

pub or-false : (a : Bool) → (a || false) ≡ a
or-false true = refl
or-false false = refl

pub rcpts-in : (code : Option ℕ) (pairs : List Pair) (command : Command) → list_any is_rcpt (macro_step code pairs ++ command ∷ []) ≡ is_rcpt command
rcpts-in None pairs command = or-false (is_rcpt command)
rcpts-in (Some code) [] command = or-false (is_rcpt command)
rcpts-in (Some code) (pair ∷ pairs) command = or-false (is_rcpt command)

pub no-rcpt : (sent : Bool) (code : Option ℕ) (pairs : List Pair) (command : Command) → is_rcpt command ≡ false
    → list_any is_rcpt (if sent then macro_step code pairs ++ command ∷ [] else []) ≡ false
no-rcpt true code pairs command e = rcpts-in code pairs command ∙ e
no-rcpt false code pairs command e = refl

module _ (negotiated : Negotiated) (macros : Macros) where
  pub rcpt-sent : is_sent negotiated stages.Rcpt ≡ true → (stage : Option Stage) (command : Command) → is_rcpt command ≡ is_rcpt_stage stage
      → list_any is_rcpt (steps_at negotiated macros command stage) ≡ is_rcpt_stage stage
  rcpt-sent sent None command e = refl
  rcpt-sent sent (Some stages.Rcpt) command e =
      ap (λ (s : Bool). list_any is_rcpt (if s then macro_step (macro_command_of stages.Rcpt) (macros_at macros stages.Rcpt) ++ command ∷ [] else [])) sent
      ∙ rcpts-in (macro_command_of stages.Rcpt) (macros_at macros stages.Rcpt) command
      ∙ e
  rcpt-sent sent (Some stage) command e = no-rcpt (is_sent negotiated stage) (macro_command_of stage) (macros_at macros stage) command e

  pub rcpts-left : is_sent negotiated stages.Rcpt ≡ true → (left : List Command) → list_any is_rcpt (steps negotiated macros left) ≡ list_any is_rcpt left
  rcpts-left sent [] = refl
  rcpts-left sent (command ∷ left) =
      list_any-append is_rcpt (steps_for negotiated macros command) (steps negotiated macros left)
      ∙ ap (λ (b : Bool). b || list_any is_rcpt (steps negotiated macros left)) (rcpt-sent sent (stage_of command) command (rcpt-by-stage command) ∙ sym (rcpt-by-stage command))
      ∙ ap (λ (b : Bool). is_rcpt command || b) (rcpts-left sent left)

  -- after a command that was sent, all are refused by the commands that are left as by what is left to be sent
  pub same-refused : (last : Exchange) (before : List Exchange) (left : List Command) (stage : Stage) → is_rcpt last.command ≡ is_rcpt_stage (Some stage) → is_sent negotiated stage ≡ true
      → are_all_refused (last ∷ before) (steps negotiated macros left) ≡ are_all_refused (last ∷ before) left
  same-refused last before left stages.Rcpt e sent =
      ap (λ (b : Bool). is_rcpt last.command && not b && not (list_any is_kept_rcpt (last ∷ before))) (rcpts-left sent left)
  same-refused last before left stage e sent =
      ap (λ (b : Bool). b && not (list_any is_rcpt (steps negotiated macros left)) && not (list_any is_kept_rcpt (last ∷ before))) e
      ∙ sym (ap (λ (b : Bool). b && not (list_any is_rcpt left) && not (list_any is_kept_rcpt (last ∷ before))) e)

-- ---- verdicts

-- what a stage after the sender of a message leaves where the dialogue is over
pub record IsIgnored (negotiated : Negotiated) (last : ℕ) (stage : Stage) : Type 0 where
  pub in_order : is_in_order MessageOver last stage ≡ true
  pub left_out : leaves_out (Some negotiated) MessageOver stage ≡ true
  pub phase_is : phase_after MessageOver stage ≡ MessageOver
  pub rank_is : rank_after MessageOver last stage ≡ last
  pub no_abort : abort_before MessageOver stage ≡ []

pub late-ignored : (negotiated : Negotiated) (last : ℕ) (stage : Stage) → is_late stage ≡ true → IsIgnored negotiated last stage
late-ignored negotiated last stages.Rcpt e = record { in_order = refl; left_out = refl; phase_is = refl; rank_is = refl; no_abort = refl }
late-ignored negotiated last stages.DataCmd e = record { in_order = refl; left_out = refl; phase_is = refl; rank_is = refl; no_abort = refl }
late-ignored negotiated last stages.Header e = record { in_order = refl; left_out = refl; phase_is = refl; rank_is = refl; no_abort = refl }
late-ignored negotiated last stages.Eoh e = record { in_order = refl; left_out = refl; phase_is = refl; rank_is = refl; no_abort = refl }
late-ignored negotiated last stages.Body e = record { in_order = refl; left_out = refl; phase_is = refl; rank_is = refl; no_abort = refl }
late-ignored negotiated last stages.Eob e = record { in_order = refl; left_out = refl; phase_is = refl; rank_is = refl; no_abort = refl }
late-ignored negotiated last stages.Connect e = absurd (true≢false (sym e))
late-ignored negotiated last stages.Helo e = absurd (true≢false (sym e))
late-ignored negotiated last stages.Mail e = absurd (true≢false (sym e))

-- a body alone is skipped
pub skip-body : (negotiated : Negotiated) (stage : Stage) (verdict : Verdict) → is_given negotiated stage verdict ≡ true → is_skip verdict ≡ true → stage ≡ stages.Body
skip-body negotiated stages.Body verdict given e = refl
skip-body negotiated stages.Connect Skip given e = absurd (true≢false (sym given))
skip-body negotiated stages.Helo Skip given e = absurd (true≢false (sym given))
skip-body negotiated stages.Mail Skip given e = absurd (true≢false (sym given))
skip-body negotiated stages.Rcpt Skip given e = absurd (true≢false (sym given))
skip-body negotiated stages.DataCmd Skip given e = absurd (true≢false (sym given))
skip-body negotiated stages.Header Skip given e = absurd (true≢false (sym given))
skip-body negotiated stages.Eoh Skip given e = absurd (true≢false (sym given))
skip-body negotiated stages.Eob Skip given e = absurd (true≢false (sym given))
skip-body negotiated stage other given e = absurd (true≢false (sym e))

-- a verdict that ends nothing leaves the rank
pub same-rank : (stage : Stage) (verdict : Verdict) (last : ℕ) → is_final_at stage verdict ≡ false → rank_after_verdict stage verdict last ≡ last
same-rank stages.Connect verdict last e = refl
same-rank stages.Helo verdict last e = refl
same-rank stages.Mail verdict last e = ap (λ (b : Bool). if b then min 2 last else last) e
same-rank stages.Rcpt verdict last e = ap (λ (b : Bool). if b then min 2 last else last) e
same-rank stages.DataCmd verdict last e = ap (λ (b : Bool). if b then min 2 last else last) e
same-rank stages.Header verdict last e = ap (λ (b : Bool). if b then min 2 last else last) e
same-rank stages.Eoh verdict last e = ap (λ (b : Bool). if b then min 2 last else last) e
same-rank stages.Body verdict last e = ap (λ (b : Bool). if b then min 2 last else last) e
same-rank stages.Eob verdict last e = absurd (true≢false e)

-- nor does it come at the end
pub not-end : (stage : Stage) (verdict : Verdict) → is_final_at stage verdict ≡ false → is_end stage ≡ false
not-end stages.Eob verdict e = absurd (true≢false e)
not-end other verdict e = refl

pub over-rank : (stage : Stage) (verdict : Verdict) → is_final_at stage verdict ≡ true → phase_over stage ≡ NoMessage → rank_after_verdict stage verdict (rank_of stage) ≤ 2
over-rank stages.Eob verdict e is = omega arith
over-rank stages.Connect verdict e is = absurd cc
over-rank stages.Helo verdict e is = absurd cc
over-rank stages.Mail verdict e is = absurd cc
over-rank stages.Rcpt verdict e is = absurd cc
over-rank stages.DataCmd verdict e is = absurd cc
over-rank stages.Header verdict e is = absurd cc
over-rank stages.Eoh verdict e is = absurd cc
over-rank stages.Body verdict e is = absurd cc

pub rank-in : (phase : Phase) (last : ℕ) → RankIn phase last → phase ≡ NoMessage → last ≤ 2
rank-in NoMessage last rank e = rank
rank-in InMessage last rank e = absurd cc
rank-in Skipping last rank e = absurd cc
rank-in MessageOver last rank e = absurd cc
rank-in ClientOver last rank e = absurd cc
rank-in Closed last rank e = absurd cc

pub mail-in : (phase : Phase) → is_going phase ≡ true → phase_after (base phase) stages.Mail ≡ InMessage
mail-in NoMessage e = refl
mail-in InMessage e = refl
mail-in Skipping e = refl
mail-in MessageOver e = absurd (true≢false (sym e))
mail-in ClientOver e = absurd (true≢false (sym e))
mail-in Closed e = absurd (true≢false (sym e))
