-- The stage of a command is the stage at which it stands in the plan.
use Rattle.std.proofs.Common.{◌≡◌, ℕ, suc, zero, List, [], ◌∷◌, Some, All, slice_get, subst}
use Rattle.std.proofs.lemmas.List.Elements.{All-head, All-nil, All-tail}
use Rattle.std.proofs.lemmas.Option.{same_Some}
use Rattle.milter_wire.specs.declared.command.Command.{Command}
use Rattle.milter_wire.specs.declared.command.Command.TheVariants as commands
use Rattle.milter_wire.specs.declared.stage.Stage.{Stage}
use Rattle.milter_wire.specs.declared.stage.Stage.TheVariants as stages
use Rattle.milter_wire.specs.Negotiation.{has_leading_space, is_sent}
use Rattle.milter_wire.specs.Stages.{macro_command_of, stage_of}
use Rattle.milter_message.specs.LeadingSpace.{sent_header}
use Rattle.milter_message.specs.Chunks.{chunks_of}
use Rattle.milter_mail.specs.Steps.{macro_step, macros_at}
use Rattle.milter_mta_outcome.specs.PlanCursor.{Outgoing, steps_at}
use Rattle.milter_mta_outcome.specs.Transactions.{stage_first}
use Rattle.milter_mta_outcome.proofs.CursorSteps.{each_all, macros_all, single_all}

abbrev IsAt : Stage → Command → Type 0
IsAt stage command = (other : Stage) → stage_of command ≡ Some other → stage ≡ other

at_found : (Q : Command → Type 0) (commands : List Command) (n : ℕ) (command : Command) → All Q commands
    → slice_get commands n ≡ Some command → Q command
at_found Q [] n command h e = absurd cc
at_found Q (x ∷ xs) zero command h e = subst Q (same_Some x command e) (All-head Q x xs h)
at_found Q (x ∷ xs) (suc n) command h e = at_found Q xs n command (All-tail Q x xs h) e

module _ (o : Outgoing) where
  macros_no : (stage other : Stage) → All (IsAt other) (macro_step (macro_command_of stage) (macros_at o.macros stage))
  macros_no stage other = macros_all (IsAt other) (λ code pairs given e. absurd cc) (macro_command_of stage) (macros_at o.macros stage)

  all_at : (stage : Stage) → All (IsAt stage) (steps_at o stage)
  all_at stages.Connect = single_all (IsAt stages.Connect) (is_sent o.negotiated stages.Connect) _ (commands.Connect o.client) (macros_no stages.Connect stages.Connect) (λ other e. same_Some stages.Connect other e)
  all_at stages.Helo = single_all (IsAt stages.Helo) (is_sent o.negotiated stages.Helo) _ (commands.Helo o.helo) (macros_no stages.Helo stages.Helo) (λ other e. same_Some stages.Helo other e)
  all_at stages.Mail = single_all (IsAt stages.Mail) (is_sent o.negotiated stages.Mail) _ (commands.Mail o.message.sender) (macros_no stages.Mail stages.Mail) (λ other e. same_Some stages.Mail other e)
  all_at stages.Rcpt = each_all (IsAt stages.Rcpt) (is_sent o.negotiated stages.Rcpt) _ (λ recipient. commands.Rcpt recipient) o.message.recipients (macros_no stages.Rcpt stages.Rcpt) (λ x other e. same_Some stages.Rcpt other e)
  all_at stages.DataCmd = single_all (IsAt stages.DataCmd) (is_sent o.negotiated stages.DataCmd) _ commands.DataCmd (macros_no stages.DataCmd stages.DataCmd) (λ other e. same_Some stages.DataCmd other e)
  all_at stages.Header = each_all (IsAt stages.Header) (is_sent o.negotiated stages.Header) [] (λ header. commands.Header (sent_header (has_leading_space o.negotiated) header)) o.message.headers (All-nil (IsAt stages.Header)) (λ x other e. same_Some stages.Header other e)
  all_at stages.Eoh = single_all (IsAt stages.Eoh) (is_sent o.negotiated stages.Eoh) _ commands.Eoh (macros_no stages.Eoh stages.Eoh) (λ other e. same_Some stages.Eoh other e)
  all_at stages.Body = each_all (IsAt stages.Body) (is_sent o.negotiated stages.Body) [] (λ chunk. commands.Body chunk) (chunks_of o.message.body) (All-nil (IsAt stages.Body)) (λ x other e. same_Some stages.Body other e)
  all_at stages.Eob = single_all (IsAt stages.Eob) (is_sent o.negotiated stages.Eob) _ (commands.Eob []) (macros_no stages.Eob stages.Eob) (λ other e. same_Some stages.Eob other e)

  pub stage_at : (stage other : Stage) (n : ℕ) (left : List Command) → slice_get (steps_at o stage) n ≡ slice_get left 0
      → stage_first left ≡ Some other → stage ≡ other
  stage_at stage other n [] e first = absurd cc
  stage_at stage other n (command ∷ left) e first = at_found (IsAt stage) (steps_at o stage) n command (all_at stage) e other first
