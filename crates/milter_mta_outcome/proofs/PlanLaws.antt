-- Laws of plans, for proofs in the crates above: each is also the contract of a function in src/laws.rt.
use Rattle.std.proofs.Common.{◌≡◌, ◌≤◌, ◌<◌, ◌+◌, ◌⊎◌, inl, inr, List, [], ◌∷◌, All, length, ap, subst, ◌∙◌, arith}
use Rattle.std.proofs.Math.Seq.{drop-append_seam}
use Rattle.std.proofs.lemmas.List.{length-append}
use Rattle.std.proofs.lemmas.List.Elements.{All-drop}
use Rattle.std.proofs.lemmas.List.Sums.{sum_by-cons}
use Rattle.milter_message.specs.declared.message.TheConstants.{WEIGHT_MAX}
use Rattle.milter_message.specs.MailObject.{MailObject}
use Rattle.milter_wire.specs.declared.negotiation.Negotiated.{Negotiated}
use Rattle.milter_wire.specs.declared.command.Command.{Command}
use Rattle.milter_wire.specs.declared.command.Command.TheVariants as commands
use Rattle.milter_wire.specs.declared.stage.Stage.TheVariants.{Connect, Mail}
use Rattle.milter_wire.specs.Command.{Fits, bytes_of, code_of, encoding, payload_of}
use Rattle.milter_fields.specs.Number.{number}
use Rattle.milter_mail.specs.ChosenMacros.{chosen_macros}
use Rattle.milter_mail.specs.Macros.{Macros}
use Rattle.milter_mail.specs.MailSession.{IsSendable, MacrosFit, MailSession}
use Rattle.milter_mail.specs.Plan.{macros_of, opening, plan}
use Rattle.milter_mail.specs.Steps.{message_steps}
use Rattle.milter_mail.proofs.MailLaws.{plan_fits, plan_weight}
use Rattle.milter_mta_outcome.specs.declared.plan_cursor.Cursor.{Cursor}
use Rattle.milter_mta_outcome.specs.declared.plan_cursor.ClientInfo.{ClientInfo}
use Rattle.milter_mta_outcome.specs.declared.transaction.Transaction.{Transaction}
use Rattle.milter_mta_outcome.specs.PlanCursor.{Outgoing, outgoing_of, steps_from}
use Rattle.milter_mta_outcome.specs.Transactions.{Sends, left_of, outgoing_transaction}
use Rattle.milter_mta_outcome.proofs.PlanStages as stages
use Rattle.milter_mta_outcome.proofs.TransactionSteps.{sends_by}

pub message_by_stages : (o : Outgoing) → steps_from o Mail 0 ≡ message_steps o.negotiated o.macros o.message
message_by_stages o = stages.message_by_stages o

pub plan_by_stages : (negotiated : Negotiated) (session : MailSession) (message : MailObject)
    → steps_from (outgoing_of negotiated session message) Connect 0 ≡ plan negotiated session message
plan_by_stages negotiated session message = stages.plan_by_stages (outgoing_of negotiated session message)

-- ---- a plan has fewer commands than bytes

some_bytes : (command : Command) → 0 < length (encoding command)
some_bytes command =
    let is = length-append (number (length (payload_of command) + 1)) (code_of command ∷ payload_of command) in
    omega (arith, is)

fewer : (xs : List Command) → length xs ≤ bytes_of xs
fewer [] = omega arith
fewer (x ∷ xs) =
    let more = sum_by-cons (λ command. length (encoding command)) x xs in
    let some = some_bytes x in
    let rest = fewer xs in
    omega (arith, more, some, rest)

-- ---- the first transaction of a connection, and those after it

module _ (begun : ClientInfo) (transaction : Transaction) (connect : Fits (commands.Connect begun.client)) (helo : Fits (commands.Helo begun.helo))
    (macros : MacrosFit begun.macros) (sendable : IsSendable begun.client begun.helo begun.macros transaction.message)
    (chosen : transaction.macros ≡ chosen_macros transaction.negotiated.lists begun.macros) where
  abbrev session : MailSession
  session = record { client = begun.client; helo = begun.helo; macros = begun.macros; messages = [] }

  abbrev all : List Command
  all = plan transaction.negotiated session transaction.message

  abbrev last : List Command
  last = message_steps transaction.negotiated (macros_of transaction.negotiated session) transaction.message

  abbrev o : Outgoing
  o = outgoing_of transaction.negotiated session transaction.message

  same : outgoing_transaction begun transaction ≡ o
  same = ap (λ (m : Macros). record { negotiated = transaction.negotiated; macros = m; client = begun.client; helo = begun.helo; message = transaction.message }) chosen

  all_fit : All Fits all
  all_fit = plan_fits transaction.negotiated session transaction.message connect helo macros sendable

  few : length all ≤ WEIGHT_MAX
  few =
      let bytes = plan_weight transaction.negotiated session transaction.message in
      let less = fewer all in
      let weight = sendable.weight_fits in
      omega (arith, bytes, less, weight)

  last_fit : All Fits last
  last_fit =
      let before = opening transaction.negotiated session in
      subst (All Fits) (drop-append_seam before last) (All-drop Fits (length before) all all_fit)

  fewer_last : length last ≤ WEIGHT_MAX
  fewer_last =
      let sum = length-append (opening transaction.negotiated session) last in
      let all_few = few in
      omega (arith, sum, all_few)

  left_at : (at : Cursor) → transaction.cursor ≡ at → left_of begun transaction ≡ steps_from o at.stage at.step
  left_at at e =
      ap (λ (c : Cursor). steps_from (outgoing_transaction begun transaction) c.stage c.step) e
      ∙ ap (λ (p : Outgoing). steps_from p at.stage at.step) same

  pub begun_sends : ((transaction.cursor ≡ record { stage = Connect; step = 0 }) ⊎ (transaction.cursor ≡ record { stage = Mail; step = 0 })) → Sends begun transaction
  begun_sends (inl e) =
      let step = ap (λ (c : Cursor). c.step) e in
      let enough = few in
      sends_by begun transaction all (left_at (record { stage = Connect; step = 0 }) e ∙ plan_by_stages transaction.negotiated session transaction.message) all_fit (omega (arith, step, enough))
  begun_sends (inr e) =
      let step = ap (λ (c : Cursor). c.step) e in
      let enough = fewer_last in
      sends_by begun transaction last (left_at (record { stage = Mail; step = 0 }) e ∙ message_by_stages o) last_fit (omega (arith, step, enough))
