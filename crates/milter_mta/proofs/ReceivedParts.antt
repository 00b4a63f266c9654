-- What is received of a part of a lawful filter's answer, exactly.
use Rattle.std.proofs.Common.{◌≡◌, ◌≢◌, ◌≤◌, ◌+◌, ℕ, Bool, true, false, List, [], ◌∷◌, ◌++◌, Option, None, Some, refl, sym, ap, ◌∙◌, subst, arith}
use Rattle.std.proofs.lemmas.Option.{same_Some}
use Rattle.milter_wire.specs.declared.negotiation.Negotiated.{Negotiated}
use Rattle.milter_wire.specs.declared.command.Command.{Command}
use Rattle.milter_wire.specs.declared.stage.Stage.{Stage}
use Rattle.milter_wire.specs.Negotiation.{has_leading_space, is_asked}
use Rattle.milter_wire.specs.Stages.{stage_of}
use Rattle.milter_message.specs.declared.edit.Edit.{Edit}
use Rattle.milter_message.specs.declared.message.TheConstants.{WEIGHT_MAX}
use Rattle.milter_protocol.specs.declared.answer.Answer.{Answer}
use Rattle.milter_protocol.specs.Behavior.{Behavior, answer_to, exchange_of}
use Rattle.milter_protocol.specs.Exchanges.{Exchange, commands_of}
use Rattle.milter_protocol.specs.Lawful.{IsLawful}
use Rattle.milter_protocol.specs.Seen.{Seen, seen}
use Rattle.milter_protocol.specs.Dialogue.{is_left_out, sendable}
use Rattle.milter_protocol.proofs.Sendable.{sendable-next}
use Rattle.milter_mta_outcome.specs.declared.acted_verdicts.Acted.{Acted}
use Rattle.milter_mta_outcome.specs.declared.loss.Loss.{Loss}
use Rattle.milter_mta_outcome.specs.Dialogues.{acted}
use Rattle.milter_mta_outcome.specs.EditWeights.{weight_of_all}
use Rattle.milter_mta.specs.Mta.{Mta, at_packet}
use Rattle.milter_mta.specs.Mta.Position.{Sending}
use Rattle.milter_mta.specs.declared.mta_core.Want.TheVariants as wants
use Rattle.milter_mta.specs.Replies.{After, at, received}
use Rattle.milter_mta.specs.Output.{want}
use Rattle.milter_mta.specs.Dispositions.{lost}
use Rattle.milter_mta.specs.Lines.{after_line, answer_bytes, sent_whole}
use Rattle.milter_mta.specs.PartAnswers.{IsPartReceived}
use Rattle.milter_mta.specs.Dialogues.{at_dialogue}
use Rattle.milter_mta_outcome.proofs.ReceivedAnswers.{IsReceived, permitted-received}
use Rattle.milter_mta.proofs.Answers.{ReceivesReplies, owed_at}
use Rattle.milter_mta.proofs.Exchanges.{sent-asked, start-is}
use Rattle.milter_mta.proofs.Losses.{lost-over}
use Rattle.milter_mta.proofs.PartAnswers.{KeepsPrefixes, part-received}

module _ (receives_bytes : ReceivesReplies) (keeps : KeepsPrefixes) (b : Behavior) (lawful : IsLawful b) (negotiated : Negotiated) (m : Mta) (some : m.session.messages ≢ [])
    (dialogue : List Exchange) (command : Command) (left : List Command) (stays : is_left_out dialogue command ≡ false) where
  abbrev shown : Seen
  shown = seen (has_leading_space negotiated) (command ∷ commands_of dialogue)

  abbrev last : Exchange
  last = exchange_of b negotiated (commands_of dialogue) command

  abbrev start : Mta
  start = at_dialogue negotiated dialogue (command ∷ left) m

  module _ (bytes rest : List ℕ) (remains : rest ≢ []) where
    answered : (stage : Stage) (answer : Answer) → stage_of command ≡ Some stage → is_asked negotiated command ≡ true
        → IsReceived negotiated stage answer → bytes ++ rest ≡ answer_bytes (Some answer)
        → IsPartReceived negotiated (acted dialogue) (sendable dialogue (command ∷ left)) m [] answer.edits bytes (after_line bytes start)
    answered stage answer at_stage asked is e =
        let goes : after_line bytes start ≡ received (owed_at (Sending negotiated (acted dialogue) [] (command ∷ sendable dialogue left)) m) bytes =
        ap (λ (n : Mta). received (sent_whole n) bytes) (start-is negotiated m last dialogue left stays)
        ∙ ap (λ (n : Mta). received n bytes) (sent-asked negotiated (acted dialogue) command (sendable dialogue left) m asked) in
        let light : weight_of_all [] + weight_of_all answer.edits ≤ WEIGHT_MAX = no_weight answer.edits is.weight in
        let part = part-received receives_bytes keeps negotiated stage (acted dialogue) (command ∷ sendable dialogue left) m some at_stage
        answer.edits [] answer.verdict is.at_end is.permitted is.edits_fit light is.verdict_fits bytes rest remains e in
        subst (λ (l : List Command). IsPartReceived negotiated (acted dialogue) l m [] answer.edits bytes (after_line bytes start)) (sym (sendable-next dialogue command left stays))
        (subst (IsPartReceived negotiated (acted dialogue) (command ∷ sendable dialogue left) m [] answer.edits bytes) (sym goes) part)
      where
        no_weight : (es : List Edit) → weight_of_all es ≤ WEIGHT_MAX → weight_of_all [] + weight_of_all es ≤ WEIGHT_MAX
        no_weight es less = omega (arith, less)

    pub received-part : (answer : Answer) → last.answer ≡ Some answer → bytes ++ rest ≡ answer_bytes (Some answer)
        → IsPartReceived negotiated (acted dialogue) (sendable dialogue (command ∷ left)) m [] answer.edits bytes (after_line bytes start)
    received-part answer is e = by_stage (stage_of command) (is_asked negotiated command) refl refl is
      where
        by_stage : (at : Option Stage) (asked : Bool) → stage_of command ≡ at → is_asked negotiated command ≡ asked → answer_to b negotiated at asked shown ≡ Some answer
            → IsPartReceived negotiated (acted dialogue) (sendable dialogue (command ∷ left)) m [] answer.edits bytes (after_line bytes start)
        by_stage None asked at_stage asks is = absurd cc
        by_stage (Some stage) false at_stage asks is = absurd cc
        by_stage (Some stage) true at_stage asks is =
            answered stage answer at_stage asks
            (subst (IsReceived negotiated stage) (same_Some _ answer is) (permitted-received negotiated stage (b.decide stage shown) (lawful.answers stage shown))) e

-- all else is as it was
module _ (negotiated : Negotiated) (verdicts : List Acted) (left : List Command) (m : Mta) (edits : List Edit) (bytes : List ℕ) (after : After)
    (is : IsPartReceived negotiated verdicts left m [] edits bytes after) where
  pub part-waits : want after.mta ≡ wants.Receive
  part-waits = ap (λ (a : After). want a.mta) is.received_is

  pub part-reports : after.mta.reports ≡ m.reports
  part-reports = ap (λ (a : After). a.mta.reports) is.received_is

  pub part-loses : (loss : Loss) → lost loss after.mta ≡ lost loss (at (at_packet (Sending negotiated verdicts [] left)) m)
  part-loses loss =
      ap (λ (a : After). lost loss a.mta) is.received_is
      ∙ lost-over m (record (at_packet (Sending negotiated verdicts is.came left)) { owed = true; unread = is.unread }) (at_packet (Sending negotiated verdicts [] left)) refl loss
