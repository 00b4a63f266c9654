-- The answer of a lawful filter, as it is permitted, is received whole: each edit, and then the verdict.
use Rattle.std.specs.Prelude.{if◌then◌else◌}
use Rattle.std.proofs.Common.{◌≡◌, ◌≢◌, ◌≤◌, ◌+◌, ℕ, Bool, true, false, List, [], ◌∷◌, ◌++◌, All, map, drop, Option, None, Some, Result, Ok, refl, sym, ap, ◌∙◌, subst, arith, append-nil, append_assoc}
use Rattle.std.specs.List.{fold, flat_map}
use Rattle.std.proofs.lemmas.Bool.{true≢false}
use Rattle.std.proofs.lemmas.Option.{same_Some}
use Rattle.std.proofs.lemmas.List.Elements.{All-head, All-tail}
use Rattle.std.proofs.lemmas.List.Sums.{fold-append, sum_by-append, sum_by-cons}
use Rattle.milter_wire.specs.declared.negotiation.Negotiated.{Negotiated}
use Rattle.milter_wire.specs.declared.command.Command.{Command}
use Rattle.milter_wire.specs.declared.command.Command.TheVariants as commands
use Rattle.milter_wire.specs.declared.reply.Reply.{Reply}
use Rattle.milter_wire.specs.declared.stage.Stage.{Stage}
use Rattle.milter_wire.specs.declared.verdict.Verdict.{Verdict}
use Rattle.milter_wire.specs.Reply.{Fits, encoding}
use Rattle.milter_wire.specs.Stages.{stage_of}
use Rattle.milter_wire.specs.Verdicts as verdicts
use Rattle.milter_message.specs.declared.edit.Edit.{Edit}
use Rattle.milter_message.specs.declared.message.TheConstants.{WEIGHT_MAX}
use Rattle.milter_message.specs.EditReplies as edits
use Rattle.milter_message.specs.EditReplies.{weight_of}
use Rattle.milter_message.specs.MailObject.{MailObject}
use Rattle.milter_protocol.specs.declared.answer.Action.{Action}
use Rattle.milter_protocol.specs.declared.answer.Action.TheVariants as received_as
use Rattle.milter_protocol.specs.declared.answer.Answer.{Answer}
use Rattle.milter_protocol.specs.Permitted.{is_permitted}
use Rattle.milter_protocol.specs.Dialogue.{is_end_command}
use Rattle.milter_mta_outcome.specs.declared.acted_verdicts.Acted.{Acted}
use Rattle.milter_mta_outcome.specs.declared.loss.MtaFault.{MtaFault}
use Rattle.milter_mta_outcome.specs.ReceivedReplies.{is_end, is_given, reply_received}
use Rattle.milter_mta_outcome.specs.EditWeights.{weight_of_all}
use Rattle.milter_mta_outcome.proofs.ReceivedAnswers.{IsReceived, receives_edit, receives_verdict}
use Rattle.milter_mta_outcome.specs.Transactions.{stage_first}
use Rattle.milter_mta_outcome.specs.TransactionVerdicts.{ends_dialogue, is_of_connection, left_after, with_verdict}
use Rattle.milter_mta.specs.Mta.{FilterConnection, Mta, Position, at_packet}
use Rattle.milter_mta.specs.Mta.Position.{Sending}
use Rattle.milter_mta.specs.Replies.{After, at, goes_on, received, received_at, received_byte, replied, replied_at, ruled_on}
use Rattle.milter_mta.specs.Dispositions.{settled_all, settled_in}
use Rattle.milter_mta.specs.Order.{MayAnswer}

-- ---- by stage

abbrev pub end_at : Option Stage → Bool
end_at None = false
end_at (Some stage) = is_end stage

pub end_by_stage : (command : Command) → is_end_command command ≡ end_at (stage_of command)
end_by_stage (commands.Connect client) = refl
end_by_stage (commands.Helo name) = refl
end_by_stage (commands.Mail sender) = refl
end_by_stage (commands.Rcpt recipient) = refl
end_by_stage commands.DataCmd = refl
end_by_stage (commands.Header header) = refl
end_by_stage commands.Eoh = refl
end_by_stage (commands.Body bytes) = refl
end_by_stage (commands.Eob bytes) = refl
end_by_stage other = refl

-- ---- what may be answered

-- such an answer may be given to a command of the stage
pub may-answer : (negotiated : Negotiated) (command : Command) (stage : Stage) (answer : Answer) → stage_of command ≡ Some stage → IsReceived negotiated stage answer → MayAnswer negotiated command answer
may-answer negotiated command stage answer at is =
    record {
      given = λ other at_other. subst (λ (s : Stage). is_given negotiated s answer.verdict ≡ true) (same_Some stage other (sym at ∙ at_other)) is.given;
      edits = record {
        only_at_end = λ other. is.at_end (sym (end_by_stage command ∙ ap end_at at) ∙ other);
        permitted = is.permitted;
        weight = is.weight;
      };
    }

-- ---- a verdict settles the same, whatever was pending

module _ (l : FilterConnection) (m : Mta) (some : m.session.messages ≢ []) where
  settled_in-at : (negotiated : Negotiated) (stage : Stage) (es : List Edit) (verdict : Verdict) (acted : List Acted) (messages : List MailObject) → messages ≢ []
      → settled_in negotiated stage es verdict acted messages (at l m) ≡ settled_in negotiated stage es verdict acted messages m
  settled_in-at negotiated stage es verdict acted [] none = absurd (none refl)
  settled_in-at negotiated stage es verdict acted (message ∷ messages) none = refl

  pub ruled_on-at : (negotiated : Negotiated) (stage : Stage) (acted : List Acted) (es : List Edit) (left : List Command) (verdict : Verdict)
      → ruled_on negotiated stage acted es left verdict (at l m) ≡ ruled_on negotiated stage acted es left verdict m
  ruled_on-at negotiated stage acted es left verdict =
      ap (λ (n : Mta). if ends_dialogue stage verdict acted left then (if is_of_connection stage then settled_all verdict acted m else n)
      else at (at_packet (Sending negotiated acted [] (left_after verdict left))) m)
      (settled_in-at negotiated stage es verdict acted m.session.messages some)

-- ---- all replies of an answer

-- a reply to the packet of this position is owed
abbrev pub owed_at : Position → Mta → Mta
owed_at position m = at (record (at_packet position) { owed = true }) m

-- what each reply is received as
abbrev pub ReceivesReplies : Type 0
ReceivesReplies = (m : Mta) (filter_connection : FilterConnection) (reply : Reply) → filter_connection.owed ≡ true → filter_connection.unread ≡ [] → m.session.messages ≢ [] → Fits reply
    → received (at filter_connection m) (encoding reply) ≡ replied filter_connection.position reply (at filter_connection m)

module _ (receives_bytes : ReceivesReplies) (negotiated : Negotiated) (stage : Stage) (acted : List Acted) (left : List Command) (m : Mta) (some : m.session.messages ≢ [])
    (first : stage_first left ≡ Some stage) where
  abbrev position : List Edit → Position
  position so_far = Sending negotiated acted so_far left

  pub one : (so_far : List Edit) (reply : Reply) (is : Action) → Fits reply → reply_received negotiated stage (weight_of_all so_far) reply ≡ Ok is
      → received (owed_at (position so_far) m) (encoding reply) ≡ received_at negotiated stage acted so_far left (Ok is) (owed_at (position so_far) m)
  one so_far reply is fits found =
      receives_bytes m (record (at_packet (position so_far)) { owed = true }) reply refl refl some fits
      ∙ ap (λ (s : Option Stage). replied_at negotiated acted so_far left s reply (owed_at (position so_far) m)) first
      ∙ ap (λ (h : Result Action MtaFault). received_at negotiated stage acted so_far left h (owed_at (position so_far) m)) found

  verdict_last : (so_far : List Edit) (verdict : Verdict) → Fits (verdicts.reply_of verdict) → is_given negotiated stage verdict ≡ true
      → received (owed_at (position so_far) m) (encoding (verdicts.reply_of verdict) ++ [])
      ≡ goes_on (ruled_on negotiated stage (with_verdict stage verdict acted) so_far (drop 1 left) verdict m)
  verdict_last so_far verdict fits is =
      ap (received (owed_at (position so_far) m)) (append-nil (encoding (verdicts.reply_of verdict)))
      ∙ one so_far (verdicts.reply_of verdict) (received_as.Verdict verdict) fits (receives_verdict negotiated stage (weight_of_all so_far) verdict is)
      ∙ ap goes_on (ruled_on-at (record (at_packet (position so_far)) { owed = true }) m some negotiated stage (with_verdict stage verdict acted) so_far (drop 1 left) verdict)

  pub replies-received : (more so_far : List Edit) (verdict : Verdict) → (is_end stage ≡ false → more ≡ [])
      → All (λ edit. is_permitted negotiated edit ≡ true) more → All (λ edit. Fits (edits.reply_of edit)) more
      → weight_of_all so_far + weight_of_all more ≤ WEIGHT_MAX → Fits (verdicts.reply_of verdict) → is_given negotiated stage verdict ≡ true
      → received (owed_at (position so_far) m) (flat_map encoding (map edits.reply_of more ++ verdicts.reply_of verdict ∷ []))
      ≡ goes_on (ruled_on negotiated stage (with_verdict stage verdict acted) (so_far ++ more) (drop 1 left) verdict m)
  replies-received [] so_far verdict end may fit light verdict_fits is =
      verdict_last so_far verdict verdict_fits is
      ∙ ap (λ (es : List Edit). goes_on (ruled_on negotiated stage (with_verdict stage verdict acted) es (drop 1 left) verdict m)) (sym (append-nil so_far))
  replies-received (edit ∷ more) so_far verdict end may fit light verdict_fits is =
      let sum = sum_by-cons weight_of edit more in
      let longer = sum_by-append weight_of so_far (edit ∷ []) in
      let single = sum_by-cons weight_of edit [] in
      let at_end = is_end_here (is_end stage) refl end in
      fold-append received_byte (goes_on (owed_at (position so_far) m)) (encoding (edits.reply_of edit)) rest
      ∙ ap (λ (a : After). fold received_byte a rest)
      (one so_far (edits.reply_of edit) (received_as.Edit edit) (All-head (λ e. Fits (edits.reply_of e)) edit more fit)
      (receives_edit negotiated stage (weight_of_all so_far) edit at_end (All-head (λ e. is_permitted negotiated e ≡ true) edit more may) (omega (arith, sum, light))))
      ∙ replies-received more (so_far ++ edit ∷ []) verdict (λ other. absurd (true≢false (sym at_end ∙ other)))
      (All-tail (λ e. is_permitted negotiated e ≡ true) edit more may) (All-tail (λ e. Fits (edits.reply_of e)) edit more fit)
      (omega (arith, sum, longer, single, light)) verdict_fits is
      ∙ ap (λ (es : List Edit). goes_on (ruled_on negotiated stage (with_verdict stage verdict acted) es (drop 1 left) verdict m)) (append_assoc so_far (edit ∷ []) more)
    where
      rest : List ℕ
      rest = flat_map encoding (map edits.reply_of more ++ verdicts.reply_of verdict ∷ [])

      is_end_here : (b : Bool) → is_end stage ≡ b → (is_end stage ≡ false → edit ∷ more ≡ []) → is_end stage ≡ true
      is_end_here true e none = e
      is_end_here false e none = let no : edit ∷ more ≡ [] = none e in absurd cc
