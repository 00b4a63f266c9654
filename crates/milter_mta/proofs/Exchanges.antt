-- One exchange: its command is sent, and after its answer it is where the dialogue is then.
use Rattle.std.specs.Prelude.{if◌then◌else◌}
use Rattle.std.proofs.Common.{◌≡◌, ◌≢◌, ◌≤◌, ◌+◌, ℕ, ◌==◌, Bool, true, false, cond, not, ◌&&◌, ◌||◌, List, [], ◌∷◌, ◌++◌, length, Option, None, Some, refl, sym, ap, ◌∙◌, subst, arith, append-nil, length-append}
use Rattle.std.specs.List.{filter, list_all, list_any}
use Rattle.std.proofs.Common.{drop_of_length-le}
use Rattle.std.proofs.lemmas.Bool.{eq-eqb}
use Rattle.milter_fields.specs.Number.{number}
use Rattle.milter_wire.specs.declared.negotiation.Negotiated.{Negotiated}
use Rattle.milter_wire.specs.declared.command.Command.{Command}
use Rattle.milter_wire.specs.declared.stage.Stage.{Stage}
use Rattle.milter_wire.specs.declared.stage.Stage.TheVariants.{Connect, Helo, Mail, Rcpt, DataCmd, Header, Eoh, Body, Eob}
use Rattle.milter_wire.specs.Negotiation.{is_answered, is_asked, is_asked_at}
use Rattle.milter_wire.specs.Command.{code_of, encoding, payload_of}
use Rattle.milter_wire.specs.Stages.{stage_of}
use Rattle.milter_message.specs.declared.edit.Edit.{Edit}
use Rattle.milter_message.specs.declared.message.TheConstants.{WEIGHT_MAX}
use Rattle.milter_protocol.specs.declared.answer.Answer.{Answer}
use Rattle.milter_protocol.specs.Exchanges.{Exchange, commands_of}
use Rattle.milter_protocol.specs.Transcripts.{rank_at}
use Rattle.milter_protocol.specs.StageOrder.{rank_of}
use Rattle.milter_protocol.specs.Dialogue.{are_all_refused, is_closed, is_final_answer, is_kept_rcpt, is_left_out, is_rcpt, sendable}
use Rattle.milter_protocol.specs.Verdicts.{is_final_at, is_refusal}
use Rattle.milter_protocol.proofs.Sendable.{same_rcpts, sendable-next}
use Rattle.milter_mta_outcome.specs.declared.acted_verdicts.Acted.{Acted}
use Rattle.milter_mta_outcome.specs.ActedVerdicts.{rcpt_verdicts}
use Rattle.milter_mta_outcome.specs.Dialogues.{acted, acted_at, count_at, is_at}
use Rattle.milter_mta_outcome.specs.EditWeights.{weight_of_all}
use Rattle.milter_mta_outcome.specs.TransactionVerdicts as plan
use Rattle.milter_mta_outcome.specs.TransactionVerdicts.{ends_dialogue, left_after, with_verdict}
use Rattle.milter_mta.specs.Mta.{FilterConnection, Mta, Position, at_packet}
use Rattle.milter_mta.specs.Mta.Position.{Sending}
use Rattle.milter_mta.specs.Replies.{at, goes_on, received, ruled_on}
use Rattle.milter_mta.specs.Output.{asks_at, finished, sent_from, sent_of, after_packet}
use Rattle.milter_mta.specs.Dispositions.{settled}
use Rattle.milter_mta.specs.Lines.{after_line, answer_bytes, next_packet, sent_whole}
use Rattle.milter_mta.specs.Order.{AreProper, AreInOrder, ComeBefore}
use Rattle.milter_mta.specs.Dialogues.{at_dialogue, settled_at, settled_by}
use Rattle.milter_mta_outcome.proofs.ReceivedAnswers.{IsReceived}
use Rattle.milter_mta.proofs.Answers.{ReceivesReplies, owed_at, replies-received}
use Rattle.milter_mta.proofs.Closed.{unanswered-open}
use Rattle.milter_mta.proofs.Numbers.{numbered}
use Rattle.milter_mta.proofs.Refusals.{is_rcpt_at, left-sendable, rcpt_by_stage, refused_as_dialogue, same-sendable}

-- ---- a command is sent

pub some_bytes : (command : Command) → encoding command ≢ []
some_bytes command none =
    let is = length-append (number (length (payload_of command) + 1)) (code_of command ∷ payload_of command) in
    let no = ap (λ (l : List ℕ). length l) none in
    absurd (omega (arith, is, no))

pub all_sent : (bytes : List ℕ) (filter_connection : FilterConnection) → bytes ≢ [] → sent_of (length bytes) bytes filter_connection ≡ finished filter_connection
all_sent [] filter_connection some = absurd (some refl)
all_sent (byte ∷ bytes) filter_connection some = ap (sent_from filter_connection) (drop_of_length-le (byte ∷ bytes) {i = length (byte ∷ bytes)} (omega arith))

abbrev sends : Negotiated → List Acted → Command → List Command → Mta → Mta
sends negotiated acted command left m = at (at_packet (Sending negotiated acted [] (command ∷ left))) m

-- what is sent of its packet, whole
abbrev packet_of : Negotiated → List Acted → Command → List Command → FilterConnection
packet_of negotiated acted command left = record (at_packet (Sending negotiated acted [] (command ∷ left))) { pending = encoding command }

sent-whole : (negotiated : Negotiated) (acted : List Acted) (command : Command) (left : List Command) (m : Mta)
    → sent_whole (sends negotiated acted command left m) ≡ at (finished (packet_of negotiated acted command left)) m
sent-whole negotiated acted command left m =
    ap (λ (l : FilterConnection). at l m) (all_sent (encoding command) (packet_of negotiated acted command left) (some_bytes command))

finished-if : (position : Position) (bytes : List ℕ) (asked : Bool) → asks_at position ≡ asked
    → finished (record (at_packet position) { pending = bytes })
    ≡ (if asked then record (at_packet position) { owed = true } else at_packet (after_packet position))
finished-if position bytes asked e =
    ap (λ (b : Bool). if b then record (at_packet position) { owed = true } else at_packet (after_packet position)) e

pub sent-asked : (negotiated : Negotiated) (acted : List Acted) (command : Command) (left : List Command) (m : Mta) → is_asked negotiated command ≡ true
    → sent_whole (sends negotiated acted command left m) ≡ owed_at (Sending negotiated acted [] (command ∷ left)) m
sent-asked negotiated acted command left m asked =
    sent-whole negotiated acted command left m
    ∙ ap (λ (l : FilterConnection). at l m) (finished-if (Sending negotiated acted [] (command ∷ left)) (encoding command) true asked)

sent-unasked : (negotiated : Negotiated) (acted : List Acted) (command : Command) (left : List Command) (m : Mta) → is_asked negotiated command ≡ false
    → sent_whole (sends negotiated acted command left m) ≡ at (at_packet (Sending negotiated acted [] left)) m
sent-unasked negotiated acted command left m asked =
    sent-whole negotiated acted command left m
    ∙ ap (λ (l : FilterConnection). at l m) (finished-if (Sending negotiated acted [] (command ∷ left)) (encoding command) false asked)

-- ---- what an answer leaves

-- where the dialogue is after its last exchange
abbrev pub dialogue_so_far : Negotiated → List Exchange → List Command → Mta → Bool → Mta
dialogue_so_far negotiated dialogue left m closed = if closed then settled_by negotiated dialogue m else at_dialogue negotiated dialogue left m

-- no answer, nothing settled
pub no_acted : (at : Option Stage) (dialogue : List Exchange) → acted_at at None dialogue ≡ []
no_acted None dialogue = refl
no_acted (Some stage) dialogue = refl

module _ (negotiated : Negotiated) (m : Mta) (last : Exchange) (dialogue : List Exchange) (left : List Command) (stays : is_left_out dialogue last.command ≡ false) where
  abbrev start : Mta
  start = at_dialogue negotiated dialogue (last.command ∷ left) m

  pub start-is : start ≡ sends negotiated (acted dialogue) last.command (sendable dialogue left) m
  start-is = ap (λ (l : List Command). at (at_packet (Sending negotiated (acted dialogue) [] l)) m) (sendable-next dialogue last.command left stays)

  pub packet-is : next_packet start ≡ encoding last.command
  packet-is = ap next_packet start-is

  module _ (unanswered : last.answer ≡ None) where
    same_acted : acted (last ∷ dialogue) ≡ acted dialogue
    same_acted =
        ap (λ (a : Option Answer). acted dialogue ++ acted_at (stage_of last.command) a (last ∷ dialogue)) unanswered
        ∙ ap (λ (l : List Acted). acted dialogue ++ l) (no_acted (stage_of last.command) (last ∷ dialogue))
        ∙ append-nil (acted dialogue)

    pub unanswered-goes : is_asked negotiated last.command ≡ false
        → after_line (answer_bytes last.answer) start ≡ goes_on (dialogue_so_far negotiated (last ∷ dialogue) left m (is_closed (last ∷ dialogue) left))
    unanswered-goes asked =
        ap (λ (a : Option Answer). after_line (answer_bytes a) start) unanswered
        ∙ ap (λ (n : Mta). goes_on (sent_whole n)) start-is
        ∙ ap goes_on (sent-unasked negotiated (acted dialogue) last.command (sendable dialogue left) m asked)
        ∙ ap (λ (l : List Acted). goes_on (at (at_packet (Sending negotiated l [] (sendable dialogue left))) m)) (sym same_acted)
        ∙ ap (λ (l : List Command). goes_on (at (at_packet (Sending negotiated (acted (last ∷ dialogue)) [] l)) m)) (sym (same-sendable last dialogue left unanswered))
        ∙ ap (λ (b : Bool). goes_on (dialogue_so_far negotiated (last ∷ dialogue) left m b)) (sym (unanswered-open last dialogue left unanswered))

  module _ (stage : Stage) (answer : Answer) (at_stage : stage_of last.command ≡ Some stage) (answered : last.answer ≡ Some answer)
      (asked : is_asked negotiated last.command ≡ true) (all : AreProper negotiated (last ∷ dialogue)) (order : AreInOrder (last.command ∷ commands_of dialogue)) where
    stage_answered : is_answered negotiated stage ≡ true
    stage_answered = ap (is_asked_at negotiated) (sym at_stage) ∙ asked

    abbrev verdict_at : ℕ → Acted
    verdict_at nth = record { stage = stage; nth = nth; verdict = answer.verdict }

    one_more : count_at stage dialogue + 1 ≡ count_at stage (last ∷ dialogue)
    one_more =
        let here : is_at stage last ≡ true = ap (λ (s : Option Stage). rank_at s == rank_of stage) at_stage ∙ eq-eqb (rank_of stage) (rank_of stage) refl in
        let counted = ap (λ (b : Bool). length (cond b (last ∷ filter (is_at stage) dialogue) (filter (is_at stage) dialogue))) here in
        omega (arith, counted)

    acted-is : with_verdict stage answer.verdict (acted dialogue) ≡ acted (last ∷ dialogue)
    acted-is =
        ap (λ (n : ℕ). acted dialogue ++ verdict_at n ∷ []) (numbered negotiated stage stage_answered dialogue all.1 order.1 (subst (λ (s : Option Stage). ComeBefore s (commands_of dialogue)) at_stage order.0) ∙ one_more)
        ∙ ap (λ (a : Option Answer). acted dialogue ++ acted_at (Some stage) a (last ∷ dialogue)) (sym answered)
        ∙ ap (λ (s : Option Stage). acted dialogue ++ acted_at s last.answer (last ∷ dialogue)) (sym at_stage)

    no_rcpt : is_rcpt last.command ≡ false → false ≡ are_all_refused (last ∷ dialogue) left
    no_rcpt e = ap (λ (b : Bool). b && not (list_any is_rcpt left) && not (list_any is_kept_rcpt (last ∷ dialogue))) (sym e)

    rcpt-as : (s : Stage) → stage_of last.command ≡ Some s → is_rcpt last.command ≡ is_rcpt_at (Some s)
    rcpt-as s e = rcpt_by_stage last.command ∙ ap is_rcpt_at e

    refused-as : (s : Stage) → stage_of last.command ≡ Some s → is_answered negotiated s ≡ true
        → plan.are_all_refused s (acted (last ∷ dialogue)) (sendable dialogue left) ≡ are_all_refused (last ∷ dialogue) left
    refused-as Rcpt e is =
        ap (λ (b : Bool). not b && list_all is_refusal (rcpt_verdicts (acted (last ∷ dialogue)))) (same_rcpts dialogue left)
        ∙ ap (λ (b : Bool). not (list_any is_rcpt left) && b) (refused_as_dialogue negotiated is (last ∷ dialogue) all)
        ∙ ap (λ (b : Bool). b && not (list_any is_rcpt left) && not (list_any is_kept_rcpt (last ∷ dialogue))) (sym (rcpt-as Rcpt e))
    refused-as Connect e is = no_rcpt (rcpt-as Connect e)
    refused-as Helo e is = no_rcpt (rcpt-as Helo e)
    refused-as Mail e is = no_rcpt (rcpt-as Mail e)
    refused-as DataCmd e is = no_rcpt (rcpt-as DataCmd e)
    refused-as Header e is = no_rcpt (rcpt-as Header e)
    refused-as Eoh e is = no_rcpt (rcpt-as Eoh e)
    refused-as Body e is = no_rcpt (rcpt-as Body e)
    refused-as Eob e is = no_rcpt (rcpt-as Eob e)

    closes-as : ends_dialogue stage answer.verdict (acted (last ∷ dialogue)) (sendable dialogue left) ≡ is_closed (last ∷ dialogue) left
    closes-as =
        ap (λ (b : Bool). is_final_at stage answer.verdict || b) (refused-as stage at_stage stage_answered)
        ∙ ap (λ (a : Option Answer). is_final_answer (Some stage) a || are_all_refused (last ∷ dialogue) left) (sym answered)
        ∙ ap (λ (s : Option Stage). is_final_answer s last.answer || are_all_refused (last ∷ dialogue) left) (sym at_stage)

    settled-as : settled negotiated stage answer.edits answer.verdict (acted (last ∷ dialogue)) m ≡ settled_by negotiated (last ∷ dialogue) m
    settled-as =
        ap (λ (a : Option Answer). settled_at negotiated (Some stage) a (acted (last ∷ dialogue)) m) (sym answered)
        ∙ ap (λ (s : Option Stage). settled_at negotiated s last.answer (acted (last ∷ dialogue)) m) (sym at_stage)

    abbrev on_with : List Command → Mta
    on_with l = at (at_packet (Sending negotiated (acted (last ∷ dialogue)) [] l)) m

    -- what the verdict makes of it
    pub ruled-as : ruled_on negotiated stage (with_verdict stage answer.verdict (acted dialogue)) answer.edits (sendable dialogue left) answer.verdict m
        ≡ dialogue_so_far negotiated (last ∷ dialogue) left m (is_closed (last ∷ dialogue) left)
    ruled-as =
        ap (λ (a : List Acted). ruled_on negotiated stage a answer.edits (sendable dialogue left) answer.verdict m) acted-is
        ∙ ap (λ (b : Bool). if b then settled negotiated stage answer.edits answer.verdict (acted (last ∷ dialogue)) m else on_with (left_after answer.verdict (sendable dialogue left))) closes-as
        ∙ ap (λ (n : Mta). if is_closed (last ∷ dialogue) left then n else on_with (left_after answer.verdict (sendable dialogue left))) settled-as
        ∙ ap (λ (l : List Command). if is_closed (last ∷ dialogue) left then settled_by negotiated (last ∷ dialogue) m else on_with l) (left-sendable last dialogue left answer answered)

    pub answered-goes : ReceivesReplies → m.session.messages ≢ [] → IsReceived negotiated stage answer
        → after_line (answer_bytes last.answer) start ≡ goes_on (dialogue_so_far negotiated (last ∷ dialogue) left m (is_closed (last ∷ dialogue) left))
    answered-goes receives_bytes some is =
        ap (λ (a : Option Answer). after_line (answer_bytes a) start) answered
        ∙ ap (λ (n : Mta). received (sent_whole n) (answer_bytes (Some answer))) start-is
        ∙ ap (λ (n : Mta). received n (answer_bytes (Some answer))) (sent-asked negotiated (acted dialogue) last.command (sendable dialogue left) m asked)
        ∙ replies-received receives_bytes negotiated stage (acted dialogue) (last.command ∷ sendable dialogue left) m some at_stage
        answer.edits [] answer.verdict is.at_end is.permitted is.edits_fit (light answer.edits is.weight) is.verdict_fits is.given
        ∙ ap goes_on ruled-as
      where
        light : (es : List Edit) → weight_of_all es ≤ WEIGHT_MAX → weight_of_all [] + weight_of_all es ≤ WEIGHT_MAX
        light es less = omega (arith, less)
