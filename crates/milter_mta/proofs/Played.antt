-- A whole dialogue is played.
use Rattle.std.specs.Prelude.{if◌then◌else◌}
use Rattle.std.proofs.Common.{◌≡◌, ◌≢◌, Bool, true, false, List, [], ◌∷◌, map, is_some, Option, None, Some, refl, sym, ap, ◌∙◌, subst}
use Rattle.std.specs.List.{list_any}
use Rattle.std.proofs.lemmas.Bool.{true≢false}
use Rattle.std.proofs.lemmas.Option.{same_Some}
use Rattle.milter_wire.specs.declared.negotiation.Negotiated.{Negotiated}
use Rattle.milter_wire.specs.declared.command.Command.{Command}
use Rattle.milter_wire.specs.declared.command.Command.TheVariants as commands
use Rattle.milter_wire.specs.declared.stage.Stage.{Stage}
use Rattle.milter_wire.specs.declared.stage.Stage.TheVariants.{Connect, Helo, Mail, Rcpt, DataCmd, Header, Eoh, Body, Eob}
use Rattle.milter_wire.specs.declared.verdict.Verdict.{Verdict}
use Rattle.milter_wire.specs.declared.verdict.Verdict.TheVariants.{Skip}
use Rattle.milter_wire.specs.Negotiation.{has_leading_space, is_asked, is_asked_at}
use Rattle.milter_wire.specs.Stages.{stage_of}
use Rattle.milter_wire.specs.Verdicts.{given_at}
use Rattle.milter_message.specs.MailObject.{MailObject}
use Rattle.milter_protocol.specs.declared.answer.Answer.{Answer}
use Rattle.milter_protocol.specs.Behavior.{Behavior, answer_to, exchange_of}
use Rattle.milter_protocol.specs.Exchanges.{Exchange, commands_of, onto}
use Rattle.milter_protocol.specs.Lawful.{IsLawful}
use Rattle.milter_protocol.specs.Permitted.{permitted, permitted_verdict}
use Rattle.milter_protocol.specs.Seen.{Seen, seen}
use Rattle.milter_protocol.specs.Dialogue.{has_end, is_body, is_closed, is_left_out, is_skipping, dialogue_with}
use Rattle.milter_protocol.specs.Verdicts.{has_verdict, is_skip}
use Rattle.milter_protocol.proofs.WholeDialogues.{goes_no_further}
use Rattle.milter_protocol.proofs.Sendable.{end_left, no_end, sendable-out}
use Rattle.milter_mta_outcome.specs.Dialogues.{acted, ruled}
use Rattle.milter_mta.specs.Mta.{Mta, at_packet}
use Rattle.milter_mta.specs.Mta.Position.{Sending}
use Rattle.milter_mta.specs.Replies.{After, at, goes_on}
use Rattle.milter_mta.specs.Lines.{Plays, after_line, line_of}
use Rattle.milter_mta.specs.Order.{AreInOrder, AreProper, IsProper, MayAnswer}
use Rattle.milter_mta.specs.Dialogues.{at_dialogue, settled_by}
use Rattle.milter_mta_outcome.proofs.ReceivedAnswers.{IsReceived, permitted-received}
use Rattle.milter_mta.proofs.Answers.{ReceivesReplies, may-answer}
use Rattle.milter_mta.proofs.Closed.{closed-rules}
use Rattle.milter_mta.proofs.Exchanges.{answered-goes, packet-is, unanswered-goes, dialogue_so_far}
use Rattle.milter_mta.proofs.Ordered.{order-before, order-without}

-- a command of the stage of bodies is a chunk of one
pub is_body_at : (command : Command) → stage_of command ≡ Some Body → is_body command ≡ true
is_body_at (commands.Body bytes) at = refl
is_body_at (commands.Connect client) at = absurd cc
is_body_at (commands.Helo name) at = absurd cc
is_body_at (commands.Mail sender) at = absurd cc
is_body_at (commands.Rcpt recipient) at = absurd cc
is_body_at commands.DataCmd at = absurd cc
is_body_at (commands.Header header) at = absurd cc
is_body_at commands.Eoh at = absurd cc
is_body_at (commands.Eob bytes) at = absurd cc
is_body_at other at = absurd cc

module _ (b : Behavior) (lawful : IsLawful b) (negotiated : Negotiated) where
  abbrev pub next : List Exchange → Command → Exchange
  next dialogue command = exchange_of b negotiated (commands_of dialogue) command

  -- ---- one exchange

  abbrev pub shown : List Exchange → Command → Seen
  shown dialogue command = seen (has_leading_space negotiated) (command ∷ commands_of dialogue)

  answered-as : (dialogue : List Exchange) (command : Command) → is_some (next dialogue command).answer ≡ is_asked negotiated command
  answered-as dialogue command = by_stage (stage_of command) (is_asked negotiated command) refl
    where
      by_stage : (at : Option Stage) (asked : Bool) → is_asked_at negotiated at ≡ asked → is_some (answer_to b negotiated at asked (shown dialogue command)) ≡ asked
      by_stage None asked e = e
      by_stage (Some stage) true e = refl
      by_stage (Some stage) false e = refl

  body-skips : (command : Command) (stage : Stage) (verdict : Verdict) → stage_of command ≡ Some stage → given_at verdict stage ≡ true
      → is_skip (permitted_verdict negotiated verdict) ≡ true → is_body command ≡ true
  body-skips command stage Skip at given skips = by_body command stage at given
    where
      by_body : (command : Command) (stage : Stage) → stage_of command ≡ Some stage → given_at Skip stage ≡ true → is_body command ≡ true
      by_body command Body at given = is_body_at command at
      by_body command Connect at given = absurd (true≢false (sym given))
      by_body command Helo at given = absurd (true≢false (sym given))
      by_body command Mail at given = absurd (true≢false (sym given))
      by_body command Rcpt at given = absurd (true≢false (sym given))
      by_body command DataCmd at given = absurd (true≢false (sym given))
      by_body command Header at given = absurd (true≢false (sym given))
      by_body command Eoh at given = absurd (true≢false (sym given))
      by_body command Eob at given = absurd (true≢false (sym given))
  body-skips command stage other at given skips = absurd (true≢false (sym skips))

  pub proper : (dialogue : List Exchange) (command : Command) → IsProper negotiated (next dialogue command)
  proper dialogue command =
      record {
        answered = answered-as dialogue command;
        may = λ answer answered. may-by (stage_of command) (is_asked negotiated command) refl answer answered;
        skipped = by_stage (stage_of command) (is_asked negotiated command) refl;
      }
    where
      may-by : (at : Option Stage) (asked : Bool) → stage_of command ≡ at → (answer : Answer) → answer_to b negotiated at asked (shown dialogue command) ≡ Some answer
          → MayAnswer negotiated command answer
      may-by None asked at answer answered = absurd cc
      may-by (Some stage) false at answer answered = absurd cc
      may-by (Some stage) true at answer answered =
          may-answer negotiated command stage answer at
          (subst (IsReceived negotiated stage) (same_Some _ answer answered) (permitted-received negotiated stage (b.decide stage (shown dialogue command)) (lawful.answers stage (shown dialogue command))))

      by_stage : (at : Option Stage) (asked : Bool) → stage_of command ≡ at
          → has_verdict is_skip (answer_to b negotiated at asked (shown dialogue command)) ≡ true → is_body command ≡ true
      by_stage None asked e skips = absurd (true≢false (sym skips))
      by_stage (Some stage) false e skips = absurd (true≢false (sym skips))
      by_stage (Some stage) true e skips =
          body-skips command stage (b.decide stage (shown dialogue command)).verdict e (lawful.answers stage (shown dialogue command)).given skips

module _ (receives_bytes : ReceivesReplies) (b : Behavior) (lawful : IsLawful b) (negotiated : Negotiated) (m : Mta) (some : m.session.messages ≢ []) where
  pub goes : (dialogue : List Exchange) (command : Command) (left : List Command) → is_left_out dialogue command ≡ false → AreProper negotiated dialogue
      → AreInOrder (command ∷ commands_of dialogue)
      → after_line (line_of (next b lawful negotiated dialogue command)).back (at_dialogue negotiated dialogue (command ∷ left) m)
      ≡ goes_on (dialogue_so_far negotiated (next b lawful negotiated dialogue command ∷ dialogue) left m (is_closed (next b lawful negotiated dialogue command ∷ dialogue) left))
  goes dialogue command left stays all order = by_stage (stage_of command) (is_asked negotiated command) refl refl
    where
      by_stage : (at : Option Stage) (asked : Bool) → stage_of command ≡ at → is_asked negotiated command ≡ asked
          → after_line (line_of (next b lawful negotiated dialogue command)).back (at_dialogue negotiated dialogue (command ∷ left) m)
          ≡ goes_on (dialogue_so_far negotiated (next b lawful negotiated dialogue command ∷ dialogue) left m (is_closed (next b lawful negotiated dialogue command ∷ dialogue) left))
      by_stage None asked at is =
          unanswered-goes negotiated m (next b lawful negotiated dialogue command) dialogue left stays
          (ap (λ (s : Option Stage). answer_to b negotiated s (is_asked negotiated command) (shown b lawful negotiated dialogue command)) at)
          (ap (is_asked_at negotiated) at)
      by_stage (Some stage) false at is =
          unanswered-goes negotiated m (next b lawful negotiated dialogue command) dialogue left stays
          (ap (λ (s : Option Stage). answer_to b negotiated s (is_asked negotiated command) (shown b lawful negotiated dialogue command)) at
          ∙ ap (λ (a : Bool). answer_to b negotiated (Some stage) a (shown b lawful negotiated dialogue command)) is)
          is
      by_stage (Some stage) true at is =
          answered-goes negotiated m (next b lawful negotiated dialogue command) dialogue left stays stage (permitted negotiated (b.decide stage (shown b lawful negotiated dialogue command))) at
          (ap (λ (s : Option Stage). answer_to b negotiated s (is_asked negotiated command) (shown b lawful negotiated dialogue command)) at
          ∙ ap (λ (a : Bool). answer_to b negotiated (Some stage) a (shown b lawful negotiated dialogue command)) is)
          is (proper b lawful negotiated dialogue command, all) order receives_bytes some
          (permitted-received negotiated stage (b.decide stage (shown b lawful negotiated dialogue command)) (lawful.answers stage (shown b lawful negotiated dialogue command)))

  -- ---- the dialogue

  -- of the commands that are left, after a dialogue
  pub record IsPlayed (left : List Command) (dialogue : List Exchange) (more : List Exchange) : Type 0 where
    pub plays : Plays (at_dialogue negotiated dialogue left m) (map line_of more) (settled_by negotiated (onto more dialogue) m)
    pub all : AreProper negotiated (onto more dialogue)
    pub order : AreInOrder (commands_of (onto more dialogue))
    pub rules : (leading_space : Bool) (message : MailObject) → is_some (ruled leading_space message (onto more dialogue)) ≡ true

  abbrev Plan : List Command → List Exchange → List Exchange → Type 0
  Plan left dialogue more = AreProper negotiated dialogue → AreInOrder (onto left (commands_of dialogue)) → has_end left ≡ true → IsPlayed left dialogue more

  pub played : (left : List Command) (dialogue : List Exchange) → Plan left dialogue (dialogue_with b negotiated dialogue left)
  unfolding dialogue_with
  played [] dialogue = λ all order end. absurd (true≢false (sym end))
  played (command ∷ left) dialogue =
      by_out (is_left_out dialogue command) refl (played left dialogue) (played left (next b lawful negotiated dialogue command ∷ dialogue))
    where
      by_closed : (closed : Bool) → is_closed (next b lawful negotiated dialogue command ∷ dialogue) left ≡ closed → is_left_out dialogue command ≡ false
          → Plan left (next b lawful negotiated dialogue command ∷ dialogue) (dialogue_with b negotiated (next b lawful negotiated dialogue command ∷ dialogue) left)
          → Plan (command ∷ left) dialogue (next b lawful negotiated dialogue command ∷ (if closed then [] else dialogue_with b negotiated (next b lawful negotiated dialogue command ∷ dialogue) left))
      by_closed true e stays rest all order end =
          let here : AreInOrder (command ∷ commands_of dialogue) = order-before left (command ∷ commands_of dialogue) order in
          let goes_to = goes dialogue command left stays all here ∙ ap (λ (c : Bool). goes_on (dialogue_so_far negotiated (next b lawful negotiated dialogue command ∷ dialogue) left m c)) e in
          record {
            plays = (packet-is negotiated m (next b lawful negotiated dialogue command) dialogue left stays, ap (λ (a : After). a.loss) goes_to, ap (λ (a : After). a.mta) goes_to);
            all = (proper b lawful negotiated dialogue command, all);
            order = here;
            rules = λ leading_space message. closed-rules (next b lawful negotiated dialogue command) dialogue left e leading_space message;
          }
      by_closed false e stays rest all order end =
          let here : AreInOrder (command ∷ commands_of dialogue) = order-before left (command ∷ commands_of dialogue) order in
          let goes_to = goes dialogue command left stays all here ∙ ap (λ (c : Bool). goes_on (dialogue_so_far negotiated (next b lawful negotiated dialogue command ∷ dialogue) left m c)) e in
          let more = rest (proper b lawful negotiated dialogue command, all) order (end_left command left (goes_no_further b negotiated dialogue command left e) end) in
          let others = dialogue_with b negotiated (next b lawful negotiated dialogue command ∷ dialogue) left in
          record {
            plays = (
              packet-is negotiated m (next b lawful negotiated dialogue command) dialogue left stays,
              ap (λ (a : After). a.loss) goes_to,
              subst (λ (a : After). Plays a.mta (map line_of others) (settled_by negotiated (onto others (next b lawful negotiated dialogue command ∷ dialogue)) m)) (sym goes_to) more.plays,
            );
            all = more.all;
            order = more.order;
            rules = more.rules;
          }

      by_out : (out : Bool) → is_left_out dialogue command ≡ out → Plan left dialogue (dialogue_with b negotiated dialogue left)
          → Plan left (next b lawful negotiated dialogue command ∷ dialogue) (dialogue_with b negotiated (next b lawful negotiated dialogue command ∷ dialogue) left)
          → Plan (command ∷ left) dialogue
          (if out then dialogue_with b negotiated dialogue left
          else next b lawful negotiated dialogue command ∷ (if is_closed (next b lawful negotiated dialogue command ∷ dialogue) left then [] else dialogue_with b negotiated (next b lawful negotiated dialogue command ∷ dialogue) left))
      by_out true e skipped goes_further all order end =
          let is = skipped all (order-without left command (commands_of dialogue) order) (end_left command left (no_end command (list_any is_skipping dialogue) e) end) in
          record {
            plays = subst (λ (l : List Command). Plays (at (at_packet (Sending negotiated (acted dialogue) [] l)) m) (map line_of (dialogue_with b negotiated dialogue left)) (settled_by negotiated (onto (dialogue_with b negotiated dialogue left) dialogue) m)) (sym (sendable-out dialogue command left e)) is.plays;
            all = is.all;
            order = is.order;
            rules = is.rules;
          }
      by_out false e skipped goes_further all order end = by_closed (is_closed (next b lawful negotiated dialogue command ∷ dialogue) left) refl e goes_further all order end
