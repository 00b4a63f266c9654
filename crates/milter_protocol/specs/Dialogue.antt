-- The dialogue of a mail server with a filter about the commands of one connection and message: the filter is asked
-- about one after the other, until its answers let no command follow.
use Rattle.std.specs.Prelude.{◌≡◌, Bool, true, false, ◌&&◌, ◌||◌, not, List, [], ◌∷◌, Option, None, Some, if◌then◌else◌}
use Rattle.std.specs.List.{filter, list_any}
use Rattle.milter_wire.specs.declared.negotiation.Negotiated.{Negotiated}
use Rattle.milter_wire.specs.declared.command.Command.{Command}
use Rattle.milter_wire.specs.declared.command.Command.TheVariants as commands
use Rattle.milter_wire.specs.declared.stage.Stage.{Stage}
use Rattle.milter_wire.specs.Stages.{stage_of}
use Rattle.milter_protocol.specs.declared.answer.Answer.{Answer}
use Rattle.milter_protocol.specs.Behavior.{Behavior, exchange_of}
use Rattle.milter_protocol.specs.Exchanges.{Exchange, commands_of}
use Rattle.milter_protocol.specs.Verdicts.{has_verdict, is_final_at, is_refusal, is_skip}

-- ---- commands and exchanges

abbrev pub is_body : Command → Bool
is_body (commands.Body bytes) = true
is_body other = false

abbrev pub is_rcpt : Command → Bool
is_rcpt (commands.Rcpt recipient) = true
is_rcpt other = false

abbrev pub is_end_command : Command → Bool
is_end_command (commands.Eob bytes) = true
is_end_command other = false

-- the end of a message is among the commands
abbrev pub has_end : List Command → Bool
has_end commands = list_any is_end_command commands

-- the filter wants no further chunk of the body
abbrev pub is_skipping : Exchange → Bool
is_skipping exchange = has_verdict is_skip exchange.answer

abbrev pub is_refused : Exchange → Bool
is_refused exchange = has_verdict is_refusal exchange.answer

-- a recipient that may get the message
abbrev pub is_kept_rcpt : Exchange → Bool
is_kept_rcpt exchange = is_rcpt exchange.command && not (is_refused exchange)

abbrev pub is_final_answer : Option Stage → Option Answer → Bool
is_final_answer None answer = false
is_final_answer (Some stage) answer = has_verdict (is_final_at stage) answer

-- the answer lets no command follow, by itself
abbrev pub is_final : Exchange → Bool
is_final exchange = is_final_answer (stage_of exchange.command) exchange.answer

-- ---- what the commands so far leave of the others

-- a chunk of the body after a Skip
abbrev pub is_left_out : List Exchange → Command → Bool
is_left_out before command = is_body command && list_any is_skipping before

-- the commands that are left without chunks of the body after a Skip
abbrev pub sendable : List Exchange → List Command → List Command
sendable before left = filter (λ command. not (is_left_out before command)) left

-- the last recipient, where all are refused
abbrev pub are_all_refused : List Exchange → List Command → Bool
are_all_refused [] left = false
are_all_refused (exchange ∷ before) left =
    is_rcpt exchange.command && not (list_any is_rcpt left) && not (list_any is_kept_rcpt (exchange ∷ before))

-- no command follows these exchanges, the latest first
abbrev pub is_closed : List Exchange → List Command → Bool
is_closed [] left = false
is_closed (exchange ∷ before) left = is_final exchange || are_all_refused (exchange ∷ before) left

-- no exchange of a dialogue, the latest first, closes it, where these commands are left after it
abbrev pub IsOpen : List Exchange → List Command → Type 0
IsOpen [] left = Unit {0}
IsOpen (last ∷ before) left = (is_closed (last ∷ before) left ≡ false) × IsOpen before (last.command ∷ left)

-- its last exchange closes it, and no earlier one does
abbrev pub IsEnded : List Exchange → List Command → Type 0
IsEnded [] left = ⊥
IsEnded (last ∷ before) left = (is_closed (last ∷ before) left ≡ true) × IsOpen before (last.command ∷ left)

-- ---- the dialogue

-- the exchanges of the commands that are left, after those before them, the latest first
unfoldable pub dialogue_with : Behavior → Negotiated → List Exchange → List Command → List Exchange
dialogue_with b negotiated before [] = []
dialogue_with b negotiated before (command ∷ left) =
    if is_left_out before command then dialogue_with b negotiated before left
    else let exchange = exchange_of b negotiated (commands_of before) command in
    exchange ∷ (if is_closed (exchange ∷ before) left then [] else dialogue_with b negotiated (exchange ∷ before) left)

-- ---- what it is

-- each of these exchanges, after those before it, has the answer that the filter gives to all that was sent up to it
abbrev pub AreAnsweredBy : Behavior → Negotiated → List Exchange → List Exchange → Type 0
AreAnsweredBy b negotiated before [] = Unit {0}
AreAnsweredBy b negotiated before (exchange ∷ more) =
    (exchange ≡ exchange_of b negotiated (commands_of before) exchange.command)
    × AreAnsweredBy b negotiated (exchange ∷ before) more

-- no chunk of the body comes after a Skip
abbrev pub HaveNoSkippedChunk : List Exchange → List Exchange → Type 0
HaveNoSkippedChunk before [] = Unit {0}
HaveNoSkippedChunk before (exchange ∷ more) =
    (is_left_out before exchange.command ≡ false) × HaveNoSkippedChunk (exchange ∷ before) more

-- after a final answer nothing comes
abbrev pub EndAtFinalAnswer : List Exchange → Type 0
EndAtFinalAnswer [] = Unit {0}
EndAtFinalAnswer (exchange ∷ more) = (is_final exchange ≡ true → more ≡ []) × EndAtFinalAnswer more

-- the next exchange about the commands that are left: about the first that is not left out, with the filter's answer to
-- all that was sent up to it
pub record IsNext (b : Behavior) (negotiated : Negotiated) (before : List Exchange) (commands : List Command)
    (exchange : Exchange) (left : List Command) : Type 0 where
  pub sent : sendable before commands ≡ exchange.command ∷ left
  pub answered : exchange ≡ exchange_of b negotiated (commands_of before) exchange.command

-- each exchange is the next one; the last one closes the dialogue, and no earlier one does
abbrev pub IsDialogueWith : Behavior → Negotiated → List Exchange → List Command → List Exchange → Type 0
IsDialogueWith b negotiated before commands [] = ⊥
IsDialogueWith b negotiated before commands (exchange ∷ []) =
    (left : List Command) × IsNext b negotiated before commands exchange left
    × (is_closed (exchange ∷ before) left ≡ true)
IsDialogueWith b negotiated before commands (exchange ∷ next ∷ more) =
    (left : List Command) × IsNext b negotiated before commands exchange left
    × (is_closed (exchange ∷ before) left ≡ false) × IsDialogueWith b negotiated (exchange ∷ before) left (next ∷ more)
