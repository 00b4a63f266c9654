-- The lenient order: an abort is due before a greeting or a sender that comes within a message, and DATA that is
-- refused there is undone.
use Rattle.std.specs.Prelude.{◌≡◌, ◌==◌, ◌&&◌, ◌||◌, nat_lt, ℕ, Bool, true, false, List, [], ◌∷◌, ◌++◌, Option, None, Some, Ok, Err, is_none, if◌then◌else◌}
use Rattle.milter_wire.specs.declared.codes.TheConstants.{SMFIC_HELO, SMFIC_MAIL}
use Rattle.milter_wire.specs.declared.negotiation.Negotiated.{Negotiated}
use Rattle.milter_wire.specs.declared.command.Command.{Command}
use Rattle.milter_wire.specs.declared.command.Command.TheVariants as commands
use Rattle.milter_wire.specs.declared.reply.Reply.{Reply}
use Rattle.milter_wire.specs.declared.stage.Stage.TheVariants.{Helo}
use Rattle.milter_protocol.specs.declared.answer.Answer.{Answer}
use Rattle.milter_protocol.specs.declared.stage_order.CommandOrder.{CommandOrder}
use Rattle.milter_protocol.specs.declared.stage_order.CommandOrder.TheVariants.{Strict, Lenient}
use Rattle.milter_protocol.specs.Behavior.{Behavior}
use Rattle.milter_protocol.specs.Commands.{is_abort, is_quit, is_quit_new, is_refused_data}
use Rattle.milter_protocol.specs.Exchanges.{Exchange}
use Rattle.milter_protocol.specs.FilterEnds.{FilterEnd, Received, after, exchange_at, fault_at, next, replies, replies_at, start}
use Rattle.milter_protocol.specs.Transcripts.{negotiated_in, last_rank}
use Rattle.milter_protocol.specs.StageOrder.{rank_of}

-- the macros of a greeting or a sender come before it
abbrev pub is_greeting_or_sender : Command → Bool
is_greeting_or_sender (commands.Helo name) = true
is_greeting_or_sender (commands.Mail sender) = true
is_greeting_or_sender (commands.Macro command pairs) = command == SMFIC_HELO || command == SMFIC_MAIL
is_greeting_or_sender other = false

-- the last stage, of which this is the rank, is one of a message
abbrev pub is_in_message : ℕ → Bool
is_in_message last = nat_lt (rank_of Helo) last

-- it comes within a message
abbrev pub is_within_message : Option Negotiated → ℕ → Received → Bool
is_within_message None last received = false
is_within_message (Some negotiated) last (Err fault) = false
is_within_message (Some negotiated) last (Ok command) = is_greeting_or_sender command && is_in_message last

-- an abort is put before it, where the order is lenient
abbrev pub needs_abort : CommandOrder → Option Negotiated → ℕ → Received → Bool
needs_abort Strict negotiated last received = false
needs_abort Lenient negotiated last received = is_within_message negotiated last received

-- DATA that is refused within a message is undone, where the order is lenient: all is as it was before it, since the
-- client may send further recipients, and DATA again. In the strict order the message ends with it.
abbrev pub is_undone : CommandOrder → ℕ → Command → Option Answer → Bool
is_undone Strict last command answer = false
is_undone Lenient last command answer = is_refused_data command answer && is_in_message last

-- ---- the commands that a lenient end takes these for

-- the abort before a command, where one is due
abbrev pub aborts_before : Behavior → FilterEnd → Received → List Received
aborts_before b c received =
    if is_within_message (negotiated_in b c.transcript) (last_rank c.transcript) received then Ok commands.Abort ∷ []
    else []

-- where it is at no fault
abbrev pub is_undone_at : Behavior → FilterEnd → Received → Bool
is_undone_at b c (Err fault) = false
is_undone_at b c (Ok command) =
    is_undone Lenient (last_rank c.transcript) command (exchange_at b c.transcript command).answer
    && is_none (fault_at b c.transcript (Ok command))

-- a command that is undone is left out
abbrev pub taken_at : Behavior → FilterEnd → Received → List Received
taken_at b c received = if is_undone_at b c received then [] else received ∷ []

-- to an end that goes on by each: with the aborts, and without the commands that are undone
abbrev pub lenient_commands : Behavior → FilterEnd → List Received → List Received
lenient_commands b c [] = []
lenient_commands b c (received ∷ more) =
    let aborts = aborts_before b c received in
    let these = aborts ++ taken_at b (after b c aborts) received in
    these ++ lenient_commands b (after b c these) more

-- the replies to each at its place; an abort has none
abbrev pub lenient_replies : Behavior → FilterEnd → List Received → List Reply
lenient_replies b c [] = []
lenient_replies b c (received ∷ more) =
    let aborts = aborts_before b c received in
    let ready = after b c aborts in
    replies_at b ready received ++ lenient_replies b (after b c (aborts ++ taken_at b ready received)) more

-- what an end of this order takes these commands for
abbrev pub taken_by : CommandOrder → Behavior → List Received → List Received
taken_by Strict b received = received
taken_by Lenient b received = lenient_commands b start received

-- and what it replies to them
abbrev pub replies_by : CommandOrder → Behavior → List Received → List Reply
replies_by Strict b received = replies b start received
replies_by Lenient b received = lenient_replies b start received

-- ---- commands that are taken alike in both orders

-- with it a message that is under way is left
abbrev pub leaves_message : Received → Bool
leaves_message (Ok command) =
    is_greeting_or_sender command || is_abort command || is_quit_new command || is_quit command
leaves_message (Err fault) = true

-- the last command was DATA, and it was refused
abbrev pub is_after_refused_data : List Exchange → Bool
is_after_refused_data [] = false
is_after_refused_data (last ∷ before) = is_refused_data last.command last.answer

-- it is no greeting and no sender within a message, and after DATA that was refused it leaves the message
pub record IsTakenAlike (b : Behavior) (c : FilterEnd) (received : Received) : Type 0 where
  pub none_within : is_within_message (negotiated_in b c.transcript) (last_rank c.transcript) received ≡ false
  pub leaves : is_after_refused_data c.transcript ≡ true → leaves_message received ≡ true

-- each of these commands to an end, which goes on by each
abbrev pub AreTakenAlike : Behavior → FilterEnd → List Received → Type 0
AreTakenAlike b c [] = Unit {0}
AreTakenAlike b c (received ∷ more) = IsTakenAlike b c received × AreTakenAlike b (next b c received) more
