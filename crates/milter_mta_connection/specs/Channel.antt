-- A channel to a filter: commands are queued on it and sent, and the reply to each that is answered comes before the
-- next one.
use Rattle.std.specs.Prelude.{ℕ, Bool, true, false, List, [], ◌∷◌, ◌++◌, drop, Option, None, Some, if◌then◌else◌}
use Rattle.milter_wire.specs.declared.options.Options.{Options}
use Rattle.milter_wire.specs.declared.options.TheConstants.Protocol.{NR_UNKN}
use Rattle.milter_wire.specs.declared.command.Command.{Command}
use Rattle.milter_wire.specs.declared.command.Command.TheVariants as commands
use Rattle.milter_wire.specs.declared.negotiation.Negotiated.{Negotiated}
use Rattle.milter_wire.specs.declared.stage.Stage.{Stage}
use Rattle.milter_wire.specs.declared.stage.Stage.TheVariants.{Rcpt}
use Rattle.milter_wire.specs.Command.{encoding}
use Rattle.milter_wire.specs.Negotiation.{has, is_answered}
use Rattle.milter_wire.specs.Stages.{stage_of}
use Rattle.milter_message.specs.declared.edit.Edit.{Edit}
use Rattle.milter_mta_connection.specs.declared.channel_state.ExpectedReply.{ExpectedReply}
use Rattle.milter_mta_connection.specs.declared.channel_state.ExpectedReply.TheVariants as expects

pub record Channel : Type 0 where
  -- what the filter is offered
  pub offer : Options
  -- what was negotiated, once the filter replied to that
  pub negotiated : Option Negotiated
  -- what it replies once all that is pending was sent
  pub expected : ExpectedReply
  -- the edits of its answer to the end of a message: of the last one, or of the one that comes
  pub edits : List Edit
  -- the bytes that wait to be sent
  pub pending : List ℕ
  -- the bytes of a reply that has not come whole
  pub unread : List ℕ

-- ---- what is expected

abbrev pub is_expecting : ExpectedReply → Bool
is_expecting expects.Nothing = false
is_expecting other = true

-- the stage whose verdicts are taken; on an unknown command those that a recipient has
abbrev pub verdict_stage : ExpectedReply → Option Stage
verdict_stage (expects.Verdict stage) = Some stage
verdict_stage expects.Unknown = Some Rcpt
verdict_stage other = None

-- by a command of this stage
abbrev pub expected_at : Negotiated → Stage → ExpectedReply
expected_at negotiated stage = if is_answered negotiated stage then expects.Verdict stage else expects.Nothing

abbrev pub is_unknown : Command → Bool
is_unknown (commands.Unknown text) = true
is_unknown other = false

-- by a command of this stage or of none, where it may be an unknown one
abbrev pub expected_by : Negotiated → Option Stage → Bool → ExpectedReply
expected_by negotiated (Some stage) unknown = expected_at negotiated stage
expected_by negotiated None true = if has negotiated (Some NR_UNKN) then expects.Nothing else expects.Unknown
expected_by negotiated None false = expects.Nothing

abbrev pub expected_of : Option Negotiated → Command → ExpectedReply
expected_of None command = expects.Nothing
expected_of (Some negotiated) command = expected_by negotiated (stage_of command) (is_unknown command)

-- a reply is owed once all that is pending was sent
abbrev pub is_owed_by : ExpectedReply → List ℕ → Bool
is_owed_by expected [] = is_expecting expected
is_owed_by expected (byte ∷ bytes) = false

abbrev pub is_owed : Channel → Bool
is_owed c = is_owed_by c.expected c.pending

-- the next command may be queued: the options came, nothing is pending, and nothing is expected
abbrev pub is_idle_by : Option Negotiated → ExpectedReply → List ℕ → Bool
is_idle_by (Some negotiated) expects.Nothing [] = true
is_idle_by negotiated expected pending = false

abbrev pub is_idle : Channel → Bool
is_idle c = is_idle_by c.negotiated c.expected c.pending

-- ---- what the calls do

-- the connection was made, and nothing was sent
abbrev pub unopened : Options → Channel
unopened offer =
    record { offer = offer; negotiated = None; expected = expects.Nothing; edits = []; pending = []; unread = [] }

-- the offer is pending
abbrev pub offered : Channel → Channel
offered c = record c { expected = expects.Options; pending = encoding (commands.Options c.offer) }

abbrev pub fresh : Options → Channel
fresh offer = offered (unopened offer)

-- the packet of a command is the last one that is pending, and gets this reply
abbrev pub queue_expecting : Command → ExpectedReply → Channel → Channel
queue_expecting command expected c = record c { expected = expected; pending = c.pending ++ encoding command }

-- the reply is the one of its stage
abbrev pub queue : Command → Channel → Channel
queue command c = queue_expecting command (expected_of c.negotiated command) c

abbrev pub queue_all : List Command → Channel → Channel
queue_all [] c = c
queue_all (command ∷ others) c = queue_all others (queue command c)

-- what was queued and not sent is dropped
abbrev pub without_pending : Channel → Channel
without_pending c = record c { expected = expects.Nothing; pending = [] }

-- the edits of the last answer are dropped
abbrev pub without_edits : Channel → Channel
without_edits c = record c { edits = [] }

-- the first `count` of the bytes that are pending were sent
abbrev pub sent : ℕ → Channel → Channel
sent count c = record c { pending = drop count c.pending }

-- the connection is given up: nothing is expected, pending or unread, and no edits are left
abbrev pub cleared : Channel → Channel
cleared c = record c { expected = expects.Nothing; edits = []; pending = []; unread = [] }
