-- What queuing a command leaves.
use Rattle.std.proofs.Common.{◌≡◌, ◌≢◌, ℕ, Bool, true, false, List, [], ◌∷◌, ◌++◌, Option, None, Some, Err, refl, sym, ◌∙◌, ap, append_assoc, append-nil, ◌⊎◌, inl, inr, ◌+◌, length, length-append, arith, if◌then◌else◌}
use Rattle.milter_fields.specs.Number.{number}
use Rattle.milter_fields.specs.Packet.{packet}
use Rattle.milter_wire.specs.declared.command.Command.TheVariants as commands
use Rattle.milter_wire.specs.declared.stage.Stage.TheVariants as stages
use Rattle.milter_wire.specs.Negotiation.{is_answered}
use Rattle.std.specs.List.{flat_map}
use Rattle.milter_wire.specs.declared.command.Command.{Command}
use Rattle.milter_wire.specs.declared.negotiation.Negotiated.{Negotiated}
use Rattle.milter_wire.specs.declared.stage.Stage.{Stage}
use Rattle.milter_wire.specs.Command.{code_of, encoding, payload_of}
use Rattle.milter_wire.specs.Stages.{macro_command_of, stage_of}
use Rattle.milter_fields.specs.declared.pair.Pair.{Pair}
use Rattle.milter_mail.specs.Steps.{macro_step}
use Rattle.milter_mta_connection.specs.declared.channel_state.ExpectedReply.{ExpectedReply}
use Rattle.milter_mta_connection.specs.declared.channel_state.ExpectedReply.TheVariants as expects
use Rattle.milter_mta_connection.specs.declared.call_outcome.CallFault.{CallFault}
use Rattle.milter_mta_connection.specs.declared.call_outcome.CallFault.TheVariants as call_faults
use Rattle.milter_mta_connection.specs.declared.phase.Phase.{Phase}
use Rattle.milter_mta_connection.specs.declared.phase.Phase.TheVariants.{NoMessage, InMessage, Skipping, MessageOver, ClientOver, Closed}
use Rattle.milter_mta_connection.specs.Channel.{Channel, expected_by, expected_of, is_idle, is_idle_by, is_unknown, queue, queue_all}
use Rattle.milter_mta_connection.specs.Connection.{CallLeaves, Connection, abort_before, after_command, any_fault, fault_at, fault_in, is_left_out, or_out_of_order, outcome_at, outcome_by, outcome_if, outcome_of, packets_for, packets_of, with_command, with_packets}

-- ---- nothing is pending or expected where a call is taken

record IsIdle (expected : ExpectedReply) (pending : List ℕ) : Type 0 where
  expected_is : expected ≡ expects.Nothing
  pending_is : pending ≡ []

idle_by : (negotiated : Option Negotiated) (expected : ExpectedReply) (pending : List ℕ) → is_idle_by negotiated expected pending ≡ true → IsIdle expected pending
idle_by None expected pending e = absurd cc
idle_by (Some negotiated) expects.Nothing [] e = record { expected_is = refl; pending_is = refl }
idle_by (Some negotiated) expects.Nothing (x ∷ pending) e = absurd cc
idle_by (Some negotiated) expects.Options pending e = absurd cc
idle_by (Some negotiated) (expects.Verdict stage) pending e = absurd cc
idle_by (Some negotiated) expects.Unknown pending e = absurd cc

pub idle-same : (c : Channel) → is_idle c ≡ true → record c { expected = expects.Nothing; pending = [] } ≡ c
idle-same c e =
    let i = idle_by c.negotiated c.expected c.pending e in
    ap (λ (a : ExpectedReply). record c { expected = a; pending = [] }) (sym i.expected_is) ∙ ap (λ (p : List ℕ). record c { pending = p }) (sym i.pending_is)

fault_in-idle : (phase : Phase) (idle : Bool) → fault_in phase idle ≡ None → idle ≡ true
fault_in-idle Closed idle e = absurd cc
fault_in-idle NoMessage true e = refl
fault_in-idle InMessage true e = refl
fault_in-idle Skipping true e = refl
fault_in-idle MessageOver true e = refl
fault_in-idle ClientOver true e = refl
fault_in-idle NoMessage false e = absurd cc
fault_in-idle InMessage false e = absurd cc
fault_in-idle Skipping false e = absurd cc
fault_in-idle MessageOver false e = absurd cc
fault_in-idle ClientOver false e = absurd cc

no_fault : (in_order : Bool) (fault : Option CallFault) → or_out_of_order in_order fault ≡ None → fault ≡ None
no_fault in_order (Some fault) e = absurd cc
no_fault in_order None e = refl

pub idle-ends : (c : Connection) → fault_in c.phase (is_idle c.channel) ≡ None → is_idle c.channel ≡ true
idle-ends c e = fault_in-idle c.phase (is_idle c.channel) e

pub idle-taken : (stage : Stage) (c : Connection) → fault_at stage c ≡ None → is_idle c.channel ≡ true
idle-taken stage c e = idle-ends c (no_fault _ (fault_in c.phase (is_idle c.channel)) e)

-- what was queued is dropped
pub discarded : (old new : Connection) → is_idle old.channel ≡ true
    → new ≡ record old { channel = record old.channel { expected = new.channel.expected; pending = new.channel.pending } }
    → record new { channel = record new.channel { expected = expects.Nothing; pending = [] } } ≡ old
discarded old new idle is =
    ap (λ (c : Connection). record c { channel = record c.channel { expected = expects.Nothing; pending = [] } }) is
    ∙ ap (λ (k : Channel). record old { channel = k }) (idle-same old.channel idle)

-- ---- refusals

fits_in : (phase : Phase) (idle : Bool) → fault_in phase idle ≢ Some call_faults.DoesNotFit
fits_in Closed idle e = absurd cc
fits_in NoMessage true e = absurd cc
fits_in InMessage true e = absurd cc
fits_in Skipping true e = absurd cc
fits_in MessageOver true e = absurd cc
fits_in ClientOver true e = absurd cc
fits_in NoMessage false e = absurd cc
fits_in InMessage false e = absurd cc
fits_in Skipping false e = absurd cc
fits_in MessageOver false e = absurd cc
fits_in ClientOver false e = absurd cc

fits_at : (in_order : Bool) (fault : Option CallFault) → fault ≢ Some call_faults.DoesNotFit → or_out_of_order in_order fault ≢ Some call_faults.DoesNotFit
fits_at in_order (Some fault) other e = other e
fits_at true None other e = absurd cc
fits_at false None other e = absurd cc

-- a call that is refused by a fault leaves all as it was
call-refused : (by : Option CallFault) (fits : Type 0) (after c : Connection) (fault : CallFault) → by ≢ Some call_faults.DoesNotFit → by ≡ Some fault → CallLeaves by fits after c c (Err fault)
call-refused by fits after c call_faults.Closed other e = (e, refl)
call-refused by fits after c call_faults.Busy other e = (e, refl)
call-refused by fits after c call_faults.OutOfOrder other e = (e, refl)
call-refused by fits after c call_faults.DoesNotFit other e = absurd (other e)
call-refused by fits after c call_faults.NoMemory other e = refl

pub any-refused : (fits : Type 0) (after c : Connection) (fault : CallFault) → any_fault c ≡ Some fault → CallLeaves (any_fault c) fits after c c (Err fault)
any-refused fits after c fault e = call-refused (any_fault c) fits after c fault (fits_in c.phase (is_idle c.channel)) e

pub stage-refused : (stage : Stage) (fits : Type 0) (after c : Connection) (fault : CallFault) → fault_at stage c ≡ Some fault → CallLeaves (fault_at stage c) fits after c c (Err fault)
stage-refused stage fits after c fault e = call-refused (fault_at stage c) fits after c fault (fits_at _ (any_fault c) (fits_in c.phase (is_idle c.channel))) e

-- ---- packets

pub queue_all-append : (first others : List Command) (c : Channel) → queue_all (first ++ others) c ≡ queue_all others (queue_all first c)
queue_all-append [] others c = refl
queue_all-append (command ∷ first) others c = queue_all-append first others (queue command c)

pub queue_all-pending : (c : Channel) (all : List Command) → (queue_all all c).pending ≡ c.pending ++ flat_map encoding all
queue_all-pending c [] = sym (append-nil c.pending)
queue_all-pending c (command ∷ others) =
    queue_all-pending (queue command c) others ∙ append_assoc c.pending (encoding command) (flat_map encoding others)

pub with_packets-all : (left_out : Bool) (code : Option ℕ) (command : Command) (pairs : List Pair) (before : List Command) (c : Channel)
    → with_packets left_out code command pairs (queue_all before c) ≡ queue_all (before ++ packets_of left_out code command pairs) c
with_packets-all true code command pairs before c = ap (λ (all : List Command). queue_all all c) (sym (append-nil before))
with_packets-all false code command pairs before c =
    let macros : List Command = macro_step code pairs in
    sym (queue_all-append macros (command ∷ []) (queue_all before c))
    ∙ sym (queue_all-append before (macros ++ command ∷ []) c)

pub with_command-all : (stage : Stage) (command : Command) (pairs : List Pair) (c : Connection)
    → with_command stage command pairs c.phase c.channel ≡ queue_all (packets_for stage command pairs c) c.channel
with_command-all stage command pairs c =
    with_packets-all (is_left_out c.channel.negotiated c.phase stage) (macro_command_of stage) command pairs (abort_before c.phase stage) c.channel

-- ---- what is answered

-- a packet has bytes
cells : List ℕ → Bool
cells [] = false
cells (x ∷ bytes) = true

outcome-some : (bytes : List ℕ) (expected : ExpectedReply) → length bytes ≢ 0 → outcome_by bytes expected ≡ outcome_by (0 ∷ []) expected
outcome-some [] expected some = absurd (some refl)
outcome-some (x ∷ bytes) expects.Nothing some = refl
outcome-some (x ∷ bytes) expects.Options some = refl
outcome-some (x ∷ bytes) (expects.Verdict stage) some = refl
outcome-some (x ∷ bytes) expects.Unknown some = refl

packet_cells : (code : ℕ) (before payload : List ℕ) → length (before ++ packet code payload) ≢ 0
packet_cells code before payload none =
    let a = length-append before (packet code payload) in
    let b = length-append (number (length payload + 1)) (code ∷ payload) in
    absurd (omega (arith, a, b))

outcome-queued : (c : Channel) (command : Command) → outcome_of (queue command c) ≡ outcome_by (0 ∷ []) (expected_of c.negotiated command)
outcome-queued c command = outcome-some (c.pending ++ encoding command) (expected_of c.negotiated command) (packet_cells (code_of command) c.pending (payload_of command))

queue_all-negotiated : (all : List Command) (c : Channel) → (queue_all all c).negotiated ≡ c.negotiated
queue_all-negotiated [] c = refl
queue_all-negotiated (command ∷ all) c = queue_all-negotiated all (queue command c)

outcome-answered : (answered : Bool) (stage : Stage) (before : List Command) → outcome_by (0 ∷ []) (if answered then expects.Verdict stage else expects.Nothing) ≡ outcome_if false answered before
outcome-answered true stage before = refl
outcome-answered false stage before = refl

outcome-packets : (left_out : Bool) (code : Option ℕ) (stage : Stage) (command : Command) (pairs : List Pair) (before : List Command) (negotiated : Negotiated) (c : Channel)
    → stage_of command ≡ Some stage → c.negotiated ≡ Some negotiated → c.pending ≡ [] → c.expected ≡ expects.Nothing
    → ((before ≡ []) ⊎ (before ≡ commands.Abort ∷ []))
    → outcome_of (with_packets left_out code command pairs (queue_all before c)) ≡ outcome_if left_out (is_answered negotiated stage) before
outcome-packets true code stage command pairs before negotiated c is by none nothing (inl e) = rw (e, none) refl
outcome-packets true code stage command pairs before negotiated c is by none nothing (inr e) = rw e (outcome-queued c commands.Abort ∙ ap (λ (n : Option Negotiated). outcome_by (0 ∷ []) (expected_of n commands.Abort)) by)
outcome-packets false code stage command pairs before negotiated c is by none nothing e =
    let macros : List Command = macro_step code pairs in
    let k : Channel = queue_all macros (queue_all before c) in
    let same : k.negotiated ≡ Some negotiated = queue_all-negotiated macros (queue_all before c) ∙ queue_all-negotiated before c ∙ by in
    outcome-queued k command
    ∙ ap (λ (n : Option Negotiated). outcome_by (0 ∷ []) (expected_of n command)) same
    ∙ ap (λ (s : Option Stage). outcome_by (0 ∷ []) (expected_by negotiated s (is_unknown command))) is
    ∙ outcome-answered (is_answered negotiated stage) stage before

abort_or_none : (phase : Phase) (stage : Stage) → ((abort_before phase stage ≡ []) ⊎ (abort_before phase stage ≡ commands.Abort ∷ []))
abort_or_none MessageOver stages.Mail = inr refl
abort_or_none MessageOver stages.Connect = inl refl
abort_or_none MessageOver stages.Helo = inl refl
abort_or_none MessageOver stages.Rcpt = inl refl
abort_or_none MessageOver stages.DataCmd = inl refl
abort_or_none MessageOver stages.Header = inl refl
abort_or_none MessageOver stages.Eoh = inl refl
abort_or_none MessageOver stages.Body = inl refl
abort_or_none MessageOver stages.Eob = inl refl
abort_or_none NoMessage stage = inl refl
abort_or_none InMessage stage = inl refl
abort_or_none Skipping stage = inl refl
abort_or_none ClientOver stage = inl refl
abort_or_none Closed stage = inl refl

pub outcome-is : (stage : Stage) (command : Command) (pairs : List Pair) (c : Connection) (negotiated : Negotiated)
    → stage_of command ≡ Some stage → c.channel.negotiated ≡ Some negotiated → fault_at stage c ≡ None
    → outcome_of (after_command stage command pairs c).channel ≡ outcome_at c.phase negotiated stage
outcome-is stage command pairs c negotiated is by e =
    let i = idle_by c.channel.negotiated c.channel.expected c.channel.pending (idle-taken stage c e) in
    outcome-packets (is_left_out c.channel.negotiated c.phase stage) (macro_command_of stage) stage command pairs (abort_before c.phase stage) negotiated c.channel is by i.pending_is i.expected_is (abort_or_none c.phase stage)
    ∙ ap (λ (n : Option Negotiated). outcome_if (is_left_out n c.phase stage) (is_answered negotiated stage) (abort_before c.phase stage)) by
