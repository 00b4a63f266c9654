-- What is sent comes in the order in which a filter's end takes commands.
use Rattle.std.proofs.Common.{◌≡◌, ◌≢◌, ◌≤◌, ℕ, min, Bool, true, false, ◌&&◌, List, [], ◌∷◌, ◌++◌, Option, None, Some, refl, arith}
use Rattle.std.proofs.lemmas.Bool.Decides.{nat_tests}
use Rattle.std.specs.Prelude.{if◌then◌else◌}
use Rattle.milter_wire.specs.declared.codes.TheConstants.{SMFIC_UNKNOWN}
use Rattle.milter_wire.specs.declared.command.Command.{Command}
use Rattle.milter_wire.specs.declared.command.Command.TheVariants as commands
use Rattle.milter_wire.specs.declared.negotiation.Negotiated.{Negotiated}
use Rattle.milter_wire.specs.declared.stage.Stage.{Stage}
use Rattle.milter_wire.specs.declared.stage.Stage.TheVariants as stages
use Rattle.milter_wire.specs.declared.verdict.Verdict.{Verdict}
use Rattle.milter_wire.specs.Stages.{macro_command_of, stage_of}
use Rattle.milter_fields.specs.declared.pair.Pair.{Pair}
use Rattle.milter_mail.specs.Steps.{macro_step}
use Rattle.milter_protocol.specs.Commands.{is_abort, is_end_by}
use Rattle.milter_protocol.specs.StageOrder.{may_follow, rank_of}
use Rattle.milter_protocol.specs.Transcripts.{rank_from}
use Rattle.milter_mta_connection.specs.declared.call_outcome.CallFault.{CallFault}
use Rattle.milter_mta_connection.specs.declared.phase.Phase.{Phase}
use Rattle.milter_mta_connection.specs.declared.phase.Phase.TheVariants.{NoMessage, InMessage, Skipping, MessageOver, ClientOver, Closed}
use Rattle.milter_mta_connection.specs.Channel.{is_idle}
use Rattle.milter_mta_connection.specs.Connection.{Connection, abort_before, after_abort, after_command, after_verdict, aborts, begins, packets_for, fault_at, fault_in, is_in_order, is_left_out, is_over, is_unknown_left_out, or_out_of_order, packets_of, rank_aborted, rank_without_message, rank_after, unknown_packets}
use Rattle.milter_mta_connection.specs.CommandOrder.{ComeInOrder, rank_with_all}

-- ---- ranks

earlier_follows : (stage : Stage) (rank last : ℕ) → rank ≤ last → may_follow last stage ≡ true → may_follow rank stage ≡ true
earlier_follows stages.Connect rank last less e = grind (arith, nat_tests)
earlier_follows stages.Helo rank last less e = grind (arith, nat_tests)
earlier_follows stages.Mail rank last less e = grind (arith, nat_tests)
earlier_follows stages.Rcpt rank last less e = grind (arith, nat_tests)
earlier_follows stages.DataCmd rank last less e = grind (arith, nat_tests)
earlier_follows stages.Header rank last less e = grind (arith, nat_tests)
earlier_follows stages.Eoh rank last less e = grind (arith, nat_tests)
earlier_follows stages.Body rank last less e = grind (arith, nat_tests)
earlier_follows stages.Eob rank last less e = grind (arith, nat_tests)

rank_follows : (stage : Stage) (last : ℕ) → may_follow last stage ≡ true → last ≤ rank_of stage
rank_follows stages.Connect last e = grind (arith, nat_tests)
rank_follows stages.Helo last e = grind (arith, nat_tests)
rank_follows stages.Mail last e = grind (arith, nat_tests)
rank_follows stages.Rcpt last e = grind (arith, nat_tests)
rank_follows stages.DataCmd last e = grind (arith, nat_tests)
rank_follows stages.Header last e = grind (arith, nat_tests)
rank_follows stages.Eoh last e = grind (arith, nat_tests)
rank_follows stages.Body last e = grind (arith, nat_tests)
rank_follows stages.Eob last e = grind (arith, nat_tests)

mail_follows : (rank : ℕ) → may_follow (min 2 rank) stages.Mail ≡ true
mail_follows rank = grind (arith, nat_tests)

not_abort : (command : Command) (stage : Stage) → stage_of command ≡ Some stage → is_abort command ≡ false
not_abort commands.Abort stage is = absurd cc
not_abort other stage is = refl

-- ---- packets

-- they come in order, and the last rank is at most this
record IsTaken (rank : ℕ) (all : List Command) (top : ℕ) : Type 0 where
  in_order : ComeInOrder rank all
  up_to : rank_with_all rank all ≤ top

command_taken : (rank : ℕ) (command : Command) (stage : Stage) → stage_of command ≡ Some stage → may_follow rank stage ≡ true → IsTaken rank (command ∷ []) (rank_of stage)
command_taken rank command stage is follows =
    let e = not_abort command stage is in
    record {
      in_order = rw is (follows, tt);
      up_to = rw (e, is) (omega arith);
    }

macros_taken : (code : Option ℕ) (pairs : List Pair) (rank : ℕ) (command : Command) (stage : Stage) → stage_of command ≡ Some stage → may_follow rank stage ≡ true
    → IsTaken rank (macro_step code pairs ++ command ∷ []) (rank_of stage)
macros_taken None pairs rank command stage is follows = command_taken rank command stage is follows
macros_taken (Some code) [] rank command stage is follows = command_taken rank command stage is follows
macros_taken (Some code) (pair ∷ pairs) rank command stage is follows =
    let t = command_taken rank command stage is follows in
    record { in_order = (refl, t.in_order); up_to = t.up_to }

-- the packets of a command, or none of them
packets_taken : (left_out : Bool) (code : Option ℕ) (stage : Stage) (command : Command) (pairs : List Pair) (rank : ℕ) → stage_of command ≡ Some stage → may_follow rank stage ≡ true
    → rank ≤ rank_of stage → IsTaken rank (packets_of left_out code command pairs) (rank_of stage)
packets_taken true code stage command pairs rank is follows less = record { in_order = tt; up_to = less }
packets_taken false code stage command pairs rank is follows less = macros_taken code pairs rank command stage is follows

-- after an abort
aborted_taken : (left_out : Bool) (command : Command) (pairs : List Pair) (rank : ℕ) → stage_of command ≡ Some stages.Mail
    → IsTaken rank (commands.Abort ∷ packets_of left_out (macro_command_of stages.Mail) command pairs) (rank_of stages.Mail)
aborted_taken left_out command pairs rank is =
    let t = packets_taken left_out (macro_command_of stages.Mail) stages.Mail command pairs (min 2 rank) is (mail_follows rank) (omega arith) in
    record { in_order = (refl, t.in_order); up_to = t.up_to }

none_taken : (rank last : ℕ) (negotiated : Option Negotiated) (phase : Phase) (stage : Stage) (command : Command) (pairs : List Pair) (left_out : Bool) → left_out ≡ is_left_out negotiated phase stage → is_over phase stage ≡ true
    → rank ≤ last → IsTaken rank (packets_of left_out (macro_command_of stage) command pairs) last
none_taken rank last None phase stage command pairs left_out is over less = rw is (record { in_order = tt; up_to = less })
none_taken rank last (Some negotiated) phase stage command pairs left_out is over less = rw (is, over) (record { in_order = tt; up_to = less })

both : (a b : Bool) → (a && b) ≡ true → b ≡ true
both true b e = e
both false b e = absurd cc

in_order_of : (in_order : Bool) (phase : Phase) (idle : Bool) → or_out_of_order in_order (fault_in phase idle) ≡ None → in_order ≡ true
in_order_of true phase idle e = refl
in_order_of false phase idle e = absurd (not_none (fault_in phase idle) e)
  where
    not_none : (fault : Option CallFault) → or_out_of_order false fault ≢ None
    not_none (Some fault) e = absurd cc
    not_none None e = absurd cc

called_taken : (phase : Phase) (last rank : ℕ) (negotiated : Option Negotiated) (stage : Stage) (command : Command) (pairs : List Pair) → stage_of command ≡ Some stage
    → is_in_order phase last stage ≡ true → rank ≤ last
    → IsTaken rank (abort_before phase stage ++ packets_of (is_left_out negotiated phase stage) (macro_command_of stage) command pairs) (rank_after phase last stage)
called_taken NoMessage last rank negotiated stage command pairs is in_order less =
    let follows = both (begins stage) (may_follow last stage) in_order in
    let up = rank_follows stage last follows in
    packets_taken (is_left_out negotiated NoMessage stage) (macro_command_of stage) stage command pairs rank is (earlier_follows stage rank last less follows) (omega arith)
called_taken InMessage last rank negotiated stage command pairs is in_order less =
    let up = rank_follows stage last in_order in
    packets_taken (is_left_out negotiated InMessage stage) (macro_command_of stage) stage command pairs rank is (earlier_follows stage rank last less in_order) (omega arith)
called_taken Skipping last rank negotiated stage command pairs is in_order less =
    let up = rank_follows stage last in_order in
    packets_taken (is_left_out negotiated Skipping stage) (macro_command_of stage) stage command pairs rank is (earlier_follows stage rank last less in_order) (omega arith)
called_taken MessageOver last rank negotiated stages.Mail command pairs is in_order less = aborted_taken (is_left_out negotiated MessageOver stages.Mail) command pairs rank is
called_taken MessageOver last rank negotiated stages.Connect command pairs is in_order less = none_taken rank last negotiated MessageOver stages.Connect command pairs _ refl refl less
called_taken MessageOver last rank negotiated stages.Helo command pairs is in_order less = none_taken rank last negotiated MessageOver stages.Helo command pairs _ refl refl less
called_taken MessageOver last rank negotiated stages.Rcpt command pairs is in_order less = none_taken rank last negotiated MessageOver stages.Rcpt command pairs _ refl refl less
called_taken MessageOver last rank negotiated stages.DataCmd command pairs is in_order less = none_taken rank last negotiated MessageOver stages.DataCmd command pairs _ refl refl less
called_taken MessageOver last rank negotiated stages.Header command pairs is in_order less = none_taken rank last negotiated MessageOver stages.Header command pairs _ refl refl less
called_taken MessageOver last rank negotiated stages.Eoh command pairs is in_order less = none_taken rank last negotiated MessageOver stages.Eoh command pairs _ refl refl less
called_taken MessageOver last rank negotiated stages.Body command pairs is in_order less = none_taken rank last negotiated MessageOver stages.Body command pairs _ refl refl less
called_taken MessageOver last rank negotiated stages.Eob command pairs is in_order less = none_taken rank last negotiated MessageOver stages.Eob command pairs _ refl refl less
called_taken ClientOver last rank negotiated stage command pairs is in_order less = none_taken rank last negotiated ClientOver stage command pairs _ refl refl less
called_taken Closed last rank negotiated stage command pairs is in_order less = absurd cc

pub called_in_order : (stage : Stage) (command : Command) (pairs : List Pair) (c : Connection) (rank : ℕ) → stage_of command ≡ Some stage → fault_at stage c ≡ None → rank ≤ c.last_rank
    → ComeInOrder rank (packets_for stage command pairs c) × (rank_with_all rank (packets_for stage command pairs c) ≤ (after_command stage command pairs c).last_rank)
called_in_order stage command pairs c rank is e less =
    let t = called_taken c.phase c.last_rank rank c.channel.negotiated stage command pairs is (in_order_of (is_in_order c.phase c.last_rank stage) c.phase (is_idle c.channel) e) less in
    (t.in_order, t.up_to)

aborts_taken : (phase : Phase) (last rank : ℕ) → rank ≤ last → IsTaken rank (aborts phase) (rank_aborted phase last)
aborts_taken NoMessage last rank less = record { in_order = tt; up_to = less }
aborts_taken InMessage last rank less = record { in_order = (refl, tt); up_to = omega arith }
aborts_taken Skipping last rank less = record { in_order = (refl, tt); up_to = omega arith }
aborts_taken MessageOver last rank less = record { in_order = (refl, tt); up_to = omega arith }
aborts_taken ClientOver last rank less = record { in_order = tt; up_to = less }
aborts_taken Closed last rank less = record { in_order = tt; up_to = less }

pub aborted_in_order : (c : Connection) (rank : ℕ) → rank ≤ c.last_rank
    → ComeInOrder rank (aborts c.phase) × (rank_with_all rank (aborts c.phase) ≤ (after_abort c).last_rank)
aborted_in_order c rank less = let t = aborts_taken c.phase c.last_rank rank less in (t.in_order, t.up_to)

ranks_within : (ends : Bool) (last rank : ℕ) → rank ≤ last → rank_from ends rank ≤ rank_from ends last
ranks_within true last rank less = omega arith
ranks_within false last rank less = less

pub answered_in_order : (stage : Stage) (verdict : Verdict) (c : Connection) (rank : ℕ) → rank ≤ c.last_rank
    → rank_from (is_end_by stage verdict) rank ≤ (after_verdict stage verdict c).last_rank
answered_in_order stage verdict c rank less = by_end (is_end_by stage verdict)
  where
    by_end : (ends : Bool) → rank_from ends rank ≤ (if ends then rank_without_message c.last_rank else c.last_rank)
    by_end true = omega arith
    by_end false = less

-- a command that the mail server doesn't know is of no stage
unknown_taken : (left_out : Bool) (text : List ℕ) (pairs : List Pair) (rank : ℕ) → IsTaken rank (packets_of left_out (Some SMFIC_UNKNOWN) (commands.Unknown text) pairs) rank
unknown_taken true text pairs rank = record { in_order = tt; up_to = omega arith }
unknown_taken false text [] rank = record { in_order = (refl, tt); up_to = omega arith }
unknown_taken false text (pair ∷ pairs) rank = record { in_order = (refl, (refl, tt)); up_to = omega arith }

pub unknown_in_order : (text : List ℕ) (pairs : List Pair) (c : Connection) (rank : ℕ) → rank ≤ c.last_rank
    → ComeInOrder rank (unknown_packets text pairs c) × (rank_with_all rank (unknown_packets text pairs c) ≤ c.last_rank)
unknown_in_order text pairs c rank less =
    let t = unknown_taken (is_unknown_left_out c.channel.negotiated c.phase) text pairs rank in
    (t.in_order, omega (arith, t.up_to, less))
