-- Commands that are called for in the order of their stages.
use Rattle.std.proofs.Common.{◌≡◌, ◌≢◌, ◌≤◌, ◌<◌, ℕ, Bool, true, false, List, [], ◌∷◌, ◌++◌, map, None, Some, refl, sym, ap, ◌∙◌, arith}
use Rattle.std.proofs.lemmas.Bool.Decides.{nat_tests}
use Rattle.std.proofs.lemmas.Bool.{true≢false}
use Rattle.milter_wire.specs.declared.options.Options.{Options}
use Rattle.milter_wire.specs.declared.command.Command.{Command}
use Rattle.milter_wire.specs.declared.command.Command.TheVariants as commands
use Rattle.milter_wire.specs.declared.negotiation.Negotiated.{Negotiated}
use Rattle.milter_wire.specs.declared.stage.Stage.{Stage}
use Rattle.milter_wire.specs.declared.stage.Stage.TheVariants as stages
use Rattle.milter_wire.specs.Stages.{stage_of}
use Rattle.milter_message.specs.declared.edit.Edit.{Edit}
use Rattle.milter_message.specs.LeadingSpace.{sent_header}
use Rattle.milter_message.specs.MailObject.{MailObject}
use Rattle.milter_message.specs.Chunks.{chunks_of}
use Rattle.milter_fields.specs.declared.client.Client.{Client}
use Rattle.milter_fields.specs.declared.header.Header.{Header}
use Rattle.milter_fields.specs.declared.path.Path.{Path}
use Rattle.milter_protocol.specs.StageOrder.{may_follow, rank_of}
use Rattle.milter_mta_connection.specs.declared.phase.Phase.{Phase}
use Rattle.milter_mta_connection.specs.declared.phase.Phase.TheVariants.{NoMessage, InMessage, Skipping, MessageOver, ClientOver, Closed}
use Rattle.milter_mta_connection.specs.Connection.{abort_before, fault_at, is_in_order, or_out_of_order, phase_after, rank_after}
use Rattle.milter_mta_connection.specs.SessionCalls.{client_calls, message_calls}
use Rattle.milter_mta_connection.proofs.Answers.{idle}

-- ---- phases in which a dialogue is open

abbrev pub is_going : Phase → Bool
is_going NoMessage = true
is_going InMessage = true
is_going Skipping = true
is_going other = false

abbrev pub skips : Phase → Bool
skips Skipping = true
skips other = false

-- the same, whether the body is skipped or not
abbrev pub base : Phase → Phase
base Skipping = InMessage
base other = other

-- before a message the stages of the client came at most, and in one its sender at least
abbrev pub RankIn : Phase → ℕ → Type 0
RankIn NoMessage last = last ≤ 2
RankIn other last = 3 ≤ last

-- ---- order

-- each of these commands is of a stage, and comes in order
abbrev pub Ordered : Phase → ℕ → List Command → Type 0
Ordered phase last [] = Unit {0}
Ordered phase last (command ∷ left) =
    (stage : Stage) × (stage_of command ≡ Some stage) × (is_in_order phase last stage ≡ true)
    × Ordered (phase_after phase stage) (rank_of stage) left

-- not before the last one
pub rank-follows : (stage : Stage) (last : ℕ) → may_follow last stage ≡ true → last ≤ rank_of stage
rank-follows stages.Connect last e = grind (arith, nat_tests)
rank-follows stages.Helo last e = grind (arith, nat_tests)
rank-follows stages.Mail last e = grind (arith, nat_tests)
rank-follows stages.Rcpt last e = grind (arith, nat_tests)
rank-follows stages.DataCmd last e = grind (arith, nat_tests)
rank-follows stages.Header last e = grind (arith, nat_tests)
rank-follows stages.Eoh last e = grind (arith, nat_tests)
rank-follows stages.Body last e = grind (arith, nat_tests)
rank-follows stages.Eob last e = grind (arith, nat_tests)

mail-once : (last : ℕ) → may_follow last stages.Mail ≡ true → last < 3
mail-once last e = grind (arith, nat_tests)

end-once : (last : ℕ) → may_follow last stages.Eob ≡ true → last < 9
end-once last e = grind (arith, nat_tests)

-- a stage after the sender of a message
abbrev pub is_late : Stage → Bool
is_late stages.Connect = false
is_late stages.Helo = false
is_late stages.Mail = false
is_late other = true

pub late : (stage : Stage) (last : ℕ) → 3 ≤ last → may_follow last stage ≡ true → is_late stage ≡ true
late stages.Connect last less e = let r = rank-follows stages.Connect last e in absurd (omega (arith, less, r))
late stages.Helo last less e = let r = rank-follows stages.Helo last e in absurd (omega (arith, less, r))
late stages.Mail last less e = let r = mail-once last e in absurd (omega (arith, less, r))
late stages.Rcpt last less e = refl
late stages.DataCmd last less e = refl
late stages.Header last less e = refl
late stages.Eoh last less e = refl
late stages.Body last less e = refl
late stages.Eob last less e = refl

-- nothing comes after the end
pub none-after-end : (left : List Command) → Ordered InMessage 9 left → left ≡ []
none-after-end [] o = refl
none-after-end (command ∷ left) o = absurd (no-stage o.0 o.2)
  where
    no-stage : (stage : Stage) → may_follow 9 stage ≢ true
    no-stage stages.Eob e = let r = end-once 9 e in absurd (omega (arith, r))
    no-stage stages.Connect e = let r = rank-follows stages.Connect 9 e in absurd (omega (arith, r))
    no-stage stages.Helo e = let r = rank-follows stages.Helo 9 e in absurd (omega (arith, r))
    no-stage stages.Mail e = let r = rank-follows stages.Mail 9 e in absurd (omega (arith, r))
    no-stage stages.Rcpt e = let r = rank-follows stages.Rcpt 9 e in absurd (omega (arith, r))
    no-stage stages.DataCmd e = let r = rank-follows stages.DataCmd 9 e in absurd (omega (arith, r))
    no-stage stages.Header e = let r = rank-follows stages.Header 9 e in absurd (omega (arith, r))
    no-stage stages.Eoh e = let r = rank-follows stages.Eoh 9 e in absurd (omega (arith, r))
    no-stage stages.Body e = let r = rank-follows stages.Body 9 e in absurd (omega (arith, r))

-- ---- a call in order

pub base-order : (phase : Phase) (last : ℕ) (stage : Stage) → is_in_order (base phase) last stage ≡ is_in_order phase last stage
base-order NoMessage last stage = refl
base-order InMessage last stage = refl
base-order Skipping last stage = refl
base-order MessageOver last stage = refl
base-order ClientOver last stage = refl
base-order Closed last stage = refl

pub taken : (offer : Options) (negotiated : Negotiated) (es : List Edit) (phase : Phase) (last : ℕ) (stage : Stage) → phase ≢ Closed → is_in_order phase last stage ≡ true
    → fault_at stage (record { channel = idle offer negotiated es; phase = phase; last_rank = last }) ≡ None
taken offer negotiated es NoMessage last stage not_closed e = ap (λ (b : Bool). or_out_of_order b None) e
taken offer negotiated es InMessage last stage not_closed e = ap (λ (b : Bool). or_out_of_order b None) e
taken offer negotiated es Skipping last stage not_closed e = ap (λ (b : Bool). or_out_of_order b None) e
taken offer negotiated es MessageOver last stage not_closed e = ap (λ (b : Bool). or_out_of_order b None) e
taken offer negotiated es ClientOver last stage not_closed e = refl
taken offer negotiated es Closed last stage not_closed e = absurd (not_closed refl)

pub going-open : (phase : Phase) → is_going phase ≡ true → phase ≢ Closed
going-open phase e closed = true≢false (sym e ∙ ap is_going closed)

-- where an open dialogue is after a call
pub record GoesTo (phase : Phase) (last : ℕ) (stage : Stage) : Type 0 where
  pub going : is_going (phase_after phase stage) ≡ true
  pub base_is : base (phase_after phase stage) ≡ phase_after (base phase) stage
  pub skips_is : skips (phase_after phase stage) ≡ skips phase
  pub rank : RankIn (phase_after phase stage) (rank_of stage)
  pub rank_is : rank_after phase last stage ≡ rank_of stage
  pub no_abort : abort_before phase stage ≡ []

pub goes-to : (phase : Phase) (last : ℕ) (stage : Stage) → is_going phase ≡ true → RankIn phase last → is_in_order phase last stage ≡ true → GoesTo phase last stage
goes-to NoMessage last stages.Connect going rank e = record { going = refl; base_is = refl; skips_is = refl; rank = omega arith; rank_is = refl; no_abort = refl }
goes-to NoMessage last stages.Helo going rank e = record { going = refl; base_is = refl; skips_is = refl; rank = omega arith; rank_is = refl; no_abort = refl }
goes-to NoMessage last stages.Mail going rank e = record { going = refl; base_is = refl; skips_is = refl; rank = omega arith; rank_is = refl; no_abort = refl }
goes-to NoMessage last stages.Rcpt going rank e = absurd (true≢false (sym e))
goes-to NoMessage last stages.DataCmd going rank e = absurd (true≢false (sym e))
goes-to NoMessage last stages.Header going rank e = absurd (true≢false (sym e))
goes-to NoMessage last stages.Eoh going rank e = absurd (true≢false (sym e))
goes-to NoMessage last stages.Body going rank e = absurd (true≢false (sym e))
goes-to NoMessage last stages.Eob going rank e = absurd (true≢false (sym e))
goes-to InMessage last stages.Connect going rank e = absurd (true≢false (sym (late stages.Connect last rank e)))
goes-to InMessage last stages.Helo going rank e = absurd (true≢false (sym (late stages.Helo last rank e)))
goes-to InMessage last stages.Mail going rank e = absurd (true≢false (sym (late stages.Mail last rank e)))
goes-to InMessage last stages.Rcpt going rank e = record { going = refl; base_is = refl; skips_is = refl; rank = omega arith; rank_is = refl; no_abort = refl }
goes-to InMessage last stages.DataCmd going rank e = record { going = refl; base_is = refl; skips_is = refl; rank = omega arith; rank_is = refl; no_abort = refl }
goes-to InMessage last stages.Header going rank e = record { going = refl; base_is = refl; skips_is = refl; rank = omega arith; rank_is = refl; no_abort = refl }
goes-to InMessage last stages.Eoh going rank e = record { going = refl; base_is = refl; skips_is = refl; rank = omega arith; rank_is = refl; no_abort = refl }
goes-to InMessage last stages.Body going rank e = record { going = refl; base_is = refl; skips_is = refl; rank = omega arith; rank_is = refl; no_abort = refl }
goes-to InMessage last stages.Eob going rank e = record { going = refl; base_is = refl; skips_is = refl; rank = omega arith; rank_is = refl; no_abort = refl }
goes-to Skipping last stages.Connect going rank e = absurd (true≢false (sym (late stages.Connect last rank e)))
goes-to Skipping last stages.Helo going rank e = absurd (true≢false (sym (late stages.Helo last rank e)))
goes-to Skipping last stages.Mail going rank e = absurd (true≢false (sym (late stages.Mail last rank e)))
goes-to Skipping last stages.Rcpt going rank e = record { going = refl; base_is = refl; skips_is = refl; rank = omega arith; rank_is = refl; no_abort = refl }
goes-to Skipping last stages.DataCmd going rank e = record { going = refl; base_is = refl; skips_is = refl; rank = omega arith; rank_is = refl; no_abort = refl }
goes-to Skipping last stages.Header going rank e = record { going = refl; base_is = refl; skips_is = refl; rank = omega arith; rank_is = refl; no_abort = refl }
goes-to Skipping last stages.Eoh going rank e = record { going = refl; base_is = refl; skips_is = refl; rank = omega arith; rank_is = refl; no_abort = refl }
goes-to Skipping last stages.Body going rank e = record { going = refl; base_is = refl; skips_is = refl; rank = omega arith; rank_is = refl; no_abort = refl }
goes-to Skipping last stages.Eob going rank e = record { going = refl; base_is = refl; skips_is = refl; rank = omega arith; rank_is = refl; no_abort = refl }
goes-to MessageOver last stage going rank e = absurd (true≢false (sym going))
goes-to ClientOver last stage going rank e = absurd (true≢false (sym going))
goes-to Closed last stage going rank e = absurd (true≢false (sym going))

under-way : (stage : Stage) → phase_after InMessage stage ≡ InMessage
under-way stages.Mail = refl
under-way stages.Connect = refl
under-way stages.Helo = refl
under-way stages.Rcpt = refl
under-way stages.DataCmd = refl
under-way stages.Header = refl
under-way stages.Eoh = refl
under-way stages.Body = refl
under-way stages.Eob = refl

-- a command that a message has in it comes with one under way
pub in-message : (phase : Phase) (last : ℕ) (stage : Stage) → is_going phase ≡ true → is_late stage ≡ true → is_in_order phase last stage ≡ true
    → phase_after (base phase) stage ≡ InMessage
in-message NoMessage last stages.Connect going is e = absurd (true≢false (sym is))
in-message NoMessage last stages.Helo going is e = absurd (true≢false (sym is))
in-message NoMessage last stages.Mail going is e = absurd (true≢false (sym is))
in-message NoMessage last stages.Rcpt going is e = absurd (true≢false (sym e))
in-message NoMessage last stages.DataCmd going is e = absurd (true≢false (sym e))
in-message NoMessage last stages.Header going is e = absurd (true≢false (sym e))
in-message NoMessage last stages.Eoh going is e = absurd (true≢false (sym e))
in-message NoMessage last stages.Body going is e = absurd (true≢false (sym e))
in-message NoMessage last stages.Eob going is e = absurd (true≢false (sym e))
in-message InMessage last stage going is e = under-way stage
in-message Skipping last stage going is e = under-way stage
in-message MessageOver last stage going is e = absurd (true≢false (sym going))
in-message ClientOver last stage going is e = absurd (true≢false (sym going))
in-message Closed last stage going is e = absurd (true≢false (sym going))

-- ---- a message's own order

-- the chunks of a body and its end
body-order : (last : ℕ) (chunks : List (List ℕ)) → last ≤ 8 → Ordered InMessage last (map (λ chunk. commands.Body chunk) chunks ++ (commands.Eob [] ∷ []))
body-order last [] less = (stages.Eob, refl, grind (arith, nat_tests), tt)
body-order last (chunk ∷ chunks) less = (stages.Body, refl, grind (arith, nat_tests), body-order 8 chunks (omega arith))

eoh-order : (last : ℕ) (chunks : List (List ℕ)) → last ≤ 6 → Ordered InMessage last (commands.Eoh ∷ (map (λ chunk. commands.Body chunk) chunks ++ (commands.Eob [] ∷ [])))
eoh-order last chunks less = (stages.Eoh, refl, grind (arith, nat_tests), body-order 7 chunks (omega arith))

header-order : (last : ℕ) (leading_space : Bool) (headers : List Header) (chunks : List (List ℕ)) → last ≤ 6
    → Ordered InMessage last (map (λ header. commands.Header (sent_header leading_space header)) headers ++ (commands.Eoh ∷ (map (λ chunk. commands.Body chunk) chunks ++ (commands.Eob [] ∷ []))))
header-order last leading_space [] chunks less = eoh-order last chunks less
header-order last leading_space (header ∷ headers) chunks less = (stages.Header, refl, grind (arith, nat_tests), header-order 6 leading_space headers chunks (omega arith))

rcpt-order : (last : ℕ) (leading_space : Bool) (recipients : List Path) (headers : List Header) (chunks : List (List ℕ)) → last ≤ 4
    → Ordered InMessage last (map (λ recipient. commands.Rcpt recipient) recipients ++ (commands.DataCmd
    ∷ (map (λ header. commands.Header (sent_header leading_space header)) headers ++ (commands.Eoh ∷ (map (λ chunk. commands.Body chunk) chunks ++ (commands.Eob [] ∷ []))))))
rcpt-order last leading_space [] headers chunks less = (stages.DataCmd, refl, grind (arith, nat_tests), header-order 5 leading_space headers chunks (omega arith))
rcpt-order last leading_space (recipient ∷ recipients) headers chunks less = (stages.Rcpt, refl, grind (arith, nat_tests), rcpt-order 4 leading_space recipients headers chunks (omega arith))

-- all after the sender
abbrev pub parts-after : Bool → MailObject → List Command
parts-after leading_space message =
    map (λ recipient. commands.Rcpt recipient) message.recipients ++ (commands.DataCmd
    ∷ (map (λ header. commands.Header (sent_header leading_space header)) message.headers ++ (commands.Eoh ∷ (map (λ chunk. commands.Body chunk) (chunks_of message.body) ++ (commands.Eob [] ∷ [])))))

pub parts-order : (leading_space : Bool) (message : MailObject) → Ordered InMessage 3 (parts-after leading_space message)
parts-order leading_space message = rcpt-order 3 leading_space message.recipients message.headers (chunks_of message.body) (omega arith)

pub message-order : (last : ℕ) (leading_space : Bool) (message : MailObject) → last ≤ 2 → Ordered NoMessage last (message_calls leading_space message)
message-order last leading_space message less =
    (stages.Mail, refl, grind (arith, nat_tests), rcpt-order 3 leading_space message.recipients message.headers (chunks_of message.body) (omega arith))

pub session-order : (client : Client) (helo : List ℕ) (leading_space : Bool) (message : MailObject)
    → Ordered NoMessage 0 (client_calls client helo ++ message_calls leading_space message)
session-order client helo leading_space message =
    (stages.Connect, refl, refl, (stages.Helo, refl, refl, message-order 2 leading_space message (omega arith)))
