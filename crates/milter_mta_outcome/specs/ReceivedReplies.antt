-- What a mail server makes of a filter's reply, whatever filter it is.
use Rattle.std.specs.Prelude.{◌≡◌, ◌≢◌, ◌≤◌, ℕ, ◌+◌, ◌==◌, nat_le, nat_lt, Bool, true, false, not, ◌&&◌, ◌||◌, List, [], ◌∷◌, Some, Result, Ok, Err, if◌then◌else◌}
use Rattle.std.specs.Int.Bits.{bit_and}
use Rattle.milter_wire.specs.declared.options.Actions.{Actions}
use Rattle.milter_wire.specs.declared.options.Options.{Options}
use Rattle.milter_wire.specs.declared.options.TheConstants.Actions.{SETSYMLIST}
use Rattle.milter_wire.specs.declared.options.TheConstants.Protocol.{SKIP}
use Rattle.milter_wire.specs.declared.symbol_lists.SymList.{SymList}
use Rattle.milter_wire.specs.declared.negotiation.Negotiated.{Negotiated}
use Rattle.milter_wire.specs.declared.reply.Reply.{Reply}
use Rattle.milter_wire.specs.declared.reply.Reply.TheVariants as replies
use Rattle.milter_wire.specs.declared.stage.Stage.{Stage}
use Rattle.milter_wire.specs.declared.stage.Stage.TheVariants.{Eob}
use Rattle.milter_wire.specs.declared.verdict.Verdict.{Verdict}
use Rattle.milter_wire.specs.Negotiation.{has, has_bit}
use Rattle.milter_wire.specs.Verdicts.{given_at, verdict_of}
use Rattle.milter_message.specs.declared.edit.Edit.{Edit}
use Rattle.milter_message.specs.declared.message.TheConstants.{WEIGHT_MAX}
use Rattle.milter_message.specs.EditReplies.{edit_of, weight_of}
use Rattle.milter_protocol.specs.declared.answer.Action.{Action}
use Rattle.milter_protocol.specs.declared.answer.Action.TheVariants as received
use Rattle.milter_protocol.specs.declared.permitted.TheConstants.{VERSION_MAX, VERSION_MIN}
use Rattle.milter_protocol.specs.Permitted.{is_permitted}
use Rattle.milter_protocol.specs.Verdicts.{is_skip}
use Rattle.milter_mta_outcome.specs.declared.loss.MtaFault.{MtaFault}
use Rattle.milter_mta_outcome.specs.declared.loss.MtaFault.TheVariants.{Version, ActionsNotOffered, ProtocolNotOffered, NotAtThisStage, EditNotNegotiated, TooManyEdits}

-- ---- the reply to an offer

abbrev pub is_known : ℕ → Bool
is_known version = nat_le VERSION_MIN version && nat_le version VERSION_MAX

-- a version that is known, and not above the one that was offered
abbrev pub is_version_offered : ℕ → ℕ → Bool
is_version_offered offer version = is_known version && nat_le version offer

-- each of these bits was offered
abbrev pub is_offered : ℕ → ℕ → Bool
is_offered offer bits = bit_and offer bits == bits

-- symbol lists come only where their action was offered
abbrev pub may_have_lists : Actions → List SymList → Bool
may_have_lists offer [] = true
may_have_lists offer (list ∷ lists) = has_bit offer.0 SETSYMLIST.0

abbrev pub negotiated_by : Options → Options → List SymList → Result Negotiated MtaFault
negotiated_by offer options lists =
    if not (is_version_offered offer.version options.version) then Err Version
    else if not (is_offered offer.actions.0 options.actions.0 && may_have_lists offer.actions lists)
    then Err ActionsNotOffered
    else if not (is_offered offer.protocol.0 options.protocol.0) then Err ProtocolNotOffered
    else Ok (record { options = options; lists = lists })

abbrev pub options_received : Options → Reply → Result Negotiated MtaFault
options_received offer (replies.Options options lists) = negotiated_by offer options lists
options_received offer other = Err NotAtThisStage

-- what an offer lets be negotiated: a version that is known and not above the offered one, and no action, protocol bit
-- or list that was not offered
pub record IsWithinOffer (offer : Options) (negotiated : Negotiated) : Type 0 where
  pub version_from : VERSION_MIN ≤ negotiated.options.version
  pub version_to : negotiated.options.version ≤ VERSION_MAX
  pub version_offered : negotiated.options.version ≤ offer.version
  pub actions : bit_and offer.actions.0 negotiated.options.actions.0 ≡ negotiated.options.actions.0
  pub protocol : bit_and offer.protocol.0 negotiated.options.protocol.0 ≡ negotiated.options.protocol.0
  pub lists : negotiated.lists ≢ [] → has_bit offer.actions.0 SETSYMLIST.0 ≡ true

-- ---- a reply to a command

abbrev pub is_end : Stage → Bool
is_end Eob = true
is_end other = false

-- an edit comes at the end of a message alone, by what was negotiated, and all together have at most 16 MiB
abbrev pub edit_received : Negotiated → Stage → ℕ → Edit → Result Action MtaFault
edit_received negotiated stage weight edit =
    if not (is_end stage) then Err NotAtThisStage
    else if not (is_permitted negotiated edit) then Err EditNotNegotiated
    else if nat_lt WEIGHT_MAX (weight + weight_of edit) then Err TooManyEdits
    else Ok (received.Edit edit)

abbrev pub may_skip : Negotiated → Bool
may_skip negotiated = has negotiated (Some SKIP)

-- a verdict on the stage; skip only where it was negotiated
abbrev pub is_given : Negotiated → Stage → Verdict → Bool
is_given negotiated stage verdict = given_at verdict stage && (not (is_skip verdict) || may_skip negotiated)

abbrev pub given_or_fault : Negotiated → Stage → Verdict → Result Unit MtaFault
given_or_fault negotiated stage verdict = if is_given negotiated stage verdict then Ok tt else Err NotAtThisStage

abbrev pub verdict_received : Negotiated → Stage → Result Verdict Reply → Result Action MtaFault
verdict_received negotiated stage (Err other) = Err NotAtThisStage
verdict_received negotiated stage (Ok verdict) =
    if is_given negotiated stage verdict then Ok (received.Verdict verdict) else Err NotAtThisStage

abbrev pub received_by : Negotiated → Stage → ℕ → Result Edit Reply → Result Action MtaFault
received_by negotiated stage weight (Ok edit) = edit_received negotiated stage weight edit
received_by negotiated stage weight (Err other) = verdict_received negotiated stage (verdict_of other)

-- where the edits before it have so many bytes
abbrev pub reply_received : Negotiated → Stage → ℕ → Reply → Result Action MtaFault
reply_received negotiated stage weight reply = received_by negotiated stage weight (edit_of reply)
