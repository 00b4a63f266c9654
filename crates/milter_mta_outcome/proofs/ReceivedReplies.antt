-- An edit that is received is that of its reply, comes at the end, was negotiated, and there is room for it.
use Rattle.std.proofs.Common.{◌≡◌, ◌≢◌, ◌≤◌, ◌+◌, ℕ, nat_lt, Bool, true, false, not, Ok, Err, Result, refl, sym, ap, ◌∙◌, if◌then◌else◌}
use Rattle.std.proofs.lemmas.Bool.{ltb-false}
use Rattle.milter_wire.specs.declared.negotiation.Negotiated.{Negotiated}
use Rattle.milter_wire.specs.declared.reply.Reply.{Reply}
use Rattle.milter_wire.specs.declared.reply.Reply.TheVariants as replies
use Rattle.milter_wire.specs.declared.stage.Stage.{Stage}
use Rattle.milter_wire.specs.declared.verdict.Verdict.{Verdict}
use Rattle.milter_wire.specs.Verdicts.{verdict_of}
use Rattle.milter_message.specs.declared.edit.Edit.{Edit}
use Rattle.milter_message.specs.declared.message.TheConstants.{WEIGHT_MAX}
use Rattle.milter_message.specs.EditReplies.{edit_of, reply_of, weight_of}
use Rattle.milter_protocol.specs.declared.answer.Action.TheVariants as received
use Rattle.milter_protocol.specs.Permitted.{is_permitted}
use Rattle.milter_mta_outcome.specs.declared.loss.MtaFault.TheVariants.{NotAtThisStage, EditNotNegotiated, TooManyEdits}
use Rattle.milter_mta_outcome.specs.ReceivedReplies.{received_by, is_end, is_given, verdict_received}

record IsTaken (early refused heavy : Bool) (edit found : Edit) : Type 0 where
  found_is : found ≡ edit
  in_time : early ≡ false
  allowed : refused ≡ false
  light : heavy ≡ false

edit_if : (early refused heavy : Bool) (edit found : Edit)
    → (if early then Err NotAtThisStage else if refused then Err EditNotNegotiated else if heavy then Err TooManyEdits else Ok (received.Edit found)) ≡ Ok (received.Edit edit)
    → IsTaken early refused heavy edit found
edit_if true refused heavy edit found h = absurd cc
edit_if false true heavy edit found h = absurd cc
edit_if false false true edit found h = absurd cc
edit_if false false false edit found h = record { found_is = cc; in_time = refl; allowed = refl; light = refl }

no_verdict : (given : Bool) (verdict : Verdict) (edit : Edit)
    → (if given then Ok (received.Verdict verdict) else Err NotAtThisStage) ≢ Ok (received.Edit edit)
no_verdict true verdict edit h = absurd cc
no_verdict false verdict edit h = absurd cc

no_edit : (negotiated : Negotiated) (stage : Stage) (found : Result Verdict Reply) (edit : Edit)
    → verdict_received negotiated stage found ≢ Ok (received.Edit edit)
no_edit negotiated stage (Err other) edit h = absurd cc
no_edit negotiated stage (Ok verdict) edit h = no_verdict (is_given negotiated stage verdict) verdict edit h

pub record IsEditReceived (negotiated : Negotiated) (stage : Stage) (weight : ℕ) (found : Result Edit Reply) (edit : Edit) : Type 0 where
  pub found_is : found ≡ Ok edit
  pub at_end : is_end stage ≡ true
  pub permitted : is_permitted negotiated edit ≡ true
  pub room : weight + weight_of edit ≤ WEIGHT_MAX

true_of : (b : Bool) → not b ≡ false → b ≡ true
true_of true e = refl
true_of false e = absurd cc

pub edit_received_is : (negotiated : Negotiated) (stage : Stage) (weight : ℕ) (found : Result Edit Reply) (edit : Edit)
    → received_by negotiated stage weight found ≡ Ok (received.Edit edit) → IsEditReceived negotiated stage weight found edit
edit_received_is negotiated stage weight (Err other) edit h = absurd (no_edit negotiated stage (verdict_of other) edit h)
edit_received_is negotiated stage weight (Ok found) edit h =
    let is = edit_if (not (is_end stage)) (not (is_permitted negotiated found)) (nat_lt WEIGHT_MAX (weight + weight_of found)) edit found h in
    let light = ltb-false WEIGHT_MAX (weight + weight_of found) is.light in
    record {
      found_is = ap Ok is.found_is;
      at_end = true_of (is_end stage) is.in_time;
      permitted = ap (is_permitted negotiated) (sym is.found_is) ∙ true_of (is_permitted negotiated found) is.allowed;
      room = rw (sym is.found_is) light;
    }

-- the reply of what one asks for
abbrev reply_back : Result Edit Reply → Reply
reply_back (Ok edit) = reply_of edit
reply_back (Err reply) = reply

gives_back : (reply : Reply) → reply_back (edit_of reply) ≡ reply
gives_back (replies.AddHeader header) = refl
gives_back (replies.InsertHeader index header) = refl
gives_back (replies.ChangeHeader index header) = refl
gives_back (replies.AddRcpt address) = refl
gives_back (replies.AddRcptPar address arguments) = refl
gives_back (replies.DelRcpt address) = refl
gives_back (replies.ChangeFrom address arguments) = refl
gives_back (replies.ReplaceBody bytes) = refl
gives_back (replies.Quarantine reason) = refl
gives_back replies.Progress = refl
gives_back other = refl

pub asked_only : (reply : Reply) (edit : Edit) → edit_of reply ≡ Ok edit → reply_of edit ≡ reply
asked_only reply edit h = ap reply_back (sym h) ∙ gives_back reply
