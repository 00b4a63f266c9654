-- What each reply of a lawful filter's answer, as it is permitted, is received as.
use Rattle.std.specs.Prelude.{if◌then◌else◌}
use Rattle.std.proofs.Common.{◌≡◌, ◌≢◌, ◌≤◌, ◌+◌, ℕ, Bool, true, false, cond, not, ◌&&◌, List, [], ◌∷◌, All, Some, Result, Ok, Err, refl, sym, ap, ◌∙◌, arith}
use Rattle.std.specs.List.{filter}
use Rattle.std.proofs.Math.Bool.{and-true}
use Rattle.std.proofs.lemmas.Bool.{le-ltb, true≢false}
use Rattle.std.proofs.lemmas.List.Elements.{All-cons, All-filter, All-nil}
use Rattle.std.proofs.lemmas.List.Sums.{sum_by-cons}
use Rattle.milter_wire.specs.declared.options.TheConstants.Protocol.{SKIP}
use Rattle.milter_wire.specs.declared.negotiation.Negotiated.{Negotiated}
use Rattle.milter_wire.specs.declared.stage.Stage.{Stage}
use Rattle.milter_wire.specs.declared.stage.Stage.TheVariants as stages
use Rattle.milter_wire.specs.declared.verdict.Verdict.{Verdict}
use Rattle.milter_wire.specs.declared.verdict.Verdict.TheVariants.{Continue, Accept, Reject, Tempfail, Discard, Skip, Code}
use Rattle.milter_wire.specs.Negotiation.{has}
use Rattle.milter_wire.specs.Reply.{Fits}
use Rattle.milter_wire.specs.Verdicts as verdicts
use Rattle.milter_message.specs.declared.edit.Edit.{Edit}
use Rattle.milter_message.specs.declared.message.TheConstants.{WEIGHT_MAX}
use Rattle.milter_message.specs.EditReplies as edits
use Rattle.milter_message.specs.EditReplies.{weight_of}
use Rattle.milter_message.proofs.EditSequences.{asked_back}
use Rattle.milter_protocol.specs.declared.answer.Action.{Action}
use Rattle.milter_protocol.specs.declared.answer.Action.TheVariants as received_as
use Rattle.milter_protocol.specs.declared.answer.Answer.{Answer}
use Rattle.milter_protocol.specs.Lawful.{AnswerFits}
use Rattle.milter_protocol.specs.Permitted.{is_permitted, permitted, permitted_verdict}
use Rattle.milter_mta_outcome.specs.declared.loss.MtaFault.{MtaFault}
use Rattle.milter_mta_outcome.specs.declared.loss.MtaFault.TheVariants.{NotAtThisStage, EditNotNegotiated, TooManyEdits}
use Rattle.milter_mta_outcome.specs.ReceivedReplies.{received_by, is_end, is_given, reply_received}
use Rattle.milter_mta_outcome.specs.EditWeights.{weight_of_all}

-- ---- what a mail server receives whole

pub record IsReceived (negotiated : Negotiated) (stage : Stage) (answer : Answer) : Type 0 where
  pub at_end : is_end stage ≡ false → answer.edits ≡ []
  pub permitted : All (λ edit. is_permitted negotiated edit ≡ true) answer.edits
  pub edits_fit : All (λ edit. Fits (edits.reply_of edit)) answer.edits
  pub weight : weight_of_all answer.edits ≤ WEIGHT_MAX
  pub given : is_given negotiated stage answer.verdict ≡ true
  pub verdict_fits : Fits (verdicts.reply_of answer.verdict)

-- ---- what is permitted

all_kept : {A : Type 0} (p : A → Bool) (xs : List A) → All (λ x. p x ≡ true) (filter p xs)
all_kept p [] = All-nil (λ x. p x ≡ true)
all_kept p (x ∷ xs) = by_test (p x) refl (all_kept p xs)
  where
    by_test : (b : Bool) → p x ≡ b → All (λ y. p y ≡ true) (filter p xs) → All (λ y. p y ≡ true) (cond b (x ∷ filter p xs) (filter p xs))
    by_test true e rest = All-cons (λ y. p y ≡ true) x (filter p xs) e rest
    by_test false e rest = rest

lighter : (p : Edit → Bool) (xs : List Edit) → weight_of_all (filter p xs) ≤ weight_of_all xs
lighter p [] = omega arith
lighter p (x ∷ xs) = by_test (p x) (lighter p xs)
  where
    by_test : (b : Bool) → weight_of_all (filter p xs) ≤ weight_of_all xs → weight_of_all (cond b (x ∷ filter p xs) (filter p xs)) ≤ weight_of_all (x ∷ xs)
    by_test true less =
        let more = sum_by-cons weight_of x xs in
        let kept = sum_by-cons weight_of x (filter p xs) in
        omega (arith, more, kept, less)
    by_test false less =
        let more = sum_by-cons weight_of x xs in
        omega (arith, more, less)

given : (negotiated : Negotiated) (stage : Stage) (verdict : Verdict) → verdicts.given_at verdict stage ≡ true → is_given negotiated stage (permitted_verdict negotiated verdict) ≡ true
given negotiated stage Skip is = by_bit (has negotiated (Some SKIP)) refl
  where
    by_bit : (b : Bool) → has negotiated (Some SKIP) ≡ b → is_given negotiated stage (if b then Skip else Continue) ≡ true
    by_bit true e = ap (λ (h : Bool). verdicts.given_at Skip stage && h) e ∙ and-true (verdicts.given_at Skip stage) ∙ is
    by_bit false e = refl
given negotiated stage Continue is = and-true (verdicts.given_at Continue stage) ∙ is
given negotiated stage Accept is = and-true (verdicts.given_at Accept stage) ∙ is
given negotiated stage Reject is = and-true (verdicts.given_at Reject stage) ∙ is
given negotiated stage Tempfail is = and-true (verdicts.given_at Tempfail stage) ∙ is
given negotiated stage Discard is = and-true (verdicts.given_at Discard stage) ∙ is
given negotiated stage (Code text) is = and-true (verdicts.given_at (Code text) stage) ∙ is

verdict_fits : (negotiated : Negotiated) (verdict : Verdict) → Fits (verdicts.reply_of verdict) → Fits (verdicts.reply_of (permitted_verdict negotiated verdict))
verdict_fits negotiated Skip fits = by_bit (has negotiated (Some SKIP))
  where
    by_bit : (b : Bool) → Fits (verdicts.reply_of (if b then Skip else Continue))
    by_bit true = fits
    by_bit false = record { fields = tt; payload = omega arith }
verdict_fits negotiated Continue fits = fits
verdict_fits negotiated Accept fits = fits
verdict_fits negotiated Reject fits = fits
verdict_fits negotiated Tempfail fits = fits
verdict_fits negotiated Discard fits = fits
verdict_fits negotiated (Code text) fits = fits

not_end : (stage : Stage) → is_end stage ≡ false → stage ≢ stages.Eob
not_end stage e at = true≢false (sym (ap is_end at) ∙ e)

pub permitted-received : (negotiated : Negotiated) (stage : Stage) (answer : Answer) → AnswerFits stage answer → IsReceived negotiated stage (permitted negotiated answer)
permitted-received negotiated stage answer fits =
    let bound = fits.weight in
    let less = lighter (is_permitted negotiated) answer.edits in
    record {
      at_end = λ other. ap (filter (is_permitted negotiated)) (fits.at_end (not_end stage other));
      permitted = all_kept (is_permitted negotiated) answer.edits;
      edits_fit = All-filter (is_permitted negotiated) (λ edit. Fits (edits.reply_of edit)) answer.edits fits.edits;
      weight = omega (arith, bound, less);
      given = given negotiated stage answer.verdict fits.given;
      verdict_fits = verdict_fits negotiated answer.verdict fits.verdict;
    }

-- ---- one reply

edit_if : (end permitted heavy : Bool) (is : Result Action MtaFault) → end ≡ true → permitted ≡ true → heavy ≡ false
    → (if not end then Err NotAtThisStage else if not permitted then Err EditNotNegotiated else if heavy then Err TooManyEdits else is) ≡ is
edit_if true true false is a b c = refl
edit_if false permitted heavy is a b c = absurd (true≢false (sym a))
edit_if true false heavy is a b c = absurd (true≢false (sym b))
edit_if true true true is a b c = absurd (true≢false c)

pub receives_edit : (negotiated : Negotiated) (stage : Stage) (weight : ℕ) (edit : Edit) → is_end stage ≡ true → is_permitted negotiated edit ≡ true
    → weight + weight_of edit ≤ WEIGHT_MAX → reply_received negotiated stage weight (edits.reply_of edit) ≡ Ok (received_as.Edit edit)
receives_edit negotiated stage weight edit end may light =
    ap (received_by negotiated stage weight) (asked_back edit)
    ∙ edit_if (is_end stage) (is_permitted negotiated edit) _ (Ok (received_as.Edit edit)) end may (le-ltb WEIGHT_MAX (weight + weight_of edit) light)

verdict_if : (verdict : Verdict) (b : Bool) → b ≡ true → (if b then Ok (received_as.Verdict verdict) else Err NotAtThisStage) ≡ Ok (received_as.Verdict verdict)
verdict_if verdict true e = refl
verdict_if verdict false e = absurd (true≢false (sym e))

pub receives_verdict : (negotiated : Negotiated) (stage : Stage) (weight : ℕ) (verdict : Verdict) → is_given negotiated stage verdict ≡ true
    → reply_received negotiated stage weight (verdicts.reply_of verdict) ≡ Ok (received_as.Verdict verdict)
receives_verdict negotiated stage weight Continue is = verdict_if Continue _ is
receives_verdict negotiated stage weight Accept is = verdict_if Accept _ is
receives_verdict negotiated stage weight Reject is = verdict_if Reject _ is
receives_verdict negotiated stage weight Tempfail is = verdict_if Tempfail _ is
receives_verdict negotiated stage weight Discard is = verdict_if Discard _ is
receives_verdict negotiated stage weight Skip is = verdict_if Skip _ is
receives_verdict negotiated stage weight (Code text) is = verdict_if (Code text) _ is
