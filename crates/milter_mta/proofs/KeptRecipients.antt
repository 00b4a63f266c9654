-- What is kept of a message by no verdict, and by a verdict at its end.
use Rattle.std.proofs.Common.{◌≡◌, List, [], ◌∷◌, ◌++◌, refl, ap, ◌∙◌}
use Rattle.std.proofs.lemmas.List.{append-nil}
use Rattle.std.proofs.lemmas.List.Elements.{filter_map-append}
use Rattle.milter_fields.specs.declared.path.Path.{Path}
use Rattle.milter_message.specs.MailObject.{MailObject}
use Rattle.milter_wire.specs.declared.verdict.Verdict.{Verdict}
use Rattle.milter_wire.specs.declared.stage.Stage.TheVariants.{Eob}
use Rattle.milter_mta_outcome.specs.declared.acted_verdicts.Acted.{Acted}
use Rattle.milter_mta_outcome.specs.ActedVerdicts.{kept, kept_recipients, rcpt_verdict, rcpt_verdicts}

all_kept : (recipients : List Path) → kept_recipients recipients [] ≡ recipients
all_kept [] = refl
all_kept (recipient ∷ recipients) = refl

pub kept_none : (message : MailObject) → kept message [] ≡ message
kept_none message = ap (λ (r : List Path). record message { recipients = r }) (all_kept message.recipients)

-- a verdict at the end of the message is on no recipient
pub kept_end : (message : MailObject) (before : List Acted) (last : Acted) → last.stage ≡ Eob → kept message (before ++ last ∷ []) ≡ kept message before
kept_end message before last e =
    let none : rcpt_verdicts (last ∷ []) ≡ [] = rw e refl in
    let same : rcpt_verdicts (before ++ last ∷ []) ≡ rcpt_verdicts before =
    filter_map-append rcpt_verdict before (last ∷ [])
    ∙ ap (λ (v : List Verdict). rcpt_verdicts before ++ v) none
    ∙ append-nil (rcpt_verdicts before) in
    ap (λ (v : List Verdict). record message { recipients = kept_recipients message.recipients v }) same
