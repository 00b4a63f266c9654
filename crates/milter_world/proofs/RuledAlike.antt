-- What a closed dialogue makes of a message is the same without what changes nothing.
use Rattle.std.proofs.Common.{◌≡◌, ◌≢◌, Bool, true, false, cond, ◌&&◌, List, [], ◌∷◌, ◌++◌, Option, None, Some, refl, sym, ap, ◌∙◌, subst, append-nil, if◌then◌else◌}
use Rattle.std.proofs.lemmas.Bool.{true≢false}
use Rattle.std.proofs.lemmas.List.Elements.{filter_map-append}
use Rattle.milter_fields.specs.declared.path.Path.{Path}
use Rattle.milter_wire.specs.declared.negotiation.Negotiated.{Negotiated}
use Rattle.milter_wire.specs.declared.command.Command.{Command}
use Rattle.milter_wire.specs.declared.stage.Stage.{Stage}
use Rattle.milter_wire.specs.declared.stage.Stage.TheVariants.{Connect, Helo, Mail, Rcpt, DataCmd, Header, Eoh, Body, Eob}
use Rattle.milter_wire.specs.declared.verdict.Verdict.{Verdict}
use Rattle.milter_wire.specs.Negotiation.{is_asked, is_asked_at, is_sent}
use Rattle.milter_wire.specs.Stages.{stage_of}
use Rattle.milter_message.specs.MailObject.{MailObject}
use Rattle.milter_protocol.specs.declared.answer.Answer.{Answer}
use Rattle.milter_protocol.specs.Dialogue.{is_closed}
use Rattle.milter_protocol.specs.Exchanges.{Exchange}
use Rattle.milter_protocol.specs.Verdicts.{is_refusal}
use Rattle.milter_mta_outcome.specs.ActedVerdicts.{kept, kept_recipients, rcpt_verdict, rcpt_verdicts}
use Rattle.milter_mta_outcome.specs.Dialogues.{acted, acted_at}
use Rattle.milter_world.proofs.Places.{place-at, sends}
use Rattle.milter_world.proofs.Thinned.{AreQuiet, IsQuiet, answer_kept, counts, is_plain, plain-fails, thin, thin-counted, thinned, thinned-sent, thinned-unsent, unasked-open, unsent-open}

module _ (negotiated : Negotiated) where
  -- ---- the exchange that closes a dialogue

  -- it is sent, and asked about
  record IsCounted (exchange : Exchange) : Type 0 where
    sent : sends negotiated exchange.command ≡ true
    asked : is_asked negotiated exchange.command ≡ true

  closing-counts : (last : Exchange) (before : List Exchange) (left : List Command) → IsQuiet negotiated last
      → is_closed (last ∷ before) left ≡ true → IsCounted last
  closing-counts last before left quiet closed =
      by_sent (sends negotiated last.command) (is_asked negotiated last.command) refl refl
    where
      by_sent : (sent asked : Bool) → sends negotiated last.command ≡ sent → is_asked negotiated last.command ≡ asked
          → IsCounted last
      by_sent false asked e f = absurd (true≢false (sym closed ∙ unsent-open negotiated last before left quiet e))
      by_sent true false e f = absurd (true≢false (sym closed ∙ unasked-open negotiated last before left quiet e f))
      by_sent true true e f = record { sent = e; asked = f }

  -- so it is the last one still
  pub last-alike : (last : Exchange) (before : List Exchange) (left : List Command) → IsQuiet negotiated last
      → is_closed (last ∷ before) left ≡ true → thinned negotiated (last ∷ before) ≡ last ∷ thinned negotiated before
  last-alike last before left quiet closed =
      let counted = closing-counts last before left quiet closed in
      thinned-sent negotiated last before counted.sent
      ∙ ap (λ (e : Exchange). e ∷ thinned negotiated before) (thin-counted negotiated last counted.asked)

  -- ---- the recipients that are kept

  -- no verdict on a recipient refuses it
  abbrev AreTaken : List Verdict → Type 0
  AreTaken [] = Unit {0}
  AreTaken (verdict ∷ verdicts) = (is_refusal verdict ≡ false) × AreTaken verdicts

  taken-append : (xs ys : List Verdict) → AreTaken xs → AreTaken ys → AreTaken (xs ++ ys)
  taken-append [] ys a b = b
  taken-append (x ∷ xs) ys a b = (a.0, taken-append xs ys a.1 b)

  taken-kept : (recipients : List Path) (verdicts : List Verdict) → AreTaken verdicts
      → kept_recipients recipients verdicts ≡ recipients
  taken-kept [] verdicts taken = refl
  taken-kept (recipient ∷ recipients) [] taken = refl
  taken-kept (recipient ∷ recipients) (verdict ∷ verdicts) taken =
      ap (λ (b : Bool). if b then kept_recipients recipients verdicts else recipient ∷ kept_recipients recipients
      verdicts) taken.0
      ∙ ap (λ (l : List Path). recipient ∷ l) (taken-kept recipients verdicts taken.1)

  -- the verdicts on recipients that one exchange adds
  abbrev added : Option Stage → Option Answer → List Exchange → List Verdict
  added at answer dialogue = rcpt_verdicts (acted_at at answer dialogue)

  verdicts-more : (last : Exchange) (before : List Exchange)
      → rcpt_verdicts (acted (last ∷ before)) ≡ rcpt_verdicts (acted before) ++ added
      (stage_of last.command) last.answer (last ∷ before)
  verdicts-more last before =
      filter_map-append rcpt_verdict (acted before) (acted_at (stage_of last.command) last.answer (last ∷ before))

  added-alike : (at : Option Stage) (answer : Option Answer) (one other : List Exchange)
      → added at answer one ≡ added at answer other
  added-alike None answer one other = refl
  added-alike (Some stage) None one other = refl
  added-alike (Some Rcpt) (Some answer) one other = refl
  added-alike (Some Connect) (Some answer) one other = refl
  added-alike (Some Helo) (Some answer) one other = refl
  added-alike (Some Mail) (Some answer) one other = refl
  added-alike (Some DataCmd) (Some answer) one other = refl
  added-alike (Some Header) (Some answer) one other = refl
  added-alike (Some Eoh) (Some answer) one other = refl
  added-alike (Some Body) (Some answer) one other = refl
  added-alike (Some Eob) (Some answer) one other = refl

  -- of other stages it adds none
  added-other : (at : Option Stage) (answer : Option Answer) (dialogue : List Exchange) → at ≢ Some Rcpt
      → added at answer dialogue ≡ []
  added-other None answer dialogue other = refl
  added-other (Some stage) None dialogue other = refl
  added-other (Some Rcpt) (Some answer) dialogue other = absurd (other refl)
  added-other (Some Connect) (Some answer) dialogue other = refl
  added-other (Some Helo) (Some answer) dialogue other = refl
  added-other (Some Mail) (Some answer) dialogue other = refl
  added-other (Some DataCmd) (Some answer) dialogue other = refl
  added-other (Some Header) (Some answer) dialogue other = refl
  added-other (Some Eoh) (Some answer) dialogue other = refl
  added-other (Some Body) (Some answer) dialogue other = refl
  added-other (Some Eob) (Some answer) dialogue other = refl

  added-plain : (at : Option Stage) (answer : Option Answer) (dialogue : List Exchange) → is_plain answer ≡ true
      → AreTaken (added at answer dialogue)
  added-plain None answer dialogue plain = tt
  added-plain (Some stage) None dialogue plain = tt
  added-plain (Some Rcpt) (Some answer) dialogue plain = (plain-fails is_refusal refl (Some answer) plain, tt)
  added-plain (Some Connect) (Some answer) dialogue plain = tt
  added-plain (Some Helo) (Some answer) dialogue plain = tt
  added-plain (Some Mail) (Some answer) dialogue plain = tt
  added-plain (Some DataCmd) (Some answer) dialogue plain = tt
  added-plain (Some Header) (Some answer) dialogue plain = tt
  added-plain (Some Eoh) (Some answer) dialogue plain = tt
  added-plain (Some Body) (Some answer) dialogue plain = tt
  added-plain (Some Eob) (Some answer) dialogue plain = tt

  -- whether a command of this stage counts
  abbrev counts_at : Option Stage → Bool
  counts_at None = false
  counts_at (Some stage) = is_sent negotiated stage && is_asked_at negotiated (Some stage)

  counts_by_stage : (command : Command) → counts negotiated command ≡ counts_at (stage_of command)
  counts_by_stage command = by_stage (stage_of command) refl
    where
      none : (sent : Bool) → (sent && false) ≡ false
      none true = refl
      none false = refl

      by_stage : (at : Option Stage) → stage_of command ≡ at → counts negotiated command ≡ counts_at (stage_of command)
      by_stage None e =
          ap (λ (s : Option Stage). sends negotiated command && is_asked_at negotiated s) e
          ∙ none (sends negotiated command) ∙ sym (ap counts_at e)
      by_stage (Some stage) e =
          ap (λ (s : Option Stage). sends negotiated command && is_asked_at negotiated s) e
          ∙ ap (λ (s : Stage). is_sent negotiated s && is_asked_at negotiated (Some stage)) (place-at command stage e)
          ∙ sym (ap counts_at e)

  module _ (rcpts : counts_at (Some Rcpt) ≡ true) where
    -- where recipients are sent and asked about, the verdicts on them are the same
    uncounted-none : (last : Exchange) (dialogue : List Exchange) (answer : Option Answer)
        → counts negotiated last.command ≡ false
        → added (stage_of last.command) answer dialogue ≡ []
    uncounted-none last dialogue answer e =
        added-other (stage_of last.command) answer dialogue
        (λ at. true≢false (sym rcpts ∙ sym (ap counts_at at) ∙ sym (counts_by_stage last.command) ∙ e))

    verdicts-alike : (dialogue : List Exchange)
        → rcpt_verdicts (acted (thinned negotiated dialogue)) ≡ rcpt_verdicts (acted dialogue)
    verdicts-alike [] = refl
    verdicts-alike (last ∷ before) =
        by_sent (sends negotiated last.command) (is_asked negotiated last.command) refl refl (verdicts-alike before)
        ∙ sym (verdicts-more last before)
      where
        by_sent : (sent asked : Bool) → sends negotiated last.command ≡ sent → is_asked negotiated last.command ≡ asked
            → rcpt_verdicts (acted (thinned negotiated before)) ≡ rcpt_verdicts (acted before)
            → rcpt_verdicts (acted (thinned negotiated (last ∷ before)))
            ≡ rcpt_verdicts (acted before) ++ added (stage_of last.command) last.answer (last ∷ before)
        by_sent false asked e f rest =
            ap (λ (d : List Exchange). rcpt_verdicts (acted d)) (thinned-unsent negotiated last before e)
            ∙ rest
            ∙ sym (append-nil (rcpt_verdicts (acted before)))
            ∙ ap (λ (l : List Verdict). rcpt_verdicts (acted before) ++ l)
            (sym (uncounted-none last (last ∷ before) last.answer
            (ap (λ (b : Bool). b && is_asked negotiated last.command) e)))
        by_sent true true e f rest =
            ap (λ (d : List Exchange). rcpt_verdicts (acted d))
            (thinned-sent negotiated last before e ∙ ap (λ (x : Exchange). x ∷ thinned negotiated before)
            (thin-counted negotiated last f))
            ∙ verdicts-more last (thinned negotiated before)
            ∙ ap (λ (l : List Verdict). l ++ added (stage_of last.command) last.answer
            (last ∷ thinned negotiated before)) rest
            ∙ ap (λ (l : List Verdict). rcpt_verdicts (acted before) ++ l)
            (added-alike (stage_of last.command) last.answer (last ∷ thinned negotiated before) (last ∷ before))
        by_sent true false e f rest =
            let uncounted : counts negotiated last.command ≡ false =
            ap (λ (b : Bool). b && is_asked negotiated last.command) e ∙ f in
            ap (λ (d : List Exchange). rcpt_verdicts (acted d)) (thinned-sent negotiated last before e)
            ∙ verdicts-more (thin negotiated last) (thinned negotiated before)
            ∙ ap (λ (l : List Verdict). l ++ added (stage_of last.command) (thin negotiated last).answer
            (thin negotiated last ∷ thinned negotiated before)) rest
            ∙ ap (λ (l : List Verdict). rcpt_verdicts (acted before) ++ l)
            (uncounted-none last (thin negotiated last ∷ thinned negotiated before)
            (thin negotiated last).answer uncounted
            ∙ sym (uncounted-none last (last ∷ before) last.answer uncounted))

  module _ (rcpts : counts_at (Some Rcpt) ≡ false) where
    -- else no verdict refuses one
    rcpt-plain : (last : Exchange) (dialogue : List Exchange) → IsQuiet negotiated last
        → AreTaken (added (stage_of last.command) last.answer dialogue)
    rcpt-plain last dialogue quiet = by_counts (counts negotiated last.command) refl
      where
        by_counts : (c : Bool) → counts negotiated last.command ≡ c
            → AreTaken (added (stage_of last.command) last.answer dialogue)
        by_counts false e = added-plain (stage_of last.command) last.answer dialogue (quiet e)
        by_counts true e =
            subst AreTaken (sym (added-other (stage_of last.command) last.answer dialogue
            (λ at. true≢false (sym e ∙ counts_by_stage last.command ∙ ap counts_at at ∙ rcpts)))) tt

    all-taken : (dialogue : List Exchange) → AreQuiet negotiated dialogue → AreTaken (rcpt_verdicts (acted dialogue))
    all-taken [] quiet = tt
    all-taken (last ∷ before) quiet =
        subst AreTaken (sym (verdicts-more last before))
        (taken-append (rcpt_verdicts (acted before)) _ (all-taken before quiet.1)
        (rcpt-plain last (last ∷ before) quiet.0))

    thin-quiet : (exchange : Exchange) → IsQuiet negotiated exchange → IsQuiet negotiated (thin negotiated exchange)
    thin-quiet exchange quiet none = by_asked (is_asked negotiated exchange.command)
      where
        by_asked : (asked : Bool) → is_plain (answer_kept negotiated asked exchange.answer) ≡ true
        by_asked true = quiet none
        by_asked false = refl

    thinned-quiet : (dialogue : List Exchange) → AreQuiet negotiated dialogue
        → AreQuiet negotiated (thinned negotiated dialogue)
    thinned-quiet [] quiet = tt
    thinned-quiet (last ∷ before) quiet = by_sent (sends negotiated last.command) (thinned-quiet before quiet.1)
      where
        by_sent : (sent : Bool) → AreQuiet negotiated (thinned negotiated before)
            → AreQuiet negotiated (cond sent (thin negotiated last ∷ thinned negotiated before)
            (thinned negotiated before))
        by_sent true rest = (thin-quiet last quiet.0, rest)
        by_sent false rest = rest

  pub kept-alike : (message : MailObject) (dialogue : List Exchange) → AreQuiet negotiated dialogue
      → kept message (acted (thinned negotiated dialogue)) ≡ kept message (acted dialogue)
  kept-alike message dialogue quiet =
      ap (λ (l : List Path). record message { recipients = l }) (by_counts (counts_at (Some Rcpt)) refl)
    where
      by_counts : (c : Bool) → counts_at (Some Rcpt) ≡ c
          → kept_recipients message.recipients (rcpt_verdicts (acted (thinned negotiated dialogue)))
          ≡ kept_recipients message.recipients (rcpt_verdicts (acted dialogue))
      by_counts true e = ap (kept_recipients message.recipients) (verdicts-alike e dialogue)
      by_counts false e =
          taken-kept message.recipients (rcpt_verdicts (acted (thinned negotiated dialogue)))
          (all-taken e (thinned negotiated dialogue) (thinned-quiet e dialogue quiet))
          ∙ sym (taken-kept message.recipients (rcpt_verdicts (acted dialogue)) (all-taken e dialogue quiet))
