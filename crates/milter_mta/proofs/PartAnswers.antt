-- A part of an answer is received: some of its edits, and bytes of the next reply.
use Rattle.std.proofs.Common.{◌≡◌, ◌≢◌, ◌≤◌, ◌+◌, ℕ, Bool, true, false, List, [], ◌∷◌, ◌++◌, All, map, Some, refl, sym, ap, ◌∙◌, subst, arith, append-nil, append_assoc}
use Rattle.std.specs.List.{fold, flat_map}
use Rattle.std.proofs.lemmas.Bool.{true≢false}
use Rattle.std.proofs.lemmas.List.Elements.{All-head, All-tail}
use Rattle.std.proofs.lemmas.List.Sums.{fold-append, sum_by-append, sum_by-cons}
use Rattle.milter_wire.specs.declared.negotiation.Negotiated.{Negotiated}
use Rattle.milter_wire.specs.declared.command.Command.{Command}
use Rattle.milter_wire.specs.declared.reply.Reply.{Reply}
use Rattle.milter_wire.specs.declared.stage.Stage.{Stage}
use Rattle.milter_wire.specs.declared.verdict.Verdict.{Verdict}
use Rattle.milter_wire.specs.Reply.{Fits, encoding}
use Rattle.milter_wire.specs.Verdicts as verdicts
use Rattle.milter_message.specs.declared.edit.Edit.{Edit}
use Rattle.milter_message.specs.declared.message.TheConstants.{WEIGHT_MAX}
use Rattle.milter_message.specs.EditReplies as edits
use Rattle.milter_message.specs.EditReplies.{weight_of}
use Rattle.milter_protocol.specs.declared.answer.Action.TheVariants as received_as
use Rattle.milter_protocol.specs.Permitted.{is_permitted}
use Rattle.milter_protocol.proofs.Lists.{same-head, same-tail}
use Rattle.milter_mta_outcome.specs.declared.acted_verdicts.Acted.{Acted}
use Rattle.milter_mta_outcome.specs.ReceivedReplies.{is_end}
use Rattle.milter_mta_outcome.specs.EditWeights.{weight_of_all}
use Rattle.milter_mta_outcome.specs.Transactions.{stage_first}
use Rattle.milter_mta.specs.Mta.{FilterConnection, Mta, at_packet}
use Rattle.milter_mta.specs.Mta.Position.{Sending}
use Rattle.milter_mta.specs.Replies.{After, at, goes_on, received, received_byte}
use Rattle.milter_mta.specs.PartAnswers.{IsPartReceived}
use Rattle.milter_mta_outcome.proofs.ReceivedAnswers.{receives_edit}
use Rattle.milter_mta.proofs.Answers.{ReceivesReplies, one, owed_at}

-- ---- bytes that begin others

-- bytes of two parts begin with less than the first part, or with that and bytes of the second
pub data Cut (bytes rest first second : List ℕ) : Type 0 where
  Inside : (byte : ℕ) (more : List ℕ) → bytes ++ byte ∷ more ≡ first → Cut bytes rest first second
  Beyond : (more : List ℕ) → bytes ≡ first ++ more → more ++ rest ≡ second → Cut bytes rest first second

cut : (bytes rest first second : List ℕ) → bytes ++ rest ≡ first ++ second → Cut bytes rest first second
cut [] rest [] second e = Beyond [] refl e
cut [] rest (x ∷ first) second e = Inside x first refl
cut (byte ∷ bytes) rest [] second e = Beyond (byte ∷ bytes) refl e
cut (byte ∷ bytes) rest (x ∷ first) second e = longer (cut bytes rest first second (same-tail byte x (bytes ++ rest) (first ++ second) e))
  where
    head : byte ≡ x
    head = same-head byte x (bytes ++ rest) (first ++ second) e

    longer : Cut bytes rest first second → Cut (byte ∷ bytes) rest (x ∷ first) second
    longer (Inside y more is) = Inside y more (ap (λ (l : List ℕ). byte ∷ l) is ∙ ap (λ (b : ℕ). b ∷ first) head)
    longer (Beyond more is others) = Beyond more (ap (λ (l : List ℕ). byte ∷ l) is ∙ ap (λ (b : ℕ). b ∷ (first ++ more)) head) others

-- ---- what is received of a part

abbrev pub KeepsPrefixes : Type 0
KeepsPrefixes = (m : Mta) (filter_connection : FilterConnection) (reply : Reply) (bytes more : List ℕ) → filter_connection.owed ≡ true → filter_connection.unread ≡ [] → Fits reply → more ≢ []
    → bytes ++ more ≡ encoding reply → received (at filter_connection m) bytes ≡ goes_on (at (record filter_connection { unread = bytes }) m)

module _ (receives_bytes : ReceivesReplies) (keeps : KeepsPrefixes) (negotiated : Negotiated) (stage : Stage) (acted : List Acted) (left : List Command) (m : Mta)
    (some : m.session.messages ≢ []) (first : stage_first left ≡ Some stage) where
  inside : (so_far more : List Edit) (reply : Reply) (bytes : List ℕ) (byte : ℕ) (rest : List ℕ) → Fits reply → bytes ++ byte ∷ rest ≡ encoding reply
      → IsPartReceived negotiated acted left m so_far more bytes (received (owed_at (Sending negotiated acted so_far left) m) bytes)
  inside so_far more reply bytes byte rest fits e =
      record {
        came = [];
        others = more;
        unread = bytes;
        edits_are = refl;
        bytes_are = refl;
        received_is =
            keeps m (record (at_packet (Sending negotiated acted so_far left)) { owed = true }) reply bytes (byte ∷ rest) refl refl fits (λ none. absurd cc) e
            ∙ ap (λ (es : List Edit). goes_on (at (record (at_packet (Sending negotiated acted es left)) { owed = true; unread = bytes }) m)) (sym (append-nil so_far));
      }

  -- an edit more, and then a part
  with_edit : (so_far more : List Edit) (edit : Edit) (bytes tail : List ℕ) (after : After) → bytes ≡ encoding (edits.reply_of edit) ++ tail
      → IsPartReceived negotiated acted left m (so_far ++ edit ∷ []) more tail after → IsPartReceived negotiated acted left m so_far (edit ∷ more) bytes after
  with_edit so_far more edit bytes tail after e is =
      record {
        came = edit ∷ is.came;
        others = is.others;
        unread = is.unread;
        edits_are = ap (λ (es : List Edit). edit ∷ es) is.edits_are;
        bytes_are =
            e ∙ ap (λ (l : List ℕ). encoding (edits.reply_of edit) ++ l) is.bytes_are
            ∙ sym (append_assoc (encoding (edits.reply_of edit)) (flat_map encoding (map edits.reply_of is.came)) is.unread);
        received_is =
            is.received_is
            ∙ ap (λ (es : List Edit). goes_on (at (record (at_packet (Sending negotiated acted es left)) { owed = true; unread = is.unread }) m)) (append_assoc so_far (edit ∷ []) is.came);
      }

  pub part-received : (more so_far : List Edit) (verdict : Verdict) → (is_end stage ≡ false → more ≡ [])
      → All (λ edit. is_permitted negotiated edit ≡ true) more → All (λ edit. Fits (edits.reply_of edit)) more
      → weight_of_all so_far + weight_of_all more ≤ WEIGHT_MAX → Fits (verdicts.reply_of verdict)
      → (bytes rest : List ℕ) → rest ≢ [] → bytes ++ rest ≡ flat_map encoding (map edits.reply_of more ++ verdicts.reply_of verdict ∷ [])
      → IsPartReceived negotiated acted left m so_far more bytes (received (owed_at (Sending negotiated acted so_far left) m) bytes)
  part-received [] so_far verdict end may fit light verdict_fits bytes rest remains e = by_cut (cut bytes rest (encoding (verdicts.reply_of verdict)) [] e)
    where
      none_left : (more : List ℕ) → more ++ rest ≡ [] → rest ≡ []
      none_left [] e = e
      none_left (x ∷ more) e = absurd cc

      by_cut : Cut bytes rest (encoding (verdicts.reply_of verdict)) [] → IsPartReceived negotiated acted left m so_far [] bytes (received (owed_at (Sending negotiated acted so_far left) m) bytes)
      by_cut (Inside byte more is) = inside so_far [] (verdicts.reply_of verdict) bytes byte more verdict_fits is
      by_cut (Beyond more is others) = absurd (remains (none_left more others))
  part-received (edit ∷ more) so_far verdict end may fit light verdict_fits bytes rest remains e =
      let sum = sum_by-cons weight_of edit more in
      let longer = sum_by-append weight_of so_far (edit ∷ []) in
      let single = sum_by-cons weight_of edit [] in
      let at_end = is_end_here (is_end stage) refl end in
      let fits = All-head (λ e. Fits (edits.reply_of e)) edit more fit in
      let receives_it = one receives_bytes negotiated stage acted left m some first so_far (edits.reply_of edit) (received_as.Edit edit) fits
      (receives_edit negotiated stage (weight_of_all so_far) edit at_end (All-head (λ e. is_permitted negotiated e ≡ true) edit more may) (omega (arith, sum, light))) in
      by_cut (cut bytes rest (encoding (edits.reply_of edit)) (flat_map encoding (map edits.reply_of more ++ verdicts.reply_of verdict ∷ [])) e) fits receives_it
      (part-received more (so_far ++ edit ∷ []) verdict (λ other. absurd (true≢false (sym at_end ∙ other)))
      (All-tail (λ e. is_permitted negotiated e ≡ true) edit more may) (All-tail (λ e. Fits (edits.reply_of e)) edit more fit)
      (omega (arith, sum, longer, single, light)) verdict_fits)
    where
      is_end_here : (b : Bool) → is_end stage ≡ b → (is_end stage ≡ false → edit ∷ more ≡ []) → is_end stage ≡ true
      is_end_here true e none = e
      is_end_here false e none = let no : edit ∷ more ≡ [] = none e in absurd cc

      by_cut : Cut bytes rest (encoding (edits.reply_of edit)) (flat_map encoding (map edits.reply_of more ++ verdicts.reply_of verdict ∷ []))
          → Fits (edits.reply_of edit)
          → received (owed_at (Sending negotiated acted so_far left) m) (encoding (edits.reply_of edit)) ≡ goes_on (owed_at (Sending negotiated acted (so_far ++ edit ∷ []) left) m)
          → ((bytes rest : List ℕ) → rest ≢ [] → bytes ++ rest ≡ flat_map encoding (map edits.reply_of more ++ verdicts.reply_of verdict ∷ [])
          → IsPartReceived negotiated acted left m (so_far ++ edit ∷ []) more bytes (received (owed_at (Sending negotiated acted (so_far ++ edit ∷ []) left) m) bytes))
          → IsPartReceived negotiated acted left m so_far (edit ∷ more) bytes (received (owed_at (Sending negotiated acted so_far left) m) bytes)
      by_cut (Inside byte tail is) fits receives_it rest_received = inside so_far (edit ∷ more) (edits.reply_of edit) bytes byte tail fits is
      by_cut (Beyond tail is others) fits receives_it rest_received =
          let goes : received (owed_at (Sending negotiated acted so_far left) m) bytes ≡ received (owed_at (Sending negotiated acted (so_far ++ edit ∷ []) left) m) tail =
          ap (received (owed_at (Sending negotiated acted so_far left) m)) is
          ∙ fold-append received_byte (goes_on (owed_at (Sending negotiated acted so_far left) m)) (encoding (edits.reply_of edit)) tail
          ∙ ap (λ (a : After). fold received_byte a tail) receives_it in
          subst (IsPartReceived negotiated acted left m so_far (edit ∷ more) bytes) (sym goes)
          (with_edit so_far more edit bytes tail (received (owed_at (Sending negotiated acted (so_far ++ edit ∷ []) left) m) tail) is (rest_received tail rest remains others))
