-- How long the lines of a session are.
use Rattle.std.proofs.Common.{◌≡◌, ℕ, ◌+◌, ◌*◌, ◌≤◌, ◌<◌, ◌^◌, Bool, true, false, cond, if◌then◌else◌, List, [], ◌∷◌, ◌++◌, length, map, Option, None, Some, refl, ◌∙◌, ap, arith, append-nil, length-append, All}
use Rattle.std.specs.List.{filter, flat_map, sum_by}
use Rattle.std.proofs.lemmas.List.Concat.{flat_map-append, flat_map-cons}
use Rattle.std.proofs.lemmas.List.Elements.{All-head, All-tail}
use Rattle.std.proofs.lemmas.List.Sums.{sum_by-cons}
use Rattle.milter_fields.specs.Number.{number}
use Rattle.milter_wire.specs.declared.negotiation.Negotiated.{Negotiated}
use Rattle.milter_wire.specs.declared.command.Command.{Command}
use Rattle.milter_wire.specs.declared.command.Command.TheVariants as commands
use Rattle.milter_wire.specs.declared.reply.Reply.{Reply}
use Rattle.milter_wire.specs.declared.stage.Stage.{Stage}
use Rattle.milter_wire.specs.declared.verdict.Verdict.{Verdict}
use Rattle.milter_wire.specs.declared.verdict.Verdict.TheVariants.{Skip}
use Rattle.milter_wire.specs.declared.options.Options.{Options}
use Rattle.milter_wire.specs.declared.options.TheConstants.Protocol.{SKIP}
use Rattle.milter_wire.specs.Negotiation.{negotiate, has, has_leading_space, is_asked}
use Rattle.milter_wire.specs.Command as sent_to
use Rattle.milter_wire.specs.Command.{bytes_of}
use Rattle.milter_wire.specs.Reply.{Fits, encoding, payload_of, code_of}
use Rattle.milter_wire.specs.Stages.{stage_of}
use Rattle.milter_wire.specs.Verdicts as verdicts
use Rattle.milter_message.specs.declared.edit.Edit.{Edit}
use Rattle.milter_message.specs.declared.message.TheConstants.{WEIGHT_MAX}
use Rattle.milter_message.specs.EditReplies as edits
use Rattle.milter_message.specs.EditReplies.{weight_of}
use Rattle.milter_message.specs.MailObject.{MailObject}
use Rattle.milter_mail.specs.MailSession.{IsSendable, IsSession, MailSession}
use Rattle.milter_mail.specs.Plan.{macros_of, opening, plan}
use Rattle.milter_mail.specs.Steps.{message_steps}
use Rattle.milter_mail.proofs.MailLaws.{plan_fits, plan_weight}
use Rattle.milter_protocol.specs.Behavior.{Behavior, answer_to, exchange_of}
use Rattle.milter_protocol.specs.Exchanges.{Exchange, commands_of, onto}
use Rattle.milter_protocol.specs.Lawful.{IsLawful}
use Rattle.milter_protocol.specs.Permitted.{is_permitted, permitted_verdict}
use Rattle.milter_protocol.specs.Replies.{options_reply}
use Rattle.milter_protocol.specs.Seen.{Seen, seen}
use Rattle.milter_protocol.specs.Dialogue.{is_closed, is_left_out, dialogue_with}
use Rattle.milter_mta.specs.Lines.{Line, abort_line, answer_bytes, line_of, quit_line}
use Rattle.milter_mta.specs.Sessions.{lines_after, lines_from, session_lines}
use Rattle.milter_mta.specs.Settled.{ends_with_client, ends_with_message}
use Rattle.milter_mta.specs.Dialogues.{opening_of}
use Rattle.milter_world.specs.ByteCounts.{to_filter, to_mta}

abbrev pub Each : {A : Type 0} → (A → Type 0) → List A → Type 0
Each P [] = Unit {0}
Each P (x ∷ xs) = P x × Each P xs

-- a line of bounded length
pub record IsShort (line : Line) : Type 0 where
  pub out : length line.out ≤ 65540
  pub back : length line.back ≤ 33554432

number-length : (n : ℕ) → length (number n) ≡ 4
unfolding number
number-length n = refl

command-length : (c : Command) → sent_to.Fits c → length (sent_to.encoding c) ≤ 65540
command-length c fits =
    let a = length-append (number (length (sent_to.payload_of c) + 1)) (sent_to.code_of c ∷ sent_to.payload_of c) in
    let p = fits.payload in
    let n = number-length (length (sent_to.payload_of c) + 1) in
    omega arith

reply-length : (r : Reply) → Fits r → length (encoding r) ≤ 65540
reply-length r fits =
    let a = length-append (number (length (payload_of r) + 1)) (code_of r ∷ payload_of r) in
    let p = fits.payload in
    let n = number-length (length (payload_of r) + 1) in
    omega arith

some-command : (c : Command) → 1 ≤ length (sent_to.encoding c)
some-command c = let a = length-append (number (length (sent_to.payload_of c) + 1)) (sent_to.code_of c ∷ sent_to.payload_of c) in omega arith

-- ---- answers

edits-length : (negotiated : Negotiated) (es : List Edit) → length (flat_map encoding (map edits.reply_of (filter (is_permitted negotiated) es))) ≤ sum_by weight_of es
edits-length negotiated [] = omega arith
edits-length negotiated (e ∷ es) = by_permitted (is_permitted negotiated e) (edits-length negotiated es)
  where
    by_permitted : (k : Bool) → length (flat_map encoding (map edits.reply_of (filter (is_permitted negotiated) es))) ≤ sum_by weight_of es
        → length (flat_map encoding (map edits.reply_of (cond k (e ∷ filter (is_permitted negotiated) es) (filter (is_permitted negotiated) es)))) ≤ sum_by weight_of (e ∷ es)
    by_permitted true rest =
        let s = sum_by-cons weight_of e es in
        let f = ap length (flat_map-cons encoding (edits.reply_of e) (map edits.reply_of (filter (is_permitted negotiated) es))) in
        let a = length-append (encoding (edits.reply_of e)) (flat_map encoding (map edits.reply_of (filter (is_permitted negotiated) es))) in
        omega arith
    by_permitted false rest = let s = sum_by-cons weight_of e es in omega arith

verdict-length : (negotiated : Negotiated) (v : Verdict) → Fits (verdicts.reply_of v) → length (encoding (verdicts.reply_of (permitted_verdict negotiated v))) ≤ 65540
verdict-length negotiated Skip fits = by_skip (has negotiated (Some SKIP))
  where
    by_skip : (k : Bool) → length (encoding (verdicts.reply_of (if k then Skip else Verdict.Continue))) ≤ 65540
    by_skip true = reply-length (verdicts.reply_of Skip) fits
    by_skip false = reply-length (verdicts.reply_of Verdict.Continue) (record { fields = tt; payload = omega arith })
verdict-length negotiated other fits = reply-length (verdicts.reply_of other) fits

module _ (b : Behavior) (lawful : IsLawful b) (negotiated : Negotiated) where
  answer-length : (stage : Option Stage) (asked : Bool) (shown : Seen) → length (answer_bytes (answer_to b negotiated stage asked shown)) ≤ 33554432
  answer-length None asked shown = omega arith
  answer-length (Some stage) false shown = omega arith
  answer-length (Some stage) true shown =
      let answer = b.decide stage shown in
      let fit = lawful.answers stage shown in
      let es = map edits.reply_of (filter (is_permitted negotiated) answer.edits) in
      let v = verdicts.reply_of (permitted_verdict negotiated answer.verdict) in
      let f = ap length (flat_map-append encoding es (v ∷ [])) in
      let a = length-append (flat_map encoding es) (flat_map encoding (v ∷ [])) in
      let o = ap length (flat_map-cons encoding v [] ∙ append-nil (encoding v)) in
      let e = edits-length negotiated answer.edits in
      let w = fit.weight in
      let l = verdict-length negotiated answer.verdict fit.verdict in
      omega arith

  exchange-short : (dialogue : List Exchange) (c : Command) → sent_to.Fits c → IsShort (line_of (exchange_of b negotiated (commands_of dialogue) c))
  exchange-short dialogue c fits =
      record {
        out = command-length c fits;
        back = answer-length (stage_of c) (is_asked negotiated c) (seen (has_leading_space negotiated) (c ∷ commands_of dialogue));
      }

  -- ---- dialogues

  pub record Shorts (lines : List Line) (count : ℕ) : Type 0 where
    pub each : Each IsShort lines
    pub few : length lines ≤ count

  dialogue_with-short : (left : List Command) (dialogue : List Exchange) → Each sent_to.Fits left → Shorts (map line_of (dialogue_with b negotiated dialogue left)) (length left)
  unfolding dialogue_with
  dialogue_with-short [] dialogue fits = record { each = tt; few = omega arith }
  dialogue_with-short (c ∷ left) dialogue fits = by_out (is_left_out dialogue c) (λ w. dialogue_with-short left w fits.1)
    where
      by_closed : (closed : Bool) → ((w : List Exchange) → Shorts (map line_of (dialogue_with b negotiated w left)) (length left))
          → Shorts (map line_of (exchange_of b negotiated (commands_of dialogue) c ∷ (if closed then [] else dialogue_with b negotiated (exchange_of b negotiated (commands_of dialogue) c ∷ dialogue) left))) (length (c ∷ left))
      by_closed true rest = record { each = (exchange-short dialogue c fits.0, tt); few = omega arith }
      by_closed false rest =
          let r = rest (exchange_of b negotiated (commands_of dialogue) c ∷ dialogue) in
          record { each = (exchange-short dialogue c fits.0, r.each); few = let f = r.few in omega arith }

      by_out : (out : Bool) → ((w : List Exchange) → Shorts (map line_of (dialogue_with b negotiated w left)) (length left))
          → Shorts (map line_of (if out then dialogue_with b negotiated dialogue left else exchange_of b negotiated (commands_of dialogue) c ∷ (if is_closed (exchange_of b negotiated (commands_of dialogue) c ∷ dialogue) left then [] else dialogue_with b negotiated (exchange_of b negotiated (commands_of dialogue) c ∷ dialogue) left))) (length (c ∷ left))
      by_out true rest = let r = rest dialogue in record { each = r.each; few = let f = r.few in omega arith }
      by_out false rest = by_closed (is_closed (exchange_of b negotiated (commands_of dialogue) c ∷ dialogue) left) rest

  shorts-append : (xs ys : List Line) (n k : ℕ) → Shorts xs n → Shorts ys k → Shorts (xs ++ ys) (n + k)
  shorts-append xs ys n k a c = record { each = both xs a.each; few = let l = length-append xs ys in let f = a.few in let g = c.few in omega arith }
    where
      both : (xs : List Line) → Each IsShort xs → Each IsShort (xs ++ ys)
      both [] e = c.each
      both (x ∷ xs) e = (e.0, both xs e.1)

  bare : (c : Command) → sent_to.Fits c → IsShort (record { out = sent_to.encoding c; back = [] })
  bare c fits = record { out = command-length c fits; back = omega arith }

  quit-fits : sent_to.Fits commands.Quit
  quit-fits = record { fields = tt; payload = omega arith }

  abort-fits : sent_to.Fits commands.Abort
  abort-fits = record { fields = tt; payload = omega arith }

  after-short : (w : List Exchange) (next : List Line) (n : ℕ) → Shorts next n → Shorts (lines_after w next) (n + 1)
  after-short w next n s = by_client (ends_with_client w) (ends_with_message w)
    where
      by_client : (client over : Bool) → Shorts (if client then quit_line ∷ [] else (if over then next else abort_line ∷ next)) (n + 1)
      by_client true over = record { each = (bare commands.Quit quit-fits, tt); few = omega arith }
      by_client false true = record { each = s.each; few = let f = s.few in omega arith }
      by_client false false = record { each = (bare commands.Abort abort-fits, s.each); few = let f = s.few in omega arith }

  count-bytes : (left : List Command) → length left ≤ bytes_of left
  count-bytes [] = omega arith
  count-bytes (c ∷ left) =
      let s = sum_by-cons (λ command. length (sent_to.encoding command)) c left in
      let r = count-bytes left in let o = some-command c in omega arith

  module _ (s : MailSession) (is : IsSession s) where
    plan-short : (m : MailObject) → IsSendable s.client s.helo s.macros m → length (plan negotiated s m) ≤ WEIGHT_MAX
    plan-short m good = let c = count-bytes (plan negotiated s m) in let w = plan_weight negotiated s m in let f = good.weight_fits in omega arith

    steps-short : (m : MailObject) → IsSendable s.client s.helo s.macros m → length (message_steps negotiated (macros_of negotiated s) m) ≤ WEIGHT_MAX
    steps-short m good = let p = plan-short m good in let l = length-append (opening negotiated s) (message_steps negotiated (macros_of negotiated s) m) in omega arith

    plan-fits : (m : MailObject) → IsSendable s.client s.helo s.macros m → Each sent_to.Fits (plan negotiated s m)
    plan-fits m good = each-of (plan negotiated s m) (plan_fits negotiated s m is.client_fits is.helo_fits is.macros_fit good)
      where
        each-of : (xs : List Command) → All sent_to.Fits xs → Each sent_to.Fits xs
        each-of [] all = tt
        each-of (x ∷ xs) all = (All-head sent_to.Fits x xs all, each-of xs (All-tail sent_to.Fits x xs all))

    steps-fits : (m : MailObject) → IsSendable s.client s.helo s.macros m → Each sent_to.Fits (message_steps negotiated (macros_of negotiated s) m)
    steps-fits m good = last-of (opening negotiated s) (plan-fits m good)
      where
        last-of : (xs : List Command) → Each sent_to.Fits (xs ++ message_steps negotiated (macros_of negotiated s) m) → Each sent_to.Fits (message_steps negotiated (macros_of negotiated s) m)
        last-of [] e = e
        last-of (x ∷ xs) e = last-of xs e.1

    pub from-short : (messages : List MailObject) → Each (IsSendable s.client s.helo s.macros) messages → (dialogue : List Exchange) (left : List Command)
        → Each sent_to.Fits left → length left ≤ WEIGHT_MAX → Shorts (lines_from b negotiated s messages dialogue left) (16777218 * (length messages + 1))
    from-short [] good dialogue left fits few =
        let t = dialogue_with-short left dialogue fits in
        let r = shorts-append (map line_of (dialogue_with b negotiated dialogue left)) _ (length left) 2 t
        (after-short (onto (dialogue_with b negotiated dialogue left) dialogue) (quit_line ∷ []) 1 (record { each = (bare commands.Quit quit-fits, tt); few = omega arith })) in
        record { each = r.each; few = let f = r.few in omega arith }
    from-short (m ∷ messages) good dialogue left fits few =
        let t = dialogue_with-short left dialogue fits in
        let w = onto (dialogue_with b negotiated dialogue left) dialogue in
        let rest = from-short messages good.1 (opening_of w) (message_steps negotiated (macros_of negotiated s) m) (steps-fits m good.0) (steps-short m good.0) in
        let r = shorts-append (map line_of (dialogue_with b negotiated dialogue left)) _ (length left) (16777218 * (length messages + 1) + 1) t
        (after-short w (lines_from b negotiated s messages (opening_of w) (message_steps negotiated (macros_of negotiated s) m)) (16777218 * (length messages + 1)) rest) in
        record { each = r.each; few = let f = r.few in omega arith }

-- ---- in all

out-length : (lines : List Line) → Each IsShort lines → length (to_filter lines) ≤ 65540 * length lines
out-length [] e = omega arith
out-length (line ∷ lines) e =
    let f = ap length (flat_map-cons (λ (l : Line). l.out) line lines) in
    let a = length-append line.out (to_filter lines) in
    let r = out-length lines e.1 in let o = e.0.out in omega arith

back-length : (lines : List Line) → Each IsShort lines → length (to_mta lines) ≤ 33554432 * length lines
back-length [] e = omega arith
back-length (line ∷ lines) e =
    let f = ap length (flat_map-cons (λ (l : Line). l.back) line lines) in
    let a = length-append line.back (to_mta lines) in
    let r = back-length lines e.1 in let o = e.0.back in omega arith

pub record AreShort (lines : List Line) : Type 0 where
  pub to_filter : length (to_filter lines) < 2 ^ 128
  pub to_mta : length (to_mta lines) < 2 ^ 128

pub short : (b : Behavior) (offer : Options) (s : MailSession) → IsLawful b → IsSession s → sent_to.Fits (commands.Options offer) → Fits (options_reply (negotiate offer b.wants b.lists))
    → (messages : List MailObject) → Each (IsSendable s.client s.helo s.macros) messages → length messages < 2 ^ 64 → AreShort (session_lines b offer s messages)
short b offer s lawful is fits replied [] good few = record { to_filter = omega arith; to_mta = omega arith }
short b offer s lawful is fits replied (m ∷ messages) good few =
    let g = negotiate offer b.wants b.lists in
    let r = from-short b lawful g s is messages good.1 [] (plan g s m) (plan-fits b lawful g s is m good.0) (plan-short b lawful g s is m good.0) in
    let each : Each IsShort (session_lines b offer s (m ∷ messages)) =
    (record { out = command-length (commands.Options offer) fits; back = let l = reply-length (options_reply g) replied in omega arith }, r.each) in
    let f = r.few in
    let o = out-length (session_lines b offer s (m ∷ messages)) each in
    let k = back-length (session_lines b offer s (m ∷ messages)) each in
    record { to_filter = omega arith; to_mta = omega arith }
