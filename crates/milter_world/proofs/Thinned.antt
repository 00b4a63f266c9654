-- A dialogue without the exchanges whose commands are not sent, and without the answers that are not asked for.
use Rattle.std.proofs.Common.{◌≡◌, ◌≢◌, Bool, true, false, cond, not, ◌&&◌, ◌||◌, List, [], ◌∷◌, filter, Option, None, Some, refl, sym, ap, ◌∙◌, if◌then◌else◌}
use Rattle.std.specs.List.{list_any}
use Rattle.std.proofs.lemmas.Bool.{true≢false}
use Rattle.milter_wire.specs.declared.negotiation.Negotiated.{Negotiated}
use Rattle.milter_wire.specs.declared.command.Command.{Command}
use Rattle.milter_wire.specs.declared.command.Command.TheVariants as commands
use Rattle.milter_wire.specs.declared.stage.Stage.{Stage}
use Rattle.milter_wire.specs.declared.stage.Stage.TheVariants.{Connect, Helo, Mail, Rcpt, DataCmd, Header, Eoh, Body, Eob}
use Rattle.milter_wire.specs.declared.verdict.Verdict.{Verdict}
use Rattle.milter_wire.specs.declared.verdict.Verdict.TheVariants as verdicts
use Rattle.milter_wire.specs.Negotiation.{is_asked, is_asked_at, is_sent}
use Rattle.milter_wire.specs.Stages.{stage_of}
use Rattle.milter_protocol.specs.declared.answer.Answer.{Answer}
use Rattle.milter_protocol.specs.Exchanges.{Exchange, commands_of, onto}
use Rattle.milter_protocol.specs.Dialogue.{are_all_refused, is_closed, is_final, is_final_answer, is_kept_rcpt, is_rcpt, is_refused, is_skipping}
use Rattle.milter_protocol.specs.Verdicts.{has_verdict, is_final_at, is_refusal, is_skip}
use Rattle.milter_world.proofs.Places.{place-at, place_of, sends}

-- ---- answers that change nothing

abbrev pub is_continue : Verdict → Bool
is_continue verdicts.Continue = true
is_continue other = false

-- there is no answer, or it lets all go on
abbrev pub is_plain : Option Answer → Bool
is_plain None = true
is_plain (Some answer) = is_continue answer.verdict

continue-is : (verdict : Verdict) → is_continue verdict ≡ true → verdict ≡ verdicts.Continue
continue-is verdicts.Continue e = refl
continue-is other e = absurd (true≢false (sym e))

-- a test that Continue fails
pub plain-fails : (test : Verdict → Bool) → test verdicts.Continue ≡ false → (answer : Option Answer)
    → is_plain answer ≡ true
    → has_verdict test answer ≡ false
plain-fails test fails None plain = refl
plain-fails test fails (Some answer) plain = ap test (continue-is answer.verdict plain) ∙ fails

continue-open : (stage : Stage) → stage ≢ Eob → is_final_at stage verdicts.Continue ≡ false
continue-open Connect other = refl
continue-open Helo other = refl
continue-open Mail other = refl
continue-open Rcpt other = refl
continue-open DataCmd other = refl
continue-open Header other = refl
continue-open Eoh other = refl
continue-open Body other = refl
continue-open Eob other = absurd (other refl)

plain-open : (at : Option Stage) → at ≢ Some Eob → (answer : Option Answer) → is_plain answer ≡ true
    → is_final_answer at answer ≡ false
plain-open None other answer plain = refl
plain-open (Some stage) other answer plain =
    plain-fails (is_final_at stage) (continue-open stage (λ e. other (ap (λ (s : Stage). Some s) e))) answer plain

module _ (negotiated : Negotiated) where
  -- ---- what is left of exchanges

  -- the command is sent, and asked about
  abbrev pub counts : Command → Bool
  counts command = sends negotiated command && is_asked negotiated command

  abbrev pub answer_kept : Bool → Option Answer → Option Answer
  answer_kept asked answer = if asked then answer else None

  abbrev pub thin : Exchange → Exchange
  thin exchange =
      record { command = exchange.command; answer = answer_kept (is_asked negotiated exchange.command) exchange.answer }

  abbrev pub thinned : List Exchange → List Exchange
  thinned [] = []
  thinned (exchange ∷ more) =
      if sends negotiated exchange.command then thin exchange ∷ thinned more else thinned more

  pub thinned-commands : (exchanges : List Exchange)
      → commands_of (thinned exchanges) ≡ filter (sends negotiated) (commands_of exchanges)
  thinned-commands [] = refl
  thinned-commands (exchange ∷ more) = by_sent (sends negotiated exchange.command) (thinned-commands more)
    where
      by_sent : (sent : Bool) → commands_of (thinned more) ≡ filter (sends negotiated) (commands_of more)
          → commands_of (cond sent (thin exchange ∷ thinned more) (thinned more))
          ≡ cond sent (exchange.command ∷ filter (sends negotiated) (commands_of more))
          (filter (sends negotiated) (commands_of more))
      by_sent true rest = ap (λ (l : List Command). exchange.command ∷ l) rest
      by_sent false rest = rest

  pub thinned-sent : (exchange : Exchange) (more : List Exchange) → sends negotiated exchange.command ≡ true
      → thinned (exchange ∷ more) ≡ thin exchange ∷ thinned more
  thinned-sent exchange more e = ap (λ (b : Bool). cond b (thin exchange ∷ thinned more) (thinned more)) e

  pub thinned-unsent : (exchange : Exchange) (more : List Exchange) → sends negotiated exchange.command ≡ false
      → thinned (exchange ∷ more) ≡ thinned more
  thinned-unsent exchange more e = ap (λ (b : Bool). cond b (thin exchange ∷ thinned more) (thinned more)) e

  pub thinned-onto : (more before : List Exchange) → onto (thinned more) (thinned before) ≡ thinned (onto more before)
  thinned-onto [] before = refl
  thinned-onto (exchange ∷ more) before =
      by_sent (sends negotiated exchange.command) refl (thinned-onto more (exchange ∷ before))
    where
      by_sent : (sent : Bool) → sends negotiated exchange.command ≡ sent
          → onto (thinned more) (thinned (exchange ∷ before)) ≡ thinned (onto more (exchange ∷ before))
          → onto (cond sent (thin exchange ∷ thinned more) (thinned more)) (thinned before)
          ≡ thinned (onto more (exchange ∷ before))
      by_sent true e rest = ap (onto (thinned more)) (sym (thinned-sent exchange before e)) ∙ rest
      by_sent false e rest = ap (onto (thinned more)) (sym (thinned-unsent exchange before e)) ∙ rest

  -- ---- exchanges that are left out, or whose answer is, change nothing

  abbrev pub IsQuiet : Exchange → Type 0
  IsQuiet exchange = counts exchange.command ≡ false → is_plain exchange.answer ≡ true

  abbrev pub AreQuiet : List Exchange → Type 0
  AreQuiet [] = Unit {0}
  AreQuiet (exchange ∷ before) = IsQuiet exchange × AreQuiet before

  -- an exchange that counts is left as it is
  pub thin-counted : (exchange : Exchange) → is_asked negotiated exchange.command ≡ true → thin exchange ≡ exchange
  thin-counted exchange e =
      ap (λ (b : Bool). record { command = exchange.command; answer = answer_kept b exchange.answer }) e

  unsent-plain : (exchange : Exchange) → IsQuiet exchange → sends negotiated exchange.command ≡ false
      → is_plain exchange.answer ≡ true
  unsent-plain exchange quiet e = quiet (ap (λ (b : Bool). b && is_asked negotiated exchange.command) e)

  unasked-plain : (exchange : Exchange) → IsQuiet exchange → sends negotiated exchange.command ≡ true
      → is_asked negotiated exchange.command ≡ false → is_plain exchange.answer ≡ true
  unasked-plain exchange quiet e f =
      quiet (ap (λ (b : Bool). b && is_asked negotiated exchange.command) e ∙ f)

  -- of an answer that isn't asked for, only tests that Continue fails are made
  thin-alike : (test : Verdict → Bool) → test verdicts.Continue ≡ false → (exchange : Exchange) → IsQuiet exchange
      → sends negotiated exchange.command ≡ true
      → has_verdict test (thin exchange).answer ≡ has_verdict test exchange.answer
  thin-alike test fails exchange quiet sent = by_asked (is_asked negotiated exchange.command) refl
    where
      by_asked : (asked : Bool) → is_asked negotiated exchange.command ≡ asked
          → has_verdict test (answer_kept asked exchange.answer) ≡ has_verdict test exchange.answer
      by_asked true e = refl
      by_asked false e = sym (plain-fails test fails exchange.answer (unasked-plain exchange quiet sent e))

  pub skipping-alike : (before : List Exchange) → AreQuiet before
      → list_any is_skipping (thinned before) ≡ list_any is_skipping before
  skipping-alike [] quiet = refl
  skipping-alike (exchange ∷ before) quiet =
      by_sent (sends negotiated exchange.command) refl (skipping-alike before quiet.1)
    where
      by_sent : (sent : Bool) → sends negotiated exchange.command ≡ sent
          → list_any is_skipping (thinned before) ≡ list_any is_skipping before
          → list_any is_skipping (cond sent (thin exchange ∷ thinned before) (thinned before))
          ≡ (is_skipping exchange || list_any is_skipping before)
      by_sent true e rest =
          ap (λ (b : Bool). b || list_any is_skipping (thinned before)) (thin-alike is_skip refl exchange quiet.0 e)
          ∙ ap (λ (b : Bool). is_skipping exchange || b) rest
      by_sent false e rest =
          rest
          ∙ ap (λ (b : Bool). b || list_any is_skipping before)
          (sym (plain-fails is_skip refl exchange.answer (unsent-plain exchange quiet.0 e)))

  -- ---- recipients

  rcpt_place : (command : Command) → is_rcpt command ≡ true → place_of command ≡ Rcpt
  rcpt_place (commands.Rcpt recipient) e = refl
  rcpt_place other e = absurd (true≢false (sym e))

  module _ (sent : is_sent negotiated Rcpt ≡ true) where
    no_rcpt : (command : Command) → sends negotiated command ≡ false → is_rcpt command ≡ false
    no_rcpt (commands.Rcpt recipient) e = absurd (true≢false (sym sent ∙ e))
    no_rcpt other e = refl

    kept-alike : (before : List Exchange) → AreQuiet before
        → list_any is_kept_rcpt (thinned before) ≡ list_any is_kept_rcpt before
    kept-alike [] quiet = refl
    kept-alike (exchange ∷ before) quiet = by_sent (sends negotiated exchange.command) refl (kept-alike before quiet.1)
      where
        by_sent : (sent : Bool) → sends negotiated exchange.command ≡ sent
            → list_any is_kept_rcpt (thinned before) ≡ list_any is_kept_rcpt before
            → list_any is_kept_rcpt (cond sent (thin exchange ∷ thinned before) (thinned before))
            ≡ (is_kept_rcpt exchange || list_any is_kept_rcpt before)
        by_sent true e rest =
            ap (λ (b : Bool). (is_rcpt exchange.command && not b) || list_any is_kept_rcpt (thinned before))
            (thin-alike is_refusal refl exchange quiet.0 e)
            ∙ ap (λ (b : Bool). is_kept_rcpt exchange || b) rest
        by_sent false e rest =
            rest
            ∙ ap (λ (b : Bool). (b && not (is_refused exchange)) || list_any is_kept_rcpt before)
            (sym (no_rcpt exchange.command e))

    left-alike : (left : List Command) → list_any is_rcpt (filter (sends negotiated) left) ≡ list_any is_rcpt left
    left-alike [] = refl
    left-alike (command ∷ left) = by_sent (sends negotiated command) refl (left-alike left)
      where
        by_sent : (sent : Bool) → sends negotiated command ≡ sent
            → list_any is_rcpt (filter (sends negotiated) left) ≡ list_any is_rcpt left
            → list_any is_rcpt (cond sent (command ∷ filter (sends negotiated) left) (filter (sends negotiated) left))
            ≡ (is_rcpt command || list_any is_rcpt left)
        by_sent true e rest = ap (λ (b : Bool). is_rcpt command || b) rest
        by_sent false e rest = rest ∙ ap (λ (b : Bool). b || list_any is_rcpt left) (sym (no_rcpt command e))

  -- ---- what closes a dialogue

  -- the end of a message is always sent, and asked about
  not_end : (at : Option Stage) → is_asked_at negotiated at ≡ false → at ≢ Some Eob
  not_end at unasked e = true≢false (sym (ap (is_asked_at negotiated) e) ∙ unasked)

  not_end-unsent : (command : Command) → sends negotiated command ≡ false → stage_of command ≢ Some Eob
  not_end-unsent command unsent e =
      true≢false (sym (ap (is_sent negotiated) (place-at command Eob e)) ∙ unsent)

  final-alike : (exchange : Exchange) → IsQuiet exchange → sends negotiated exchange.command ≡ true
      → is_final (thin exchange) ≡ is_final exchange
  final-alike exchange quiet sent = by_asked (is_asked negotiated exchange.command) refl
    where
      no_answer : (at : Option Stage) → is_final_answer at None ≡ false
      no_answer None = refl
      no_answer (Some stage) = refl

      by_asked : (asked : Bool) → is_asked negotiated exchange.command ≡ asked
          → is_final_answer (stage_of exchange.command) (answer_kept asked exchange.answer) ≡ is_final exchange
      by_asked true e = refl
      by_asked false e =
          no_answer (stage_of exchange.command)
          ∙ sym (plain-open (stage_of exchange.command) (not_end (stage_of exchange.command) e) exchange.answer
          (unasked-plain exchange quiet sent e))

  refused-alike : (exchange : Exchange) (before : List Exchange) (left : List Command) → AreQuiet (exchange ∷ before)
      → sends negotiated exchange.command ≡ true
      → are_all_refused (thin exchange ∷ thinned before) (filter (sends negotiated) left)
      ≡ are_all_refused (exchange ∷ before) left
  refused-alike exchange before left quiet sent = by_rcpt (is_rcpt exchange.command) refl
    where
      by_rcpt : (rcpt : Bool) → is_rcpt exchange.command ≡ rcpt
          → (rcpt && not (list_any is_rcpt (filter (sends negotiated) left))
          && not (list_any is_kept_rcpt (thin exchange ∷ thinned before)))
          ≡ (rcpt && not (list_any is_rcpt left) && not (list_any is_kept_rcpt (exchange ∷ before)))
      by_rcpt false e = refl
      by_rcpt true e =
          let rcpts : is_sent negotiated Rcpt ≡ true =
          sym (ap (is_sent negotiated) (rcpt_place exchange.command e)) ∙ sent in
          let these : list_any is_kept_rcpt (thin exchange ∷ thinned before)
          ≡ list_any is_kept_rcpt (exchange ∷ before) =
          ap (list_any is_kept_rcpt) (sym (thinned-sent exchange before sent))
          ∙ kept-alike rcpts (exchange ∷ before) quiet in
          ap (λ (b : Bool). not b && not (list_any is_kept_rcpt (thin exchange ∷ thinned before)))
          (left-alike rcpts left)
          ∙ ap (λ (b : Bool). not (list_any is_rcpt left) && not b) these

  pub closed-alike : (exchange : Exchange) (before : List Exchange) (left : List Command) → AreQuiet (exchange ∷ before)
      → sends negotiated exchange.command ≡ true
      → is_closed (thin exchange ∷ thinned before) (filter (sends negotiated) left) ≡ is_closed (exchange ∷ before) left
  closed-alike exchange before left quiet sent =
      ap (λ (b : Bool). b || are_all_refused (thin exchange ∷ thinned before) (filter (sends negotiated) left))
      (final-alike exchange quiet.0 sent)
      ∙ ap (λ (b : Bool). is_final exchange || b) (refused-alike exchange before left quiet sent)

  -- an exchange with a plain answer, but at the end of a message, closes nothing
  plain-closes_none : (exchange : Exchange) (before : List Exchange) (left : List Command)
      → stage_of exchange.command ≢ Some Eob → is_plain exchange.answer ≡ true
      → is_closed (exchange ∷ before) left ≡ false
  plain-closes_none exchange before left other plain =
      ap (λ (b : Bool). b || are_all_refused (exchange ∷ before) left)
      (plain-open (stage_of exchange.command) other exchange.answer plain)
      ∙ ap (λ (b : Bool). is_rcpt exchange.command && not (list_any is_rcpt left)
      && not ((is_rcpt exchange.command && not b) || list_any is_kept_rcpt before))
      (plain-fails is_refusal refl exchange.answer plain)
      ∙ kept (is_rcpt exchange.command) (not (list_any is_rcpt left)) (list_any is_kept_rcpt before)
    where
      kept : (rcpt last others : Bool) → (rcpt && last && not ((rcpt && not false) || others)) ≡ false
      kept false last others = refl
      kept true true others = refl
      kept true false others = refl

  pub unsent-open : (exchange : Exchange) (before : List Exchange) (left : List Command) → IsQuiet exchange
      → sends negotiated exchange.command ≡ false → is_closed (exchange ∷ before) left ≡ false
  unsent-open exchange before left quiet unsent =
      plain-closes_none exchange before left (not_end-unsent exchange.command unsent)
      (unsent-plain exchange quiet unsent)

  pub unasked-open : (exchange : Exchange) (before : List Exchange) (left : List Command) → IsQuiet exchange
      → sends negotiated exchange.command ≡ true → is_asked negotiated exchange.command ≡ false
      → is_closed (exchange ∷ before) left ≡ false
  unasked-open exchange before left quiet sent unasked =
      plain-closes_none exchange before left (not_end (stage_of exchange.command) unasked)
      (unasked-plain exchange quiet sent unasked)
