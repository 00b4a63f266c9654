use Rattle.std.proofs.Common.{◌≡◌, ◌≢◌, ℕ, ◌<◌, ◌≤◌, ◌^◌, List, [], ◌∷◌, None, drop, length, refl, sym, ap, subst, arith, length-drop, All}
use Rattle.std.proofs.lemmas.List.Elements.{All-drop, All-head, All-tail}
use Rattle.milter_mta.specs.Sessions.{session_lines}
use Rattle.milter_world.specs.ByteCounts.{due, to_filter, to_mta}
use Rattle.milter_world.proofs.ShortLines.{AreShort, Each, short}
use Rattle.milter_message.specs.MailObject.{MailObject}
use Rattle.milter_mail.specs.MailSession.{IsSendable}
use Rattle.milter_mta.specs.Mta.{Mta}
use Rattle.milter_mta.specs.Output.{dialled}
use Rattle.milter_mta.specs.Lines.{Line}
use Rattle.milter_world.specs.Answered.{AnswersLines}
use Rattle.milter_world.specs.FollowedLines.{Follows}
use Rattle.milter_world.specs.ConnectionEntries.{connection_entries}
use Rattle.milter_world.proofs.scenarios.scenarios_are_possible.Goals as goal

pub returns : goal.returns
returns c p lawful is from to fits few =
    record {
      answered = λ order settled.
          subst (λ (l : List Line). AnswersLines order p.filter l) (sym (c.entries_of_sessions.ensures.lines p.filter p.config.offer p.session (drop settled p.session.messages)))
          (c.sessions_are_answered.ensures order p.filter p.config.offer p.session (drop settled p.session.messages) is from fits
          (All-drop (IsSendable p.session.client p.session.helo p.session.macros) settled p.session.messages is.are_sendable));
      followed = λ settled m some unconnected same e. by_messages m unconnected same (drop settled p.session.messages) e (left-some settled p.session.messages some);
      last_unanswered = λ settled received. subst (λ (l : List Line). due l received ≡ length (to_filter l) → length (to_mta l) ≤ received)
          (sym (c.entries_of_sessions.ensures.lines p.filter p.config.offer p.session (drop settled p.session.messages)))
          (c.entries_of_sessions.ensures.ends p.filter p.config.offer p.session (drop settled p.session.messages) received);
      short_to_filter = λ settled. subst (λ (l : List Line). length (to_filter l) < 2 ^ 128)
          (sym (c.entries_of_sessions.ensures.lines p.filter p.config.offer p.session (drop settled p.session.messages))) (shorts settled).to_filter;
      short_to_mta = λ settled. subst (λ (l : List Line). length (to_mta l) < 2 ^ 128)
          (sym (c.entries_of_sessions.ensures.lines p.filter p.config.offer p.session (drop settled p.session.messages))) (shorts settled).to_mta;
    }
  where
    each-of : (xs : List MailObject) → All (IsSendable p.session.client p.session.helo p.session.macros) xs → Each (IsSendable p.session.client p.session.helo p.session.macros) xs
    each-of [] all = tt
    each-of (x ∷ xs) all = (All-head (IsSendable p.session.client p.session.helo p.session.macros) x xs all, each-of xs (All-tail (IsSendable p.session.client p.session.helo p.session.macros) x xs all))

    shorts : (settled : ℕ) → AreShort (session_lines p.filter p.config.offer p.session (drop settled p.session.messages))
    shorts settled =
        short p.filter p.config.offer p.session lawful is fits (c.lawful_filters_negotiate.ensures.fits p.config.offer p.filter lawful from to) (drop settled p.session.messages)
        (each-of (drop settled p.session.messages) (All-drop (IsSendable p.session.client p.session.helo p.session.macros) settled p.session.messages is.are_sendable))
        (let d = length-drop settled p.session.messages in omega arith)

    left-some : (settled : ℕ) (l : List MailObject) → settled < length l → drop settled l ≢ []
    left-some settled l less none = let d = length-drop settled l in let k = ap length none in absurd (let h : 0 < 0 = omega arith in omega arith)

    by_messages : (m : Mta) → m.filter_connection ≡ None → m.config ≡ p.config → (l : List MailObject) → m.session ≡ record p.session { messages = l } → l ≢ []
        → Follows p.config.on_loss (dialled m) (connection_entries p.filter p.config.offer p.session l)
    by_messages m unconnected same [] e some = absurd (some refl)
    by_messages m unconnected same (message ∷ messages) e some =
        c.entries_are_followed.ensures p.filter p.session p.config m message messages lawful from to unconnected same e
