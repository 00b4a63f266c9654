-- What was sent of a plan, exchange by exchange, and of the next message's.
use Rattle.std.proofs.Common.{◌≡◌, ◌≢◌, Bool, true, false, cond, not, ◌||◌, List, [], ◌∷◌, ◌++◌, refl, sym, ap, ◌∙◌, subst, append-nil, append_assoc}
use Rattle.std.specs.List.{filter, list_any}
use Rattle.std.proofs.lemmas.Bool.{true≢false}
use Rattle.milter_mta.proofs.TruthValues.{or-true}
use Rattle.milter_wire.specs.declared.negotiation.Negotiated.{Negotiated}
use Rattle.milter_wire.specs.declared.command.Command.{Command}
use Rattle.milter_message.specs.MailObject.{MailObject}
use Rattle.milter_mail.specs.MailSession.{MailSession}
use Rattle.milter_mail.specs.Plan.{macros_of, opening, plan}
use Rattle.milter_mail.specs.Steps.{message_steps}
use Rattle.milter_protocol.specs.Commands.{is_of_connection}
use Rattle.milter_protocol.specs.Exchanges.{Exchange, commands_of, onto}
use Rattle.milter_protocol.specs.Dialogue.{is_body, is_skipping, sendable}
use Rattle.milter_protocol.proofs.Lists.{same-head, same-tail}
use Rattle.milter_mta_outcome.specs.PlanCursor.{without_body}
use Rattle.milter_mta.specs.Beginnings.{IsSentOf}
use Rattle.milter_mta.specs.Order.{AreProper}
use Rattle.milter_mta.specs.Settled.{ends_with_client}
use Rattle.milter_mta.specs.Dialogues.{opening_of}
use Rattle.milter_mta.proofs.Opened.{AreOf, of-append, message_of, opening_is_of}
use Rattle.milter_mta.proofs.Openings.{no_body, opening-sendable}
use Rattle.milter_mta.proofs.Ordered.{onto-append}
use Rattle.milter_mta.proofs.Refusals.{keep_if, keep_none}

pub sent-start : (all : List Command) → IsSentOf all [] all
sent-start all =
    record {
      sent = [];
      first = all;
      others = [];
      dialogue_is = refl;
      plan_is = sym (append-nil all);
      sent_is = sym (append-nil all);
      skip = λ some. absurd (some refl);
    }

-- ---- one exchange more

no_others : (others : List Command) (skips : Bool) → (others ≢ [] → skips ≡ true) → skips ≡ false → others ≡ []
no_others [] skips some none = refl
no_others (x ∷ xs) skips some none = absurd (true≢false (sym (some (λ e. absurd cc)) ∙ none))

module _ (all : List Command) (dialogue : List Exchange) (last : Exchange) (left : List Command) (is : IsSentOf all dialogue (last.command ∷ left))
    (kept : keep_if (list_any is_skipping dialogue) left ≡ left) where
  abbrev sent_now : List Command
  sent_now = is.sent ++ last.command ∷ []

  dialogue-now : commands_of (last ∷ dialogue) ≡ onto sent_now []
  dialogue-now = ap (λ (l : List Command). last.command ∷ l) is.dialogue_is ∙ sym (onto-append is.sent (last.command ∷ []) [])

  -- nothing more is left out
  same : keep_if (is_skipping last || list_any is_skipping dialogue) left ≡ left → IsSentOf all (last ∷ dialogue) (keep_if (is_skipping last || list_any is_skipping dialogue) left)
  same e =
      record {
        sent = sent_now;
        first = is.first;
        others = is.others;
        dialogue_is = dialogue-now;
        plan_is = is.plan_is;
        sent_is = ap (λ (l : List Command). sent_now ++ l) e ∙ append_assoc is.sent (last.command ∷ []) left ∙ is.sent_is;
        skip = λ some. or-true (is_skipping last) (list_any is_skipping dialogue) (is.skip some);
      }

  -- the first skip
  skips : is_skipping last ≡ true → list_any is_skipping dialogue ≡ false → IsSentOf all (last ∷ dialogue) (keep_if (is_skipping last || list_any is_skipping dialogue) left)
  skips e none =
      let nothing : is.others ≡ [] = no_others is.others (list_any is_skipping dialogue) is.skip none in
      let whole : is.sent ++ last.command ∷ left ≡ all =
      is.sent_is ∙ ap (λ (l : List Command). is.first ++ without_body l) nothing ∙ append-nil is.first
      ∙ sym (is.plan_is ∙ ap (λ (l : List Command). is.first ++ l) nothing ∙ append-nil is.first) in
      record {
        sent = sent_now;
        first = sent_now;
        others = left;
        dialogue_is = dialogue-now;
        plan_is = sym whole ∙ sym (append_assoc is.sent (last.command ∷ []) left);
        sent_is = ap (λ (l : List Command). sent_now ++ l) (ap (λ (b : Bool). keep_if (b || list_any is_skipping dialogue) left) e ∙ keep_none left);
        skip = λ some. ap (λ (b : Bool). b || list_any is_skipping dialogue) e;
      }

  pub sent-more : IsSentOf all (last ∷ dialogue) (sendable (last ∷ dialogue) left)
  sent-more = by_skips (is_skipping last) (list_any is_skipping dialogue) refl refl
    where
      by_skips : (now before : Bool) → is_skipping last ≡ now → list_any is_skipping dialogue ≡ before → IsSentOf all (last ∷ dialogue) (keep_if (is_skipping last || list_any is_skipping dialogue) left)
      by_skips now true e before = same (ap (λ (b : Bool). keep_if b left) (or-true (is_skipping last) (list_any is_skipping dialogue) before ∙ sym before) ∙ kept)
      by_skips false false e before = same (ap (λ (b : Bool). keep_if (b || list_any is_skipping dialogue) left) e ∙ kept)
      by_skips true false e before = skips e before

-- ---- the next message

abbrev of_client : List Command → List Command
of_client l = filter is_of_connection l

abbrev has_other : List Command → Bool
has_other l = list_any (λ command. not (is_of_connection command)) l

of-first : (client : Bool) (xs ys : List Command) → AreOf client (xs ++ ys) → AreOf client xs
of-first client [] ys all = tt
of-first client (x ∷ xs) ys all = (all.0, of-first client xs ys all.1)

of-last : (client : Bool) (xs ys : List Command) → AreOf client (xs ++ ys) → AreOf client ys
of-last client [] ys all = all
of-last client (x ∷ xs) ys all = of-last client xs ys all.1

of-part : (client : Bool) (xs : List Command) → AreOf client xs → AreOf client (without_body xs)
of-part client [] all = tt
of-part client (x ∷ xs) all = by_body (is_body x) (of-part client xs all.1)
  where
    by_body : (b : Bool) → AreOf client (without_body xs) → AreOf client (cond (not b) (x ∷ without_body xs) (without_body xs))
    by_body true rest = rest
    by_body false rest = (all.0, rest)

none-of : (xs : List Command) → AreOf false xs → of_client xs ≡ []
none-of [] all = refl
none-of (x ∷ xs) all = ap (λ (b : Bool). cond b (x ∷ of_client xs) (of_client xs)) all.0 ∙ none-of xs all.1

-- what is left out comes after the opening
pub record After (begin all : List Command) : Type 0 where
  pub rest : List Command
  pub all_is : all ≡ begin ++ rest
  pub others : AreOf false rest

after-opening : (begin first others steps : List Command) → AreOf true begin → AreOf false steps → first ++ others ≡ begin ++ steps → After begin (first ++ without_body others)
after-opening [] first others steps all more e =
    let whole = subst (AreOf false) (sym e) more in
    record {
      rest = first ++ without_body others;
      all_is = refl;
      others = of-append false first (without_body others) (of-first false first others whole) (of-part false others (of-last false first others whole));
    }
after-opening (y ∷ begin) [] [] steps all more e = absurd cc
after-opening (y ∷ begin) [] (x ∷ others) steps all more e =
    let is = after-opening begin [] others steps all.1 more (same-tail x y others (begin ++ steps) e) in
    let head : x ≡ y = same-head x y others (begin ++ steps) e in
    let stays : is_body x ≡ false = no_body x (ap is_of_connection head ∙ all.0) in
    record {
      rest = is.rest;
      all_is = ap (λ (b : Bool). cond (not b) (x ∷ without_body others) (without_body others)) stays ∙ ap (λ (c : Command). c ∷ without_body others) head ∙ ap (λ (l : List Command). y ∷ l) is.all_is;
      others = is.others;
    }
after-opening (y ∷ begin) (x ∷ first) others steps all more e =
    let is = after-opening begin first others steps all.1 more (same-tail x y (first ++ others) (begin ++ steps) e) in
    record {
      rest = is.rest;
      all_is = ap (λ (c : Command). c ∷ (first ++ without_body others)) (same-head x y (first ++ others) (begin ++ steps) e) ∙ ap (λ (l : List Command). y ∷ l) is.all_is;
      others = is.others;
    }

-- where more than the opening was sent, the opening was sent whole
opening-sent : (begin sent left rest : List Command) → AreOf true begin → AreOf false rest → sent ++ left ≡ begin ++ rest → has_other sent ≡ true → of_client sent ≡ begin
opening-sent [] sent left rest all others e some = none-of sent (of-first false sent left (subst (AreOf false) (sym e) others))
opening-sent (y ∷ begin) [] left rest all others e some = absurd (true≢false (sym some))
opening-sent (y ∷ begin) (x ∷ sent) left rest all others e some =
    let head : x ≡ y = same-head x y (sent ++ left) (begin ++ rest) e in
    let client : is_of_connection x ≡ true = ap is_of_connection head ∙ all.0 in
    ap (λ (b : Bool). cond b (x ∷ of_client sent) (of_client sent)) client
    ∙ ap (λ (c : Command). c ∷ of_client sent) head
    ∙ ap (λ (l : List Command). y ∷ l)
    (opening-sent begin sent left rest all.1 others (same-tail x y (sent ++ left) (begin ++ rest) e)
    (ap (λ (b : Bool). not b || has_other sent) (sym client) ∙ some))

filter-onto : (xs ys : List Command) → of_client (onto xs ys) ≡ onto (of_client xs) (of_client ys)
filter-onto [] ys = refl
filter-onto (x ∷ xs) ys = filter-onto xs (x ∷ ys) ∙ by_test (is_of_connection x)
  where
    by_test : (b : Bool) → onto (of_client xs) (cond b (x ∷ of_client ys) (of_client ys)) ≡ onto (cond b (x ∷ of_client xs) (of_client xs)) (of_client ys)
    by_test true = refl
    by_test false = refl

commands-filter : (dialogue : List Exchange) → commands_of (opening_of dialogue) ≡ of_client (commands_of dialogue)
commands-filter [] = refl
commands-filter (e ∷ dialogue) = by_test (is_of_connection e.command) (commands-filter dialogue)
  where
    by_test : (b : Bool) → commands_of (opening_of dialogue) ≡ of_client (commands_of dialogue)
        → commands_of (cond b (e ∷ opening_of dialogue) (opening_of dialogue)) ≡ cond b (e.command ∷ of_client (commands_of dialogue)) (of_client (commands_of dialogue))
    by_test true rest = ap (λ (l : List Command). e.command ∷ l) rest
    by_test false rest = rest

any-onto : (xs ys : List Command) → has_other (onto xs ys) ≡ true → has_other ys ≡ false → has_other xs ≡ true
any-onto [] ys some none = absurd (true≢false (sym some ∙ none))
any-onto (x ∷ xs) ys some none = by_test (not (is_of_connection x)) refl (any-onto xs (x ∷ ys) some)
  where
    by_test : (b : Bool) → not (is_of_connection x) ≡ b → ((not (is_of_connection x) || has_other ys) ≡ false → has_other xs ≡ true)
        → (not (is_of_connection x) || has_other xs) ≡ true
    by_test true e rest = ap (λ (k : Bool). k || has_other xs) e
    by_test false e rest = ap (λ (k : Bool). k || has_other xs) e ∙ rest (ap (λ (k : Bool). k || has_other ys) e ∙ none)

module _ (negotiated : Negotiated) (session : MailSession) (message : MailObject) (last : Exchange) (before : List Exchange) (left : List Command)
    (is : IsSentOf (plan negotiated session message) (last ∷ before) left) (client : ends_with_client (last ∷ before) ≡ false) where
  abbrev begin : List Command
  begin = opening negotiated session

  after : After begin (is.first ++ without_body is.others)
  after =
      after-opening begin is.first is.others (message_steps negotiated (macros_of negotiated session) message) (opening_is_of negotiated session)
      (message_of negotiated (macros_of negotiated session) message) (sym is.plan_is)

  other_sent : has_other is.sent ≡ true
  other_sent =
      any-onto is.sent [] (ap has_other (sym is.dialogue_is) ∙ ap (λ (b : Bool). not b || has_other (commands_of before)) client) refl

  begun : of_client is.sent ≡ begin
  begun =
      let rest = after in
      opening-sent begin is.sent left rest.rest (opening_is_of negotiated session) rest.others (is.sent_is ∙ rest.all_is) other_sent

  pub sent-next : (other : MailObject) → AreProper negotiated (last ∷ before)
      → IsSentOf (plan negotiated session other) (opening_of (last ∷ before)) (sendable (opening_of (last ∷ before)) (message_steps negotiated (macros_of negotiated session) other))
  sent-next other all =
      record {
        sent = begin;
        first = plan negotiated session other;
        others = [];
        dialogue_is = commands-filter (last ∷ before) ∙ ap of_client is.dialogue_is ∙ filter-onto is.sent [] ∙ ap (λ (l : List Command). onto l []) begun;
        plan_is = sym (append-nil (plan negotiated session other));
        sent_is = ap (λ (l : List Command). begin ++ l) (opening-sendable negotiated (last ∷ before) (message_steps negotiated (macros_of negotiated session) other) all) ∙ sym (append-nil (plan negotiated session other));
        skip = λ some. absurd (some refl);
      }

-- ---- where the client ended it

abbrev ends_client : List Command → Bool
ends_client [] = false
ends_client (x ∷ []) = is_of_connection x
ends_client (x ∷ y ∷ xs) = ends_client (y ∷ xs)

last-onto : (x : Command) (xs ys zs : List Command) (c : Command) → onto (x ∷ xs) ys ≡ c ∷ zs → ends_client (x ∷ xs) ≡ is_of_connection c
last-onto x [] ys zs c e = ap is_of_connection (same-head x c ys zs e)
last-onto x (y ∷ xs) ys zs c e = last-onto y xs (x ∷ ys) zs c e

none-ends : (xs : List Command) → AreOf false xs → ends_client xs ≡ false
none-ends [] all = refl
none-ends (x ∷ []) all = all.0
none-ends (x ∷ y ∷ xs) all = none-ends (y ∷ xs) all.1

record Prefix (sent begin : List Command) : Type 0 where
  more : List Command
  begin_is : begin ≡ sent ++ more

opening-part : (begin sent left rest : List Command) → AreOf false rest → sent ++ left ≡ begin ++ rest → ends_client sent ≡ true → Prefix sent begin
opening-part all [] left rest others e last = absurd (true≢false (sym last))
opening-part [] (x ∷ sent) left rest others e last =
    absurd (true≢false (sym last ∙ none-ends (x ∷ sent) (of-first false (x ∷ sent) left (subst (AreOf false) (sym e) others))))
opening-part (y ∷ begin) (x ∷ []) left rest others e last =
    record { more = begin; begin_is = ap (λ (c : Command). c ∷ begin) (sym (same-head x y left (begin ++ rest) e)) }
opening-part (y ∷ begin) (x ∷ z ∷ sent) left rest others e last =
    let is = opening-part begin (z ∷ sent) left rest others (same-tail x y (z ∷ (sent ++ left)) (begin ++ rest) e) last in
    record {
      more = is.more;
      begin_is = ap (λ (c : Command). c ∷ begin) (sym (same-head x y (z ∷ (sent ++ left)) (begin ++ rest) e)) ∙ ap (λ (l : List Command). x ∷ l) is.begin_is;
    }

module _ (negotiated : Negotiated) (session : MailSession) (message : MailObject) (last : Exchange) (before : List Exchange) (left : List Command)
    (is : IsSentOf (plan negotiated session message) (last ∷ before) left) (client : ends_with_client (last ∷ before) ≡ true) where
  last_client : ends_client is.sent ≡ true
  last_client = by_sent is.sent is.dialogue_is
    where
      by_sent : (sent : List Command) → commands_of (last ∷ before) ≡ onto sent [] → ends_client sent ≡ true
      by_sent [] e = absurd cc
      by_sent (x ∷ xs) e = last-onto x xs [] (commands_of before) last.command (sym e) ∙ client

  -- it is a dialogue through the plan of any message
  pub sent-other : (other : MailObject) → (rest : List Command) × IsSentOf (plan negotiated session other) (last ∷ before) rest
  sent-other other =
      let after : After (opening negotiated session) (is.first ++ without_body is.others) =
      after-opening (opening negotiated session) is.first is.others (message_steps negotiated (macros_of negotiated session) message) (opening_is_of negotiated session)
      (message_of negotiated (macros_of negotiated session) message) (sym is.plan_is) in
      let part = opening-part (opening negotiated session) is.sent left after.rest after.others (is.sent_is ∙ after.all_is) last_client in
      let steps = message_steps negotiated (macros_of negotiated session) other in (
        part.more ++ steps,
        record {
          sent = is.sent;
          first = plan negotiated session other;
          others = [];
          dialogue_is = is.dialogue_is;
          plan_is = sym (append-nil (plan negotiated session other));
          sent_is = sym (append_assoc is.sent part.more steps) ∙ ap (λ (l : List Command). l ++ steps) (sym part.begin_is) ∙ sym (append-nil (plan negotiated session other));
          skip = λ some. absurd (some refl);
        },
      )

-- ---- any dialogue

pub sent-next-dialogue : (negotiated : Negotiated) (session : MailSession) (message : MailObject) (dialogue : List Exchange) (left : List Command) → IsSentOf (plan negotiated session message) dialogue left
    → ends_with_client dialogue ≡ false → dialogue ≢ [] → AreProper negotiated dialogue → (other : MailObject)
    → IsSentOf (plan negotiated session other) (opening_of dialogue) (sendable (opening_of dialogue) (message_steps negotiated (macros_of negotiated session) other))
sent-next-dialogue negotiated session message [] left is client some all other = absurd (some refl)
sent-next-dialogue negotiated session message (last ∷ before) left is client some all other = sent-next negotiated session message last before left is client other all

pub sent-other-dialogue : (negotiated : Negotiated) (session : MailSession) (message : MailObject) (dialogue : List Exchange) (left : List Command) → IsSentOf (plan negotiated session message) dialogue left
    → ends_with_client dialogue ≡ true → (other : MailObject) → (rest : List Command) × IsSentOf (plan negotiated session other) dialogue rest
sent-other-dialogue negotiated session message [] left is client other = absurd (true≢false (sym client))
sent-other-dialogue negotiated session message (last ∷ before) left is client other = sent-other negotiated session message last before left is client other
