-- A plan without what isn't sent, and the order of its commands.
use Rattle.std.proofs.Common.{◌≡◌, ℕ, ◌≤◌, Bool, true, false, cond, List, [], ◌∷◌, ◌++◌, filter, flat_map, Option, None, Some, refl, sym, ap, ◌∙◌, subst, arith, if◌then◌else◌}
use Rattle.std.proofs.lemmas.Bool.{true≢false}
use Rattle.std.proofs.lemmas.List.Concat.{flat_map-cons}
use Rattle.std.proofs.lemmas.List.Elements.{filter-append}
use Rattle.milter_fields.specs.declared.header.Header.{Header}
use Rattle.milter_fields.specs.declared.pair.Pair.{Pair}
use Rattle.milter_wire.specs.declared.symbol_lists.SymList.{SymList}
use Rattle.milter_wire.specs.declared.negotiation.Negotiated.{Negotiated}
use Rattle.milter_wire.specs.declared.command.Command.{Command}
use Rattle.milter_wire.specs.declared.command.Command.TheVariants as commands
use Rattle.milter_wire.specs.declared.stage.Stage.{Stage}
use Rattle.milter_wire.specs.declared.stage.Stage.TheVariants as stages
use Rattle.milter_wire.specs.Negotiation.{has_leading_space, is_sent}
use Rattle.milter_wire.specs.Stages.{macro_command_of, stage_of}
use Rattle.milter_message.specs.LeadingSpace.{sent_header}
use Rattle.milter_message.specs.MailObject.{MailObject}
use Rattle.milter_message.specs.Chunks.{chunks_of}
use Rattle.milter_mail.specs.ChosenMacros.{chosen_macros}
use Rattle.milter_mail.specs.Macros.{Macros}
use Rattle.milter_mail.specs.MailSession.{MailSession}
use Rattle.milter_mail.specs.Plan.{macros_of, opening, plan}
use Rattle.milter_mail.specs.Steps.{macro_step, macros_at, message_steps, opening_steps, step}
use Rattle.milter_protocol.specs.StageOrder.{rank_of}
use Rattle.milter_world.proofs.Places.{Ascend, macros-place, place-at, place_of, sends}

-- ---- order

-- commands of stages from one rank up to another
abbrev Between : Negotiated → ℕ → ℕ → List Command → Type 0
Between negotiated low high [] = low ≤ high
Between negotiated low high (command ∷ left) =
    (low ≤ rank_of (place_of command)) × (sends negotiated command ≡ true)
    × Between negotiated (rank_of (place_of command)) high left

between-lower : (negotiated : Negotiated) (lower low high : ℕ) (left : List Command) → lower ≤ low
    → Between negotiated low high left → Between negotiated lower high left
between-lower negotiated lower low high [] less all = omega (arith, less, all)
between-lower negotiated lower low high (command ∷ left) less all =
    (let here = all.0 in omega (arith, here, less), all.1, all.2)

between-append : (negotiated : Negotiated) (low middle high : ℕ) (xs ys : List Command)
    → Between negotiated low middle xs
    → Between negotiated middle high ys → Between negotiated low high (xs ++ ys)
between-append negotiated low middle high [] ys first second = between-lower negotiated low middle high ys first second
between-append negotiated low middle high (command ∷ xs) ys first second =
    (first.0, first.1, between-append negotiated (rank_of (place_of command)) middle high xs ys first.2 second)

between-ascend : (negotiated : Negotiated) (low high : ℕ) (left : List Command) → Between negotiated low high left
    → Ascend negotiated low left
between-ascend negotiated low high [] all = tt
between-ascend negotiated low high (command ∷ left) all =
    (all.0, all.1, between-ascend negotiated (rank_of (place_of command)) high left all.2)

between-each : {A : Type 0} (negotiated : Negotiated) (rank : ℕ) (f : A → List Command)
    → ((x : A) → Between negotiated rank rank (f x)) → (xs : List A) → Between negotiated rank rank (flat_map f xs)
between-each negotiated rank f each [] = omega arith
between-each negotiated rank f each (x ∷ xs) =
    subst (Between negotiated rank rank) (sym (flat_map-cons f x xs))
    (between-append negotiated rank rank rank (f x) (flat_map f xs) (each x) (between-each negotiated rank f each xs))

module _ (negotiated : Negotiated) (macros : Macros) where
  between-step : (low : ℕ) (stage : Stage) (command : Command) → stage_of command ≡ Some stage → low ≤ rank_of stage
      → Between negotiated low (rank_of stage) (step negotiated macros stage command)
  between-step low stage command at less = by_sent (is_sent negotiated stage) refl
    where
      this : is_sent negotiated stage ≡ true → Between negotiated (rank_of stage) (rank_of stage) (command ∷ [])
      this sent =
          let place = place-at command stage at in
          subst (λ (s : Stage). (rank_of stage ≤ rank_of s) × (is_sent negotiated s ≡ true) ×
          (rank_of s ≤ rank_of stage))
          (sym place) (omega arith, sent, omega arith)

      by_macros : (code : Option ℕ) (pairs : List Pair) → macro_command_of stage ≡ code
          → is_sent negotiated stage ≡ true
          → Between negotiated low (rank_of stage) (macro_step code pairs ++ command ∷ [])
      by_macros None pairs is sent =
          between-lower negotiated low (rank_of stage) (rank_of stage) (command ∷ []) less (this sent)
      by_macros (Some code) [] is sent =
          between-lower negotiated low (rank_of stage) (rank_of stage) (command ∷ []) less (this sent)
      by_macros (Some code) (pair ∷ pairs) is sent =
          subst (λ (s : Stage). (low ≤ rank_of s) × (is_sent negotiated s ≡ true) × Between negotiated (rank_of s)
          (rank_of stage) (command ∷ []))
          (sym (macros-place stage code is)) (less, sent, this sent)

      by_sent : (sent : Bool) → is_sent negotiated stage ≡ sent
          → Between negotiated low (rank_of stage)
          (if sent then macro_step (macro_command_of stage) (macros_at macros stage) ++ command ∷ [] else [])
      by_sent false e = less
      by_sent true e = by_macros (macro_command_of stage) (macros_at macros stage) refl e

  between-opening : (session : MailSession)
      → Between negotiated 0 2 (opening_steps negotiated macros session.client session.helo)
  between-opening session =
      between-append negotiated 0 1 2 _ _ (between-step 0 stages.Connect (commands.Connect session.client) refl
      (omega arith))
      (between-step 1 stages.Helo (commands.Helo session.helo) refl (omega arith))

  between-message : (m : MailObject) → Between negotiated 2 9 (message_steps negotiated macros m)
  between-message m =
      between-append negotiated 2 8 9 _ _ (between-append negotiated 2 7 8 _ _ (between-append negotiated 2 6 7 _ _
      (between-append negotiated 2 5 6 _ _ (between-append negotiated 2 4 5 _ _ (between-append negotiated 2 3 4 _ _
      (between-step 2 stages.Mail (commands.Mail m.sender) refl (omega arith))
      (between-lower negotiated 3 4 4 _ (omega arith)
      (between-each negotiated 4 _ (λ r. between-step 4 stages.Rcpt (commands.Rcpt r) refl
      (omega arith)) m.recipients)))
      (between-step 4 stages.DataCmd commands.DataCmd refl (omega arith)))
      (between-lower negotiated 5 6 6 _ (omega arith)
      (between-each negotiated 6 _ (λ h. between-step 6 stages.Header
      (commands.Header (sent_header (has_leading_space negotiated) h)) refl (omega arith)) m.headers)))
      (between-step 6 stages.Eoh commands.Eoh refl (omega arith)))
      (between-lower negotiated 7 8 8 _ (omega arith)
      (between-each negotiated 8 _ (λ p. between-step 8 stages.Body (commands.Body p) refl (omega arith))
      (chunks_of m.body))))
      (between-step 8 stages.Eob (commands.Eob []) refl (omega arith))

pub plan-ascends : (negotiated : Negotiated) (session : MailSession) (message : MailObject)
    → Ascend negotiated 0 (plan negotiated session message)
plan-ascends negotiated session message =
    let macros = macros_of negotiated session in
    between-ascend negotiated 0 9 (plan negotiated session message)
    (between-append negotiated 0 2 9 (opening negotiated session) (message_steps negotiated macros message)
    (between-opening negotiated macros session) (between-message negotiated macros message))

-- ---- what is left of it

-- of the first commands these are kept
record AreKept (keeps : Command → Bool) (commands others : List Command) : Type 0 where
  are : filter keeps commands ≡ others

kept-each : {A : Type 0} (keeps : Command → Bool) (f g : A → List Command) → ((x : A) → AreKept keeps (f x) (g x))
    → (xs : List A) → AreKept keeps (flat_map f xs) (flat_map g xs)
kept-each keeps f g each [] = record { are = refl }
kept-each keeps f g each (x ∷ xs) =
    record {
      are = ap (filter keeps) (flat_map-cons f x xs)
          ∙ filter-append keeps (f x) (flat_map f xs)
          ∙ ap (λ (l : List Command). l ++ filter keeps (flat_map f xs)) (each x).are
          ∙ ap (λ (l : List Command). g x ++ l) (kept-each keeps f g each xs).are
          ∙ sym (flat_map-cons g x xs);
    }

kept-two : (keeps : Command → Bool) (xs ys others more : List Command) → AreKept keeps xs others → AreKept keeps ys more
    → AreKept keeps (xs ++ ys) (others ++ more)
kept-two keeps xs ys others more first second =
    record {
      are = filter-append keeps xs ys
          ∙ ap (λ (l : List Command). l ++ filter keeps ys) first.are
          ∙ ap (λ (l : List Command). others ++ l) second.are;
    }

module _ (all least : Negotiated) (sent : (stage : Stage) → is_sent least stage ≡ true → is_sent all stage ≡ true)
    (macros : Macros) where
  step-left : (stage : Stage) (command : Command) → stage_of command ≡ Some stage
      → AreKept (sends least) (step all macros stage command) (step least macros stage command)
  step-left stage command at = by_sent (is_sent all stage) (is_sent least stage) refl refl
    where
      command-left : (least_sends : Bool) → is_sent least stage ≡ least_sends
          → filter (sends least) (command ∷ []) ≡ (if least_sends then command ∷ [] else [])
      command-left least_sends e =
          ap (λ (s : Stage). cond (is_sent least s) (command ∷ []) []) (place-at command stage at)
          ∙ ap (λ (b : Bool). cond b (command ∷ []) []) e

      macros-left : (least_sends : Bool) → is_sent least stage ≡ least_sends → (code : Option ℕ) (pairs : List Pair)
          → macro_command_of stage ≡ code
          → filter (sends least) (macro_step code pairs) ≡ (if least_sends then macro_step code pairs else [])
      macros-left true e None pairs is = refl
      macros-left false e None pairs is = refl
      macros-left true e (Some code) [] is = refl
      macros-left false e (Some code) [] is = refl
      macros-left true e (Some code) (pair ∷ pairs) is =
          ap (λ (s : Stage). cond (is_sent least s) (commands.Macro code (pair ∷ pairs) ∷ []) [])
          (macros-place stage code is)
          ∙ ap (λ (b : Bool). cond b (commands.Macro code (pair ∷ pairs) ∷ []) []) e
      macros-left false e (Some code) (pair ∷ pairs) is =
          ap (λ (s : Stage). cond (is_sent least s) (commands.Macro code (pair ∷ pairs) ∷ []) [])
          (macros-place stage code is)
          ∙ ap (λ (b : Bool). cond b (commands.Macro code (pair ∷ pairs) ∷ []) []) e

      by_sent : (all_sends least_sends : Bool) → is_sent all stage ≡ all_sends → is_sent least stage ≡ least_sends
          → AreKept (sends least) (if all_sends then macro_step (macro_command_of stage) (macros_at macros stage)
          ++ command ∷ [] else [])
          (if least_sends then macro_step (macro_command_of stage) (macros_at macros stage) ++ command ∷ [] else [])
      by_sent false false e f = record { are = refl }
      by_sent false true e f = absurd (true≢false (sym (sent stage f) ∙ e))
      by_sent true false e f =
          kept-two (sends least) (macro_step (macro_command_of stage) (macros_at macros stage)) (command ∷ []) [] []
          (record { are = macros-left false f (macro_command_of stage) (macros_at macros stage) refl })
          (record { are = command-left false f })
      by_sent true true e f =
          kept-two (sends least) (macro_step (macro_command_of stage) (macros_at macros stage)) (command ∷ [])
          (macro_step (macro_command_of stage) (macros_at macros stage)) (command ∷ [])
          (record { are = macros-left true f (macro_command_of stage) (macros_at macros stage) refl })
          (record { are = command-left true f })

  opening-left : (session : MailSession)
      → AreKept (sends least) (opening_steps all macros session.client session.helo)
      (opening_steps least macros session.client session.helo)
  opening-left session =
      kept-two (sends least) _ _ _ _ (step-left stages.Connect (commands.Connect session.client) refl)
      (step-left stages.Helo (commands.Helo session.helo) refl)

  module _ (space : has_leading_space least ≡ has_leading_space all) where
    header-left : (header : Header)
        → AreKept (sends least) (step all macros stages.Header
        (commands.Header (sent_header (has_leading_space all) header)))
        (step least macros stages.Header (commands.Header (sent_header (has_leading_space least) header)))
    header-left header =
        subst (λ (b : Bool). AreKept (sends least)
        (step all macros stages.Header (commands.Header (sent_header (has_leading_space all) header)))
        (step least macros stages.Header (commands.Header (sent_header b header)))) (sym space)
        (step-left stages.Header (commands.Header (sent_header (has_leading_space all) header)) refl)

    message-left : (m : MailObject) → AreKept (sends least) (message_steps all macros m) (message_steps least macros m)
    message-left m =
        kept-two (sends least) _ _ _ _ (kept-two (sends least) _ _ _ _ (kept-two (sends least) _ _ _ _
        (kept-two (sends least) _ _ _ _ (kept-two (sends least) _ _ _ _ (kept-two (sends least) _ _ _ _
        (step-left stages.Mail (commands.Mail m.sender) refl)
        (kept-each (sends least) _ _ (λ r. step-left stages.Rcpt (commands.Rcpt r) refl) m.recipients))
        (step-left stages.DataCmd commands.DataCmd refl))
        (kept-each (sends least) _ _ header-left m.headers))
        (step-left stages.Eoh commands.Eoh refl))
        (kept-each (sends least) _ _ (λ p. step-left stages.Body (commands.Body p) refl) (chunks_of m.body)))
        (step-left stages.Eob (commands.Eob []) refl)

pub plan-left : (all least : Negotiated) → ((stage : Stage) → is_sent least stage ≡ true → is_sent all stage ≡ true)
    → has_leading_space least ≡ has_leading_space all → least.lists ≡ all.lists
    → (session : MailSession) (message : MailObject)
    → filter (sends least) (plan all session message) ≡ plan least session message
plan-left all least sent space same_lists session message =
    let macros = macros_of all session in
    (kept-two (sends least) _ _ _ _ (opening-left all least sent macros session)
    (message-left all least sent macros space message)).are
    ∙ sym (ap (λ (lists : List SymList). opening_steps least
    (chosen_macros lists session.macros) session.client session.helo
    ++ message_steps least (chosen_macros lists session.macros) message) same_lists)
