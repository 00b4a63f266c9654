-- Of the commands of a plan no greeting and no sender, and no macros of one, comes within a message.
use Rattle.std.proofs.Common.{◌≡◌, ℕ, ◌≤◌, Bool, true, false, ◌&&◌, if◌then◌else◌, List, [], ◌∷◌, ◌++◌, Option, None, Some, refl, sym, ◌∙◌, ap, subst, append-nil, append_assoc, arith}
use Rattle.std.specs.List.{flat_map}
use Rattle.std.proofs.lemmas.Bool.{le-ltb}
use Rattle.std.proofs.lemmas.List.Concat.{flat_map-cons}
use Rattle.milter_wire.specs.declared.negotiation.Negotiated.{Negotiated}
use Rattle.milter_wire.specs.declared.codes.TheConstants.{SMFIC_BODYEOB, SMFIC_DATA, SMFIC_EOH, SMFIC_RCPT}
use Rattle.milter_wire.specs.declared.command.Command.{Command}
use Rattle.milter_wire.specs.declared.command.Command.TheVariants as commands
use Rattle.milter_wire.specs.declared.stage.Stage.{Stage}
use Rattle.milter_wire.specs.declared.stage.Stage.TheVariants.{Body, Connect, DataCmd, Eob, Eoh, Header, Helo, Mail, Rcpt}
use Rattle.milter_wire.specs.Negotiation.{has_leading_space, is_sent}
use Rattle.milter_wire.specs.Stages.{macro_command_of, stage_of}
use Rattle.milter_message.specs.Chunks.{chunks_of}
use Rattle.milter_message.specs.LeadingSpace.{sent_header}
use Rattle.milter_message.specs.MailObject.{MailObject}
use Rattle.milter_mail.specs.Macros.{Macros}
use Rattle.milter_mail.specs.MailSession.{MailSession}
use Rattle.milter_mail.specs.Plan.{macros_of, plan}
use Rattle.milter_mail.specs.Steps.{macro_step, macros_at, message_steps, step}
use Rattle.milter_protocol.specs.Aborts.{is_greeting_or_sender, is_in_message}
use Rattle.milter_protocol.specs.OrderStates.{rank_by}
use Rattle.milter_protocol.specs.StageOrder.{rank_of}
use Rattle.milter_mta_outcome.proofs.PlanOrders.{rank_by-higher}
use Rattle.milter_world.specs.FilterTranscript.{NoneWithin}

-- ---- lower ranks

low : (last : ℕ) → last ≤ 2 → is_in_message last ≡ false
low last le = le-ltb 2 last le

none-below : (greets : Bool) (low high : ℕ) → low ≤ high → (greets && is_in_message high) ≡ false → (greets && is_in_message low) ≡ false
none-below true lower high le none = grind arith
none-below false lower high le none = refl

pub none-higher : (low high : ℕ) (left : List Command) → low ≤ high → NoneWithin high left → NoneWithin low left
none-higher lower high [] le none = tt
none-higher lower high (command ∷ left) le none =
    (none-below (is_greeting_or_sender command) lower high le none.0, none-higher _ _ left (rank_by-higher lower high (stage_of command) le) none.1)

-- ---- other commands come anywhere

abbrev Others : List Command → Type 0
Others [] = Unit {0}
Others (command ∷ left) = (is_greeting_or_sender command ≡ false) × Others left

others-append : (xs ys : List Command) → Others xs → Others ys → Others (xs ++ ys)
others-append [] ys a b = b
others-append (x ∷ xs) ys a b = (a.0, others-append xs ys a.1 b)

others-each : {A : Type 0} (f : A → List Command) → ((x : A) → Others (f x)) → (xs : List A) → Others (flat_map f xs)
others-each f each [] = tt
others-each f each (x ∷ xs) = rw (flat_map-cons f x xs) (others-append (f x) (flat_map f xs) (each x) (others-each f each xs))

others-macros : (code : ℕ) (pairs : List _) → is_greeting_or_sender (commands.Macro code pairs) ≡ false → Others (macro_step (Some code) pairs)
others-macros code [] other = tt
others-macros code (pair ∷ pairs) other = (other, tt)

none-others : (last : ℕ) (xs : List Command) → Others xs → NoneWithin last xs
none-others last [] others = tt
none-others last (x ∷ xs) others =
    (ap (λ (greets : Bool). greets && is_in_message last) others.0, none-others (rank_by last (stage_of x)) xs others.1)

none-then : (last : ℕ) (xs ys : List Command) → NoneWithin last xs → Others ys → NoneWithin last (xs ++ ys)
none-then last [] ys none others = none-others last ys others
none-then last (x ∷ xs) ys none others = (none.0, none-then (rank_by last (stage_of x)) xs ys none.1 others)

-- ---- greetings and senders come between messages

none-low : (last : ℕ) (x : Command) (xs : List Command) → last ≤ 2 → NoneWithin (rank_by last (stage_of x)) xs → NoneWithin last (x ∷ xs)
none-low last x xs le none = (ap (λ (within : Bool). is_greeting_or_sender x && within) (low last le) ∙ never (is_greeting_or_sender x), none)
  where
    never : (greets : Bool) → (greets && false) ≡ false
    never true = refl
    never false = refl

none-macros : (last : ℕ) (code : Option ℕ) (pairs : List _) (xs : List Command) → last ≤ 2 → NoneWithin last xs → NoneWithin last (macro_step code pairs ++ xs)
none-macros last None pairs xs le none = none
none-macros last (Some code) [] xs le none = none
none-macros last (Some code) (pair ∷ pairs) xs le none = none-low last (commands.Macro code (pair ∷ pairs)) xs le none

module _ (g : Negotiated) (macros : Macros) where
  -- one stage, and what comes after it
  none-step : (last : ℕ) (stage : Stage) (command : Command) (xs : List Command) → last ≤ 2 → last ≤ rank_of stage → stage_of command ≡ Some stage → NoneWithin (rank_of stage) xs
      → NoneWithin last (step g macros stage command ++ xs)
  none-step last stage command xs le lower at none = by_sent (is_sent g stage)
    where
      by_sent : (sent : Bool) → NoneWithin last ((if sent then macro_step (macro_command_of stage) (macros_at macros stage) ++ command ∷ [] else []) ++ xs)
      by_sent true =
          let before = macro_step (macro_command_of stage) (macros_at macros stage) in
          let later = subst (λ (s : Option Stage). NoneWithin (rank_by last s) xs) (sym at) none in
          rw (append_assoc before (command ∷ []) xs) (none-macros last (macro_command_of stage) (macros_at macros stage) (command ∷ xs) le (none-low last command xs le later))
      by_sent false = none-higher last (rank_of stage) xs lower none

  others-step : (stage : Stage) (command : Command) → Others (macro_step (macro_command_of stage) (macros_at macros stage)) → is_greeting_or_sender command ≡ false
      → Others (step g macros stage command)
  others-step stage command before other = by_sent (is_sent g stage)
    where
      by_sent : (sent : Bool) → Others (if sent then macro_step (macro_command_of stage) (macros_at macros stage) ++ command ∷ [] else [])
      by_sent true = others-append _ (command ∷ []) before (other, tt)
      by_sent false = tt

  pub none-message : (m : MailObject) → NoneWithin 2 (message_steps g macros m)
  none-message m =
      none-then 2 _ _ (none-then 2 _ _ (none-then 2 _ _ (none-then 2 _ _ (none-then 2 _ _ (none-then 2 _ _
      (subst (NoneWithin 2) (append-nil (step g macros Mail (commands.Mail m.sender))) (none-step 2 Mail (commands.Mail m.sender) [] (omega arith) (omega arith) refl tt))
      (others-each _ (λ r. others-step Rcpt (commands.Rcpt r) (others-macros SMFIC_RCPT macros.rcpt refl) refl) m.recipients))
      (others-step DataCmd commands.DataCmd (others-macros SMFIC_DATA macros.data_cmd refl) refl))
      (others-each _ (λ h. others-step Header (commands.Header (sent_header (has_leading_space g) h)) tt refl) m.headers))
      (others-step Eoh commands.Eoh (others-macros SMFIC_EOH macros.eoh refl) refl))
      (others-each _ (λ p. others-step Body (commands.Body p) tt refl) (chunks_of m.body)))
      (others-step Eob (commands.Eob []) (others-macros SMFIC_BODYEOB macros.eom refl) refl)

pub none-plan : (negotiated : Negotiated) (s : MailSession) (m : MailObject) → NoneWithin 0 (plan negotiated s m)
none-plan negotiated s m =
    let macros = macros_of negotiated s in
    let first = step negotiated macros Connect (commands.Connect s.client) in
    let second = step negotiated macros Helo (commands.Helo s.helo) in
    let message = message_steps negotiated macros m in
    rw (append_assoc first second message)
    (none-step negotiated macros 0 Connect (commands.Connect s.client) (second ++ message) (omega arith) (omega arith) refl
    (none-step negotiated macros 1 Helo (commands.Helo s.helo) message (omega arith) (omega arith) refl (none-message negotiated macros m)))
