-- The commands of a plan are in the order of stages, and those of the connection are its opening.
use Rattle.std.proofs.Common.{◌≡◌, ℕ, ◌+◌, ◌≤◌, Bool, true, false, if◌then◌else◌, cond, nat_le, nat_lt, List, [], ◌∷◌, ◌++◌, Option, None, Some, refl, ap, ◌∙◌, arith, length, append-nil}
use Rattle.std.specs.List.{filter, flat_map}
use Rattle.std.proofs.lemmas.List.Sums.{sum_by-append}
use Rattle.std.proofs.lemmas.List.Concat.{flat_map-cons}
use Rattle.std.proofs.lemmas.List.Elements.{filter-append}
use Rattle.milter_fields.specs.declared.client.Client.{Client}
use Rattle.milter_fields.specs.declared.pair.Pair.{Pair}
use Rattle.milter_wire.specs.declared.negotiation.Negotiated.{Negotiated}
use Rattle.milter_wire.specs.declared.codes.TheConstants.{SMFIC_BODYEOB, SMFIC_CONNECT, SMFIC_DATA, SMFIC_EOH, SMFIC_HELO, SMFIC_MAIL, SMFIC_RCPT}
use Rattle.milter_wire.specs.declared.command.Command.{Command}
use Rattle.milter_wire.specs.declared.command.Command.TheVariants as commands
use Rattle.milter_wire.specs.declared.stage.Stage.{Stage}
use Rattle.milter_wire.specs.declared.stage.Stage.TheVariants.{Connect, Helo, Mail, Rcpt, DataCmd, Header, Eoh, Body, Eob}
use Rattle.milter_wire.specs.Negotiation.{has_leading_space, is_sent}
use Rattle.milter_wire.specs.Command.{bytes_of, encoding}
use Rattle.milter_wire.specs.Stages.{macro_command_of, stage_of}
use Rattle.milter_message.specs.LeadingSpace.{sent_header}
use Rattle.milter_message.specs.MailObject.{MailObject}
use Rattle.milter_message.specs.Chunks.{chunks_of}
use Rattle.milter_mail.specs.Macros.{Macros}
use Rattle.milter_mail.specs.MailSession.{MailSession}
use Rattle.milter_mail.specs.Plan.{macros_of, opening, plan}
use Rattle.milter_mail.specs.Steps.{macro_step, macros_at, message_steps, opening_steps, step}
use Rattle.milter_protocol.specs.Commands.{is_of_connection, is_shown}
use Rattle.milter_protocol.specs.Faults.{is_in_order}
use Rattle.milter_protocol.specs.StageOrder.{may_repeat, rank_of}
use Rattle.milter_protocol.specs.OrderStates.{rank_by}
use Rattle.milter_mta_outcome.specs.PlanOrder.{AreInTurn, IsWithinRanks, rank_after}

-- ---- lower ranks

in_order-higher : (low high : ℕ) (stage : Option Stage) → low ≤ high → is_in_order high stage ≡ true → is_in_order low stage ≡ true
in_order-higher low high None le is = refl
in_order-higher low high (Some stage) le is = ranks (may_repeat stage) is
  where
    ranks : (again : Bool) → (if again then nat_le high (rank_of stage) else nat_lt high (rank_of stage)) ≡ true
        → (if again then nat_le low (rank_of stage) else nat_lt low (rank_of stage)) ≡ true
    ranks true e = grind arith
    ranks false e = grind arith

pub rank_by-higher : (low high : ℕ) (stage : Option Stage) → low ≤ high → rank_by low stage ≤ rank_by high stage
rank_by-higher low high None le = le
rank_by-higher low high (Some stage) le = omega arith

pub turn-higher : (low high : ℕ) (left : List Command) → low ≤ high → AreInTurn high left → AreInTurn low left
turn-higher low high [] le is = tt
turn-higher low high (command ∷ left) le is =
    (is.0, in_order-higher low high (stage_of command) le is.1, turn-higher _ _ left (rank_by-higher low high (stage_of command) le) is.2)

-- ---- order

ranks-higher : (low high : ℕ) (steps : List Command) → low ≤ high → rank_after low steps ≤ rank_after high steps
ranks-higher low high [] le = le
ranks-higher low high (c ∷ left) le = ranks-higher _ _ left (rank_by-higher low high (stage_of c) le)

ranks-append : (last : ℕ) (xs ys : List Command) → rank_after last (xs ++ ys) ≡ rank_after (rank_after last xs) ys
ranks-append last [] ys = refl
ranks-append last (x ∷ xs) ys = ranks-append (rank_by last (stage_of x)) xs ys

turn-append : (last : ℕ) (xs ys : List Command) → AreInTurn last xs → AreInTurn (rank_after last xs) ys → AreInTurn last (xs ++ ys)
turn-append last [] ys a b = b
turn-append last (x ∷ xs) ys a b = (a.0, a.1, turn-append (rank_by last (stage_of x)) xs ys a.2 b)

pub within-append : (last mid top : ℕ) (xs ys : List Command) → IsWithinRanks last mid xs → IsWithinRanks mid top ys → IsWithinRanks last top (xs ++ ys)
within-append last mid top xs ys a b =
    record {
      in_turn = turn-append last xs ys a.in_turn (turn-higher _ _ ys a.up_to b.in_turn);
      up_to = rw (ranks-append last xs ys) (let h = ranks-higher (rank_after last xs) mid ys a.up_to in let g = b.up_to in omega arith);
    }

within-none : (last top : ℕ) → last ≤ top → IsWithinRanks last top []
within-none last top le = record { in_turn = tt; up_to = le }

within-macros : (last : ℕ) (command : Option ℕ) (pairs : List Pair) → IsWithinRanks last last (macro_step command pairs)
within-macros last None pairs = within-none last last (omega arith)
within-macros last (Some command) [] = within-none last last (omega arith)
within-macros last (Some command) (pair ∷ pairs) = record { in_turn = (refl, refl, tt); up_to = omega arith }

module _ (g : Negotiated) (macros : Macros) where
  within-step : (last : ℕ) (stage : Stage) (command : Command) → stage_of command ≡ Some stage → is_shown command ≡ true
      → is_in_order last (Some stage) ≡ true → last ≤ rank_of stage → IsWithinRanks last (rank_of stage) (step g macros stage command)
  within-step last stage command at is order le = by_sent (is_sent g stage)
    where
      by_sent : (sent : Bool) → IsWithinRanks last (rank_of stage)
          (if sent then macro_step (macro_command_of stage) (macros_at macros stage) ++ command ∷ [] else [])
      by_sent false = within-none last (rank_of stage) le
      by_sent true = within-append last last (rank_of stage) (macro_step (macro_command_of stage) (macros_at macros stage)) (command ∷ [])
          (within-macros last (macro_command_of stage) (macros_at macros stage))
          (record { in_turn = (is, rw at order, tt); up_to = rw at (omega arith) })

  within-steps : {A : Type 0} (last : ℕ) (f : A → List Command) → ((x : A) → IsWithinRanks last last (f x)) → (xs : List A) → IsWithinRanks last last (flat_map f xs)
  within-steps last f each [] = within-none last last (omega arith)
  within-steps last f each (x ∷ xs) = rw (flat_map-cons f x xs) (within-append last last last (f x) (flat_map f xs) (each x) (within-steps last f each xs))

  within-raised : (last low top : ℕ) (steps : List Command) → last ≤ low → IsWithinRanks low top steps → IsWithinRanks last top steps
  within-raised last low top steps le w =
      record {
        in_turn = turn-higher last low steps le w.in_turn;
        up_to = let h = ranks-higher last low steps le in let e = w.up_to in omega arith;
      }

  pub within-message : (m : MailObject) → IsWithinRanks 2 9 (message_steps g macros m)
  within-message m =
      within-append 2 8 9 _ _ (within-append 2 7 8 _ _ (within-append 2 6 7 _ _ (within-append 2 5 6 _ _ (within-append 2 4 5 _ _ (within-append 2 3 4 _ _
      (within-step 2 Mail (commands.Mail m.sender) refl refl refl (omega arith))
      (within-raised 3 4 4 _ (omega arith) (within-steps 4 _ (λ r. within-step 4 Rcpt (commands.Rcpt r) refl refl refl (omega arith)) m.recipients)))
      (within-step 4 DataCmd commands.DataCmd refl refl refl (omega arith)))
      (within-raised 5 6 6 _ (omega arith) (within-steps 6 _ (λ h. within-step 6 Header (commands.Header (sent_header (has_leading_space g) h)) refl refl refl (omega arith)) m.headers)))
      (within-step 6 Eoh commands.Eoh refl refl refl (omega arith)))
      (within-raised 7 8 8 _ (omega arith) (within-steps 8 _ (λ p. within-step 8 Body (commands.Body p) refl refl refl (omega arith)) (chunks_of m.body))))
      (within-step 8 Eob (commands.Eob []) refl refl refl (omega arith))

  pub within-opening : (client : Client) (helo : List ℕ) → IsWithinRanks 0 2 (opening_steps g macros client helo)
  within-opening client helo =
      within-append 0 1 2 _ _ (within-step 0 Connect (commands.Connect client) refl refl refl (omega arith))
      (within-step 1 Helo (commands.Helo helo) refl refl refl (omega arith))

  -- ---- which are of the connection

  abbrev Each : {A : Type 0} → (A → Type 0) → List A → Type 0
  Each P [] = Unit {0}
  Each P (x ∷ xs) = P x × Each P xs

  each-append : {A : Type 0} (P : A → Type 0) (xs ys : List A) → Each P xs → Each P ys → Each P (xs ++ ys)
  each-append P [] ys a b = b
  each-append P (x ∷ xs) ys a b = (a.0, each-append P xs ys a.1 b)

  each-steps : {A : Type 0} (P : Command → Type 0) (f : A → List Command) → ((x : A) → Each P (f x)) → (xs : List A) → Each P (flat_map f xs)
  each-steps P f each [] = tt
  each-steps P f each (x ∷ xs) = rw (flat_map-cons f x xs) (each-append P (f x) (flat_map f xs) (each x) (each-steps P f each xs))

  each-step : (P : Command → Type 0) (stage : Stage) (command : Command) → Each P (macro_step (macro_command_of stage) (macros_at macros stage))
      → P command → Each P (step g macros stage command)
  each-step P stage command before is = by_sent (is_sent g stage)
    where
      by_sent : (sent : Bool) → Each P (if sent then macro_step (macro_command_of stage) (macros_at macros stage) ++ command ∷ [] else [])
      by_sent true = each-append P _ (command ∷ []) before (is, tt)
      by_sent false = tt

  each-macros : (P : Command → Type 0) (command : ℕ) (pairs : List Pair) → ((pairs : List Pair) → P (commands.Macro command pairs)) → Each P (macro_step (Some command) pairs)
  each-macros P command [] is = tt
  each-macros P command (pair ∷ pairs) is = (is (pair ∷ pairs), tt)

  abbrev IsInner : Command → Type 0
  IsInner c = is_of_connection c ≡ false

  abbrev IsOuter : Command → Type 0
  IsOuter c = is_of_connection c ≡ true

  inner-message : (m : MailObject) → Each IsInner (message_steps g macros m)
  inner-message m =
      each-append IsInner _ _ (each-append IsInner _ _ (each-append IsInner _ _ (each-append IsInner _ _ (each-append IsInner _ _ (each-append IsInner _ _
      (each-step IsInner Mail (commands.Mail m.sender) (each-macros IsInner SMFIC_MAIL macros.mail (λ pairs. refl)) refl)
      (each-steps IsInner _ (λ r. each-step IsInner Rcpt (commands.Rcpt r) (each-macros IsInner SMFIC_RCPT macros.rcpt (λ pairs. refl)) refl) m.recipients))
      (each-step IsInner DataCmd commands.DataCmd (each-macros IsInner SMFIC_DATA macros.data_cmd (λ pairs. refl)) refl))
      (each-steps IsInner _ (λ h. each-step IsInner Header (commands.Header (sent_header (has_leading_space g) h)) tt refl) m.headers))
      (each-step IsInner Eoh commands.Eoh (each-macros IsInner SMFIC_EOH macros.eoh (λ pairs. refl)) refl))
      (each-steps IsInner _ (λ p. each-step IsInner Body (commands.Body p) tt refl) (chunks_of m.body)))
      (each-step IsInner Eob (commands.Eob []) (each-macros IsInner SMFIC_BODYEOB macros.eom (λ pairs. refl)) refl)

  outer-opening : (client : Client) (helo : List ℕ) → Each IsOuter (opening_steps g macros client helo)
  outer-opening client helo =
      each-append IsOuter _ _ (each-step IsOuter Connect (commands.Connect client) (each-macros IsOuter SMFIC_CONNECT macros.connect (λ pairs. refl)) refl)
      (each-step IsOuter Helo (commands.Helo helo) (each-macros IsOuter SMFIC_HELO macros.helo (λ pairs. refl)) refl)

  none-inner : (xs : List Command) → Each IsInner xs → filter is_of_connection xs ≡ []
  none-inner [] all = refl
  none-inner (x ∷ xs) all = ap (λ (k : Bool). cond k (x ∷ filter is_of_connection xs) (filter is_of_connection xs)) all.0 ∙ none-inner xs all.1

  all-outer : (xs : List Command) → Each IsOuter xs → filter is_of_connection xs ≡ xs
  all-outer [] all = refl
  all-outer (x ∷ xs) all = ap (λ (k : Bool). cond k (x ∷ filter is_of_connection xs) (filter is_of_connection xs)) all.0 ∙ ap (λ (l : List Command). x ∷ l) (all-outer xs all.1)

  pub message-of : (m : MailObject) → filter is_of_connection (message_steps g macros m) ≡ []
  message-of m = none-inner (message_steps g macros m) (inner-message m)

  pub opening-of : (client : Client) (helo : List ℕ) → filter is_of_connection (opening_steps g macros client helo) ≡ opening_steps g macros client helo
  opening-of client helo = all-outer (opening_steps g macros client helo) (outer-opening client helo)

-- ---- of a plan

module _ (negotiated : Negotiated) (s : MailSession) (m : MailObject) where
  pub plan-of : filter is_of_connection (plan negotiated s m) ≡ opening negotiated s
  plan-of =
      filter-append is_of_connection (opening negotiated s) (message_steps negotiated (macros_of negotiated s) m)
      ∙ ap (λ (l : List Command). l ++ filter is_of_connection (message_steps negotiated (macros_of negotiated s) m)) (opening-of negotiated (macros_of negotiated s) s.client s.helo)
      ∙ ap (λ (l : List Command). opening negotiated s ++ l) (message-of negotiated (macros_of negotiated s) m)
      ∙ append-nil (opening negotiated s)

  pub plan-bytes : bytes_of (plan negotiated s m) ≡ bytes_of (opening negotiated s) + bytes_of (message_steps negotiated (macros_of negotiated s) m)
  plan-bytes = sum_by-append (λ command. length (encoding command)) (opening negotiated s) (message_steps negotiated (macros_of negotiated s) m)

  pub plan-within : IsWithinRanks 0 9 (plan negotiated s m)
  plan-within = within-append 0 2 9 (opening negotiated s) (message_steps negotiated (macros_of negotiated s) m)
      (within-opening negotiated (macros_of negotiated s) s.client s.helo) (within-message negotiated (macros_of negotiated s) m)
