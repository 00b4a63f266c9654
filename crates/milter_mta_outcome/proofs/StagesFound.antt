-- Whose stage the command at a place of the plan is.
use Rattle.std.proofs.Common.{◌≡◌, ◌≢◌, ◌==◌, ℕ, zero, suc, ◌/◌, ◌%◌, Bool, true, false, ◌&&◌, List, [], ◌∷◌, Option, None, Some, All, slice_get, is_some, option_map, map, refl, sym, ap, ◌∙◌, if◌then◌else◌}
use Rattle.std.proofs.lemmas.Bool.{eq-eqb, ne_eqb}
use Rattle.std.proofs.lemmas.Option.{same_Some}
use Rattle.std.proofs.lemmas.List.Elements.{All-cons, All-head, All-nil, All-tail}
use Rattle.milter_fields.specs.declared.pair.Pair.{Pair}
use Rattle.milter_wire.specs.declared.command.Command.{Command}
use Rattle.milter_wire.specs.declared.command.Command.TheVariants as commands
use Rattle.milter_wire.specs.declared.stage.Stage.{Stage}
use Rattle.milter_wire.specs.declared.stage.Stage.TheVariants as stages
use Rattle.milter_wire.specs.Negotiation.{has_leading_space, is_sent}
use Rattle.milter_wire.specs.Stages.{macro_command_of, stage_of}
use Rattle.milter_message.specs.LeadingSpace.{sent_header}
use Rattle.milter_message.specs.Chunks.{chunks_of}
use Rattle.milter_mail.specs.Steps.{macro_step, macros_at}
use Rattle.milter_mta_outcome.specs.PlanCursor.{Outgoing, commands_of, one_of_two, steps_at, steps_from}
use Rattle.milter_mta_outcome.proofs.NumberedCommands.{at_first, left_out, paired, plain, steps_if}

abbrev IsOf : Stage → Command → Type 0
IsOf stage command = stage_of command ≡ Some stage

abbrev found : List Command → ℕ → Option (Option Stage)
found steps n = option_map stage_of (slice_get steps n)

-- ---- without macros

each_of : {A : Type 0} (stage : Stage) (f : A → Command) (xs : List A) → ((x : A) → IsOf stage (f x)) → All (IsOf stage) (map f xs)
each_of stage f [] h = All-nil (IsOf stage)
each_of stage f (x ∷ xs) h = All-cons (IsOf stage) (f x) (map f xs) (h x) (each_of stage f xs h)

one_of : (stage : Stage) (command : Command) → IsOf stage command → All (IsOf stage) (command ∷ [])
one_of stage command h = All-cons (IsOf stage) command [] h (All-nil (IsOf stage))

all_of : (o : Outgoing) (stage : Stage) → All (IsOf stage) (commands_of o stage)
all_of o stages.Connect = one_of stages.Connect (commands.Connect o.client) refl
all_of o stages.Helo = one_of stages.Helo (commands.Helo o.helo) refl
all_of o stages.Mail = one_of stages.Mail (commands.Mail o.message.sender) refl
all_of o stages.Rcpt = each_of stages.Rcpt (λ recipient. commands.Rcpt recipient) o.message.recipients (λ recipient. refl)
all_of o stages.DataCmd = one_of stages.DataCmd commands.DataCmd refl
all_of o stages.Header = each_of stages.Header (λ header. commands.Header (sent_header (has_leading_space o.negotiated) header)) o.message.headers (λ header. refl)
all_of o stages.Eoh = one_of stages.Eoh commands.Eoh refl
all_of o stages.Body = each_of stages.Body (λ chunk. commands.Body chunk) (chunks_of o.message.body) (λ chunk. refl)
all_of o stages.Eob = one_of stages.Eob (commands.Eob []) refl

found_one : (stage : Stage) (commands : List Command) (n : ℕ) → All (IsOf stage) commands → is_some (slice_get commands n) ≡ true
    → found commands n ≡ Some (Some stage)
found_one stage [] n h e = absurd cc
found_one stage (x ∷ xs) zero h e = ap (λ (s : Option Stage). Some s) (All-head (IsOf stage) x xs h)
found_one stage (x ∷ xs) (suc n) h e = found_one stage xs n (All-tail (IsOf stage) x xs h) e

no_one : (commands : List Command) (n : ℕ) → is_some (slice_get commands n) ≡ false → None ≡ slice_get commands n
no_one [] n e = refl
no_one (x ∷ xs) zero e = absurd cc
no_one (x ∷ xs) (suc n) e = no_one xs n e

-- ---- with macros

picked : (stage : Stage) (packet command : Command) (first : Bool) → stage_of packet ≡ None → stage_of command ≡ Some stage
    → option_map stage_of (if first then Some packet else Some command) ≡ Some (if first then None else Some stage)
picked stage packet command true silent e = ap (λ (s : Option Stage). Some s) silent
picked stage packet command false silent e = ap (λ (s : Option Stage). Some s) e

of_two : (stage : Stage) (packet : Command) (command : Option Command) (r : ℕ) → stage_of packet ≡ None
    → option_map stage_of command ≡ Some (Some stage)
    → option_map stage_of (one_of_two packet command r) ≡ Some (if r == 0 then None else Some stage)
of_two stage packet None r silent e = absurd cc
of_two stage packet (Some command) r silent e = picked stage packet command (r == 0) silent (same_Some (stage_of command) (Some stage) e)

-- ---- of a stage that is sent, by whether macros precede its commands

plain_none : (sent : Bool) (commands : List Command) (n : ℕ) → sent ≡ true → is_some (slice_get commands n) ≡ false
    → None ≡ found (steps_if sent [] commands) n
plain_none sent commands n h e =
    ap (λ (c : Option Command). option_map stage_of c) (no_one commands n e ∙ plain sent [] commands n h refl)

paired_none : (sent : Bool) (packet : Command) (commands : List Command) (n : ℕ) → sent ≡ true
    → is_some (slice_get commands (n / 2)) ≡ false → None ≡ found (steps_if sent (packet ∷ []) commands) n
paired_none sent packet commands n h e =
    ap (λ (c : Option Command). option_map stage_of c)
    (ap (λ (c : Option Command). one_of_two packet c (n % 2)) (no_one commands (n / 2) e)
    ∙ paired sent packet (packet ∷ []) commands n h refl)

plain_some : (sent : Bool) (stage : Stage) (commands : List Command) (n : ℕ) → sent ≡ true → All (IsOf stage) commands
    → is_some (slice_get commands n) ≡ true → Some (Some stage) ≡ found (steps_if sent [] commands) n
plain_some sent stage commands n h all e =
    sym (found_one stage commands n all e)
    ∙ ap (λ (c : Option Command). option_map stage_of c) (plain sent [] commands n h refl)

paired_some : (sent : Bool) (stage : Stage) (packet : Command) (commands : List Command) (n : ℕ) → sent ≡ true
    → stage_of packet ≡ None → All (IsOf stage) commands → is_some (slice_get commands (n / 2)) ≡ true
    → Some (if n % 2 == 0 then None else Some stage) ≡ found (steps_if sent (packet ∷ []) commands) n
paired_some sent stage packet commands n h silent all e =
    sym (of_two stage packet (slice_get commands (n / 2)) (n % 2) silent (found_one stage commands (n / 2) all e))
    ∙ ap (λ (c : Option Command). option_map stage_of c) (paired sent packet (packet ∷ []) commands n h refl)

none_by : (sent : Bool) (code : Option ℕ) (pairs : List Pair) (sent_ones : List Command) (n : ℕ) (pair : Bool) → sent ≡ true
    → pair ≡ is_some (slice_get (macro_step code pairs) 0) → is_some (slice_get sent_ones (if pair then n / 2 else n)) ≡ false
    → None ≡ found (steps_if sent (macro_step code pairs) sent_ones) n
none_by sent None pairs sent_ones n true h p e = absurd cc
none_by sent None pairs sent_ones n false h p e = plain_none sent sent_ones n h e
none_by sent (Some code) [] sent_ones n true h p e = absurd cc
none_by sent (Some code) [] sent_ones n false h p e = plain_none sent sent_ones n h e
none_by sent (Some code) (x ∷ xs) sent_ones n true h p e = paired_none sent (commands.Macro code (x ∷ xs)) sent_ones n h e
none_by sent (Some code) (x ∷ xs) sent_ones n false h p e = absurd cc

some_by : (sent : Bool) (stage : Stage) (code : Option ℕ) (pairs : List Pair) (sent_ones : List Command) (n : ℕ) (pair : Bool)
    → sent ≡ true → pair ≡ is_some (slice_get (macro_step code pairs) 0) → All (IsOf stage) sent_ones
    → is_some (slice_get sent_ones (if pair then n / 2 else n)) ≡ true
    → Some (if pair && (n % 2 == 0) then None else Some stage) ≡ found (steps_if sent (macro_step code pairs) sent_ones) n
some_by sent stage None pairs sent_ones n true h p all e = absurd cc
some_by sent stage None pairs sent_ones n false h p all e = plain_some sent stage sent_ones n h all e
some_by sent stage (Some code) [] sent_ones n true h p all e = absurd cc
some_by sent stage (Some code) [] sent_ones n false h p all e = plain_some sent stage sent_ones n h all e
some_by sent stage (Some code) (x ∷ xs) sent_ones n true h p all e = paired_some sent stage (commands.Macro code (x ∷ xs)) sent_ones n h refl all e
some_by sent stage (Some code) (x ∷ xs) sent_ones n false h p all e = absurd cc

by_even : (stage : Stage) (r : ℕ) → r ≡ 0 → (if true && (r == 0) then None else Some stage) ≡ None
by_even stage r even = ap (λ (b : Bool). if b then None else Some stage) (eq-eqb r 0 even)

by_odd : (stage : Stage) (r : ℕ) → r ≢ 0 → (if true && (r == 0) then None else Some stage) ≡ Some stage
by_odd stage r odd = ap (λ (b : Bool). if b then None else Some stage) (ne_eqb r 0 odd)

-- ---- of a plan

pub not_sent : (o : Outgoing) (stage : Stage) (n : ℕ) → is_sent o.negotiated stage ≡ false → None ≡ found (steps_at o stage) n
not_sent o stage n h =
    ap (λ (c : Option Command). option_map stage_of c)
    (left_out (is_sent o.negotiated stage) (macro_step (macro_command_of stage) (macros_at o.macros stage)) (commands_of o stage) n h)

module _ (o : Outgoing) (stage : Stage) (n : ℕ) (pair : Bool) (sent : is_sent o.negotiated stage ≡ true) (macros : pair ≡ is_some (slice_get (macro_step (macro_command_of stage) (macros_at o.macros stage)) 0)) where
  pub none_at : is_some (slice_get (commands_of o stage) (if pair then n / 2 else n)) ≡ false → None ≡ found (steps_at o stage) n
  none_at e = none_by (is_sent o.negotiated stage) (macro_command_of stage) (macros_at o.macros stage) (commands_of o stage) n pair sent macros e

  pub some_at : is_some (slice_get (commands_of o stage) (if pair then n / 2 else n)) ≡ true
      → Some (if pair && (n % 2 == 0) then None else Some stage) ≡ found (steps_at o stage) n
  some_at e = some_by (is_sent o.negotiated stage) stage (macro_command_of stage) (macros_at o.macros stage) (commands_of o stage) n pair sent macros (all_of o stage) e

module _ (o : Outgoing) (stage : Stage) (n : ℕ) (sent : is_sent o.negotiated stage ≡ true) (macros : true ≡ is_some (slice_get (macro_step (macro_command_of stage) (macros_at o.macros stage)) 0)) (some : is_some (slice_get (commands_of o stage) (n / 2)) ≡ true) where
  pub at_macros : n % 2 ≡ 0 → Some None ≡ found (steps_at o stage) n
  at_macros even = ap (λ (s : Option Stage). Some s) (sym (by_even stage (n % 2) even)) ∙ some_at o stage n true sent macros some

  pub at_command : n % 2 ≢ 0 → Some (Some stage) ≡ found (steps_at o stage) n
  at_command odd = ap (λ (s : Option Stage). Some s) (sym (by_odd stage (n % 2) odd)) ∙ some_at o stage n true sent macros some

-- ---- the first that is left

pub none_mapped : (s : Option Command) → None ≡ option_map stage_of s → None ≡ s
none_mapped None e = refl
none_mapped (Some command) e = absurd cc

some_mapped : (s : Option Command) (stage : Option Stage) → Some stage ≡ option_map stage_of s → (command : Command) × (Some command ≡ s)
some_mapped None stage e = absurd cc
some_mapped (Some command) stage e = (command, refl)

pub is_some_mapped : (s : Option Command) → is_some (option_map stage_of s) ≡ is_some s
is_some_mapped None = refl
is_some_mapped (Some command) = refl

pub first_found : (o : Outgoing) (stage : Stage) (n : ℕ) (of : Option Stage) → Some of ≡ found (steps_at o stage) n
    → slice_get (steps_at o stage) n ≡ slice_get (steps_from o stage n) 0
first_found o stage n of e =
    let it = some_mapped (slice_get (steps_at o stage) n) of e in
    at_first o stage n it.0 it.1
