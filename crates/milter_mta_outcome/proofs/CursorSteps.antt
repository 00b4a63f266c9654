-- What is left of a plan after a command, after the chunks of its body, and of its recipients.
use Rattle.std.proofs.Common.{◌≡◌, ℕ, zero, suc, ◌+◌, Bool, true, false, not, ◌||◌, List, [], ◌∷◌, ◌++◌, Option, None, Some, IsSome, All, slice_get, drop, map, is_some, refl, sym, ap, ◌∙◌, arith, if◌then◌else◌, flat_map}
use Rattle.std.specs.List.{list_any}
use Rattle.std.proofs.lemmas.List.Elements.{All-append, All-cons, All-drop, All-head, All-nil, All-tail, filter-append}
use Rattle.std.proofs.lemmas.List.Folds.{list_any-append}
use Rattle.milter_fields.specs.declared.pair.Pair.{Pair}
use Rattle.milter_fields.specs.declared.path.Path.{Path}
use Rattle.milter_wire.specs.declared.command.Command.{Command}
use Rattle.milter_wire.specs.declared.command.Command.TheVariants as commands
use Rattle.milter_wire.specs.declared.stage.Stage.{Stage}
use Rattle.milter_wire.specs.declared.stage.Stage.TheVariants as stages
use Rattle.milter_wire.specs.Negotiation.{has_leading_space, is_sent}
use Rattle.milter_message.specs.LeadingSpace.{sent_header}
use Rattle.milter_message.specs.Chunks.{chunks_of}
use Rattle.milter_protocol.specs.Dialogue.{is_body, is_rcpt}
use Rattle.milter_mail.specs.Steps.{macro_step, macros_at}
use Rattle.milter_wire.specs.Stages.{macro_command_of}
use Rattle.milter_mta_outcome.specs.PlanCursor.{Outgoing, stages_after, steps_at, steps_from, without_body}
use Rattle.milter_mta_outcome.proofs.NumberedCommands.{steps_if}

-- ---- one command more

drop_one : (n : ℕ) (xs later : List Command) → IsSome (slice_get xs n)
    → drop (suc n) xs ++ later ≡ drop 1 (drop n xs ++ later)
drop_one n [] later h = absurd cc
drop_one zero (x ∷ xs) later h = refl
drop_one (suc n) (x ∷ xs) later h = drop_one n xs later h

pub one_further : (o : Outgoing) (stage : Stage) (n : ℕ) → IsSome (slice_get (steps_at o stage) n)
    → steps_from o stage (n + 1) ≡ drop 1 (steps_from o stage n)
one_further o stage n h =
    let next : n + 1 ≡ suc n = omega arith in
    ap (steps_from o stage) next ∙ drop_one n (steps_at o stage) (flat_map (steps_at o) (stages_after stage)) h

-- ---- what all commands of a stage have

pub macros_all : (Q : Command → Type 0) → ((code : ℕ) (pairs : List Pair) → Q (commands.Macro code pairs))
    → (code : Option ℕ) (pairs : List Pair) → All Q (macro_step code pairs)
macros_all Q q None pairs = All-nil Q
macros_all Q q (Some code) [] = All-nil Q
macros_all Q q (Some code) (pair ∷ pairs) = All-cons Q (commands.Macro code (pair ∷ pairs)) [] (q code (pair ∷ pairs)) (All-nil Q)

one_all : (Q : Command → Type 0) (sent : Bool) (packets : List Command) (command : Command) → All Q packets → Q command
    → All Q (if sent then packets ++ command ∷ [] else [])
one_all Q true packets command h q = All-append Q packets (command ∷ []) h (All-cons Q command [] q (All-nil Q))
one_all Q false packets command h q = All-nil Q

pub each_all : {A : Type 0} (Q : Command → Type 0) (sent : Bool) (packets : List Command) (f : A → Command) (xs : List A)
    → All Q packets → ((x : A) → Q (f x)) → All Q (steps_if sent packets (map f xs))
each_all Q sent packets f [] h q = All-nil Q
each_all Q sent packets f (x ∷ xs) h q =
    All-append Q (if sent then packets ++ f x ∷ [] else []) (steps_if sent packets (map f xs))
    (one_all Q sent packets (f x) h (q x)) (each_all Q sent packets f xs h q)

pub single_all : (Q : Command → Type 0) (sent : Bool) (packets : List Command) (command : Command) → All Q packets → Q command
    → All Q (steps_if sent packets (command ∷ []))
single_all Q sent packets command h q =
    All-append Q (if sent then packets ++ command ∷ [] else []) [] (one_all Q sent packets command h q) (All-nil Q)

-- ---- after the body

none_kept : (xs : List Command) → All (λ command. is_body command ≡ true) xs → without_body xs ≡ []
none_kept [] h = refl
none_kept (x ∷ xs) h =
    let Q : Command → Type 0 = λ command. is_body command ≡ true in
    rw (All-head Q x xs h) (none_kept xs (All-tail Q x xs h))

all_kept : (xs : List Command) → All (λ command. is_body command ≡ false) xs → without_body xs ≡ xs
all_kept [] h = refl
all_kept (x ∷ xs) h =
    let Q : Command → Type 0 = λ command. is_body command ≡ false in
    rw (All-head Q x xs h) (ap (λ (l : List Command). x ∷ l) (all_kept xs (All-tail Q x xs h)))

module _ (o : Outgoing) where
  body_steps : All (λ command. is_body command ≡ true) (steps_at o stages.Body)
  body_steps =
      each_all (λ command. is_body command ≡ true) (is_sent o.negotiated stages.Body) [] (λ chunk. commands.Body chunk)
      (chunks_of o.message.body) (All-nil (λ command. is_body command ≡ true)) (λ chunk. refl)

  end_steps : All (λ command. is_body command ≡ false) (steps_at o stages.Eob ++ [])
  end_steps =
      let Q : Command → Type 0 = λ command. is_body command ≡ false in
      All-append Q (steps_at o stages.Eob) []
      (single_all Q (is_sent o.negotiated stages.Eob) (macro_step (macro_command_of stages.Eob) (macros_at o.macros stages.Eob)) (commands.Eob [])
      (macros_all Q (λ code pairs. refl) (macro_command_of stages.Eob) (macros_at o.macros stages.Eob)) refl)
      (All-nil Q)

  pub after_body : (n : ℕ) → steps_from o stages.Eob 0 ≡ without_body (steps_from o stages.Body n)
  after_body n =
      sym (filter-append (λ command. not (is_body command)) (drop n (steps_at o stages.Body)) (steps_at o stages.Eob ++ [])
      ∙ ap (λ (l : List Command). l ++ without_body (steps_at o stages.Eob ++ []))
      (none_kept (drop n (steps_at o stages.Body)) (All-drop (λ command. is_body command ≡ true) n (steps_at o stages.Body) body_steps))
      ∙ all_kept (steps_at o stages.Eob ++ []) end_steps)

-- ---- the recipients

no_rcpt : (xs : List Command) → All (λ command. is_rcpt command ≡ false) xs → list_any is_rcpt xs ≡ false
no_rcpt [] h = refl
no_rcpt (x ∷ xs) h =
    let Q : Command → Type 0 = λ command. is_rcpt command ≡ false in
    rw (All-head Q x xs h) (no_rcpt xs (All-tail Q x xs h))

some_rcpt : (sent : Bool) (code : Option ℕ) (pairs : List Pair) (paths : List Path) (n : ℕ)
    → list_any is_rcpt (drop n (steps_if sent (macro_step code pairs) (map (λ path. commands.Rcpt path) paths)))
    ≡ is_some (slice_get (steps_if sent (macro_step code pairs) (map (λ path. commands.Rcpt path) paths)) n)
some_rcpt sent code pairs [] zero = refl
some_rcpt sent code pairs [] (suc n) = refl
some_rcpt false code pairs (path ∷ paths) n = some_rcpt false code pairs paths n
some_rcpt true None pairs (path ∷ paths) zero = refl
some_rcpt true None pairs (path ∷ paths) (suc n) = some_rcpt true None pairs paths n
some_rcpt true (Some code) [] (path ∷ paths) zero = refl
some_rcpt true (Some code) [] (path ∷ paths) (suc n) = some_rcpt true (Some code) [] paths n
some_rcpt true (Some code) (pair ∷ pairs) (path ∷ paths) zero = refl
some_rcpt true (Some code) (pair ∷ pairs) (path ∷ paths) (suc zero) = refl
some_rcpt true (Some code) (pair ∷ pairs) (path ∷ paths) (suc (suc n)) = some_rcpt true (Some code) (pair ∷ pairs) paths n

module _ (o : Outgoing) where
  abbrev IsNoRcpt : Command → Type 0
  IsNoRcpt command = is_rcpt command ≡ false

  macros_no : (stage : Stage) → All IsNoRcpt (macro_step (macro_command_of stage) (macros_at o.macros stage))
  macros_no stage = macros_all IsNoRcpt (λ code pairs. refl) (macro_command_of stage) (macros_at o.macros stage)

  later_no : All IsNoRcpt (flat_map (steps_at o) (stages_after stages.Rcpt))
  later_no =
      All-append IsNoRcpt (steps_at o stages.DataCmd) _ (single_all IsNoRcpt (is_sent o.negotiated stages.DataCmd) _ commands.DataCmd (macros_no stages.DataCmd) refl)
      (All-append IsNoRcpt (steps_at o stages.Header) _
      (each_all IsNoRcpt (is_sent o.negotiated stages.Header) [] (λ header. commands.Header (sent_header (has_leading_space o.negotiated) header)) o.message.headers (All-nil IsNoRcpt) (λ header. refl))
      (All-append IsNoRcpt (steps_at o stages.Eoh) _ (single_all IsNoRcpt (is_sent o.negotiated stages.Eoh) _ commands.Eoh (macros_no stages.Eoh) refl)
      (All-append IsNoRcpt (steps_at o stages.Body) _
      (each_all IsNoRcpt (is_sent o.negotiated stages.Body) [] (λ chunk. commands.Body chunk) (chunks_of o.message.body) (All-nil IsNoRcpt) (λ chunk. refl))
      (All-append IsNoRcpt (steps_at o stages.Eob) _ (single_all IsNoRcpt (is_sent o.negotiated stages.Eob) _ (commands.Eob []) (macros_no stages.Eob) refl)
      (All-nil IsNoRcpt)))))

  or_false : (b : Bool) → (b || false) ≡ b
  or_false true = refl
  or_false false = refl

  pub recipients_left : (n : ℕ) → is_some (slice_get (steps_at o stages.Rcpt) n) ≡ list_any is_rcpt (steps_from o stages.Rcpt n)
  recipients_left n =
      sym (list_any-append is_rcpt (drop n (steps_at o stages.Rcpt)) (flat_map (steps_at o) (stages_after stages.Rcpt))
      ∙ ap (λ (b : Bool). list_any is_rcpt (drop n (steps_at o stages.Rcpt)) || b) (no_rcpt (flat_map (steps_at o) (stages_after stages.Rcpt)) later_no)
      ∙ or_false (list_any is_rcpt (drop n (steps_at o stages.Rcpt)))
      ∙ some_rcpt (is_sent o.negotiated stages.Rcpt) (macro_command_of stages.Rcpt) (macros_at o.macros stages.Rcpt) o.message.recipients n)
