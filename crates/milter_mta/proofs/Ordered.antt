-- The commands of a plan come in the order of their stages, and so do those of a part of them.
use Rattle.std.specs.Prelude.{if◌then◌else◌}
use Rattle.std.proofs.Common.{◌≡◌, ◌≤◌, ℕ, Bool, true, false, ◌||◌, List, [], ◌∷◌, ◌++◌, map, Option, None, Some, refl, sym, ap, ◌∙◌, subst, arith}
use Rattle.std.specs.List.{flat_map}
use Rattle.milter_fields.specs.declared.pair.Pair.{Pair}
use Rattle.milter_wire.specs.declared.negotiation.Negotiated.{Negotiated}
use Rattle.milter_wire.specs.declared.command.Command.{Command}
use Rattle.milter_wire.specs.declared.command.Command.TheVariants as commands
use Rattle.milter_wire.specs.declared.stage.Stage.{Stage}
use Rattle.milter_wire.specs.declared.stage.Stage.TheVariants.{Connect, Helo, Mail, Rcpt, DataCmd, Header, Eoh, Body, Eob}
use Rattle.milter_wire.specs.Negotiation.{has_leading_space, is_sent}
use Rattle.milter_wire.specs.Stages.{macro_command_of, stage_of}
use Rattle.milter_message.specs.LeadingSpace.{sent_header}
use Rattle.milter_message.specs.MailObject.{MailObject}
use Rattle.milter_message.specs.Chunks.{chunks_of}
use Rattle.milter_mail.specs.Macros.{Macros}
use Rattle.milter_mail.specs.MailSession.{MailSession}
use Rattle.milter_mail.specs.Plan.{macros_of, opening, plan}
use Rattle.milter_mail.specs.Steps.{macro_step, macros_at, message_steps, step}
use Rattle.milter_protocol.specs.Exchanges.{onto}
use Rattle.milter_protocol.specs.Dialogue.{has_end, is_end_command}
use Rattle.milter_protocol.specs.Transcripts.{rank_at}
use Rattle.milter_protocol.specs.StageOrder.{rank_of}
use Rattle.milter_mta_outcome.specs.PlanCursor.{Outgoing, commands_of, outgoing_of, stages_after, steps_at}
use Rattle.milter_mta_outcome.proofs.PlanLaws.{message_by_stages, plan_by_stages}
use Rattle.milter_mta.specs.Order.{AreInOrder, ComeBefore, ReachAtMost}

-- ---- parts of what is in order

pub order-before : (left before : List Command) → AreInOrder (onto left before) → AreInOrder before
order-before [] before order = order
order-before (command ∷ left) before order = (order-before left (command ∷ before) order).1

-- the first list is in order where the second one is, and reaches no further
record Within (xs ys : List Command) : Type 0 where
  reach : (rank : ℕ) → ReachAtMost rank ys → ReachAtMost rank xs
  order : AreInOrder ys → AreInOrder xs

come : (xs ys : List Command) → Within xs ys → (at : Option Stage) → ComeBefore at ys → ComeBefore at xs
come xs ys within None before = tt
come xs ys within (Some stage) before = within.reach (rank_of stage) before

one_more : (command : Command) (xs ys : List Command) → Within xs ys → Within (command ∷ xs) (command ∷ ys)
one_more command xs ys within =
    record {
      reach = λ rank below. (below.0, within.reach rank below.1);
      order = λ order. (come xs ys within (stage_of command) order.0, within.order order.1);
    }

all_more : (left xs ys : List Command) → Within xs ys → Within (onto left xs) (onto left ys)
all_more [] xs ys within = within
all_more (command ∷ left) xs ys within = all_more left (command ∷ xs) (command ∷ ys) (one_more command xs ys within)

pub order-without : (left : List Command) (command : Command) (before : List Command) → AreInOrder (onto left (command ∷ before)) → AreInOrder (onto left before)
order-without left command before =
    (all_more left before (command ∷ before) (record { reach = λ rank below. below.1; order = λ order. order.1 })).order

-- ---- a stage after those before it

pub record Reaches (rank : ℕ) (before : List Command) : Type 0 where
  pub order : AreInOrder before
  pub reach : ReachAtMost rank before

pub further : (rank more : ℕ) → rank ≤ more → (before : List Command) → ReachAtMost rank before → ReachAtMost more before
further rank more less [] below = tt
further rank more less (command ∷ before) below = (let here = below.0 in omega (arith, here, less), further rank more less before below.1)

reaches-further : (rank more : ℕ) → rank ≤ more → (before : List Command) → Reaches rank before → Reaches more before
reaches-further rank more less before is = record { order = is.order; reach = further rank more less before is.reach }

pub onto-append : (xs ys before : List Command) → onto (xs ++ ys) before ≡ onto ys (onto xs before)
onto-append [] ys before = refl
onto-append (x ∷ xs) ys before = onto-append xs ys (x ∷ before)

module _ (negotiated : Negotiated) (macros : Macros) (stage : Stage) where
  with_macros : (code : Option ℕ) (pairs : List Pair) (rank : ℕ) (before : List Command) → Reaches rank before → Reaches rank (onto (macro_step code pairs) before)
  with_macros None pairs rank before is = is
  with_macros (Some code) [] rank before is = is
  with_macros (Some code) (pair ∷ pairs) rank before is = record { order = (tt, is.order); reach = (omega arith, is.reach) }

  with_command : (command : Command) (rank : ℕ) (before : List Command) → stage_of command ≡ Some stage → rank ≤ rank_of stage → Reaches rank before
      → Reaches (rank_of stage) (command ∷ before)
  with_command command rank before at less is =
      let below = further rank (rank_of stage) less before is.reach in
      record {
        order = (subst (λ (s : Option Stage). ComeBefore s before) (sym at) below, is.order);
        reach = (subst (λ (s : Option Stage). rank_at s ≤ rank_of stage) (sym at) (omega arith), below);
      }

  with_step : (command : Command) (rank : ℕ) (before : List Command) → stage_of command ≡ Some stage → rank ≤ rank_of stage → Reaches rank before
      → Reaches (rank_of stage) (onto (step negotiated macros stage command) before)
  with_step command rank before at less is = by_sent (is_sent negotiated stage)
    where
      its_macros : List Command
      its_macros = macro_step (macro_command_of stage) (macros_at macros stage)

      by_sent : (sent : Bool) → Reaches (rank_of stage) (onto (if sent then macro_step (macro_command_of stage) (macros_at macros stage) ++ command ∷ [] else []) before)
      by_sent false = reaches-further rank (rank_of stage) less before is
      by_sent true =
          subst (Reaches (rank_of stage)) (sym (onto-append (macro_step (macro_command_of stage) (macros_at macros stage)) (command ∷ []) before))
          (with_command command rank (onto (macro_step (macro_command_of stage) (macros_at macros stage)) before) at less
          (with_macros (macro_command_of stage) (macros_at macros stage) rank before is))

  abbrev AreAt : List Command → Type 0
  AreAt [] = Unit {0}
  AreAt (command ∷ left) = (stage_of command ≡ Some stage) × AreAt left

  pub all_at : {A : Type 0} (f : A → Command) → ((x : A) → stage_of (f x) ≡ Some stage) → (xs : List A) → AreAt (map f xs)
  all_at f at [] = tt
  all_at f at (x ∷ xs) = (at x, all_at f at xs)

  with_steps : (left : List Command) → AreAt left → (rank : ℕ) (before : List Command) → rank ≤ rank_of stage → Reaches rank before
      → Reaches (rank_of stage) (onto (flat_map (step negotiated macros stage) left) before)
  with_steps [] at rank before less is = reaches-further rank (rank_of stage) less before is
  with_steps (command ∷ left) at rank before less is =
      subst (Reaches (rank_of stage)) (sym (onto-append (step negotiated macros stage command) (flat_map (step negotiated macros stage) left) before))
      (with_steps left at.1 (rank_of stage) (onto (step negotiated macros stage command) before) (omega arith) (with_step command rank before at.0 less is))

module _ (o : Outgoing) where
  each_at : (stage : Stage) → AreAt o.negotiated o.macros stage (commands_of o stage)
  each_at Connect = (refl, tt)
  each_at Helo = (refl, tt)
  each_at Mail = (refl, tt)
  each_at Rcpt = all_at o.negotiated o.macros Rcpt (λ recipient. commands.Rcpt recipient) (λ recipient. refl) o.message.recipients
  each_at DataCmd = (refl, tt)
  each_at Header = all_at o.negotiated o.macros Header (λ header. commands.Header (sent_header (has_leading_space o.negotiated) header)) (λ header. refl) o.message.headers
  each_at Eoh = (refl, tt)
  each_at Body = all_at o.negotiated o.macros Body (λ chunk. commands.Body chunk) (λ chunk. refl) (chunks_of o.message.body)
  each_at Eob = (refl, tt)

  -- stages, each of a higher rank than the one before it
  abbrev Ascend : ℕ → List Stage → Type 0
  Ascend rank [] = Unit {0}
  Ascend rank (stage ∷ stages) = (rank ≤ rank_of stage) × Ascend (rank_of stage) stages

  pub with_stages : (stages : List Stage) (rank : ℕ) (before : List Command) → Ascend rank stages → Reaches rank before
      → AreInOrder (onto (flat_map (steps_at o) stages) before)
  with_stages [] rank before ascend is = is.order
  with_stages (stage ∷ stages) rank before ascend is =
      subst AreInOrder (sym (onto-append (steps_at o stage) (flat_map (steps_at o) stages) before))
      (with_stages stages (rank_of stage) (onto (steps_at o stage) before) ascend.1
      (with_steps o.negotiated o.macros stage (commands_of o stage) (each_at stage) rank before ascend.0 is))

-- ---- plans

module _ (negotiated : Negotiated) (session : MailSession) (message : MailObject) where
  abbrev o : Outgoing
  o = outgoing_of negotiated session message

  pub plan-ordered : AreInOrder (onto (plan negotiated session message) [])
  plan-ordered =
      subst (λ (p : List Command). AreInOrder (onto p [])) (plan_by_stages negotiated session message)
      (with_stages o (Connect ∷ stages_after Connect) 0 []
      (omega arith, (omega arith, (omega arith, (omega arith, (omega arith, (omega arith, (omega arith, (omega arith, (omega arith, tt)))))))))
      (record { order = tt; reach = tt }))

  pub message-ordered : (before : List Command) → Reaches 2 before → AreInOrder (onto (message_steps negotiated (macros_of negotiated session) message) before)
  message-ordered before is =
      subst (λ (p : List Command). AreInOrder (onto p before)) (message_by_stages o)
      (with_stages o (Mail ∷ stages_after Mail) 2 before
      (omega arith, (omega arith, (omega arith, (omega arith, (omega arith, (omega arith, (omega arith, tt)))))))
      is)

-- ---- the end of a message

has_end-append : (xs ys : List Command) → has_end ys ≡ true → has_end (xs ++ ys) ≡ true
has_end-append [] ys e = e
has_end-append (x ∷ xs) ys e = ap (λ (b : Bool). is_end_command x || b) (has_end-append xs ys e) ∙ or_true (is_end_command x)
  where
    or_true : (b : Bool) → (b || true) ≡ true
    or_true true = refl
    or_true false = refl

-- what is sent of a message before its end
abbrev before_end : Negotiated → Macros → MailObject → List Command
before_end negotiated macros message =
    step negotiated macros Mail (commands.Mail message.sender)
    ++ flat_map (λ recipient. step negotiated macros Rcpt (commands.Rcpt recipient)) message.recipients
    ++ step negotiated macros DataCmd commands.DataCmd
    ++ flat_map (λ header. step negotiated macros Header (commands.Header (sent_header (has_leading_space negotiated) header))) message.headers
    ++ step negotiated macros Eoh commands.Eoh
    ++ flat_map (λ chunk. step negotiated macros Body (commands.Body chunk)) (chunks_of message.body)

pub message-ends : (negotiated : Negotiated) (macros : Macros) (message : MailObject) → has_end (message_steps negotiated macros message) ≡ true
message-ends negotiated macros message =
    has_end-append (before_end negotiated macros message) (step negotiated macros Eob (commands.Eob []))
    (has_end-append (macro_step (macro_command_of Eob) (macros_at macros Eob)) (commands.Eob [] ∷ []) refl)

pub plan-ends : (negotiated : Negotiated) (session : MailSession) (message : MailObject) → has_end (plan negotiated session message) ≡ true
plan-ends negotiated session message =
    has_end-append (opening negotiated session) (message_steps negotiated (macros_of negotiated session) message) (message-ends negotiated (macros_of negotiated session) message)
