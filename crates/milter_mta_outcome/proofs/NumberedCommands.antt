-- The commands of a stage by their number, macro packets among them.
use Rattle.std.proofs.Common.{◌≡◌, ◌<◌, ℕ, zero, suc, ◌+◌, ◌*◌, ◌/◌, ◌%◌, Bool, true, false, List, [], ◌∷◌, ◌++◌, None, Some, slice_get, drop, length, refl, sym, ap, ◌∙◌, arith, if◌then◌else◌, flat_map}
use Rattle.std.proofs.lemmas.Nat.{div-add-mod'}
use Rattle.std.proofs.lemmas.Option.{same_Some}
use Rattle.milter_wire.specs.declared.command.Command.{Command}
use Rattle.milter_wire.specs.declared.stage.Stage.{Stage}
use Rattle.milter_wire.specs.declared.stage.Stage.TheVariants.{Connect, Helo, Mail, Rcpt, DataCmd, Header, Eoh, Body, Eob}
use Rattle.milter_mta_outcome.specs.PlanCursor.{Outgoing, one_of_two, stages_after, steps_at, steps_from}

-- each of the commands after these packets, where the stage is sent
abbrev pub steps_if : Bool → List Command → List Command → List Command
steps_if sent packets commands = flat_map (λ command. if sent then packets ++ command ∷ [] else []) commands

not_sent : (packets commands : List Command) (n : ℕ) → None ≡ slice_get (steps_if false packets commands) n
not_sent packets [] n = refl
not_sent packets (command ∷ commands) n = not_sent packets commands n

without_macros : (commands : List Command) → steps_if true [] commands ≡ commands
without_macros [] = refl
without_macros (command ∷ commands) = ap (λ (l : List Command). command ∷ l) (without_macros commands)

-- ---- with a macro packet before each

pair_at : (packet : Command) (commands : List Command) (k r : ℕ) → r < 2
    → slice_get (steps_if true (packet ∷ []) commands) (k * 2 + r) ≡ one_of_two packet (slice_get commands k) r
pair_at packet [] k zero lt = refl
pair_at packet [] k (suc r) lt = refl
pair_at packet (command ∷ commands) zero zero lt = refl
pair_at packet (command ∷ commands) zero (suc zero) lt = refl
pair_at packet (command ∷ commands) zero (suc (suc r)) lt = absurd (omega (arith, lt))
pair_at packet (command ∷ commands) (suc k) r lt =
    let more : suc k * 2 + r ≡ suc (suc (k * 2 + r)) = omega arith in
    ap (slice_get (steps_if true (packet ∷ []) (command ∷ commands))) more ∙ pair_at packet commands k r lt

with_macros : (packet : Command) (commands : List Command) (n : ℕ)
    → slice_get (steps_if true (packet ∷ []) commands) n ≡ one_of_two packet (slice_get commands (n / 2)) (n % 2)
with_macros packet commands n =
    let lt : n % 2 < 2 = omega arith in
    ap (slice_get (steps_if true (packet ∷ []) commands)) (sym (div-add-mod' n 2))
    ∙ pair_at packet commands (n / 2) (n % 2) lt

-- ---- by what was found

pub left_out : (sent : Bool) (packets commands : List Command) (n : ℕ) → sent ≡ false
    → None ≡ slice_get (steps_if sent packets commands) n
left_out sent packets commands n e =
    not_sent packets commands n ∙ ap (λ (b : Bool). slice_get (steps_if b packets commands) n) (sym e)

as_sent : (sent : Bool) (packets found commands : List Command) (n : ℕ) → sent ≡ true → found ≡ packets
    → slice_get (steps_if true found commands) n ≡ slice_get (steps_if sent packets commands) n
as_sent sent packets found commands n e p =
    ap (λ (l : List Command). slice_get (steps_if true l commands) n) p
    ∙ ap (λ (b : Bool). slice_get (steps_if b packets commands) n) (sym e)

pub plain : (sent : Bool) (packets commands : List Command) (n : ℕ) → sent ≡ true → [] ≡ packets
    → slice_get commands n ≡ slice_get (steps_if sent packets commands) n
plain sent packets commands n e p =
    ap (λ (l : List Command). slice_get l n) (sym (without_macros commands)) ∙ as_sent sent packets [] commands n e p

pub paired : (sent : Bool) (packet : Command) (packets commands : List Command) (n : ℕ) → sent ≡ true
    → packet ∷ [] ≡ packets
    → one_of_two packet (slice_get commands (n / 2)) (n % 2) ≡ slice_get (steps_if sent packets commands) n
paired sent packet packets commands n e p =
    sym (with_macros packet commands n) ∙ as_sent sent packets (packet ∷ []) commands n e p

-- ---- from stage to stage

-- where there is none with this number, none is left of the stage
none_left : (commands : List Command) (n : ℕ) → None ≡ slice_get commands n → drop n commands ≡ []
none_left [] zero e = refl
none_left [] (suc n) e = refl
none_left (command ∷ commands) zero e = absurd cc
none_left (command ∷ commands) (suc n) e = none_left commands n e

first_left : (commands later : List Command) (n : ℕ) (command : Command) → Some command ≡ slice_get commands n
    → slice_get (drop n commands ++ later) 0 ≡ Some command
first_left [] later n command e = absurd cc
first_left (first ∷ commands) later zero command e = sym e
first_left (first ∷ commands) later (suc n) command e = first_left commands later n command e

-- the stages after one are the next one and those after that
next_first : (stage next : Stage) → Some next ≡ slice_get (stages_after stage) 0 → stages_after stage ≡ next ∷ stages_after next
next_first Connect next e = ap (λ (s : Stage). s ∷ stages_after s) (same_Some Helo next (sym e))
next_first Helo next e = ap (λ (s : Stage). s ∷ stages_after s) (same_Some Mail next (sym e))
next_first Mail next e = ap (λ (s : Stage). s ∷ stages_after s) (same_Some Rcpt next (sym e))
next_first Rcpt next e = ap (λ (s : Stage). s ∷ stages_after s) (same_Some DataCmd next (sym e))
next_first DataCmd next e = ap (λ (s : Stage). s ∷ stages_after s) (same_Some Header next (sym e))
next_first Header next e = ap (λ (s : Stage). s ∷ stages_after s) (same_Some Eoh next (sym e))
next_first Eoh next e = ap (λ (s : Stage). s ∷ stages_after s) (same_Some Body next (sym e))
next_first Body next e = ap (λ (s : Stage). s ∷ stages_after s) (same_Some Eob next (sym e))
next_first Eob next e = absurd cc

no_next : (stage : Stage) → None ≡ slice_get (stages_after stage) 0 → stages_after stage ≡ []
no_next Eob e = refl
no_next Connect e = absurd cc
no_next Helo e = absurd cc
no_next Mail e = absurd cc
no_next Rcpt e = absurd cc
no_next DataCmd e = absurd cc
no_next Header e = absurd cc
no_next Eoh e = absurd cc
no_next Body e = absurd cc

pub in_next : (o : Outgoing) (stage next : Stage) (n : ℕ) → None ≡ slice_get (steps_at o stage) n
    → Some next ≡ slice_get (stages_after stage) 0 → steps_from o stage n ≡ steps_from o next 0
in_next o stage next n none e =
    ap (λ (l : List Command). l ++ flat_map (steps_at o) (stages_after stage)) (none_left (steps_at o stage) n none)
    ∙ ap (flat_map (steps_at o)) (next_first stage next e)

pub at_end : (o : Outgoing) (stage : Stage) (n : ℕ) → None ≡ slice_get (steps_at o stage) n
    → None ≡ slice_get (stages_after stage) 0 → slice_get (steps_at o stage) n ≡ slice_get (steps_from o stage n) 0
at_end o stage n none e =
    sym none
    ∙ ap (λ (l : List Command). slice_get l 0)
    (sym (ap (λ (l : List Command). l ++ flat_map (steps_at o) (stages_after stage)) (none_left (steps_at o stage) n none)
    ∙ ap (flat_map (steps_at o)) (no_next stage e)))

pub at_first : (o : Outgoing) (stage : Stage) (n : ℕ) (command : Command) → Some command ≡ slice_get (steps_at o stage) n
    → slice_get (steps_at o stage) n ≡ slice_get (steps_from o stage n) 0
at_first o stage n command e =
    sym e ∙ sym (first_left (steps_at o stage) (flat_map (steps_at o) (stages_after stage)) n command e)

pub fewer_after : (stage next : Stage) → Some next ≡ slice_get (stages_after stage) 0
    → length (stages_after next) < length (stages_after stage)
fewer_after stage next e =
    let longer : length (stages_after stage) ≡ suc (length (stages_after next)) =
    ap (λ (l : List Stage). length l) (next_first stage next e) in
    omega (arith, longer)
