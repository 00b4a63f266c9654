-- One exchange more in a transcript.
use Rattle.std.proofs.Common.{◌≡◌, ℕ, min, Bool, true, false, ◌||◌, List, [], ◌∷◌, ◌++◌, Option, None, Some, refl, ap, arith, is_some, if◌then◌else◌, cond, filter, filter_map}
use Rattle.std.specs.List.{cons_option, list_any}
use Rattle.std.specs.Option.{option_or}
use Rattle.milter_wire.specs.declared.negotiation.Negotiated.{Negotiated}
use Rattle.milter_wire.specs.declared.stage.Stage.{Stage}
use Rattle.milter_wire.specs.Stages.{stage_of}
use Rattle.milter_protocol.specs.Behavior.{Behavior}
use Rattle.milter_protocol.specs.Exchanges.{Exchange, commands_of, latest, since, up_to}
use Rattle.milter_protocol.specs.Commands.{is_of_connection, is_shown}
use Rattle.milter_protocol.specs.Transcripts.{negotiated_by, negotiated_in, begins_anew, ends_message, has_stage, last_rank, of_connection, rank_after, rank_at, rank_from, rank_in, shown}
use Rattle.milter_protocol.specs.OrderStates.{rank_by}

-- ---- what was negotiated

latest-cons : (found : Option Negotiated) (others : List Negotiated) → latest (cons_option found others) ≡ option_or found (latest others)
latest-cons None others = refl
latest-cons (Some negotiated) others = refl

pub negotiated_in-cons : (b : Behavior) (e : Exchange) (before : List Exchange)
    → negotiated_in b (e ∷ before) ≡ option_or (negotiated_by b e.command) (negotiated_in b before)
negotiated_in-cons b e before = latest-cons (negotiated_by b e.command) (filter_map (negotiated_by b) (commands_of before))

-- ---- what is shown

pub connection-cons : (e : Exchange) (before : List Exchange)
    → of_connection (e ∷ before)
    ≡ (if begins_anew e then [] else if is_of_connection e.command then e.command ∷ of_connection before else of_connection before)
connection-cons e before = by_anew (begins_anew e)
  where
    by_anew : (anew : Bool) → filter is_of_connection (commands_of (if anew then [] else e ∷ since begins_anew before))
        ≡ (if anew then [] else if is_of_connection e.command then e.command ∷ of_connection before else of_connection before)
    by_anew true = refl
    by_anew false = refl

if-append : {A : Type 0} (test : Bool) (x : A) (xs ys : List A) → cond test (x ∷ xs) xs ++ ys ≡ (if test then x ∷ (xs ++ ys) else xs ++ ys)
if-append true x xs ys = refl
if-append false x xs ys = refl

pub shown-cons : (e : Exchange) (before : List Exchange)
    → shown (e ∷ before)
    ≡ (if ends_message e then of_connection (e ∷ before) else if is_shown e.command then e.command ∷ shown before else shown before)
shown-cons e before = by_end (ends_message e)
  where
    by_end : (ends : Bool)
        → filter is_shown (commands_of (if ends then [] else e ∷ since ends_message before))
        ++ of_connection (if ends then e ∷ before else up_to ends_message before)
        ≡ (if ends then of_connection (e ∷ before) else if is_shown e.command then e.command ∷ shown before else shown before)
    by_end true = refl
    by_end false =
        if-append (is_shown e.command) e.command (filter is_shown (commands_of (since ends_message before)))
        (of_connection (up_to ends_message before))

-- ---- the order of stages

rank_from-twice : (ended : Bool) (rank : ℕ) → min 2 rank ≡ min 2 (rank_from ended rank)
rank_from-twice true rank = omega arith
rank_from-twice false rank = refl

rank_after-or : (ends has_ended : Bool) (rest : List Exchange) → rank_after (ends || has_ended) rest ≡ rank_from ends (rank_after has_ended rest)
rank_after-or true has_ended [] = refl
rank_after-or false has_ended [] = refl
rank_after-or true has_ended (last ∷ before) = rank_from-twice (has_ended || ends_message last) _
rank_after-or false has_ended (last ∷ before) = refl

rank_in-cons : (e : Exchange) (before : List Exchange) → rank_in (e ∷ before) ≡ rank_from (ends_message e) (rank_by (rank_in before) (stage_of e.command))
rank_in-cons e before = by_stage (stage_of e.command) refl
  where
    by_stage : (stage : Option Stage) → stage_of e.command ≡ stage
        → rank_after (list_any ends_message (if is_some stage then [] else e ∷ since has_stage before)) (if is_some stage then e ∷ before else up_to has_stage before)
        ≡ rank_from (ends_message e) (rank_by (rank_in before) stage)
    by_stage None is = rank_after-or (ends_message e) (list_any ends_message (since has_stage before)) (up_to has_stage before)
    by_stage (Some stage) is = ap (λ s. rank_from (ends_message e) (rank_at s)) is

pub last_rank-cons : (e : Exchange) (before : List Exchange)
    → last_rank (e ∷ before) ≡ (if begins_anew e then 0 else rank_from (ends_message e) (rank_by (last_rank before) (stage_of e.command)))
last_rank-cons e before = by_anew (begins_anew e)
  where
    by_anew : (anew : Bool) → rank_in (if anew then [] else e ∷ since begins_anew before)
        ≡ (if anew then 0 else rank_from (ends_message e) (rank_by (last_rank before) (stage_of e.command)))
    by_anew true = refl
    by_anew false = rank_in-cons e (since begins_anew before)
